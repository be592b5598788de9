use Rattle.std.proofs.Common.{◌≡◌, ◌+◌, [], ◌∷◌, ◌++◌, length, sym, ◌∙◌, ap, ap₂, arith, if◌then◌else◌}
use Rattle.std.specs.Prelude.{option_map}
use Rattle.std.specs.List.{flat_map}
use Rattle.std.specs.Rc.{rc_slice_items}
use Rattle.std.proofs.lemmas.List.{flat_map_more, length_push}
use Rattle.std.proofs.lemmas.List.Elements.{All-nil, All-push, All-same}
use Rattle.w4_snap.specs.Chunks.{is_copied}
use Rattle.w4_snap.proofs.ChunkLaws.{first_more}
use Rattle.w4_snap.proofs.CountLaws.{bound_more, copied_more, copied_none, bool_byte_is, ticks_more}
use Rattle.w4_snap.proofs.shared_page.SharedPage.new.Goals as goal

pub loop-k-init : goal.loop-k-init
loop-k-init g c = record {
  many = ap length c.in_ok-chunks.ensures.items;
  long = All-same (λ chunk. length (rc_slice_items chunk) ≡ 1024) c.in_ok-chunks.chunks.items []
      c.in_ok-chunks.ensures.items (All-nil _);
  page = ap (flat_map rc_slice_items) c.in_ok-chunks.ensures.items;
  copied = sym (copied_none _ c.args.page.now);
  bound = omega arith;
  ticks = omega arith;
}

pub loop-k-preserved : goal.loop-k-preserved
loop-k-preserved g c =
    let chunk = c.in_ok-chunk.chunk in
    let chunks = c.loop-k.chunks.items in
    let pushed : c.push.new.self.items ≡ chunks ++ chunk ∷ [] = c.in_ok-push.ensures.items in
    let long : length (rc_slice_items chunk) ≡ 1024 = ap length c.in_ok-chunk.ensures.bytes
    ∙ c.chunk_bytes.ensures.long in
    let new : c.from-copied.result ≡ (if c.in_ok-chunk.is_new then 1 else 0) = c.from-copied.ensures
    ∙ bool_byte_is c.in_ok-chunk.is_new in
    record {
      many = ap length pushed ∙ (length_push chunks chunk ∙ ap (λ n. n + 1) c.loop-k.invariant.many);
      long = All-same (λ chunk. length (rc_slice_items chunk) ≡ 1024) c.push.new.self.items
          (chunks ++ chunk ∷ []) pushed
          (All-push (λ chunk. length (rc_slice_items chunk) ≡ 1024) chunks chunk c.loop-k.invariant.long
          long);
      page = ap (flat_map rc_slice_items) pushed ∙ (sym (flat_map_more rc_slice_items [] chunks chunk)
          ∙ (ap₂ ◌++◌ c.loop-k.invariant.page (c.in_ok-chunk.ensures.bytes ∙ c.chunk_bytes.ensures.bytes)
          ∙ sym (first_more c.args.page.now c.loop-k.k)));
      copied = ap₂ ◌+◌ c.loop-k.invariant.copied (new ∙ ap (λ b. if b then 1 else 0)
          (c.in_ok-chunk.ensures.copied
          ∙ ap (λ bytes. is_copied (option_map (λ p. p.now) c.args.before) bytes c.loop-k.k)
          c.chunk_bytes.ensures.bytes))
          ∙ sym (copied_more _ c.args.page.now c.loop-k.k);
      bound = bound_more _ _ _ c.in_ok-chunk.is_new c.loop-k.invariant.bound new;
      ticks = ticks_more _ _ _ _ _ _ c.loop-k.invariant.ticks c.in_ok-chunk.ensures.ticks new;
    }
