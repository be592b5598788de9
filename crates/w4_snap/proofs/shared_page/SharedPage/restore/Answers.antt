use Rattle.std.proofs.Common.{◌≡◌, ◌∙◌, ap, sym, length, arith}
use Rattle.std.specs.Rc.{rc_slice_items}
use Rattle.w4_snap.specs.Chunks.{chunk_of}
use Rattle.w4_snap.proofs.ChunkLaws.{first_all, pieces_are_page, put_long, put_more}
use Rattle.w4_snap.proofs.shared_page.SharedPage.restore.Goals as goal

pub loop-k-preserved : goal.loop-k-preserved
loop-k-preserved c =
    let put : c.copy_from_slice.new.self ≡ chunk_of c.loop-k.k c.args.self.now =
    c.copy_from_slice.ensures.after ∙ (c.as_slice.ensures.value ∙ c.chunk.ensures.bytes) in
    let long : length c.copy_from_slice.new.self ≡ 1024 =
    ap length (c.copy_from_slice.ensures.after ∙ c.as_slice.ensures.value) ∙ c.chunk.ensures.long in
    record {
      done = put_more c.loop-k.page c.args.self.now c.copy_from_slice.new.self c.loop-k.k _ (omega arith)
          long put c.loop-k.invariant.done;
      long = put_long c.loop-k.page c.copy_from_slice.new.self c.loop-k.k _ (omega arith) (omega arith) long
          ∙ c.loop-k.invariant.long;
    }

pub returns : goal.returns
returns c =
    let long : length c.args.self.now ≡ 65536 = ap length (sym c.self.view_is)
    ∙ pieces_are_page rc_slice_items c.self.inside.chunks.items c.self.invariant in
    first_all c.loop-k.page c.args.self.now c.loop-k.k c.loop-k.invariant.long long (omega arith)
    c.loop-k.invariant.done
