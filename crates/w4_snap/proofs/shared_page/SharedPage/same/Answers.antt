use Rattle.std.proofs.Common.{◌≡◌, ◌∙◌, ap, sym, length, refl, arith}
use Rattle.std.specs.Rc.{rc_slice_items}
use Rattle.w4_snap.specs.Chunks.{chunk_of}
use Rattle.w4_snap.proofs.ChunkLaws.{equal_more, first_all, pieces_are_page, same_bytes}
use Rattle.w4_snap.proofs.shared_page.SharedPage.same.Goals as goal

pub loop-k-preserved : goal.loop-k-preserved
loop-k-preserved c =
    let same : c.as_slice.result.now ≡ c.chunk_bytes.result.now =
    same_bytes _ _ _ c.ne.ensures c.if-ne.false in
    let from : c.as_slice.result.now ≡ chunk_of c.loop-k.k c.args.self.now = c.as_slice.ensures.value
    ∙ c.chunk.ensures.bytes in
    equal_more c.args.self.now c.args.page.now c.loop-k.k (sym from ∙ (same ∙ c.chunk_bytes.ensures.bytes))
    c.loop-k.invariant

pub returns : goal.returns
returns c =
    let long : length c.args.self.now ≡ 65536 = ap length (sym c.self.view_is)
    ∙ pieces_are_page rc_slice_items c.self.inside.chunks.items c.self.invariant in
    let same : c.args.self.now ≡ c.args.page.now =
    first_all c.args.self.now c.args.page.now c.loop-k.k long c.told-page (omega arith)
    c.loop-k.invariant in
    ((λ _. same), (λ _. refl))
