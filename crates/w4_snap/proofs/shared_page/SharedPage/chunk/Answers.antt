use Rattle.std.proofs.Common.{◌∙◌, ap, sym, length}
use Rattle.std.specs.Rc.{rc_slice_items}
use Rattle.w4_snap.specs.Chunks.{chunk_of}
use Rattle.w4_snap.proofs.ChunkLaws.{chunk_of_pieces, pieces_are_page}
use Rattle.w4_snap.proofs.shared_page.SharedPage.chunk.Goals as goal

pub returns-clause-bytes : goal.returns-clause-bytes
returns-clause-bytes c =
    ap rc_slice_items c.index.ensures
    ∙ (sym (chunk_of_pieces rc_slice_items c.self.inside.chunks.items c.args.k c.index.result.now
    c.self.invariant c.requires)
    ∙ ap (chunk_of c.args.k) c.self.view_is)

pub returns-clause-page : goal.returns-clause-page
returns-clause-page c = ap length (sym c.self.view_is)
    ∙ pieces_are_page rc_slice_items c.self.inside.chunks.items c.self.invariant
