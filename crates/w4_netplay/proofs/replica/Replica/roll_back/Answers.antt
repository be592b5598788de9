use Rattle.std.proofs.Common.{subst}
use Rattle.std.specs.Prelude.{OnOk, OnErr}
use Rattle.std.proofs.lemmas.Result.{on_ok_weaker, on_err_weaker}
use Rattle.w4_netplay.specs.Pads.{known_in}
use Rattle.w4_netplay.specs.Replica.{Netplay, KeepsNetplay, IsRolled}
use Rattle.w4_netplay.proofs.ReplicaLaws.{netplay_view, is_rolled, partly_keeps, either_limits}
use Rattle.w4_netplay.proofs.replica.Replica.roll_back.Goals as goal

pub invariant_of-self : goal.invariant_of-self
invariant_of-self c =
    either_limits c.roll_back.result (known_in c.self.inside.pads) c.self.inside.frames c.self.inside.editor
    c.roll_back.new.editor c.self.invariant c.roll_back.ensures.ok c.roll_back.ensures.err

pub returns-clause-ok : goal.returns-clause-ok
returns-clause-ok c =
    let new = netplay_view c.self.inside.pads c.self.inside.frames c.roll_back.new.editor in
    subst (λ (old : Netplay). OnOk c.roll_back.result (IsRolled old new)) c.self.view_is
    (on_ok_weaker c.roll_back.result
    (is_rolled c.self.inside.pads c.self.inside.frames c.self.inside.editor c.roll_back.new.editor
    c.self.invariant) c.roll_back.ensures.ok)

pub returns-clause-err : goal.returns-clause-err
returns-clause-err c =
    let new = netplay_view c.self.inside.pads c.self.inside.frames c.roll_back.new.editor in
    subst (λ (old : Netplay). OnErr c.roll_back.result (KeepsNetplay old new)) c.self.view_is
    (on_err_weaker c.roll_back.result
    (partly_keeps c.self.inside.pads c.self.inside.frames (known_in c.self.inside.pads) c.self.inside.editor
    c.roll_back.new.editor) c.roll_back.ensures.err)
