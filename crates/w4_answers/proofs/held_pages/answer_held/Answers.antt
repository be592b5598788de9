use Rattle.std.proofs.Common.{ℕ, List, Option, ap, subst, sym}
use Rattle.w4_defs.specs.PlaceTexts.{as_it_stands}
use Rattle.w4_defs.specs.QueryAnswers.{Pages, watch_text}
use Rattle.w4_inspect.specs.PlacePages.{ReadPages}
use Rattle.w4_answers.specs.Writing.{Written}
use Rattle.w4_answers.specs.HeldPages.{AreHeld}
use Rattle.w4_answers.specs.RamAnswers.{editor_pages}
use Rattle.w4_answers.proofs.WritingLaws.{there_as}
use Rattle.w4_answers.proofs.RamAnswerLaws.{held_on, same_editor_pages}
use Rattle.w4_answers.proofs.ScriptAnswerLaws.{on_ok_map}
use Rattle.w4_answers.proofs.held_pages.answer_held.Goals as goal
use Rattle.w4_answers.proofs.held_pages.answer_held.Goals.{in_default-via-in-Some+else-are_at}
use Rattle.w4_answers.proofs.held_pages.answer_held.Goals.{in_default-via-in_default}

pub returns-in_default-clause-out : goal.returns-in_default-clause-out
returns-in_default-clause-out g c =
    let old = c.args.counted.now.editor in
    let now = c.hold_pages.new.counted.editor in
    let asked = c.args.watched in
    let text : Pages → Option (List ℕ) =
    λ pages. watch_text as_it_stands pages asked.address asked.width asked.a asked.b in
    there_as (λ text. Written (g.H.House.world c.args.house.now) (g.H.House.world c.answer_watch.new.house)
    c.answer_watch.result text)
    (text (editor_pages now)) (text (editor_pages old))
    (ap text (sym (same_editor_pages old now c.in_ok-hold_pages.ensures.shows))) c.answer_watch.ensures.out

pub returns-in_default-clause-held : goal.returns-in_default-clause-held
returns-in_default-clause-held g c =
    let now = c.hold_pages.new.counted.editor in
    let are : AreHeld now c.in_default.held =
    elim c.in_default.branch [
      | in_default-via-in-Some+else-are_at w ↦ rw w.held-is
          (subst (λ (held : Option ReadPages). AreHeld now held) w.in-Some.is
          c.in_ok-hold_pages.ensures.held)
      | in_default-via-in_default w ↦ rw w.held-is c.in_ok-hold_pages.ensures.held
    ] in
    on_ok_map c.answer_watch.result
    (λ shows. held_on now c.answer_watch.new.counted.editor c.in_default.held shows are)
    c.answer_watch.ensures.shows
