use Rattle.std.proofs.Common.{ap, sym, subst, ◌∙◌, ◌∷◌, List, Option, Some, ℕ}
use Rattle.std.specs.Prelude.{codes}
use Rattle.w4_defs.specs.FrameTexts.{numbered}
use Rattle.w4_defs.specs.PlaceTexts.{as_it_stands}
use Rattle.w4_defs.specs.QueryAnswers.{outside, watch_text}
use Rattle.w4_inspect.specs.Refusal.{IsRefusal}
use Rattle.w4_inspect.specs.declared.refusal.RamRefusal.{RamRefusal}
use Rattle.w4_answers.specs.Writing.{Written}
use Rattle.w4_answers.specs.RamAnswers.{editor_pages}
use Rattle.w4_answers.proofs.WritingLaws.{there_is}
use Rattle.w4_answers.proofs.RamAnswerLaws.{held_refusal, place_not_refused, watch_answered, watch_outside}
use Rattle.w4_answers.proofs.held_pages.answer_from_pages.Goals as goal

pub returns-in_ok-line-in-Ok-clause-out : goal.returns-in_ok-line-in-Ok-clause-out
returns-in_ok-line-in-Ok-clause-out g c = λ e of.
    let read = c.args.pages.now in
    there_is (λ text. Written (g.H.House.world c.args.house.now) (g.H.House.world c.write.new.house)
    c.write.result text)
    (watch_text as_it_stands (editor_pages e) c.args.address c.args.width read.first read.last)
    c.as_slice-in-Ok.result.now
    (watch_answered as_it_stands e c.args.address c.args.width read.first read.last c.in-Ok.values.items
    (held_refusal e read c.args.address c.args.width of ∙ c.in-Ok.ensures.accepted)
    (c.in-Ok.ensures.values e of)
    ∙ ap (λ (line : List ℕ). Some line)
    (ap (λ (values : List ℕ). numbered (codes "watch") (c.args.address ∷ values))
    (sym c.as_slice.ensures.value)
    ∙ sym c.in_ok-line-in-Ok.ensures ∙ sym c.as_slice-in-Ok.ensures.value))
    c.write.ensures.out

pub returns-in-Err-Outside-clause-out : goal.returns-in-Err-Outside-clause-out
returns-in-Err-Outside-clause-out g c = λ e of.
    let read = c.args.pages.now in
    let refusal = c.in-Err-Outside.field-0 in
    there_is (λ text. Written (g.H.House.world c.args.house.now)
    (g.H.House.world c.write-in-Err-Outside.new.house) c.write-in-Err-Outside.result text)
    (watch_text as_it_stands (editor_pages e) c.args.address c.args.width read.first read.last) outside
    (watch_outside as_it_stands e c.args.address c.args.width read.first read.last refusal
    c.in-Err-Outside.field-0-is
    (subst (λ (wanted : Option RamRefusal). IsRefusal wanted refusal)
    (sym (held_refusal e read c.args.address c.args.width of)) c.in-Err-Outside.ensures.refused))
    c.write-in-Err-Outside.ensures.out

pub unreachable-requires : goal.unreachable-requires
unreachable-requires g c =
    place_not_refused c.args.address c.args.width c.in-Err-NoFrame.field-0 c.in-Err-NoFrame.field-0-is
    c.in-Err-NoFrame.ensures.refused
