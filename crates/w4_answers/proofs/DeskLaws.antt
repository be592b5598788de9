-- How many frames answers run: from one place of a range to the next.
use Rattle.std.proofs.Common.{◌≡◌, ◌≢◌, ◌⊎◌, ℕ, ◌+◌, ◌-◌, ◌<◌, ◌≤◌, inl, inr, Some, List, refl, sym, ◌∙◌}
use Rattle.std.proofs.Common.{arith, subst}
use Rattle.std.specs.Prelude.{Result, Ok, Err, OnOk}
use Rattle.w4_defs.specs.declared.editing.EditRefusal.{EditRefusal}
use Rattle.w4_defs.specs.declared.editing.EditRefusal.TheVariants.{OutOfMemory}
use Rattle.w4_defs.specs.declared.order.Order.{Order}
use Rattle.w4_defs.specs.declared.order.Order.TheVariants as order
use Rattle.w4_defs.specs.declared.status.Refusal.{Refusal}
use Rattle.w4_defs.specs.FramesRun.{RunsAtMost}
use Rattle.w4_defs.specs.KeptList.{Entry, show_frames}
use Rattle.w4_editor.specs.Editor.{Editing}
use Rattle.w4_editor.specs.Playing.{IsShown}
use Rattle.w4_defs.specs.World.{World}
use Rattle.w4_answers.specs.Writing.{WritesNothing}
use Rattle.w4_answers.specs.Desk.{RunsOn, IsMade, StepsOn}
use Rattle.w4_answers.specs.ChangeAnswer.{ChangesWithin}
use Rattle.w4_answers.specs.ScriptAnswers.{AnswersWithin}

-- ---- one place

pub shown_runs : (place ticks_before ticks_after : ℕ) (old new : Editing)
    → IsShown place ticks_before ticks_after old new → RunsOn place 0 ticks_before ticks_after old new
shown_runs place ticks_before ticks_after old new shown =
    let few = shown.frames_run in omega (arith, few)

pub made_by_show : (place ticks_before ticks_after : ℕ) (old new : Editing)
    → IsShown place ticks_before ticks_after old new → IsMade 0 place ticks_before ticks_after old new
made_by_show place ticks_before ticks_after old new shown =
    let few = shown.frames_run in
    let here : place ≡ place - 0 = omega arith in record {
      shown = inl shown.at;
      frames_run =
          subst (λ p. RunsOn p 1 ticks_before ticks_after old new) here (omega (arith, few));
    }

pub made_by_step : (lead place ticks_before ticks_after : ℕ) (old new : Editing)
    → ticks_after ≡ ticks_before + 1 → new.at ≡ Some place → IsMade lead place ticks_before ticks_after old
    new
made_by_step lead place ticks_before ticks_after old new one at =
    record { shown = inl at; frames_run = omega (arith, one) }

-- the place before is shown, and then one frame leads to this one
pub made_from_before : (place ticks_before ticks_mid ticks_after : ℕ) (old mid new : Editing)
    → RunsOn (place - 1) 0 ticks_before ticks_mid old mid → ticks_after ≡ ticks_mid + 1
    → new.session.current.kept ≡ mid.session.current.kept → new.at ≡ Some place
    → IsMade 1 place ticks_before ticks_after old new
made_from_before place ticks_before ticks_mid ticks_after old mid new few one same at = record {
  shown = inl at;
  frames_run = subst (λ (kept : List Entry). RunsAtMost ticks_before ticks_after
      (show_frames (place - 1) old.session.current.kept kept + 1)) (sym same) (omega (arith, few, one));
}

pub made_of_reset : (place ticks : ℕ) (e : Editing) → place ≡ 0 → IsMade 1 place ticks ticks e e
made_of_reset place ticks e zero =
    record { shown = inr (zero, refl, refl, refl); frames_run = omega arith }

-- ---- the places of a range

-- up to this place: no frame was run, or the place before it is shown
abbrev pub HasRun : (lead begin last place ticks_first ticks_now : ℕ) → (first now : Editing) → Type 0
HasRun lead begin last place ticks_first ticks_now first now =
    ((place - lead ≡ begin - lead) × (now ≡ first) × (ticks_now ≡ ticks_first))
    ⊎ ((begin < place) × (place ≤ last) × (now.at ≡ Some (place - 1))
    × RunsOn (begin - lead) (place - begin) ticks_first ticks_now first now)

pub run_begins : (lead begin last ticks : ℕ) (e : Editing) → HasRun lead begin last begin ticks ticks e e
run_begins lead begin last ticks e = inl (refl, refl, refl)

first_made : (lead begin place ticks_first ticks_after : ℕ) (first new : Editing)
    → begin ≤ place → place - lead ≡ begin - lead
    → RunsOn (place - lead) 1 ticks_first ticks_after first new
    → RunsOn (begin - lead) (place + 1 - begin) ticks_first ticks_after first new
first_made lead begin place ticks_first ticks_after first new from same few =
    let few_here = subst (λ p. RunsOn p 1 ticks_first ticks_after first new) same few in
    omega (arith, few_here, from)

pub run_on : (lead begin last place ticks_first ticks_now ticks_after : ℕ) (first now new : Editing)
    → begin ≤ place → place < last → HasRun lead begin last place ticks_first ticks_now first now
    → IsMade lead place ticks_now ticks_after now new
    → StepsOn place ticks_now ticks_after now new
    → HasRun lead begin last (place + 1) ticks_first ticks_after first new
run_on lead begin last place ticks_first ticks_now ticks_after first now new from below (inl none) made steps
    =
    elim made.shown [
      | inl at ↦
          let here : place ≡ place + 1 - 1 = omega arith in
          let few = subst (λ (e : Editing). RunsOn (place - lead) 1 ticks_now ticks_after e new) none.1
          made.frames_run in
          let few_first = subst (λ n. RunsOn (place - lead) 1 n ticks_after first new) none.2 few in
          inr (
            omega (arith, from),
            omega (arith, below),
            subst (λ n. new.at ≡ Some n) here at,
            first_made lead begin place ticks_first ticks_after first new from none.0 few_first,
          )
      | inr reset ↦
          let zero = reset.0 in
          let one = reset.1 in
          let same = none.0 in
          inl (omega (arith, zero, one, same, from), reset.2 ∙ none.1, reset.3 ∙ none.2)
    ]
run_on lead begin last place ticks_first ticks_now ticks_after first now new from below (inr some) made steps
    =
    elim made.shown [
      | inl at ↦
          let here : place ≡ place + 1 - 1 = omega arith in
          let past = some.0 in
          let few = some.3 in
          let step = steps (omega (arith, past)) some.2 in
          let one = step.0 in
          inr (
            omega (arith, past),
            omega (arith, below),
            subst (λ n. new.at ≡ Some n) here at,
            subst (λ (kept : List Entry). RunsAtMost ticks_first ticks_after
                (show_frames (begin - lead) first.session.current.kept kept + (place + 1 - begin)))
                (sym step.1)
                (omega (arith, few, one, past)),
          )
      | inr reset ↦
          let zero = reset.0 in
          let past = some.0 in
          absurd (omega (arith, zero, past))
    ]

pub run_all : (lead begin last place ticks_first ticks_now : ℕ) (first now : Editing)
    → HasRun lead begin last place ticks_first ticks_now first now
    → RunsOn (begin - lead) (last - begin) ticks_first ticks_now first now
run_all lead begin last place ticks_first ticks_now first now (inl none) =
    let same = none.2 in omega (arith, same)
run_all lead begin last place ticks_first ticks_now first now (inr some) =
    let within = some.1 in
    let few = some.3 in
    omega (arith, within, few)

pub runs_one : (place ticks_before ticks_after : ℕ) (old new : Editing)
    → RunsOn (place - 0) (place + 1 - place) ticks_before ticks_after old new
    → RunsOn place 1 ticks_before ticks_after old new
runs_one place ticks_before ticks_after old new few =
    let here : place - 0 ≡ place = omega arith in
    let one : place + 1 - place ≡ 1 = omega arith in
    subst (λ p. RunsOn p 1 ticks_before ticks_after old new) here
    (subst (λ n. RunsOn (place - 0) n ticks_before ticks_after old new) one few)

-- ---- orders that change the session

pub idle_within : (o : Order) (ticks_before ticks_after : ℕ) (old new : Editing)
    → ticks_after ≡ ticks_before → ChangesWithin o ticks_before ticks_after old new
idle_within (order.Set k input) ticks_before ticks_after old new same = same
idle_within (order.Insert k input) ticks_before ticks_after old new same = same
idle_within (order.Delete k) ticks_before ticks_after old new same = same
idle_within order.Undo ticks_before ticks_after old new same = same
idle_within order.Redo ticks_before ticks_after old new same = same
idle_within (order.Keep p) ticks_before ticks_after old new same = inl same
idle_within (order.KeepEvery every) ticks_before ticks_after old new same = inl same
idle_within (order.DropKept p) ticks_before ticks_after old new same = same
idle_within (order.Settle workers) ticks_before ticks_after old new same = same
idle_within (order.Show p) ticks_before ticks_after old new same = same
idle_within (order.Film a b workers) ticks_before ticks_after old new same = same
idle_within (order.Tones a b) ticks_before ticks_after old new same = same
idle_within (order.Traces a b) ticks_before ticks_after old new same = same
idle_within (order.DiskAt p) ticks_before ticks_after old new same = same
idle_within (order.StateAt p) ticks_before ticks_after old new same = same

pub change_answers_within : (o : Order) (ticks_before ticks_after : ℕ) (old new : Editing)
    → ((p : ℕ) → o ≢ order.Show p) → ((a b workers : ℕ) → o ≢ order.Film a b workers)
    → ((workers : ℕ) → o ≢ order.Settle workers)
    → ((a b : ℕ) → o ≢ order.Tones a b) → ((a b : ℕ) → o ≢ order.Traces a b)
    → ((p : ℕ) → o ≢ order.DiskAt p) → ((p : ℕ) → o ≢ order.StateAt p)
    → ChangesWithin o ticks_before ticks_after old new → AnswersWithin o ticks_before ticks_after old new
change_answers_within (order.Set k input) _ _ _ _ show film settle tones traces at state within = within
change_answers_within (order.Insert k input) _ _ _ _ show film settle tones traces at state within = within
change_answers_within (order.Delete k) _ _ _ _ show film settle tones traces at state within = within
change_answers_within order.Undo _ _ _ _ show film settle tones traces at state within = within
change_answers_within order.Redo _ _ _ _ show film settle tones traces at state within = within
change_answers_within (order.Keep p) _ _ _ _ show film settle tones traces at state within = within
change_answers_within (order.KeepEvery every) _ _ _ _ show film settle tones traces at state within = within
change_answers_within (order.DropKept p) _ _ _ _ show film settle tones traces at state within = within
change_answers_within (order.Settle workers) _ _ _ _ show film settle tones traces at state within =
    absurd (settle workers refl)
change_answers_within (order.Show p) _ _ _ _ show film settle tones traces at state within = absurd
    (show p refl)
change_answers_within (order.Film a b workers) _ _ _ _ show film settle tones traces at state within =
    absurd (film a b workers refl)
change_answers_within (order.Tones a b) _ _ _ _ show film settle tones traces at state within =
    absurd (tones a b refl)
change_answers_within (order.Traces a b) _ _ _ _ show film settle tones traces at state within =
    absurd (traces a b refl)
change_answers_within (order.DiskAt p) _ _ _ _ show film settle tones traces at state within = absurd
    (at p refl)
change_answers_within (order.StateAt p) _ _ _ _ show film settle tones traces at state within =
    absurd (state p refl)

-- an order that is refused runs none
pub refused_within : {X : Type 0} (result : Result X Refusal) (before after : World) (refusal : EditRefusal)
    (o : Order) (ticks_before ticks_after : ℕ) (old new : Editing)
    → (refusal ≢ OutOfMemory) ⊎ WritesNothing before after result
    → (refusal ≢ OutOfMemory → ticks_after ≡ ticks_before)
    → OnOk result (ChangesWithin o ticks_before ticks_after old new)
refused_within (Ok x) before after refusal o ticks_before ticks_after old new (inl other) idle =
    idle_within o ticks_before ticks_after old new (idle other)
refused_within (Ok x) before after refusal o ticks_before ticks_after old new (inr none) idle =
    let e = none.0 in absurd cc
refused_within (Err why) before after refusal o ticks_before ticks_after old new cause idle = tt
