-- The orders of a recording's text, carried out over a recording without frames, make its inputs again.
use Rattle.std.proofs.Common.{◌≡◌, ℕ, suc, ◌+◌, ◌<◌, ◌≤◌, Bool, true, false, cond, nat_lt, List, [], ◌∷◌}
use Rattle.std.proofs.Common.{◌++◌, length, Option, Some, None, option_map, Ok, refl, sym, subst, ap, ◌∙◌}
use Rattle.std.proofs.Common.{arith, append_assoc, append-nil, length-append}
use Rattle.std.specs.Prelude.{IsOkAnd}
use Rattle.std.specs.List.{flat_map, insert, AllByRecursion}
use Rattle.std.specs.Option.{option_or}
use Rattle.std.proofs.lemmas.Bool.{le-leb, lt-leb}
use Rattle.w4_defs.specs.declared.console.Input.{Input}
use Rattle.w4_defs.specs.declared.editing.EditRefusal.{EditRefusal}
use Rattle.w4_defs.specs.declared.editing.EditRefusal.TheVariants.{FullRecording, NoFrame}
use Rattle.w4_defs.specs.declared.live.LiveOrder.TheVariants as live
use Rattle.w4_defs.specs.declared.order.Order.{Order}
use Rattle.w4_defs.specs.declared.order.Order.TheVariants.{Insert}
use Rattle.w4_defs.specs.AllThere.{joined}
use Rattle.w4_defs.specs.Answers.{Answered, answers_by, carried_out}
use Rattle.w4_script.specs.InputsTextLaws.{LinesAreCarriedOut, LinesRemakeInputs, ScriptRemakesInputs}
use Rattle.w4_script.specs.InputsTextLaws.{answered_by_end, text_lines}
use Rattle.w4_defs.specs.Lines.{is_skipped, words_of}
use Rattle.w4_defs.specs.Live.{Asked, AsksNothing, NoOrder, Asks, LiveSession, LiveStep, Opened, SaveEnd}
use Rattle.w4_defs.specs.Live.{answer_end, answer_step, asked_by, asked_of, first_live_session, framed}
use Rattle.w4_defs.specs.Live.{line_step, live_order_of, over_session, own_rows, session_after}
use Rattle.w4_defs.specs.Live.{session_events}
use Rattle.w4_defs.specs.OrderFile.{order_by}
use Rattle.w4_defs.specs.PlaceTexts.{as_it_stands}
use Rattle.w4_defs.specs.RamQuery.{ask_of}
use Rattle.w4_defs.specs.Recording.{IsInput, IsRecording, Recording}
use Rattle.w4_defs.specs.Reset.{Setup}
use Rattle.w4_defs.specs.ScriptAnswers.{answer, answer_change, script_answers}
use Rattle.w4_defs.specs.Session.{Session, edited, insert_draft, insert_input, new_session, places_alone}
use Rattle.w4_defs.specs.Session.{unless}
use Rattle.w4_defs.specs.World.{Event, Took, wrote}
use Rattle.w4_defs.proofs.AllThereLaws.{nothing_joined}
use Rattle.w4_script.proofs.InputsTextLaws.{insert_is_not_skipped, insert_is_read, insert_is_short}
use Rattle.w4_script.proofs.InputsTextLaws.{insert_line}
use Rattle.w4_script.proofs.InputsTextOrderLaws.{budget_is_short, budget_is_visible, budget_remark}
use Rattle.w4_script.proofs.InputsTextOrderLaws.{disk_is_short, disk_is_visible, disk_words, insert_lines}
use Rattle.w4_script.proofs.InputsTextOrderLaws.{insertions, text_in_lines, text_is_read}
use Rattle.w4_script.proofs.InputsTextWordLaws.{IsVisible, remark_is_skipped}

-- ---- an insert at the end of a recording

insert_at_end : (inputs : List Input) (input : Input) → insert inputs (length inputs) input
    ≡ inputs ++ input ∷ []
insert_at_end [] input = refl
insert_at_end (first ∷ inputs) input = ap (λ rest. first ∷ rest) (insert_at_end inputs input)

-- the session after it
abbrev after_insert : Session ℕ → ℕ → Input → Session ℕ
after_insert s k input = edited s (insert_draft places_alone k input s.current)

module _ (s : Session ℕ) (k : ℕ) (input : Input) (at : length s.current.inputs ≡ k) where
  insert_is_accepted : k < 36000 → insert_input places_alone k input s ≡ Ok (after_insert s k input)
  insert_is_accepted few =
      let n = length s.current.inputs in
      let full : Bool → Option EditRefusal = λ room. cond room None (Some FullRecording) in
      ap (λ past. unless (cond past (Some NoFrame) (full (nat_lt n 36000))) (after_insert s k input))
      (lt-leb (suc n) k (omega (arith, at)))
      ∙ ap (λ room. unless (full room) (after_insert s k input))
      (le-leb (suc n) 36000 (omega (arith, at, few)))

  inputs_after_insert : (after_insert s k input).current.inputs ≡ s.current.inputs ++ input ∷ []
  inputs_after_insert =
      ap (λ place. insert s.current.inputs place input) (sym at) ∙ insert_at_end s.current.inputs input

  one_more_input : length (after_insert s k input).current.inputs ≡ k + 1
  one_more_input =
      omega (
        arith,
        at,
        ap (λ (inputs : List Input). length inputs) inputs_after_insert,
        length-append s.current.inputs (input ∷ []),
      )

  more_inputs : (inputs : List Input) → (after_insert s k input).current.inputs ++ inputs
      ≡ s.current.inputs ++ input ∷ inputs
  more_inputs inputs =
      ap (λ front. front ++ inputs) inputs_after_insert ∙ append_assoc s.current.inputs (input ∷ []) inputs

-- ---- in a script

module _ (setup : Setup) (disk : List ℕ) where
  abbrev answers_of : Session ℕ → List Order → Answered (Session ℕ)
  answers_of s orders = answers_by (answer as_it_stands setup disk) s orders

  inserts_are_answered : (s : Session ℕ) (k : ℕ) (inputs : List Input) → length s.current.inputs ≡ k
      → k + length inputs ≤ 36000 →
      let left = answers_of s (insertions k inputs) in
      (left.out ≡ Some []) × (left.session.current.inputs ≡ s.current.inputs ++ inputs)
  unfolding answers_by insertions
  inserts_are_answered s k [] at few = (refl, sym (append-nil s.current.inputs))
  inserts_are_answered s k (input ∷ inputs) at few =
      let orders = insertions (k + 1) inputs in
      let after = after_insert s k input in
      let step : answer as_it_stands setup disk s (Insert k input) ≡ carried_out after =
      ap (answer_change as_it_stands s) (insert_is_accepted s k input at (omega (arith, few))) in
      let rest = inserts_are_answered after (k + 1) inputs (one_more_input s k input at)
      (omega (arith, few)) in (
        ap (λ (first : Answered (Session ℕ)). joined first.out (answers_of first.session orders).out) step
            ∙ nothing_joined (answers_of after orders).out ∙ rest.0,
        ap (λ (first : Answered (Session ℕ)). (answers_of first.session orders).session.current.inputs) step
            ∙ rest.1 ∙ more_inputs s k input at inputs,
      )

pub script_remakes_inputs : ScriptRemakesInputs
script_remakes_inputs r is short =
    let Remade : List Order → Type 0 = λ orders. (setup : Setup) (disk : List ℕ) →
    let left = script_answers setup disk [] orders in
    (left.out ≡ Some []) × (left.session.current.inputs ≡ r.frames) in
    subst (λ orders. IsOkAnd orders Remade) (sym (text_is_read r is short))
    (λ setup disk. inserts_are_answered setup disk (new_session [] 0) 0 r.frames refl
    (omega (arith, is.few_frames)))

-- ---- in a live session

-- what a short line asks for
asked_by_short : (line : List ℕ) → length line ≤ 1024
    → asked_of line ≡ cond (is_skipped (words_of line)) AsksNothing (asked_by (live_order_of (words_of line)))
asked_by_short line short =
    ap (λ long. cond long NoOrder
    (cond (is_skipped (words_of line)) AsksNothing (asked_by (live_order_of (words_of line)))))
    (lt-leb 1025 (length line) (omega (arith, short)))

remark_asks_nothing : (rest : List ℕ) → IsVisible rest → length rest ≤ 1023
    → asked_of (35 ∷ rest) ≡ AsksNothing
remark_asks_nothing rest visible short =
    asked_by_short (35 ∷ rest) (omega (arith, short))
    ∙ ap (λ skipped. cond skipped AsksNothing (asked_by (live_order_of (words_of (35 ∷ rest)))))
    (remark_is_skipped rest visible)

insert_asks : (k : ℕ) (input : Input) → k ≤ 4294967295 → IsInput input
    → asked_of (insert_line k input) ≡ Asks (live.Script (Insert k input))
insert_asks k input few is =
    let line = insert_line k input in
    let words = words_of line in
    let others = option_or (option_map live.Query (ask_of words)) (order_by own_rows words) in
    asked_by_short line (insert_is_short k input few is)
    ∙ ap (λ skipped. cond skipped AsksNothing (asked_by (live_order_of words)))
    (insert_is_not_skipped k input few is)
    ∙ ap (λ order. asked_by (option_or (option_map live.Script order) others)) (insert_is_read k input few is)

module _ (o : Opened) where
  -- what the lines after a line leave, and what is done, by what the line asks for
  abbrev left_by : LiveSession → List (List ℕ) → Asked → LiveSession
  left_by s lines asked = session_after o (line_step o s [] asked).session lines

  abbrev done_by : LiveSession → List SaveEnd → List ℕ → List (List ℕ) → LiveStep → Option (List Event)
  done_by s saves line lines step =
      joined (Some (Took line ∷ [])) (joined step.events (session_events o step.session step.saves lines))

  long_remark_leaves : (s : LiveSession) (lines : List (List ℕ)) (long : Bool)
      → left_by s lines (cond long NoOrder AsksNothing) ≡ session_after o s lines
  long_remark_leaves s lines true = refl
  long_remark_leaves s lines false = refl

  -- a remark of any length leaves the session as it is
  remark_leaves : (s : LiveSession) (rest : List ℕ) (lines : List (List ℕ)) → IsVisible rest
      → session_after o s ((35 ∷ rest) ∷ lines) ≡ session_after o s lines
  remark_leaves s rest lines visible =
      let line = 35 ∷ rest in
      let long = nat_lt 1024 (length line) in
      ap (λ skipped. left_by s lines
      (cond long NoOrder (cond skipped AsksNothing (asked_by (live_order_of (words_of line))))))
      (remark_is_skipped rest visible)
      ∙ long_remark_leaves s lines long

  remark_is_answered : (s : LiveSession) (saves : List SaveEnd) (rest : List ℕ) (lines : List (List ℕ))
      (events : List Event) → IsVisible rest → length rest ≤ 1023
      → session_events o s saves lines ≡ Some events
      → session_events o s saves ((35 ∷ rest) ∷ lines) ≡ Some (answered_by_end (35 ∷ rest) ++ events)
  unfolding session_events
  remark_is_answered s saves rest lines events visible short more =
      let line = 35 ∷ rest in
      ap (λ asked. done_by s saves line lines (line_step o s saves asked))
      (remark_asks_nothing rest visible short)
      ∙ ap (λ events. joined (Some (Took line ∷ [])) (joined (Some (wrote answer_end)) events)) more

  -- an insert of one input
  abbrev with_insert : LiveSession → ℕ → Input → LiveSession
  with_insert s k input = record s { session = after_insert s.session k input }

  abbrev insert_step : LiveSession → List SaveEnd → ℕ → Input → LiveStep
  insert_step s saves k input = answer_step saves (carried_out (with_insert s k input))

  insert_is_step : (s : LiveSession) (saves : List SaveEnd) (k : ℕ) (input : Input)
      → length s.session.current.inputs ≡ k → k < 36000 → IsInput input
      → line_step o s saves (asked_of (insert_line k input)) ≡ insert_step s saves k input
  insert_is_step s saves k input at few is =
      ap (line_step o s saves) (insert_asks k input (omega (arith, few)) is)
      ∙ ap (λ result. answer_step saves (over_session s (answer_change framed s.session result)))
      (insert_is_accepted s.session k input at few)

  inserts_are_carried_out : (s : LiveSession) (saves : List SaveEnd) (k : ℕ) (inputs : List Input)
      → length s.session.current.inputs ≡ k → k + length inputs ≤ 36000 → AllByRecursion IsInput inputs →
      let lines = insert_lines k inputs in
      (session_events o s saves lines ≡ Some (flat_map answered_by_end lines))
      × ((session_after o s lines).session.current.inputs ≡ s.session.current.inputs ++ inputs)
  unfolding session_events insert_lines
  inserts_are_carried_out s saves k [] at few all = (refl, sym (append-nil s.session.current.inputs))
  inserts_are_carried_out s saves k (input ∷ inputs) at few all =
      let line = insert_line k input in
      let lines = insert_lines (k + 1) inputs in
      let step : (ends : List SaveEnd) → line_step o s ends (asked_of line) ≡ insert_step s ends k input =
      λ ends. insert_is_step s ends k input at (omega (arith, few)) all.0 in
      let rest = inserts_are_carried_out (with_insert s k input) saves (k + 1) inputs
      (one_more_input s.session k input at) (omega (arith, few)) all.1 in (
        ap (done_by s saves line lines) (step saves)
            ∙ ap (λ events. joined (Some (Took line ∷ [])) (joined (Some (wrote answer_end)) events)) rest.0,
        ap (λ (after : LiveStep). (session_after o after.session lines).session.current.inputs) (step [])
            ∙ rest.1 ∙ more_inputs s.session k input at inputs,
      )

module _ (r : Recording) (is : IsRecording r) (o : Opened) (none : o.run.recording.frames ≡ []) where
  inserts_of_text : (saves : List SaveEnd) →
      let s = first_live_session o in
      let lines = insert_lines 0 r.frames in
      (session_events o s saves lines ≡ Some (flat_map answered_by_end lines))
      × ((session_after o s lines).session.current.inputs ≡ o.run.recording.frames ++ r.frames)
  inserts_of_text saves =
      inserts_are_carried_out o (first_live_session o) saves 0 r.frames
      (ap (λ (inputs : List Input). length inputs) none) (omega (arith, is.few_frames)) is.frames

  lines_remake : (session_after o (first_live_session o) (text_lines r)).session.current.inputs ≡ r.frames
  lines_remake =
      let s = first_live_session o in
      let inserts = insert_lines 0 r.frames in
      let disk = (35 ∷ disk_words r.disk) ∷ inserts in
      ap (λ lines. (session_after o s lines).session.current.inputs) (text_in_lines r is)
      ∙ ap (λ (left : LiveSession). left.session.current.inputs)
      (remark_leaves o s (budget_remark r.budget) disk
      (budget_is_visible r.budget (omega (arith, is.budget)))
      ∙ remark_leaves o s (disk_words r.disk) inserts (disk_is_visible r.disk))
      ∙ (inserts_of_text []).1
      ∙ ap (λ front. front ++ r.frames) none

  lines_carried_out : (saves : List SaveEnd) → length r.disk ≤ 508
      → session_events o (first_live_session o) saves (text_lines r)
      ≡ Some (flat_map answered_by_end (text_lines r))
  lines_carried_out saves few =
      let s = first_live_session o in
      let inserts = insert_lines 0 r.frames in
      let disk = (35 ∷ disk_words r.disk) ∷ inserts in
      let small : r.budget ≤ 4294967295 = omega (arith, is.budget) in
      ap (session_events o s saves) (text_in_lines r is)
      ∙ remark_is_answered o s saves (budget_remark r.budget) disk (flat_map answered_by_end disk)
      (budget_is_visible r.budget small) (budget_is_short r.budget small)
      (remark_is_answered o s saves (disk_words r.disk) inserts (flat_map answered_by_end inserts)
      (disk_is_visible r.disk) (disk_is_short r.disk few) (inserts_of_text saves).0)
      ∙ ap (λ lines. Some (flat_map answered_by_end lines)) (sym (text_in_lines r is))

pub lines_remake_inputs : LinesRemakeInputs
lines_remake_inputs r is o none = lines_remake r is o none

pub lines_are_carried_out : LinesAreCarriedOut
lines_are_carried_out r is few o saves none = lines_carried_out r is o none saves few
