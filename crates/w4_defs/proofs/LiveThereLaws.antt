-- What a live session does is there, where the runs of its cart have a meaning.
use Rattle.std.proofs.Common.{◌≡◌, ℕ, ◌-◌, ◌≤◌, Bool, true, false, cond, List, [], ◌∷◌, ◌++◌, length, Option, Some, None, option_map, refl, sym, ◌∙◌, ⊎_elim, true≢false, arith}
use Rattle.std.specs.Prelude.{IsSome, nat_le}
use Rattle.std.proofs.lemmas.Bool.Decides.{leb_tells}
use Rattle.w4_defs.specs.declared.live.LiveOrder.{LiveOrder}
use Rattle.w4_defs.specs.declared.live.LiveOrder.TheVariants as live
use Rattle.w4_defs.specs.AllThere.{joined}
use Rattle.w4_defs.specs.Live.{Asked, AsksNothing, NoOrder, Asks, LiveSession, Opened, SaveEnd, answer_end, answer_events, asked_of, framed, globals_text, line_step, live_answer, order_step, save_step, session_events}
use Rattle.w4_defs.specs.Meaning.{RunsHaveMeaning}
use Rattle.w4_defs.specs.Output.{run_setup}
use Rattle.w4_defs.specs.PlaceTexts.{PieceForm, place_texts}
use Rattle.w4_defs.specs.QueryAnswers.{pages_of}
use Rattle.w4_defs.specs.Reset.{Setup}
use Rattle.w4_defs.specs.Run.{run_page, run_state}
use Rattle.w4_defs.specs.ScriptAnswers.{if_place, no_frame}
use Rattle.w4_defs.specs.Session.{Session}
use Rattle.w4_defs.specs.State.{State}
use Rattle.w4_defs.specs.Units.{units_at}
use Rattle.w4_defs.specs.World.{Event, Took, wrote}
use Rattle.w4_defs.proofs.ThereLaws.{RunsAreThere, answer_there, mapped_there, place_there, ram_answer_there, run_page_there, run_state_there, texts_within}
use Rattle.w4_defs.proofs.UnitsThereLaws.{units_at_there}

-- ---- answers

tested_there : {A : Type 0} (test : Bool) (one other : Option A) → (test ≡ true → IsSome one) → IsSome other
    → IsSome (cond test one other)
tested_there true one other one_there other_there = one_there refl
tested_there false one other one_there other_there = other_there

-- an answer that is there where the recording has the place
place_there_within : (form : PieceForm) (session : Session ℕ) (last : ℕ) (out : Option (List ℕ))
    → (last ≤ length session.current.inputs → IsSome out) → IsSome (if_place form session last out)
place_there_within form session last out there =
    let n = length session.current.inputs in
    ⊎_elim (λ within. tested_there (nat_le last n) out (Some (form no_frame)) (λ _. there within.1) refl)
    (λ past. tested_there (nat_le last n) out (Some (form no_frame))
    (λ yes. absurd (true≢false (sym yes ∙ past.0))) refl)
    (leb_tells last n)

module _ (form : PieceForm) (setup : Setup) (disk : List ℕ) (there : RunsAreThere setup disk) where
  -- the units of inputs A up to B, of which none is past the recording's end
  units_between_there : (s : LiveSession) (a b : ℕ) → b ≤ length s.session.current.inputs
      → IsSome (place_texts (units_at form setup disk s.session.current.inputs) a (b - a))
  units_between_there s a b within =
      let inputs = s.session.current.inputs in
      texts_within (units_at form setup disk inputs) a (b - a)
      (λ k low high. units_at_there setup disk there form inputs k (omega (arith, low, high, within)))

  pub live_answer_there : (s : LiveSession) (order : LiveOrder)
      → IsSome (live_answer form setup disk s order).out
  live_answer_there s (live.Script order) = answer_there form setup disk there s.session order
  live_answer_there s (live.Query ask) =
      let inputs = s.session.current.inputs in
      ram_answer_there form (pages_of setup disk inputs) (run_page_there setup disk there inputs) s.search ask
  live_answer_there s (live.PageAt p) =
      let page = run_page setup disk s.session.current.inputs p in
      place_there form s.session p (option_map form page)
      (mapped_there form page (run_page_there setup disk there s.session.current.inputs p))
  live_answer_there s (live.GlobalsAt p) =
      let state = run_state setup disk s.session.current.inputs p in
      let told : State → List ℕ = λ state. form (globals_text state.globals) in
      place_there form s.session p (option_map told state)
      (mapped_there told state (run_state_there setup disk there s.session.current.inputs p))
  live_answer_there s (live.Inputs a b) = place_there form s.session b _ refl
  live_answer_there s (live.Units a b) =
      place_there_within form s.session b
      (place_texts (units_at form setup disk s.session.current.inputs) a (b - a))
      (units_between_there s a b)
  live_answer_there s live.Save = refl

-- ---- steps

events_there : (pieces : Option (List ℕ)) → IsSome pieces → IsSome (answer_events pieces)
events_there pieces there = mapped_there (λ bytes. wrote (bytes ++ answer_end)) pieces there

save_there : (o : Opened) (s : LiveSession) (saves : List SaveEnd) → IsSome (save_step o s saves).events
save_there o s [] = refl
save_there o s (end ∷ saves) = refl

module _ (o : Opened) (meant : RunsHaveMeaning o.cart) where
  answered_there : (s : LiveSession) (order : LiveOrder) → IsSome
      (answer_events (live_answer framed (run_setup o.cart o.run) o.run.recording.disk s order).out)
  answered_there s order =
      let setup = run_setup o.cart o.run in
      let disk = o.run.recording.disk in
      events_there (live_answer framed setup disk s order).out
      (live_answer_there framed setup disk (meant o.run.font o.run.recording.budget disk) s order)

  order_there : (s : LiveSession) (saves : List SaveEnd) (order : LiveOrder)
      → IsSome (order_step o s saves order).events
  order_there s saves (live.Script order) = answered_there s (live.Script order)
  order_there s saves (live.Query ask) = answered_there s (live.Query ask)
  order_there s saves (live.PageAt p) = answered_there s (live.PageAt p)
  order_there s saves (live.GlobalsAt p) = answered_there s (live.GlobalsAt p)
  order_there s saves (live.Inputs a b) = answered_there s (live.Inputs a b)
  order_there s saves (live.Units a b) = answered_there s (live.Units a b)
  order_there s saves live.Save = save_there o s saves

  line_there : (s : LiveSession) (saves : List SaveEnd) (asked : Asked)
      → IsSome (line_step o s saves asked).events
  line_there s saves AsksNothing = refl
  line_there s saves NoOrder = refl
  line_there s saves (Asks order) = order_there s saves order

events_joined_there : (first rest : Option (List Event)) → IsSome first → IsSome rest
    → IsSome (joined first rest)
events_joined_there (Some events) rest first_there rest_there =
    mapped_there (λ more. events ++ more) rest rest_there
events_joined_there None rest first_there rest_there = first_there

-- what a session does over lines is there, however its saves end
pub session_events_there : (o : Opened) → RunsHaveMeaning o.cart → (s : LiveSession) (saves : List SaveEnd)
    (lines : List (List ℕ)) → IsSome (session_events o s saves lines)
unfolding session_events
session_events_there o meant s saves [] = refl
session_events_there o meant s saves (line ∷ lines) =
    let step = line_step o s saves (asked_of line) in
    let rest = session_events o step.session step.saves lines in
    mapped_there (λ more. Took line ∷ more) (joined step.events rest)
    (events_joined_there step.events rest (line_there o meant s saves (asked_of line))
    (session_events_there o meant step.session step.saves lines))
