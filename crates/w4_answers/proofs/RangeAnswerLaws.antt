-- What is told of places: by the state or the record of a run, and by the number of the last place.
use Rattle.std.proofs.Common.{◌≡◌, ℕ, ◌+◌, ◌<◌, ◌≤◌, List, ◌++◌, map, length, drop, Option, Some, None}
use Rattle.std.proofs.Common.{option_map, option_and_then, refl, sym, ap, ◌∙◌, subst, append_assoc}
use Rattle.std.proofs.Common.{append-nil}
use Rattle.std.specs.Prelude.{Result, flat_map}
use Rattle.std.proofs.Math.ListN.{drop_of_length-le}
use Rattle.std.proofs.lemmas.List.{length-map}
use Rattle.std.proofs.lemmas.Bool.{lt-leb, le-leb}
use Rattle.w4_defs.specs.declared.console.Input.{Input}
use Rattle.w4_defs.specs.FrameTexts.{schedule_text, spaced, trace_text}
use Rattle.w4_defs.specs.KeptList.{Entry, kept_entries, place_at}
use Rattle.w4_defs.specs.Reset.{Setup, reset}
use Rattle.w4_defs.specs.Run.{run}
use Rattle.w4_defs.specs.Session.{Session}
use Rattle.w4_defs.specs.State.{State, Moment, FrameRecord}
use Rattle.w4_editor.specs.Editor.{Editing, editing_setup, place_session}
use Rattle.w4_defs.specs.World.{World}
use Rattle.w4_defs.specs.declared.place_text.PlaceText.{PlaceText}
use Rattle.w4_defs.specs.PlaceTexts.{PieceForm, as_it_stands, moment_text, place_text}
use Rattle.w4_defs.specs.declared.place_text.PlaceText.TheVariants.{DiskBytes}
use Rattle.w4_defs.proofs.OptionLaws.{some_same}
use Rattle.w4_defs.proofs.TextsOfStates.{state_of}
use Rattle.w4_defs.specs.ScriptAnswers.{if_place, range_text, no_frame}
use Rattle.w4_defs.specs.Answers.{answer_text}
use Rattle.w4_answers.specs.ScriptAnswers.{GivesAnswer}
use Rattle.w4_answers.specs.Desk.{text_by}
use Rattle.w4_answers.specs.RecordText.{record_text, text_of_place}
use Rattle.w4_answers.specs.declared.record_text.RecordText.{RecordText}
use Rattle.w4_answers.specs.declared.record_text.RecordText.TheVariants as wanted
use Rattle.w4_defs.specs.declared.status.Refusal.{Refusal}
use Rattle.w4_editor.proofs.KeepEveryLaws.{places_from}
use Rattle.w4_answers.proofs.PlaceTextLaws.{text-alone}

-- ---- one place

pub disk_of_state : (form : PieceForm) (p : ℕ) (m : Option Moment) (s : State) → state_of m ≡ Some s
    → place_text form DiskBytes p m ≡ Some (form s.disk)
disk_of_state form p (Some moment) s e = ap (λ (x : State). Some (form x.disk)) (some_same moment.state s e)
disk_of_state form p None s e = absurd cc

abbrev pub record_in : Option Moment → Option FrameRecord
record_in m = option_map (λ (moment : Moment). moment.frame_record) m

pub text_of_record : (text : RecordText) (p : ℕ) (m : Option Moment) (r : FrameRecord)
    → record_in m ≡ Some r
    → place_text as_it_stands (text_of_place text) p m ≡ Some (record_text text p r)
text_of_record wanted.Schedule p (Some moment) r e =
    ap (λ (x : FrameRecord). Some (schedule_text p x)) (some_same moment.frame_record r e)
text_of_record wanted.Traces p (Some moment) r e =
    ap (λ (x : FrameRecord). Some (trace_text p x)) (some_same moment.frame_record r e)
text_of_record text p None r e = absurd cc

same_record : (m : Option Moment) (r : FrameRecord) → record_in m ≡ Some r
    → record_in (option_and_then (λ moment. Some moment) m) ≡ Some r
same_record (Some moment) r e = e
same_record None r e = absurd cc

-- place 0 is the reset
pub reset_record : (setup : Setup) (disk : List ℕ) (inputs : List Input) (r : FrameRecord)
    → record_in (reset setup disk) ≡ Some r → record_in (run setup disk inputs 0) ≡ Some r
reset_record setup disk inputs r e = same_record (reset setup disk) r e

-- the run of an editor's recording up to a place
abbrev pub run_at : Editing → ℕ → Option Moment
run_at e p = run (editing_setup e) e.disk e.session.current.inputs p

-- a text in a form
pub text_formed : (form : PieceForm) (wanted : PlaceText) (p : ℕ) (m : Option Moment) (text : List ℕ)
    → place_text as_it_stands wanted p m ≡ Some text → place_text form wanted p m ≡ Some (form text)
text_formed form wanted p (Some moment) text e =
    ap (λ (bytes : List ℕ). Some (form bytes)) (some_same (moment_text wanted p moment) text e)
text_formed form wanted p None text e = absurd cc

-- ---- the last place

pub if_place-past : (form : PieceForm) (s : Session ℕ) (last : ℕ) (text : Option (List ℕ))
    → length s.current.inputs < last
    → if_place form s last text ≡ Some (form no_frame)
if_place-past form s last text lt = rw (lt-leb last (length s.current.inputs) lt) refl

pub if_place-within : (form : PieceForm) (s : Session ℕ) (last : ℕ) (text : Option (List ℕ))
    → last ≤ length s.current.inputs
    → if_place form s last text ≡ text
if_place-within form s last text le = rw (le-leb last (length s.current.inputs) le) refl

-- ---- numbers one after another

pub numbers-more : (text more whole : List ℕ) (entries : List Entry) (i n : ℕ) → i < length entries
    → n ≡ place_at entries i → more ≡ text ++ spaced n
    → text ++ flat_map spaced (drop i (map kept_entries.place entries)) ≡ whole
    → more ++ flat_map spaced (drop (i + 1) (map kept_entries.place entries)) ≡ whole
numbers-more text more whole entries i n lt is added so_far =
    let rest : List ℕ = drop (i + 1) (map kept_entries.place entries) in
    ap (λ (bytes : List ℕ). bytes ++ flat_map spaced rest) added
    ∙ append_assoc text (spaced n) (flat_map spaced rest)
    ∙ ap (λ (m : ℕ). text ++ (spaced m ++ flat_map spaced rest)) is
    ∙ ap (λ (xs : List ℕ). text ++ flat_map spaced xs) (sym (places_from entries i lt))
    ∙ so_far

pub numbers-all : (text whole : List ℕ) (entries : List Entry) (i : ℕ) → length entries ≤ i
    → text ++ flat_map spaced (drop i (map kept_entries.place entries)) ≡ whole → text ≡ whole
numbers-all text whole entries i le so_far =
    let past : length (map kept_entries.place entries) ≤ i =
    subst (λ n. n ≤ i) (sym (length-map entries kept_entries.place)) le in
    let none : text ++ flat_map spaced (drop i (map kept_entries.place entries)) ≡ text =
    ap (λ (xs : List ℕ). text ++ flat_map spaced xs) (drop_of_length-le (map kept_entries.place entries) past)
    ∙ append-nil text in
    sym none ∙ so_far

-- the answer for one place is that for a range
pub one_range : (form : PieceForm) {X : Type 0} (result : Result X Refusal) (before after : World)
    (old new : Editing)
    (wanted : PlaceText) (p : ℕ)
    → GivesAnswer before after result old new
    (answer_text (place_session old) (if_place form (place_session old) p
    (range_text form (editing_setup old) old.disk (place_session old) wanted p p)))
    → GivesAnswer before after result old new (answer_text (place_session old)
    (if_place form (place_session old) p (text_by form old wanted p)))
one_range form result before after old new wanted p h =
    subst (λ text. GivesAnswer before after result old new (answer_text (place_session old)
    (if_place form (place_session old) p text))) (text-alone (text_by form old wanted) p) h
