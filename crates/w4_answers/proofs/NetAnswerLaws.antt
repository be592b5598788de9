-- Lines of a log: what a replica's calls leave of the session, and what is told.
use Rattle.std.proofs.Common.{◌≡◌, ◌≢◌, ◌⊎◌, ℕ, ◌+◌, ◌<◌, ◌≤◌, inl, inr, true, false, Bool, List, [], ◌∷◌}
use Rattle.std.proofs.Common.{length, Option, Some, None, refl, sym, ap, subst, ◌∙◌}
use Rattle.std.specs.Prelude.{Result, Ok, Err, nat_le, if◌then◌else◌}
use Rattle.std.specs.Option.{ForSome}
use Rattle.std.proofs.lemmas.Bool.{lt-ltb, le-ltb, le-leb, lt-leb, leb-true, leb-false}
use Rattle.std.proofs.lemmas.List.FromFn.{length-map-range_with_len}
use Rattle.w4_defs.specs.declared.console.Input.{Input}
use Rattle.w4_defs.specs.declared.editing.EditRefusal.{EditRefusal}
use Rattle.w4_defs.specs.declared.editing.EditRefusal.TheVariants as edit
use Rattle.w4_defs.specs.declared.netplay.NetOrder.{NetOrder}
use Rattle.w4_defs.specs.declared.netplay.NetOrder.TheVariants.{Pad}
use Rattle.w4_defs.specs.declared.netplay.Packet.{Packet}
use Rattle.w4_defs.specs.Reset.{Setup}
use Rattle.w4_defs.specs.Board.{console_setup}
use Rattle.w4_defs.specs.FrameTexts.{state_line}
use Rattle.w4_defs.specs.Image.{image}
use Rattle.w4_defs.specs.KeptList.{places_of}
use Rattle.w4_defs.specs.Module.{WasmModule}
use Rattle.w4_defs.specs.Recording.{Recording}
use Rattle.w4_defs.specs.Rollback.{Known, learned, nothing_known, net_input, net_inputs}
use Rattle.w4_defs.specs.Run.{run, run_state}
use Rattle.w4_defs.specs.Session.{place_refusal, places_alone, with_kept}
use Rattle.w4_defs.specs.State.{State}
use Rattle.w4_editor.specs.Editor.{Editing, editing_setup, new_editing, KeepsRest}
use Rattle.w4_editor.specs.Playing.{IsCauseOrMemory}
use Rattle.w4_defs.specs.World.{World}
use Rattle.w4_answers.specs.Writing.{AppendsOut, Written, StopsWriting, WritesNothing}
use Rattle.w4_defs.specs.declared.net_refusal.NetRefusal.{NetRefusal}
use Rattle.w4_defs.specs.declared.net_refusal.NetRefusal.TheVariants as net
use Rattle.w4_netplay.specs.Pads.{known_in}
use Rattle.w4_netplay.specs.Replica.{edit_refusal, IsNetRefusal, KeepsNetplay, KeepsPlace, Netplay}
use Rattle.w4_netplay.specs.Replica.{places_kept, known_of, predicted_draft, prediction}
use Rattle.w4_defs.specs.ScriptAnswers.{refused_line, refusal_words}
use Rattle.w4_defs.specs.Answers.{Answered, answer_text, carried_out}
use Rattle.w4_defs.specs.Endings.{Manner, manner_of}
use Rattle.w4_defs.specs.declared.status.Refusal.{Refusal}
use Rattle.w4_defs.specs.LogAnswers.{NetSession, first_session, net_answer, answer_keep, answer_next}
use Rattle.w4_defs.specs.LogAnswers.{answer_packet, if_passed, net_words, predicted_image, predicted_state}
use Rattle.w4_answers.specs.NetAnswers.{IsHeard, GivesHeard, net_session}
use Rattle.w4_answers.proofs.WritingLaws.{stops_untold, there_is}
use Rattle.w4_answers.proofs.DeskSessionLaws.{appends_nothing, same_editing_setup}
use Rattle.w4_editor.proofs.EditorPlaceLaws.{rest_at, rest_none, rest_then}
use Rattle.w4_defs.specs.PlaceTexts.{as_it_stands}
use Rattle.w4_defs.proofs.TextsOfStates.{image_of_state, line_of_state}

-- ---- sessions

abbrev session_as : Known → ℕ → List ℕ → NetSession
session_as known frames kept = record { known = known; frames = frames; kept = kept }

same_session_as : (known other : Known) (frames count : ℕ) (kept places : List ℕ) → known ≡ other
    → frames ≡ count → kept ≡ places → session_as known frames kept ≡ session_as other count places
same_session_as known other frames count kept places a b c = λ i. session_as (a i) (b i) (c i)

pub session_kept : (old new : Netplay) → KeepsNetplay old new → net_session new ≡ net_session old
session_kept old new keeps =
    λ i. record {
      known = known_of (record { pads = keeps.pads i; frames = old.frames; editor = old.editor });
      frames = keeps.frames i;
      kept = keeps.kept i;
    }

pub same_netplay : (old new : Netplay) → new ≡ old → KeepsNetplay old new
same_netplay old new same =
    subst (λ (r : Netplay). KeepsNetplay old r) (sym same)
    (record { pads = refl; frames = refl; kept = refl; rest = refl })

-- ---- answers

pub heard_text : (before after : World) (old new : Netplay) (out : Option (List ℕ))
    (wanted : Answered NetSession)
    → wanted ≡ answer_text (net_session old) out
    → ForSome out (λ text. AppendsOut before.events after.events text)
    → KeepsNetplay old new → IsHeard before after old new wanted
heard_text before after old new out wanted is written keeps =
    subst (λ (a : Answered NetSession). IsHeard before after old new a) (sym is)
    (record { out = written; session = session_kept old new keeps; rest = keeps.rest })

pub heard_on_text : {X : Type 0} (result : Result X Refusal) (before after : World) (old new : Netplay)
    (out : List ℕ) (wanted : Answered NetSession)
    → wanted ≡ answer_text (net_session old) (Some out) → Written before after result out
    → KeepsNetplay old new → GivesHeard before after result old new wanted
heard_on_text (Ok x) before after old new out wanted is written keeps =
    heard_text before after old new (Some out) wanted is
    (there_is (λ text. AppendsOut before.events after.events text) (Some out) out refl written) keeps
heard_on_text (Err why) before after old new out wanted is written keeps =
    there_is (λ text. StopsWriting before after (manner_of why) text) wanted.out out
    (ap (λ (a : Answered NetSession). a.out) is) written

-- a refusal that is told, unless it is memory's
pub net_refused_on_text : {X Other : Type 0} (result : Result X Refusal) (before after : World)
    (old new : Netplay)
    (out : List ℕ) (wanted : Answered NetSession)
    → Other ⊎ WritesNothing before after result
    → (Other → wanted ≡ answer_text (net_session old) (Some out)) → (Other → KeepsNetplay old new)
    → Written before after result out → GivesHeard before after result old new wanted
net_refused_on_text result before after old new out wanted (inl other) is keeps written =
    heard_on_text result before after old new out wanted (is other) written (keeps other)
net_refused_on_text (Ok x) before after old new out wanted (inr (failed, same)) is keeps written = absurd cc
net_refused_on_text (Err why) before after old new out wanted (inr (failed, same)) is keeps written =
    λ text there. stops_untold before after (manner_of why) out text same written

pub heard_alone : (world : World) (old new : Netplay) (wanted : Answered NetSession)
    → wanted ≡ carried_out (net_session new) → KeepsRest old.editor new.editor
    → IsHeard world world old new wanted
heard_alone world old new wanted is rest =
    subst (λ (a : Answered NetSession). IsHeard world world old new a) (sym is)
    (record {
      out =
          there_is (λ text. AppendsOut world.events world.events text) (Some []) [] refl
          (appends_nothing world [] refl);
      session = refl;
      rest = rest;
    })

-- ---- packets and frames

pub packet_heard : (old new : Netplay) (packet : Packet) (found : Option NetRefusal) → found ≡ None
    → known_of new ≡ learned (known_of old) packet → new.frames ≡ old.frames → new.editor ≡ old.editor
    → answer_packet (net_session old) packet found ≡ carried_out (net_session new)
packet_heard old new packet found none known frames editor =
    rw none
    (ap (λ (s : NetSession). carried_out s)
    (sym (same_session_as (known_of new) (learned (known_of old) packet) new.frames old.frames
    (places_kept new) (places_kept old) known frames
    (ap (λ (e : Editing). places_kept (record { pads = new.pads; frames = new.frames; editor = e }))
    editor))))

pub same_rest : (old new : Netplay) → new.editor ≡ old.editor → KeepsRest old.editor new.editor
same_rest old new same = subst (λ (e : Editing). KeepsRest old.editor e) (sym same) (rest_none old.editor)

pub frame_passed : (old new : Netplay) → old.frames < 36000
    → new ≡ record { pads = old.pads; frames = old.frames + 1; editor = old.editor }
    → answer_next (net_session old) ≡ carried_out (net_session new)
frame_passed old new few is =
    rw (lt-ltb old.frames 36000 few)
    (ap (λ (r : Netplay). carried_out (net_session r)) (sym is))

pub same_editor : (old new : Netplay)
    → new ≡ record { pads = old.pads; frames = old.frames + 1; editor = old.editor } → new.editor ≡ old.editor
same_editor old new is = ap (λ (r : Netplay). r.editor) is

pub full_recording_refused : (old : Netplay) (refusal : NetRefusal) → refusal ≡ net.FullRecording
    → 36000 ≤ old.frames
    → answer_next (net_session old) ≡ answer_text (net_session old) (Some (refused_line (net_words refusal)))
full_recording_refused old refusal is many = rw (le-ltb old.frames 36000 many, is) refl

-- ---- places

some_is : (a b : EditRefusal) → Some a ≡ Some b → a ≡ b
some_is a b e = cc

-- the words of a refusal are those of the editor's
same_words : (refusal : NetRefusal) (reason : EditRefusal) → edit_refusal refusal ≡ Some reason
    → net_words refusal ≡ refusal_words reason
same_words net.NoPlayer reason e = absurd cc
same_words net.FrameRange reason e = absurd cc
same_words (net.Conflict kept got) reason e = absurd cc
same_words net.FullRecording reason e = ap refusal_words (some_is edit.FullRecording reason e)
same_words net.NoFrame reason e = ap refusal_words (some_is edit.NoFrame reason e)
same_words net.Kept reason e = ap refusal_words (some_is edit.Kept reason e)
same_words net.FullSnapshots reason e = ap refusal_words (some_is edit.FullSnapshots reason e)
same_words net.OutOfMemory reason e = ap refusal_words (some_is edit.OutOfMemory reason e)

memory_word : (refusal : NetRefusal) (reason : EditRefusal) → edit_refusal refusal ≡ Some reason
    → reason ≡ edit.OutOfMemory → refusal ≡ net.OutOfMemory
memory_word net.NoPlayer reason e is = absurd cc
memory_word net.FrameRange reason e is = absurd cc
memory_word (net.Conflict kept got) reason e is = absurd cc
memory_word net.FullRecording reason e is = absurd cc
memory_word net.NoFrame reason e is = absurd cc
memory_word net.Kept reason e is = absurd cc
memory_word net.FullSnapshots reason e is = absurd cc
memory_word net.OutOfMemory reason e is = refl

by_cause : (wanted : Option EditRefusal) (refusal : NetRefusal) (reason : EditRefusal)
    → edit_refusal refusal ≡ Some reason → IsCauseOrMemory wanted reason → refusal ≢ net.OutOfMemory
    → (reason : EditRefusal) × (wanted ≡ Some reason) × (net_words refusal ≡ refusal_words reason)
by_cause wanted refusal reason word (inl is) other = (reason, is, same_words refusal reason word)
by_cause wanted refusal reason word (inr (memory, none)) other =
    absurd (other (memory_word refusal reason word memory))

-- so a refusal that isn't memory's is the one that is wanted, in its words
pub wanted_words : (wanted : Option EditRefusal) (refusal : NetRefusal) → IsNetRefusal wanted refusal
    → refusal ≢ net.OutOfMemory
    → (reason : EditRefusal) × (wanted ≡ Some reason) × (net_words refusal ≡ refusal_words reason)
wanted_words wanted refusal is other = by_cause wanted refusal is.reason is.word is.cause other

pub place_kept : (old new : Netplay) (p : ℕ) (found : Option EditRefusal) → found ≡ None
    → new.pads ≡ old.pads → new.frames ≡ old.frames
    → places_kept new ≡ with_kept places_alone p (places_kept old)
    → answer_keep (net_session old) p found ≡ carried_out (net_session new)
place_kept old new p found none pads frames kept =
    rw none
    (ap (λ (s : NetSession). carried_out s)
    (sym (same_session_as (known_of new) (known_of old) new.frames old.frames (places_kept new)
    (with_kept places_alone p (places_kept old)) (ap known_in pads) frames kept)))

pub rest_kept : (p before after : ℕ) (old new : Netplay) → KeepsPlace p before after old new
    → KeepsRest old.editor new.editor
rest_kept p before after old new kept =
    rest_then old.editor kept.shown.editor new.editor kept.is_shown.netplay.rest
    (rest_at kept.shown.editor new.editor kept.shown.editor.at kept.put.same)

pub keep_refused : (old : Netplay) (p : ℕ) (found : Option EditRefusal) (refusal : NetRefusal)
    → IsNetRefusal found refusal → refusal ≢ net.OutOfMemory
    → answer_keep (net_session old) p found
    ≡ answer_text (net_session old) (Some (refused_line (net_words refusal)))
keep_refused old p found refusal is other =
    let why = wanted_words found refusal is other in
    rw (why.1, why.2) refl

-- ---- showing

length_inputs : (known : Known) (frames : ℕ) → length (net_inputs known frames) ≡ frames
unfolding net_inputs
length_inputs known frames = length-map-range_with_len (net_input known) 0 frames

there_as : (there : Bool) → (if there then None else Some edit.NoFrame) ≡ None → there ≡ true
there_as true e = refl
there_as false e = absurd cc

past_as : (there : Bool) (reason : EditRefusal) → (if there then None else Some edit.NoFrame) ≡ Some reason
    → (there ≡ false) × (reason ≡ edit.NoFrame)
past_as true reason e = absurd cc
past_as false reason e = (refl, sym (some_is edit.NoFrame reason e))

pub is_there : (old : Netplay) (p : ℕ) → place_refusal p (predicted_draft old) ≡ None → p ≤ old.frames
is_there old p none =
    subst (λ n. p ≤ n) (length_inputs (known_of old) old.frames)
    (leb-true p (length (prediction old)) (there_as (nat_le p (length (prediction old))) none))

pub passed_text : (old : Netplay) (p : ℕ) (out : Option (List ℕ))
    → place_refusal p (predicted_draft old) ≡ None → if_passed (net_session old) p out ≡ out
passed_text old p out none = rw (le-leb p old.frames (is_there old p none)) refl

pub not_passed : (old : Netplay) (p : ℕ) (out : Option (List ℕ)) (refusal : NetRefusal)
    → IsNetRefusal (place_refusal p (predicted_draft old)) refusal → refusal ≢ net.OutOfMemory
    → answer_text (net_session old) (if_passed (net_session old) p out)
    ≡ answer_text (net_session old) (Some (refused_line (net_words refusal)))
not_passed old p out refusal is other =
    let why = wanted_words (place_refusal p (predicted_draft old)) refusal is other in
    let past = past_as (nat_le p (length (prediction old))) why.0 why.1 in
    let lt : old.frames < p =
    subst (λ n. n < p) (length_inputs (known_of old) old.frames)
    (leb-false p (length (prediction old)) past.0) in
    rw (lt-leb p old.frames lt, why.2, past.1) refl

pub image_answered : (old : Netplay) (p : ℕ) (state : State) → old.editor.disk ≡ []
    → run_state (editing_setup old.editor) old.editor.disk (prediction old) p ≡ Some state
    → predicted_image (editing_setup old.editor) (net_session old) p ≡ Some (image state.page)
image_answered old p state none is =
    image_of_state as_it_stands p (run (editing_setup old.editor) [] (prediction old) p) state
    (subst (λ disk. run_state (editing_setup old.editor) disk (prediction old) p ≡ Some state) none is)

pub state_answered : (old : Netplay) (p : ℕ) (state : State) → old.editor.disk ≡ []
    → run_state (editing_setup old.editor) old.editor.disk (prediction old) p ≡ Some state
    → predicted_state (editing_setup old.editor) (net_session old) p
    ≡ Some (state_line p old.frames state (places_kept old))
state_answered old p state none is =
    line_of_state as_it_stands p old.frames (places_kept old)
    (run (editing_setup old.editor) [] (prediction old) p) state
    (subst (λ disk. run_state (editing_setup old.editor) disk (prediction old) p ≡ Some state) none is)

-- ---- lines

-- what a log gives past its end
abbrev pub past_log : NetOrder
past_log = Pad (record { player = 0; frame = 0; pad = 0 })

pub heard_at_first : (before after : World) (first old new : Netplay) (order : NetOrder)
    → KeepsRest first.editor old.editor
    → IsHeard before after old new (net_answer (editing_setup old.editor) (net_session old) order)
    → IsHeard before after old new (net_answer (editing_setup first.editor) (net_session old) order)
heard_at_first before after first old new order rest heard =
    subst (λ (setup : Setup). IsHeard before after old new (net_answer setup (net_session old) order))
    (same_editing_setup first.editor old.editor rest) heard

pub net_stopped_at_first : (before after : World) (why : Manner) (first old : Netplay) (order : NetOrder)
    → KeepsRest first.editor old.editor
    → ForSome (net_answer (editing_setup old.editor) (net_session old) order).out
    (λ text. StopsWriting before after why text)
    → ForSome (net_answer (editing_setup first.editor) (net_session old) order).out
    (λ text. StopsWriting before after why text)
net_stopped_at_first before after why first old order rest heard =
    subst (λ (setup : Setup). ForSome (net_answer setup (net_session old) order).out
    (λ text. StopsWriting before after why text)) (same_editing_setup first.editor old.editor rest) heard

-- ---- the beginning

abbrev recording_as : List ℕ → ℕ → List ℕ → List Input → Recording
recording_as digest budget disk frames =
    record { digest = digest; budget = budget; disk = disk; frames = frames }

pub blank_as : (r : Recording) (digest : List ℕ) (budget : ℕ) (disk : List ℕ) (frames : List Input)
    → r ≡ recording_as digest budget disk frames → disk ≡ [] → frames ≡ []
    → r ≡ record { digest = digest; budget = budget; disk = []; frames = [] }
blank_as r digest budget disk frames is none no_frames =
    is ∙ (λ i. recording_as digest budget (none i) (no_frames i))

pub netplay_begins : (cart : WasmModule) (font digest : List ℕ) (budget : ℕ) (recording : Recording)
    (state : State)
    (r : Netplay)
    → recording ≡ record { digest = digest; budget = budget; disk = []; frames = [] }
    → known_of r ≡ nothing_known → r.frames ≡ 0 → r.editor ≡ new_editing cart font recording state
    → (editing_setup r.editor ≡ console_setup cart font budget) × (net_session r ≡ first_session)
netplay_begins cart font digest budget recording state r blank known frames editor = (
  ap (λ (e : Editing). editing_setup e) editor
      ∙ ap (λ (x : Recording). console_setup cart font x.budget) blank,
  same_session_as (known_of r) nothing_known r.frames 0 (places_kept r) (0 ∷ []) known frames
      (ap (λ (e : Editing). places_of e.session.current.kept) editor),
)
