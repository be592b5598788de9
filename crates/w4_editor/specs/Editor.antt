-- What the editor is seen as: a session of entries, what its recording has besides the inputs, the cart, the
-- font and the place that it shows; its session of places alone, without states and links, and what an order
-- on it leaves.
use Rattle.std.specs.Prelude.{◌≡◌, ℕ, ◌≤◌, true, List, length, Option, Some, option_map, ◌≢◌, Result, Ok, Err}
use Rattle.circular_buffer.specs.Buffer.{Buffer}
use Rattle.w4_defs.specs.Board.{console_setup}
use Rattle.w4_defs.specs.Module.{WasmModule}
use Rattle.w4_defs.specs.Recording.{Recording}
use Rattle.w4_defs.specs.Reset.{Setup, reset}
use Rattle.w4_defs.specs.Run.{run_state}
use Rattle.w4_defs.specs.Session.{Draft, Session, new_session, session_of_places}
use Rattle.w4_defs.specs.State.{State, Moment}
use Rattle.w4_defs.specs.KeptList.{Entry, IsSession, kept_entries}
use Rattle.w4_devices.specs.declared.frame_record.FrameRecord.{FrameRecord as Record}
use Rattle.w4_devices.specs.Records.{record_of}
use Rattle.w4_editor.specs.Player.{Player, player_setup}
use Rattle.w4_defs.specs.declared.editing.EditRefusal.{EditRefusal}
use Rattle.w4_defs.specs.declared.editing.EditRefusal.TheVariants.{OutOfMemory}

pub record Editing : Type 0 where
  pub cart : WasmModule
  pub font : List ℕ
  pub digest : List ℕ
  pub budget : ℕ
  pub disk : List ℕ
  pub session : Session Entry
  pub at : Option ℕ

-- all that its runs have in common
abbrev pub editing_setup : Editing → Setup
editing_setup e = console_setup e.cart e.font e.budget

-- the recording as the edits so far leave it
abbrev pub current_recording : Editing → Recording
current_recording e =
    record { digest = e.digest; budget = e.budget; disk = e.disk; frames = e.session.current.inputs }

-- the same editor with another session, at another place
abbrev pub with_session : Editing → Session Entry → Option ℕ → Editing
with_session e session at = record {
  cart = e.cart;
  font = e.font;
  digest = e.digest;
  budget = e.budget;
  disk = e.disk;
  session = session;
  at = at;
}

-- the session of these parts
abbrev pub session_of : Recording → List Entry → List (Draft Entry) → List (Draft Entry) → Session Entry
session_of recording kept older newer = record {
  current = record { inputs = recording.frames; kept = kept };
  older = older;
  newer = newer;
}

-- the state that is shown is that of a run from reset up to the place
abbrev pub IsShownAt : Setup → List ℕ → Session Entry → Option ℕ → State → Type 0
IsShownAt setup disk session at state = (p : ℕ) → at ≡ Some p →
    (p ≤ length session.current.inputs) × (run_state setup disk session.current.inputs p ≡ Some state)

-- what holds of an editor's parts between two calls
pub record IsEditor (player : Player) (recording : Recording) (kept : List Entry)
    (olds news : Buffer (Draft Entry))
    (place : Option ℕ) (frame_record : Record) : Type 0 where
  pub budget : recording.budget ≡ player.budget
  pub session : IsSession (player_setup player) recording.disk
      (session_of recording kept olds.items news.items)
  pub room_older : olds.capacity ≡ 32
  pub room_newer : news.capacity ≡ 32
  pub reset_frame : option_map (λ (moment : Moment). moment.frame_record)
      (reset (player_setup player) recording.disk)
      ≡ Some (record_of frame_record)
  pub shown : IsShownAt (player_setup player) recording.disk
      (session_of recording kept olds.items news.items) place
      player.state

-- an editor of a recording, whose place 0 has this state
abbrev pub new_editing : WasmModule → List ℕ → Recording → State → Editing
new_editing cart font recording state = record {
  cart = cart;
  font = font;
  digest = recording.digest;
  budget = recording.budget;
  disk = recording.disk;
  session = new_session recording.frames (record { place = 0; state = state; linked = true });
  at = Some 0;
}

-- the session of its places
abbrev pub place_session : Editing → Session ℕ
place_session e = session_of_places kept_entries e.session

-- cart, font, digest, budget and disk are unchanged
abbrev pub KeepsRest : Editing → Editing → Type 0
KeepsRest old new = new ≡ with_session old new.session new.at

-- an order was carried out so, or refused with nothing changed; nothing is said where memory ran out
abbrev pub IsChanged : {X : Type 0} → Result X EditRefusal → Editing → Editing
    → Result (Session ℕ) EditRefusal → Type 0
IsChanged (Ok done) old new wanted = (wanted ≡ Ok (place_session new)) × KeepsRest old new
IsChanged (Err refusal) old new wanted = refusal ≢ OutOfMemory → (wanted ≡ Err refusal) × (new ≡ old)
