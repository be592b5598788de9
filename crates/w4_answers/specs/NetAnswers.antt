-- A replica as the answers of a log see it.
use Rattle.std.specs.Prelude.{◌≡◌, Result, Ok, Err}
use Rattle.std.specs.Option.{ForSome}
use Rattle.w4_defs.specs.World.{World}
use Rattle.w4_answers.specs.Writing.{AppendsOut, StopsWriting}
use Rattle.w4_netplay.specs.Replica.{Netplay, known_of, places_kept}
use Rattle.w4_defs.specs.declared.status.Refusal.{Refusal}
use Rattle.w4_defs.specs.Answers.{Answered}
use Rattle.w4_editor.specs.Editor.{KeepsRest}
use Rattle.w4_defs.specs.Endings.{manner_of}
use Rattle.w4_defs.specs.LogAnswers.{NetSession}

abbrev pub net_session : Netplay → NetSession
net_session r = record { known = known_of r; frames = r.frames; kept = places_kept r }

-- a line was answered so: standard output has got the answer, and the session is the one that is left
pub record IsHeard (before after : World) (old new : Netplay) (wanted : Answered NetSession) : Type 0 where
  pub out : ForSome wanted.out (λ out. AppendsOut before.events after.events out)
  pub session : net_session new ≡ wanted.session
  pub rest : KeepsRest old.editor new.editor

-- what answering it gave: that, or a first part of the answer where it stopped
abbrev pub GivesHeard : {X : Type 0} → World → World → Result X Refusal → Netplay → Netplay
    → Answered NetSession → Type 0
GivesHeard before after (Ok x) old new wanted = IsHeard before after old new wanted
GivesHeard before after (Err why) old new wanted =
    ForSome wanted.out (λ out. StopsWriting before after (manner_of why) out)
