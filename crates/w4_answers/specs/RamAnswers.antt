-- An editor as the answers of a query see it: the pages of its recording, and the search that is left.
use Rattle.std.specs.Prelude.{◌≡◌, List, Option, Result, Ok, Err}
use Rattle.std.specs.Option.{ForSome}
use Rattle.w4_defs.specs.Search.{Search}
use Rattle.w4_defs.specs.declared.inspect.Ask.{Ask}
use Rattle.w4_defs.specs.declared.inspect.QueryLine.{QueryLine}
use Rattle.w4_defs.specs.PlaceTexts.{PieceForm}
use Rattle.w4_editor.specs.Editor.{Editing, current_recording, editing_setup, KeepsRest, place_session}
use Rattle.w4_defs.specs.World.{World}
use Rattle.w4_answers.specs.Writing.{AppendsOut, StopsWriting}
use Rattle.w4_defs.specs.declared.status.Refusal.{Refusal}
use Rattle.w4_defs.specs.Answers.{Answered}
use Rattle.w4_answers.specs.Desk.{OnlyShows}
use Rattle.w4_defs.specs.Endings.{manner_of}
use Rattle.w4_defs.specs.Live.{LiveSession}
use Rattle.w4_defs.specs.QueryAnswers.{Pages, pages_of, ram_answer}
use Rattle.w4_defs.specs.ToolOutputs.{line_answer, ram_answers}

abbrev pub editor_pages : Editing → Pages
editor_pages e = pages_of (editing_setup e) e.disk e.session.current.inputs

-- a line was answered so: standard output has got the answer, the search is the one that is left, and the
-- editor at most shows another place
pub record IsLineAnswered (before after : World) (old new : Editing) (left : Option Search)
    (wanted : Answered (Option Search)) : Type 0 where
  pub out : ForSome wanted.out (λ out. AppendsOut before.events after.events out)
  pub search : left ≡ wanted.session
  pub shows : OnlyShows old new

-- what answering it gave: that, or a first part of the answer where it stopped; the recording is
-- then as it was
abbrev pub GivesLineAnswer : {X : Type 0} → World → World → Result X Refusal → Editing → Editing
    → Option Search
    → Answered (Option Search) → Type 0
GivesLineAnswer before after (Ok x) old new left wanted = IsLineAnswered before after old new left wanted
GivesLineAnswer before after (Err why) old new left wanted =
    ForSome wanted.out (λ out. StopsWriting before after (manner_of why) out)
    × (current_recording new ≡ current_recording old)

abbrev pub ask_answer : PieceForm → Editing → Option Search → Ask → Answered (Option Search)
ask_answer form e search ask = ram_answer form (editor_pages e) search ask

-- ---- a query, line by line

-- the session that an editor and a search are
abbrev pub query_session : Editing → Option Search → LiveSession
query_session e search = record { session = place_session e; search = search }

abbrev pub query_answer : Editing → Option Search → QueryLine → Answered LiveSession
query_answer e search line = line_answer (editing_setup e) e.disk (query_session e search) line

-- the answers of a query, and the session that they leave
abbrev pub query_answers : Editing → Option Search → List QueryLine → Answered LiveSession
query_answers e search lines = ram_answers (editing_setup e) e.disk (query_session e search) lines

-- a line was answered so: standard output has got the answer, and editor and search are the session left
pub record IsQueryAnswered (before after : World) (old new : Editing) (left : Option Search)
    (wanted : Answered LiveSession) : Type 0 where
  pub out : ForSome wanted.out (λ out. AppendsOut before.events after.events out)
  pub session : query_session new left ≡ wanted.session
  pub rest : KeepsRest old new

-- what answering it gave: that, or a first part of the answer where it stopped
abbrev pub GivesQueryAnswer : {X : Type 0} → World → World → Result X Refusal → Editing → Editing
    → Option Search → Answered LiveSession → Type 0
GivesQueryAnswer before after (Ok x) old new left wanted = IsQueryAnswered before after old new left wanted
GivesQueryAnswer before after (Err why) old new left wanted =
    ForSome wanted.out (λ out. StopsWriting before after (manner_of why) out)
