-- Lines of a query: places that aren't there, and what is told of those that are.
use Rattle.std.proofs.Common.{◌≡◌, ◌≢◌, ◌⊎◌, ℕ, ◌+◌, ◌-◌, ◌<◌, ◌≤◌, inl, inr, true, false, Bool, List, []}
use Rattle.std.proofs.Common.{◌∷◌, length, map, Option, Some, None, option_map, refl, sym, ap, subst, ◌∙◌}
use Rattle.std.specs.Prelude.{Result, Ok, Err, OnOk, codes, nat_lt, if◌then◌else◌}
use Rattle.std.specs.Option.{ForSome}
use Rattle.std.specs.List.{range_with_len}
use Rattle.std.proofs.lemmas.Bool.{le-leb, le-ltb, lt-leb, ltb-true, ltb-false}
use Rattle.w4_defs.specs.declared.inspect.Ask.{Ask}
use Rattle.w4_defs.specs.declared.inspect.Ask.TheVariants.{Watch}
use Rattle.w4_defs.specs.declared.console.Input.{Input}
use Rattle.w4_defs.specs.declared.inspect.QueryLine.{QueryLine}
use Rattle.w4_defs.specs.declared.inspect.QueryLine.TheVariants.{Ask as Request}
use Rattle.w4_defs.specs.declared.inspect.Test.{Test}
use Rattle.w4_defs.specs.FrameTexts.{numbered}
use Rattle.w4_defs.specs.PlaceTexts.{PieceForm, as_it_stands}
use Rattle.w4_defs.specs.Search.{Search, begin, narrow}
use Rattle.w4_editor.specs.Editor.{Editing, current_recording, editing_setup, KeepsRest}
use Rattle.w4_defs.specs.World.{World}
use Rattle.w4_answers.specs.Writing.{AppendsOut, Written, StopsWriting, WritesNothing}
use Rattle.w4_defs.specs.AllThere.{all_some}
use Rattle.w4_defs.specs.Live.{LiveSession, over_session}
use Rattle.w4_defs.specs.Run.{run_page}
use Rattle.w4_defs.specs.Session.{Session}
use Rattle.w4_defs.specs.ToolOutputs.{line_answer}
use Rattle.w4_inspect.specs.PlacePages.{page_at, AreOf, ReadPages, outside_refusal}
use Rattle.w4_inspect.specs.Refusal.{IsRefusal, no_frame_refusal, watch_refusal}
use Rattle.w4_inspect.specs.Watching.{watched}
use Rattle.w4_inspect.specs.declared.refusal.RamRefusal.{RamRefusal}
use Rattle.w4_inspect.specs.declared.refusal.RamRefusal.TheVariants.{NoFrame, Outside}
use Rattle.w4_inspect.specs.declared.refusal.RamRefusal.TheVariants.{OutOfMemory as MemoryRefused}
use Rattle.w4_defs.specs.ScriptAnswers.{no_frame}
use Rattle.w4_defs.specs.Answers.{Answered, answer_text, carried_out}
use Rattle.w4_answers.specs.ScriptAnswers.{GivesAnswer}
use Rattle.w4_answers.specs.Desk.{OnlyShows}
use Rattle.w4_defs.specs.Endings.{Manner, manner_of}
use Rattle.w4_defs.specs.declared.status.Refusal.{Refusal}
use Rattle.w4_answers.specs.HeldPages.{AreHeld}
use Rattle.w4_answers.specs.RamAnswers.{IsLineAnswered, GivesLineAnswer, IsQueryAnswered, GivesQueryAnswer}
use Rattle.w4_answers.specs.RamAnswers.{ask_answer, editor_pages, query_answer, query_session}
use Rattle.w4_defs.specs.QueryAnswers.{answer_narrow, answer_start, outside, pages_of, searched, watch_text}
use Rattle.w4_defs.proofs.OptionLaws.{some_same}
use Rattle.w4_answers.proofs.ScriptAnswerLaws.{on_ok}
use Rattle.w4_answers.proofs.WritingLaws.{stops_untold, there_is}
use Rattle.w4_answers.proofs.DeskSessionLaws.{appends_nothing, same_disk, same_inputs, same_editing_setup}

-- ---- places

past_as : (past : Bool) (refusal : RamRefusal) → IsRefusal (if past then Some NoFrame else None) refusal
    → refusal ≢ MemoryRefused → past ≡ true
past_as true refusal is other = refl
past_as false refusal (inl none) other = absurd cc
past_as false refusal (inr (memory, none)) other = absurd (other memory)

there_as : (past : Bool) → (if past then Some NoFrame else None) ≡ None → past ≡ false
there_as true e = absurd cc
there_as false e = refl

pub place_is_past : (e : Editing) (p : ℕ) (refusal : RamRefusal) → IsRefusal (no_frame_refusal e p) refusal
    → refusal ≢ MemoryRefused → length e.session.current.inputs < p
place_is_past e p refusal is other =
    ltb-true (length e.session.current.inputs) p
    (past_as (nat_lt (length e.session.current.inputs) p) refusal is other)

pub place_is_there : (e : Editing) (p : ℕ) → no_frame_refusal e p ≡ None → p ≤ length e.session.current.inputs
place_is_there e p none =
    ltb-false (length e.session.current.inputs) p
    (there_as (nat_lt (length e.session.current.inputs) p) none)

-- ---- what is told

pub line_answered_text : (before after : World) (old new : Editing) (search : Option Search)
    (out : Option (List ℕ))
    (wanted : Answered (Option Search)) → wanted ≡ answer_text search out
    → ForSome out (λ text. AppendsOut before.events after.events text) → OnlyShows old new
    → IsLineAnswered before after old new search wanted
line_answered_text before after old new search out wanted is written shows =
    subst (λ (a : Answered (Option Search)). IsLineAnswered before after old new search a) (sym is)
    (record { out = written; search = refl; shows = shows })

pub line_answered_alone : (world : World) (old new : Editing) (search : Option Search)
    (wanted : Answered (Option
    Search))
    → wanted ≡ carried_out search → OnlyShows old new → IsLineAnswered world world old new search wanted
line_answered_alone world old new search wanted is shows =
    line_answered_text world world old new search (Some []) wanted is
    (there_is (λ text. AppendsOut world.events world.events text) (Some []) [] refl
    (appends_nothing world [] refl))
    shows

pub line_answered_on : {X : Type 0} (result : Result X Refusal) (before after : World) (old new : Editing)
    (search : Option Search) (out : Option (List ℕ)) (wanted : Answered (Option Search))
    → wanted ≡ answer_text search out → ForSome out (λ text. Written before after result text)
    → OnOk result (OnlyShows old new) → current_recording new ≡ current_recording old
    → GivesLineAnswer before after result old new search wanted
line_answered_on (Ok x) before after old new search out wanted is written shows kept =
    line_answered_text before after old new search out wanted is written shows
line_answered_on (Err why) before after old new search out wanted is written shows kept = (
  subst (λ (a : Answered (Option Search)). ForSome a.out (λ text. StopsWriting before after (manner_of why)
      text)) (sym is) written,
  kept,
)

-- a refusal that is told, unless it is memory's
pub refused_on_text : {X Other : Type 0} (result : Result X Refusal) (before after : World)
    (old new : Editing)
    (search : Option Search) (out : List ℕ) (wanted : Answered (Option Search))
    → Other ⊎ WritesNothing before after result
    → (Other → wanted ≡ answer_text search (Some out)) → (Other → OnlyShows old new)
    → current_recording new ≡ current_recording old
    → Written before after result out → GivesLineAnswer before after result old new search wanted
refused_on_text result before after old new search out wanted (inl other) is shows kept written =
    line_answered_on result before after old new search (Some out) wanted (is other)
    (there_is (λ text. Written before after result text) (Some out) out refl written)
    (on_ok result (shows other)) kept
refused_on_text (Ok x) before after old new search out wanted (inr (failed, same)) is shows kept written =
    absurd cc
refused_on_text (Err why) before after old new search out wanted (inr (failed, same)) is shows kept written =
    (λ text there. stops_untold before after (manner_of why) out text same written, kept)

-- ---- a search

search_goes : (search : Option Search) (go : List ℕ → Search) (page : Option (List ℕ)) (left : Search)
    → option_map go page ≡ Some left → searched search go page ≡ carried_out (Some left)
search_goes search go (Some page) left is =
    ap (λ (found : Search). carried_out (Some found)) (some_same (go page) left is)
search_goes search go None left is = absurd cc

pub start_there : (form : PieceForm) (e : Editing) (search : Option Search) (width p : ℕ) (begun : Search)
    → no_frame_refusal e p ≡ None → option_map (begin width) (page_at e p) ≡ Some begun
    → answer_start form (editor_pages e) search width p ≡ carried_out (Some begun)
start_there form e search width p begun none is =
    rw (le-leb p (length e.session.current.inputs) (place_is_there e p none))
    (search_goes search (begin width) (page_at e p) begun is)

pub start_past : (form : PieceForm) (e : Editing) (search : Option Search) (width p : ℕ)
    (refusal : RamRefusal)
    → IsRefusal (no_frame_refusal e p) refusal → refusal ≢ MemoryRefused
    → answer_start form (editor_pages e) search width p ≡ answer_text search (Some (form no_frame))
start_past form e search width p refusal is other =
    rw (lt-leb p (length e.session.current.inputs) (place_is_past e p refusal is other)) refl

pub narrow_there : (form : PieceForm) (e : Editing) (search : Search) (p : ℕ) (test : Test) (left : Search)
    → no_frame_refusal e p ≡ None → option_map (λ page. narrow search (page, test)) (page_at e p) ≡ Some left
    → answer_narrow form (editor_pages e) (Some search) p test ≡ carried_out (Some left)
narrow_there form e search p test left none is =
    rw (le-leb p (length e.session.current.inputs) (place_is_there e p none))
    (search_goes (Some search) (λ page. narrow search (page, test)) (page_at e p) left is)

pub narrow_past : (form : PieceForm) (e : Editing) (search : Search) (p : ℕ) (test : Test)
    (refusal : RamRefusal)
    → IsRefusal (no_frame_refusal e p) refusal → refusal ≢ MemoryRefused
    → answer_narrow form (editor_pages e) (Some search) p test
    ≡ answer_text (Some search) (Some (form no_frame))
narrow_past form e search p test refusal is other =
    rw (lt-leb p (length e.session.current.inputs) (place_is_past e p refusal is other)) refl

-- ---- values

both_false : (past far : Bool)
    → (if past then Some NoFrame else if far then Some Outside else None) ≡ None
    → (past ≡ false) × (far ≡ false)
both_false true far e = absurd cc
both_false false true e = absurd cc
both_false false false e = (refl, refl)

first_true : (past far : Bool)
    → IsRefusal (if past then Some NoFrame else if far then Some Outside else None) NoFrame → past ≡ true
first_true true far is = refl
first_true false true (inl other) = absurd cc
first_true false true (inr (memory, none)) = absurd cc
first_true false false (inl other) = absurd cc
first_true false false (inr (memory, none)) = absurd cc

second_true : (past far : Bool)
    → IsRefusal (if past then Some NoFrame else if far then Some Outside else None) Outside
    → (past ≡ false) × (far ≡ true)
second_true true far (inl other) = absurd cc
second_true true far (inr (memory, none)) = absurd cc
second_true false true is = (refl, refl)
second_true false false (inl other) = absurd cc
second_true false false (inr (memory, none)) = absurd cc

pub watch_answered : (form : PieceForm) (e : Editing) (address width a b : ℕ) (values : List ℕ)
    → watch_refusal e address width b ≡ None → watched e address width a b ≡ Some values
    → watch_text form (editor_pages e) address width a b
    ≡ Some (form (numbered (codes "watch") (address ∷ values)))
watch_answered form e address width a b values none there =
    let both =
    both_false (nat_lt (length e.session.current.inputs) b) (nat_lt 65536 (address + width)) none in
    rw (both.0, both.1, there) refl

pub watch_past : (form : PieceForm) (e : Editing) (address width a b : ℕ) (refusal : RamRefusal)
    → refusal ≡ NoFrame
    → IsRefusal (watch_refusal e address width b) refusal
    → watch_text form (editor_pages e) address width a b ≡ Some (form no_frame)
watch_past form e address width a b refusal same is =
    let past = subst (λ r. IsRefusal (watch_refusal e address width b) r) same is in
    rw (first_true (nat_lt (length e.session.current.inputs) b) (nat_lt 65536 (address + width)) past) refl

pub watch_outside : (form : PieceForm) (e : Editing) (address width a b : ℕ) (refusal : RamRefusal)
    → refusal ≡ Outside
    → IsRefusal (watch_refusal e address width b) refusal
    → watch_text form (editor_pages e) address width a b ≡ Some (form outside)
watch_outside form e address width a b refusal same is =
    let far = subst (λ r. IsRefusal (watch_refusal e address width b) r) same is in
    let both =
    second_true (nat_lt (length e.session.current.inputs) b) (nat_lt 65536 (address + width)) far in
    rw (both.0, both.1) refl

-- ---- lines

-- what a list of lines gives past its end
abbrev pub past_query : Ask
past_query = Watch 0 0 0 0

-- the pages are those of the editor at first
pub same_editor_pages : (old new : Editing) → OnlyShows old new → editor_pages new ≡ editor_pages old
same_editor_pages old new shows =
    λ i. pages_of (same_editing_setup old new shows.rest i) (same_disk old new shows.rest i)
    (same_inputs old new shows i)

-- ---- lines of a query over the whole session

-- what a list of a query's lines gives past its end
abbrev pub past_query_line : QueryLine
past_query_line = Request past_query

pub told_by_request : {X : Type 0} (result : Result X Refusal) (before after : World) (old new : Editing)
    (search left : Option Search) (ask : Ask)
    → GivesLineAnswer before after result old new left (ask_answer as_it_stands old search ask)
    → GivesQueryAnswer before after result old new left (query_answer old search (Request ask))
told_by_request (Ok x) before after old new search left ask told = record {
  out = told.out;
  session = λ i. record { session = told.shows.session i; search = told.search i };
  rest = told.shows.rest;
}
told_by_request (Err why) before after old new search left ask told = told.0

pub told_by_watch : {X : Type 0} (result : Result X Refusal) (before after : World) (old new : Editing)
    (search : Option Search) (address width a b : ℕ)
    → ForSome (watch_text as_it_stands (editor_pages old) address width a b)
    (λ text. Written before after result text)
    → OnOk result (OnlyShows old new)
    → GivesQueryAnswer before after result old new search
    (query_answer old search (Request (Watch address width a b)))
told_by_watch (Ok x) before after old new search address width a b written shows = record {
  out = written;
  session = λ i. record { session = shows.session i; search = search };
  rest = shows.rest;
}
told_by_watch (Err why) before after old new search address width a b written shows = written

pub told_by_order : {X : Type 0} (result : Result X Refusal) (before after : World) (old new : Editing)
    (search : Option Search) (wanted : Answered (Session ℕ)) → GivesAnswer before after result old new wanted
    → GivesQueryAnswer before after result old new search (over_session (query_session old search) wanted)
told_by_order (Ok x) before after old new search wanted told = record {
  out = told.out;
  session = λ i. record { session = told.session i; search = search };
  rest = told.rest;
}
told_by_order (Err why) before after old new search wanted told = told.0

-- an answer is the same by what the editor had at first
same_query_answer : (first old : Editing) (search : Option Search) (x : QueryLine) → KeepsRest first old
    → query_answer old search x
    ≡ line_answer (editing_setup first) first.disk (query_session old search) x
same_query_answer first old search x rest =
    λ i. line_answer (same_editing_setup first old rest i) (same_disk first old rest i)
    (query_session old search) x

pub query_answered_at_first : (before after : World) (first old new : Editing) (search left : Option Search)
    (x : QueryLine) → KeepsRest first old
    → IsQueryAnswered before after old new left (query_answer old search x)
    → IsQueryAnswered before after old new left
    (line_answer (editing_setup first) first.disk (query_session old search) x)
query_answered_at_first before after first old new search left x rest told =
    subst (λ (a : Answered LiveSession). IsQueryAnswered before after old new left a)
    (same_query_answer first old search x rest) told

pub query_stopped_at_first : (before after : World) (why : Manner) (first old : Editing)
    (search : Option Search) (x : QueryLine) → KeepsRest first old
    → ForSome (query_answer old search x).out (λ text. StopsWriting before after why text)
    → ForSome (line_answer (editing_setup first) first.disk (query_session old search) x).out
    (λ text. StopsWriting before after why text)
query_stopped_at_first before after why first old search x rest told =
    subst (λ (a : Answered LiveSession). ForSome a.out (λ text. StopsWriting before after why text))
    (same_query_answer first old search x rest) told

-- ---- pages that are held

-- they are still those of an editor that at most shows another place
pub held_on : (old new : Editing) (held : Option ReadPages) → OnlyShows old new → AreHeld old held
    → AreHeld new held
held_on old new None shows are = tt
held_on old new (Some read) shows are = record {
  there = subst (λ (inputs : List Input). read.last ≤ length inputs) (sym (same_inputs old new shows))
      are.there;
  are = (λ i. all_some (map (λ p. run_page (same_editing_setup old new shows.rest i)
      (same_disk old new shows.rest i) (same_inputs old new shows i) p)
      (range_with_len read.first (read.last + 1 - read.first)))) ∙ are.are;
}

-- those of places that are there are refused as a watch is
pub held_refusal : (e : Editing) (read : ReadPages) (address width : ℕ) → AreOf e read
    → watch_refusal e address width read.last ≡ outside_refusal address width
held_refusal e read address width of =
    rw (le-ltb (length e.session.current.inputs) read.last of.there) refl

-- their places are there, so none of these is the cause
pub place_not_refused : (address width : ℕ) (refusal : RamRefusal) → refusal ≡ NoFrame
    → IsRefusal (outside_refusal address width) refusal → ⊥
place_not_refused address width refusal same is =
    let past = first_true false (nat_lt 65536 (address + width))
    (subst (λ r. IsRefusal (outside_refusal address width) r) same is) in
    cc
