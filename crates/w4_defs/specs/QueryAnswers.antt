-- The answers of a query's requests (project rule): what is read and searched in the pages of a run from
-- reset. `watch` writes the values at an address, `list` how many addresses the search has left and each of
-- them. A search stands until an accepted `start` begins another. A refused line writes one line and changes
-- nothing.
use Rattle.std.specs.Prelude.{◌≡◌, ℕ, ◌+◌, ◌-◌, List, [], ◌∷◌, ◌++◌, length, map, flat_map, nat_lt, nat_le, codes, decimal, Option, Some, None, option_map, if◌then◌else◌, refl}
use Rattle.std.specs.Fmt.{digits}
use Rattle.std.specs.List.{range_with_len}
use Rattle.w4_defs.specs.declared.console.Input.{Input}
use Rattle.w4_defs.specs.declared.inspect.Ask.{Ask}
use Rattle.w4_defs.specs.declared.inspect.Ask.TheVariants as ask
use Rattle.w4_defs.specs.declared.inspect.Test.{Test}
use Rattle.w4_defs.specs.declared.inspect.Test.TheVariants.{Same}
use Rattle.w4_defs.specs.AllThere.{all_some}
use Rattle.w4_defs.specs.FrameTexts.{line_end, numbered}
use Rattle.w4_defs.specs.PlaceTexts.{PieceForm, as_it_stands}
use Rattle.w4_defs.specs.Reset.{Setup}
use Rattle.w4_defs.specs.Run.{run_page}
use Rattle.w4_defs.specs.Search.{Search, begin, narrow}
use Rattle.w4_defs.specs.Bytes.{number_at}
use Rattle.w4_defs.specs.Answers.{Answered, answer_text, carried_out, answers_by}
use Rattle.w4_defs.specs.ScriptAnswers.{refused_line, no_frame}

abbrev pub no_search : List ℕ
no_search = refused_line (codes "no search")

abbrev pub outside : List ℕ
outside = refused_line (codes "outside")

-- the pages of a run, by their places, and how many inputs it has
pub record Pages : Type 0 where
  pub at : ℕ → Option (List ℕ)
  pub last : ℕ

abbrev pub pages_of : Setup → List ℕ → List Input → Pages
pages_of setup disk inputs = record { at = λ p. run_page setup disk inputs p; last = length inputs }

-- the values at an address, at places A to B
abbrev pub page_numbers : Pages → ℕ → ℕ → ℕ → ℕ → Option (List ℕ)
page_numbers pages address width a b =
    all_some (map (λ p. option_map (λ page. number_at page address width) (pages.at p))
    (range_with_len a (b + 1 - a)))

abbrev pub watch_text : PieceForm → Pages → ℕ → ℕ → ℕ → ℕ → Option (List ℕ)
watch_text form pages address width a b =
    if nat_lt pages.last b then Some (form no_frame) else
    if nat_lt 65536 (address + width) then Some (form outside) else
    option_map (λ numbers. form (numbered (codes "watch") (address ∷ numbers)))
    (page_numbers pages address width a b)

-- a search that is left over a page
abbrev pub searched : Option Search → (List ℕ → Search) → Option (List ℕ) → Answered (Option Search)
searched search go None = answer_text search None
searched search go (Some page) = carried_out (Some (go page))

abbrev pub answer_start : PieceForm → Pages → Option Search → ℕ → ℕ → Answered (Option Search)
answer_start form pages search width p =
    if nat_le p pages.last then searched search (begin width) (pages.at p)
    else answer_text search (Some (form no_frame))

abbrev pub answer_narrow : PieceForm → Pages → Option Search → ℕ → Test → Answered (Option Search)
answer_narrow form pages None p test = answer_text None (Some (form no_search))
answer_narrow form pages (Some search) p test =
    if nat_le p pages.last then searched (Some search) (λ page. narrow search (page, test)) (pages.at p)
    else answer_text (Some search) (Some (form no_frame))

-- how many addresses are left, and each in a line
abbrev pub found_text : List ℕ → List ℕ
found_text addresses =
    numbered (codes "found") (length addresses ∷ []) ++ flat_map (λ n. decimal n ++ line_end) addresses

abbrev pub list_text : Option Search → List ℕ
list_text None = no_search
list_text (Some search) = found_text search.candidates

-- the answer of one request, each piece of it in a form; `ram` writes it as it stands
abbrev pub ram_answer : PieceForm → Pages → Option Search → Ask → Answered (Option Search)
ram_answer form pages search (ask.Watch address width a b) =
    answer_text search (watch_text form pages address width a b)
ram_answer form pages search (ask.Start width p) = answer_start form pages search width p
ram_answer form pages search (ask.Narrow p test) = answer_narrow form pages search p test
ram_answer form pages search ask.List = answer_text search (Some (form (list_text search)))

-- Worked cases, over three pages of four bytes: what stands before a search; a value of two bytes at each
-- place; an address at the page's end; a place that isn't there; and a `start` that is refused, which leaves
-- the search before it, shown on one whose candidates are given.
abbrev pub short_pages : Pages
short_pages = record { at = λ p. Some (p ∷ 1 ∷ 7 ∷ 0 ∷ []); last = 2 }

abbrev pub short_search : Option Search
short_search = Some (record { width = 1; page = 0 ∷ 1 ∷ 7 ∷ 0 ∷ []; candidates = 0 ∷ 1 ∷ 2 ∷ [] })

abbrev short_answers : Option Search → List Ask → Option (List ℕ)
short_answers search requests = (answers_by (ram_answer as_it_stands short_pages) search requests).out

abbrev pub RamAnswerCases : Type 0
RamAnswerCases =
    (short_answers None (ask.List ∷ ask.Narrow 9 Same ∷ [])
    ≡ Some (codes "refused no search\nrefused no search\n"))
    × (short_answers None (ask.Watch 0 2 0 2 ∷ []) ≡ Some (codes "watch 0 256 257 258\n"))
    × (short_answers None (ask.Watch 65535 2 0 0 ∷ ask.Watch 0 1 0 3 ∷ ask.Start 4 3 ∷ [])
    ≡ Some (codes "refused outside\nrefused no frame\nrefused no frame\n"))
    × (short_answers short_search (ask.Start 1 3 ∷ ask.Narrow 2 Same ∷ ask.List ∷ [])
    ≡ Some (codes "refused no frame\nfound 2\n1\n2\n"))

pub ram-answer-cases : RamAnswerCases
unfolding answers_by digits
ram-answer-cases = (refl, refl, refl, refl)
