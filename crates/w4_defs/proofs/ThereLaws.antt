-- What is told is there, where the runs that it tells of have a meaning.
use Rattle.std.proofs.Common.{◌≡◌, ℕ, zero, suc, ◌+◌, ◌-◌, ◌<◌, ◌≤◌, arith, Bool, true, false, cond, List, [], ◌∷◌, ◌++◌, map, length, Option, Some, None, option_map, option_and_then, codes, refl}
use Rattle.std.specs.Prelude.{IsSome, Result, Ok, Err, nat_le, nat_lt, bytes_eq}
use Rattle.std.specs.List.{range_with_len}
use Rattle.w4_defs.specs.declared.batch.BatchRow.{BatchRow}
use Rattle.w4_defs.specs.declared.batch.BatchRow.TheVariants.{WrongCart}
use Rattle.w4_defs.specs.declared.console.Input.{Input}
use Rattle.w4_defs.specs.declared.editing.EditRefusal.{EditRefusal}
use Rattle.w4_defs.specs.declared.editing.EditRefusal.TheVariants.{FullRecording}
use Rattle.w4_defs.specs.declared.film_refusal.FilmRefusal.{FilmRefusal}
use Rattle.w4_defs.specs.declared.inspect.Ask.{Ask}
use Rattle.w4_defs.specs.declared.inspect.Ask.TheVariants as ask
use Rattle.w4_defs.specs.declared.inspect.Test.{Test}
use Rattle.w4_defs.specs.declared.net_refusal.NetRefusal.{NetRefusal}
use Rattle.w4_defs.specs.declared.netplay.NetOrder.{NetOrder}
use Rattle.w4_defs.specs.declared.netplay.NetOrder.TheVariants as net
use Rattle.w4_defs.specs.declared.netplay.Packet.{Packet}
use Rattle.w4_defs.specs.declared.order.Order.{Order}
use Rattle.w4_defs.specs.declared.order.Order.TheVariants as order
use Rattle.w4_defs.specs.declared.place_text.PlaceText.{PlaceText}
use Rattle.w4_defs.specs.declared.place_text.PlaceText.TheVariants.{Image, Schedule, Traces, DiskBytes}
use Rattle.w4_defs.specs.AllThere.{joined, all_joined, all_some}
use Rattle.w4_defs.specs.Answers.{Answered, answer_text, carried_out, answers_by}
use Rattle.w4_defs.specs.Batch.{batch_row, file_row, ran_row, run_row}
use Rattle.w4_defs.specs.BatchRows.{row_text, rows_text}
use Rattle.w4_defs.specs.Board.{console_setup}
use Rattle.w4_defs.specs.Bytes.{number_at}
use Rattle.w4_defs.specs.Film.{film_refusal, run_images}
use Rattle.w4_defs.specs.FrameTexts.{numbered, state_line}
use Rattle.w4_defs.specs.LogAnswers.{NetSession, answer_keep, answer_packet, if_passed, net_answer, net_draft, predicted_image, predicted_state}
use Rattle.w4_defs.specs.Meaning.{RunsHaveMeaning}
use Rattle.w4_defs.specs.Module.{WasmModule}
use Rattle.w4_defs.specs.PlaceTexts.{PieceForm, as_it_stands, moment_text, place_text, place_texts, state_text}
use Rattle.w4_defs.specs.QueryAnswers.{Pages, answer_narrow, outside, page_numbers, ram_answer, searched, watch_text}
use Rattle.w4_defs.specs.Recording.{Recording, recording_of}
use Rattle.w4_defs.specs.Reset.{Setup}
use Rattle.w4_defs.specs.Rollback.{net_inputs, packet_refusal}
use Rattle.w4_defs.specs.Run.{run, run_page, run_state}
use Rattle.w4_defs.specs.ScriptAnswers.{answer, answer_change, film_or_refused, if_place, no_frame, one_text, range_text, refusal_words, refused_line, state_answer}
use Rattle.w4_defs.specs.Search.{Search, begin, narrow}
use Rattle.w4_defs.specs.Session.{Session, places_alone, set_input, insert_input, delete_input, undo, redo, keep, keep_every, drop_kept, keep_refusal}
use Rattle.w4_defs.specs.State.{State, Moment}

-- ---- options

-- the value of what is there
pub value_there : {A : Type 0} (o : Option A) → IsSome o → (x : A) × (o ≡ Some x)
value_there (Some x) there = (x, refl)
value_there None there = absurd cc

pub is_there : {A : Type 0} (o : Option A) (x : A) → o ≡ Some x → IsSome o
is_there (Some y) x e = refl
is_there None x e = absurd cc

pub mapped_there : {A B : Type 0} (f : A → B) (o : Option A) → IsSome o → IsSome (option_map f o)
mapped_there f (Some x) there = refl
mapped_there f None there = there

pub joined_there : (first rest : Option (List ℕ)) → IsSome first → IsSome rest → IsSome (joined first rest)
joined_there (Some text) rest first_there rest_there = mapped_there (λ more. text ++ more) rest rest_there
joined_there None rest first_there rest_there = first_there

pub texts_there : {A : Type 0} (text : A → Option (List ℕ)) → ((x : A) → IsSome (text x)) → (xs : List A)
    → IsSome (all_joined (map text xs))
texts_there text there [] = refl
texts_there text there (x ∷ xs) =
    joined_there (text x) (all_joined (map text xs)) (there x) (texts_there text there xs)

-- the texts of places that are within these bounds
pub texts_within : (text : ℕ → Option (List ℕ)) (from count : ℕ)
    → ((place : ℕ) → from ≤ place → place < from + count → IsSome (text place))
    → IsSome (place_texts text from count)
texts_within text from zero there = refl
texts_within text from (suc count) there =
    joined_there (text from) (place_texts text (from + 1) count)
    (there from (omega arith) (omega arith))
    (texts_within text (from + 1) count (λ place low high. there place (omega arith) (omega arith)))

pub one_more_there : {A : Type 0} (first : Option A) (rest : Option (List A)) → IsSome first → IsSome rest
    → IsSome (option_and_then (λ value. option_map (λ values. value ∷ values) rest) first)
one_more_there (Some value) rest first_there rest_there =
    mapped_there (λ values. value ∷ values) rest rest_there
one_more_there None rest first_there rest_there = first_there

pub values_there : {A B : Type 0} (value : A → Option B) → ((x : A) → IsSome (value x)) → (xs : List A)
    → IsSome (all_some (map value xs))
values_there value there [] = refl
values_there value there (x ∷ xs) =
    one_more_there (value x) (all_some (map value xs)) (there x) (values_there value there xs)

-- ---- runs

-- each run over a disk has a meaning, whatever the inputs, at every place
abbrev pub RunsAreThere : Setup → List ℕ → Type 0
RunsAreThere setup disk = (inputs : List Input) (place : ℕ) → IsSome (run setup disk inputs place)

pub place_text_there : (form : PieceForm) (wanted : PlaceText) (place : ℕ) (moment : Option Moment)
    → IsSome moment → IsSome (place_text form wanted place moment)
place_text_there form wanted place moment there =
    mapped_there (λ m. form (moment_text wanted place m)) moment there

pub state_text_there : (form : PieceForm) (place count : ℕ) (moment : Option Moment) (kept : List ℕ)
    → IsSome moment → IsSome (state_text form place count moment kept)
state_text_there form place count moment kept there =
    mapped_there (λ (m : Moment). form (state_line place count m.state kept)) moment there

pub places_there : (text : ℕ → Option (List ℕ)) → ((place : ℕ) → IsSome (text place)) → (from count : ℕ)
    → IsSome (place_texts text from count)
places_there text there from count = texts_there text there (range_with_len from count)

pub run_images_there : (setup : Setup) (disk : List ℕ) → RunsAreThere setup disk → (inputs : List Input)
    (place count : ℕ) → IsSome (run_images setup disk inputs place count)
unfolding run_images
run_images_there setup disk there inputs place count =
    places_there (λ p. place_text as_it_stands Image p (run setup disk inputs p))
    (λ p. place_text_there as_it_stands Image p (run setup disk inputs p) (there inputs p)) place count

pub run_state_there : (setup : Setup) (disk : List ℕ) → RunsAreThere setup disk → (inputs : List Input)
    (place : ℕ) → IsSome (run_state setup disk inputs place)
run_state_there setup disk there inputs place =
    mapped_there (λ (moment : Moment). moment.state) (run setup disk inputs place) (there inputs place)

pub run_page_there : (setup : Setup) (disk : List ℕ) → RunsAreThere setup disk → (inputs : List Input)
    (place : ℕ) → IsSome (run_page setup disk inputs place)
run_page_there setup disk there inputs place =
    mapped_there (λ (state : State). state.page) (run_state setup disk inputs place)
    (run_state_there setup disk there inputs place)

-- ---- answers, one after another

pub answers_there : {S O : Type 0} (by_one : S → O → Answered S) → ((session : S) (o : O)
    → IsSome (by_one session o).out) → (session : S) (orders : List O)
    → IsSome (answers_by by_one session orders).out
unfolding answers_by
answers_there by_one there session [] = refl
answers_there by_one there session (o ∷ orders) =
    let first = by_one session o in
    joined_there first.out (answers_by by_one first.session orders).out (there session o)
    (answers_there by_one there first.session orders)

answered_there : {S : Type 0} (test : Bool) (one other : Answered S) → IsSome one.out → IsSome other.out
    → IsSome (cond test one other).out
answered_there true one other one_there other_there = one_there
answered_there false one other one_there other_there = other_there

pub chosen_there : {A : Type 0} (test : Bool) (one other : Option A) → IsSome one → IsSome other
    → IsSome (cond test one other)
chosen_there true one other one_there other_there = one_there
chosen_there false one other one_there other_there = other_there

-- ---- a script's

change_there : (form : PieceForm) (session : Session ℕ) (result : Result (Session ℕ) EditRefusal)
    → IsSome (answer_change form session result).out
change_there form session (Ok after) = refl
change_there form session (Err refusal) = refl

film_there : (form : PieceForm) (images : Option (List ℕ)) (refusal : Option FilmRefusal) → IsSome images
    → IsSome (film_or_refused form images refusal)
film_there form images None there = there
film_there form images (Some refusal) there = refl

pub place_there : (form : PieceForm) (session : Session ℕ) (last : ℕ) (out : Option (List ℕ)) → IsSome out
    → IsSome (if_place form session last out)
place_there form session last out there =
    chosen_there (nat_le last (length session.current.inputs)) out (Some (form no_frame)) there refl

module _ (form : PieceForm) (setup : Setup) (disk : List ℕ) (there : RunsAreThere setup disk) where
  pub one_there : (session : Session ℕ) (wanted : PlaceText) (p : ℕ)
      → IsSome (one_text form setup disk session wanted p)
  one_there session wanted p = place_text_there form wanted p (run setup disk session.current.inputs p)
      (there session.current.inputs p)

  pub range_there : (session : Session ℕ) (wanted : PlaceText) (a b : ℕ)
      → IsSome (range_text form setup disk session wanted a b)
  range_there session wanted a b =
      places_there (one_text form setup disk session wanted) (one_there session wanted) a (b + 1 - a)

  pub state_there : (session : Session ℕ) (p : ℕ) → IsSome (state_answer form setup disk session p)
  state_there session p = state_text_there form p (length session.current.inputs)
      (run setup disk session.current.inputs p) session.current.kept (there session.current.inputs p)

  pub answer_there : (session : Session ℕ) (o : Order) → IsSome (answer form setup disk session o).out
  answer_there s (order.Set k input) = change_there form s (set_input places_alone k input s)
  answer_there s (order.Insert k input) = change_there form s (insert_input places_alone k input s)
  answer_there s (order.Delete k) = change_there form s (delete_input places_alone k s)
  answer_there s order.Undo = change_there form s (undo s)
  answer_there s order.Redo = change_there form s (redo s)
  answer_there s (order.Keep p) = change_there form s (keep places_alone p s)
  answer_there s (order.KeepEvery every) = change_there form s (keep_every every s)
  answer_there s (order.DropKept p) = change_there form s (drop_kept places_alone p s)
  answer_there s (order.Settle workers) = refl
  answer_there s (order.Show p) = place_there form s p (one_text form setup disk s Image p)
      (one_there s Image p)
  answer_there s (order.Film a b workers) = film_there form (range_text form setup disk s Image a b)
      (film_refusal a b s.current.inputs) (range_there s Image a b)
  answer_there s (order.Tones a b) = place_there form s b (range_text form setup disk s Schedule a b)
      (range_there s Schedule a b)
  answer_there s (order.Traces a b) = place_there form s b (range_text form setup disk s Traces a b)
      (range_there s Traces a b)
  answer_there s (order.DiskAt p) = place_there form s p (one_text form setup disk s DiskBytes p)
      (one_there s DiskBytes p)
  answer_there s (order.StateAt p) = place_there form s p (state_answer form setup disk s p) (state_there s p)

-- ---- a log's

passed_there : (session : NetSession) (p : ℕ) (out : Option (List ℕ)) → IsSome out
    → IsSome (if_passed session p out)
passed_there session p out there =
    chosen_there (nat_le p session.frames) out (Some no_frame) there refl

packet_there : (session : NetSession) (packet : Packet) (refusal : Option NetRefusal)
    → IsSome (answer_packet session packet refusal).out
packet_there session packet None = refl
packet_there session packet (Some refusal) = refl

kept_there : (session : NetSession) (p : ℕ) (refusal : Option EditRefusal)
    → IsSome (answer_keep session p refusal).out
kept_there session p None = refl
kept_there session p (Some refusal) = refl

pub net_answer_there : (setup : Setup) → RunsAreThere setup [] → (session : NetSession) (o : NetOrder)
    → IsSome (net_answer setup session o).out
net_answer_there setup there s (net.Pad packet) = packet_there s packet (packet_refusal s.known packet)
net_answer_there setup there s net.Next =
    answered_there (nat_lt s.frames 36000) (carried_out (record s { frames = s.frames + 1 }))
    (answer_text s (Some (refused_line (refusal_words FullRecording)))) refl refl
net_answer_there setup there s (net.Keep p) = kept_there s p (keep_refusal places_alone p (net_draft s))
net_answer_there setup there s (net.Show p) =
    let inputs = net_inputs s.known s.frames in
    passed_there s p (predicted_image setup s p)
    (place_text_there as_it_stands Image p (run setup [] inputs p) (there inputs p))
net_answer_there setup there s (net.StateAt p) =
    let inputs = net_inputs s.known s.frames in
    passed_there s p (predicted_state setup s p)
    (state_text_there as_it_stands p s.frames (run setup [] inputs p) s.kept (there inputs p))

-- ---- a query's

abbrev pub PagesAreThere : Pages → Type 0
PagesAreThere pages = (place : ℕ) → IsSome (pages.at place)

searched_there : (search : Option Search) (go : List ℕ → Search) (page : Option (List ℕ)) → IsSome page
    → IsSome (searched search go page).out
searched_there search go (Some page) there = refl
searched_there search go None there = there

module _ (form : PieceForm) (pages : Pages) (there : PagesAreThere pages) where
  pub numbers_there : (address width a b : ℕ) → IsSome (page_numbers pages address width a b)
  numbers_there address width a b =
      values_there (λ p. option_map (λ page. number_at page address width) (pages.at p))
      (λ p. mapped_there (λ page. number_at page address width) (pages.at p) (there p))
      (range_with_len a (b + 1 - a))

  pub watch_there : (address width a b : ℕ) → IsSome (watch_text form pages address width a b)
  watch_there address width a b =
      let told = λ (numbers : List ℕ). form (numbered (codes "watch") (address ∷ numbers)) in
      let found = option_map told (page_numbers pages address width a b) in
      chosen_there (nat_lt pages.last b) (Some (form no_frame))
      (cond (nat_lt 65536 (address + width)) (Some (form outside)) found) refl
      (chosen_there (nat_lt 65536 (address + width)) (Some (form outside)) found refl
      (mapped_there told (page_numbers pages address width a b) (numbers_there address width a b)))

  narrowed_there : (search : Option Search) (p : ℕ) (test : Test)
      → IsSome (answer_narrow form pages search p test).out
  narrowed_there None p test = refl
  narrowed_there (Some search) p test = answered_there (nat_le p pages.last)
      (searched (Some search) (λ page. narrow search (page, test)) (pages.at p))
      (answer_text (Some search) (Some (form no_frame)))
      (searched_there (Some search) (λ page. narrow search (page, test)) (pages.at p) (there p)) refl

  pub ram_answer_there : (search : Option Search) (asked : Ask)
      → IsSome (ram_answer form pages search asked).out
  ram_answer_there search (ask.Watch address width a b) = watch_there address width a b
  ram_answer_there search (ask.Start width p) = answered_there (nat_le p pages.last)
      (searched search (begin width) (pages.at p)) (answer_text search (Some (form no_frame)))
      (searched_there search (begin width) (pages.at p) (there p)) refl
  ram_answer_there search (ask.Narrow p test) = narrowed_there search p test
  ram_answer_there search ask.List = refl

-- ---- a batch's

row_there : (digest_of : List ℕ → List ℕ) (m : WasmModule) (font digest : List ℕ) → RunsHaveMeaning m
    → (r : Option Recording) → IsSome (batch_row digest_of m font digest r)
row_there digest_of m font digest meant None = refl
row_there digest_of m font digest meant (Some r) =
    let frames = length r.frames in
    let setup = console_setup m font r.budget in
    let ran = run_row digest_of m font r in
    chosen_there (bytes_eq r.digest digest) ran (Some WrongCart)
    (mapped_there (ran_row digest_of frames) (run_state setup r.disk r.frames frames)
    (run_state_there setup r.disk (meant font r.budget r.disk) r.frames frames)) refl

pub file_row_there : (digest_of : List ℕ → List ℕ) (m : WasmModule) (font digest : List ℕ)
    → RunsHaveMeaning m → (bytes : List ℕ) → IsSome (file_row digest_of m font digest bytes)
unfolding file_row
file_row_there digest_of m font digest meant bytes =
    row_there digest_of m font digest meant (recording_of bytes)

pub rows_there : {A : Type 0} (row : A → Option BatchRow) → ((x : A) → IsSome (row x))
    → (names : List (List ℕ)) (xs : List A) → IsSome (rows_text names (map row xs))
rows_there row there [] xs = refl
rows_there row there (name ∷ names) [] = refl
rows_there row there (name ∷ names) (x ∷ xs) =
    joined_there (option_map (row_text name) (row x)) (rows_text names (map row xs))
    (mapped_there (row_text name) (row x) (there x)) (rows_there row there names xs)
