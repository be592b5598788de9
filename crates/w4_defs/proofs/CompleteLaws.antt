-- Where all is there that a form names, its files are read as what they are, and the output is done.
use Rattle.std.proofs.Common.{◌≡◌, ℕ, ◌+◌, ◌-◌, ◌≤◌, List, [], ◌∷◌, length, Option, Some, option_map, refl, sym, ap, subst, ◌∙◌}
use Rattle.std.specs.Prelude.{IsSome, Result, Ok}
use Rattle.std.specs.List.{AllByRecursion}
use Rattle.std.proofs.lemmas.Bool.{le-leb}
use Rattle.std.proofs.lemmas.Slice.Eq.{bytes_eq-Decides}
use Rattle.w4_defs.specs.declared.inspect.QueryLine.{QueryLine}
use Rattle.w4_defs.specs.declared.netplay.NetOrder.{NetOrder}
use Rattle.w4_defs.specs.declared.order.Order.{Order}
use Rattle.w4_defs.specs.declared.place_text.PlaceText.{PlaceText}
use Rattle.w4_defs.specs.declared.place_text.PlaceText.TheVariants.{Image, Schedule, Traces, DiskBytes}
use Rattle.w4_defs.specs.declared.status.RecordingKind.TheVariants.{Bad}
use Rattle.w4_defs.specs.declared.status.Refusal.{Refusal}
use Rattle.w4_defs.specs.declared.status.Refusal.TheVariants.{ReadFault, RecordingRefused, ScriptRefused, ListRefused}
use Rattle.w4_defs.specs.Commands.{RunWords, EditWords, NetWords, BatchWords, Form, Check, Blank, Frames, Tones, Trace, Disk, Edit, Make, Net, Ram, Wave, Batch, ServeWords, CompareWords, Serve, Units, Compare, Rebind, Inputs, BlankDisk}
use Rattle.w4_defs.specs.Completeness.{HasCart, HasAnyRecording, HasDisk, HasRecording, HasFont, HasLines, HasRun, HasRest, IsCompleteOver, IsComplete}
use Rattle.w4_defs.specs.Generator.{made_module}
use Rattle.w4_defs.specs.Meaning.{RunsHaveMeaning}
use Rattle.w4_defs.specs.NameLists.{names_of}
use Rattle.w4_defs.specs.NetLog.{net_log_of}
use Rattle.w4_defs.specs.Output.{◌>>=◌, CartFile, CartIn, JudgedCart, any_recording, Loaded, Output, Played, cart_recording, checked, blank_recording, disk_output, edit_answers, edit_files, edit_output, edit_result, font_in, font_of, images_output, judged, made_text, make_output, making, of_cart, only_written, or_refuse, lines_or, orders_of, place_texts_from, printing, recording_in, run_files, run_files_to, script_in, texts_output}
use Rattle.w4_defs.specs.InputsText.{inputs_text}
use Rattle.w4_defs.specs.Live.{Talk, serve_output, served}
use Rattle.w4_defs.specs.Outputs.{OutputsForm, OutputsOn, OverCart, cart_word}
use Rattle.w4_defs.specs.RecordingOutputs.{TwoPlayed, any_recording_in, blank_disk_output, compare_files, compare_output, compared_runs, disk_in, disk_of, inputs_output, rebind_output, rebound, run_units, units_output}
use Rattle.w4_defs.specs.OneOutput.{OthersTakeNoLines}
use Rattle.w4_defs.specs.OutputsThere.{CartsHaveMeaning, CompleteIsDone}
use Rattle.w4_defs.specs.RamQuery.{query_of}
use Rattle.w4_defs.specs.Recording.{Recording, encoding}
use Rattle.w4_defs.specs.Script.{script_of}
use Rattle.w4_defs.specs.ToolOutputs.{BatchLoaded, NetLoaded, RamLoaded, batch_files, batch_output, batch_text, listed_files, listed_names, log_in, log_orders, names_in, net_files, net_output, net_text, query_in, query_lines, ram_files, ram_output, ram_text, wave_output, wave_text}
use Rattle.w4_defs.specs.World.{Files, front_of}
use Rattle.w4_defs.proofs.OutputsThereLaws.{opened_on, served_there, batch_text_there, edit_answers_there, made_text_there, net_text_there, place_texts_there, ram_text_there, wave_text_there}
use Rattle.w4_defs.proofs.UnitsThereLaws.{units_text_there}
use Rattle.w4_defs.proofs.ComparedThereLaws.{compared_there}
use Rattle.w4_defs.proofs.ThereLaws.{value_there}

-- ---- what was made of what was read

making_done : {Y : Type 0} (read : Result Y Refusal) (make : Y → Option Output) (y : Y) (made : Output)
    → read ≡ Ok y → make y ≡ Some made → making read make ≡ Some (Ok made)
making_done read make y made is there =
    ap (λ found. making found make) is ∙ ap (option_map Ok) there

-- of a text that is there
printing_done : {Y : Type 0} (read : Result Y Refusal) (text : Y → Option (List ℕ)) (y : Y)
    → read ≡ Ok y → IsSome (text y) → (made : Output) × (printing read text ≡ Some (Ok made))
printing_done read text y is there =
    let found = value_there (text y) there in (
      only_written found.0,
      making_done read (λ z. option_map only_written (text z)) y (only_written found.0) is
          (ap (option_map only_written) found.1),
    )

-- ---- files

judged_there : {A : Type 0} (limit : ℕ) (judge : List ℕ → Result A Refusal) (files : Files)
    (name bytes : List ℕ) (x : A) → front_of files name (limit + 1) ≡ Some bytes → judge bytes ≡ Ok x
    → judged limit judge files name ≡ Ok x
judged_there limit judge files name bytes x there is =
    ap (λ front. or_refuse ReadFault front >>= judge) there ∙ is

own_recording : (digest : List ℕ) (r : Recording) → r.digest ≡ digest → of_cart digest r ≡ Ok r
own_recording digest r same = rw ((bytes_eq-Decides r.digest digest).1 same) refl

any_recording_there : (files : Files) (name : List ℕ) (r : Recording) → HasAnyRecording files name r
    → any_recording_in files name ≡ Ok r
unfolding any_recording_in
any_recording_there files name r has =
    judged_there 361071 any_recording files name has.bytes r has.there
    (ap (or_refuse (RecordingRefused Bad)) has.encoded)

recording_there : (files : Files) (name digest : List ℕ) (r : Recording) → HasRecording files name digest r
    → recording_in digest files name ≡ Ok r
unfolding recording_in cart_recording
recording_there files name digest r has =
    judged_there 361071 (cart_recording digest) files name has.any.bytes r has.any.there
    (ap (λ found. or_refuse (RecordingRefused Bad) found >>= of_cart digest) has.any.encoded
    ∙ own_recording digest r has.of_cart)

disk_there : (files : Files) (name disk : List ℕ) → HasDisk files name disk → disk_in files name ≡ Ok disk
unfolding disk_in
disk_there files name disk has =
    judged_there 1024 disk_of files name disk disk has.there
    (let size = le-leb (length disk) 1024 has.size in rw size refl)

font_there : (files : Files) (name font : List ℕ) → HasFont files name font → font_in files name ≡ Ok font
unfolding font_in
font_there files name font has =
    judged_there 1792 font_of files name font font has.there (let size = has.size in rw size refl)

run_there : (files : Files) (words : RunWords) (digest : List ℕ) (run : Played)
    → HasRun files words digest run → run_files digest words files ≡ Ok run
unfolding run_files
run_there files words digest run has =
    let recording = recording_there files words.recording digest run.recording has.recording in
    let font = font_there files words.font run.font has.font in
    rw (recording, font) refl

run_to_there : (files : Files) (words : RunWords) (digest : List ℕ) (run : Played) (place : ℕ)
    → HasRun files words digest run → place ≤ length run.recording.frames
    → run_files_to digest words place files ≡ Ok run
unfolding run_files_to
run_to_there files words digest run place has within =
    let there = run_there files words digest run has in
    rw (there, le-leb place (length run.recording.frames) within) refl

script_there : (files : Files) (name : List ℕ) (orders : List Order)
    → HasLines files name 1048577 script_of orders → script_in files name ≡ Ok orders
unfolding script_in orders_of
script_there files name orders has =
    judged_there 1048576 orders_of files name has.bytes orders has.there
    (ap (lines_or ScriptRefused) has.read_as)

log_there : (files : Files) (name : List ℕ) (orders : List NetOrder)
    → HasLines files name 1048577 net_log_of orders → log_in files name ≡ Ok orders
unfolding log_in log_orders
log_there files name orders has =
    judged_there 1048576 log_orders files name has.bytes orders has.there
    (ap (lines_or ScriptRefused) has.read_as)

query_there : (files : Files) (name : List ℕ) (lines : List QueryLine)
    → HasLines files name 1048577 query_of lines → query_in files name ≡ Ok lines
unfolding query_in query_lines
query_there files name lines has =
    judged_there 1048576 query_lines files name has.bytes lines has.there
    (ap (lines_or ScriptRefused) has.read_as)

names_there : (files : Files) (name : List ℕ) (names : List (List ℕ))
    → HasLines files name 65537 names_of names → names_in files name ≡ Ok names
unfolding names_in listed_names
names_there files name names has =
    judged_there 65536 listed_names files name has.bytes names has.there
    (ap (lines_or ListRefused) has.read_as)

edit_there : (files : Files) (words : EditWords) (digest : List ℕ) (run : Played) (orders : List Order)
    → HasRun files words.run digest run → HasLines files words.script 1048577 script_of orders
    → edit_files digest words files ≡ Ok (record { run = run; orders = orders })
unfolding edit_files
edit_there files words digest run orders has lines =
    let first = run_there files words.run digest run has in
    let script = script_there files words.script orders lines in
    rw (first, script) refl

net_there : (files : Files) (words : NetWords) (font : List ℕ) (orders : List NetOrder)
    → HasFont files words.font font → HasLines files words.log 1048577 net_log_of orders
    → net_files words files ≡ Ok (record { font = font; orders = orders })
unfolding net_files
net_there files words font orders has lines =
    let first = font_there files words.font font has in
    let log = log_there files words.log orders lines in
    rw (first, log) refl

ram_there : (files : Files) (words : RunWords) (query digest : List ℕ) (run : Played) (lines : List QueryLine)
    → HasRun files words digest run → HasLines files query 1048577 query_of lines
    → ram_files digest words query files ≡ Ok (record { run = run; lines = lines })
unfolding ram_files
ram_there files words query digest run lines has asked =
    let first = run_there files words digest run has in
    let found = query_there files query lines asked in
    rw (first, found) refl

one_more_read : (files : Files) (name bytes : List ℕ) (names others : List (List ℕ))
    → front_of files name 361072 ≡ Some bytes → listed_files names files ≡ Ok others
    → listed_files (name ∷ names) files ≡ Ok (bytes ∷ others)
unfolding listed_files
one_more_read files name bytes names others there rest = rw (there, rest) refl

listed_there : (files : Files) (names : List (List ℕ))
    → AllByRecursion (λ name. IsSome (front_of files name 361072)) names
    → (recordings : List (List ℕ)) × (listed_files names files ≡ Ok recordings)
unfolding listed_files
listed_there files [] all = ([], refl)
listed_there files (name ∷ names) (first, others) =
    let bytes = value_there (front_of files name 361072) first in
    let rest = listed_there files names others in
    (bytes.0 ∷ rest.0, one_more_read files name bytes.0 names rest.0 bytes.1 rest.1)

batch_there : (files : Files) (words : BatchWords) (font : List ℕ) (names recordings : List (List ℕ))
    → HasFont files words.font font → HasLines files words.list 65537 names_of names
    → listed_files names files ≡ Ok recordings
    → batch_files words files ≡ Ok (record { font = font; names = names; recordings = recordings })
unfolding batch_files
batch_there files words font names recordings has list read =
    let first = font_there files words.font font has in
    let found = names_there files words.list names list in
    rw (first, found, read) refl

compare_there : (files : Files) (words : CompareWords) (one other : CartFile) (first second : Recording)
    (font : List ℕ) → HasRecording files words.recording one.digest first
    → HasRecording files words.other_recording other.digest second → HasFont files words.font font
    → (p : TwoPlayed) × (compare_files words one other files ≡ Ok p)
unfolding compare_files
compare_there files words one other first second font has also has_font =
    let one_read = recording_there files words.recording one.digest first has in
    let other_read = recording_there files words.other_recording other.digest second also in
    let font_read = font_there files words.font font has_font in (
      record {
        first = record { recording = first; font = font };
        second = record { recording = second; font = font };
      },
      rw (one_read, other_read, font_read) refl,
    )

-- ---- forms

abbrev IsDone : Form → Talk → CartFile → Files → Type 0
IsDone form talk cart files = (made : Output) × OutputsOn form talk cart files (Ok made)

-- a cart that is there is judged so
judged_cart : (files : Files) (name : List ℕ) (cart : CartFile) → HasCart files name cart
    → CartIn name files (Ok cart)
judged_cart files name cart has =
    subst (λ front. JudgedCart (or_refuse ReadFault front) (Ok cart)) (sym has.there)
    (has.accepted, has.digest)

module _ (files : Files) (cart : CartFile) (meant : RunsHaveMeaning cart.code) where
  texts_done : (wanted : PlaceText) (words : RunWords) (run : Played) → HasRun files words cart.digest run
      → (made : Output) × (texts_output wanted words cart files ≡ Some (Ok made))
  unfolding texts_output
  texts_done wanted words run has =
      let n = length run.recording.frames + 1 in
      printing_done (run_files cart.digest words files)
      (λ p. place_texts_from wanted cart.code p 0 (length p.recording.frames + 1)) run
      (run_there files words cart.digest run has) (place_texts_there cart.code meant wanted run 0 n)

  served_done : (words : ServeWords) (talk : Talk) (run : Played) → HasRun files words.run cart.digest run
      → (made : Output) × (serve_output words talk cart files ≡ Some (Ok made))
  unfolding serve_output
  served_done words talk run has =
      let o = opened_on cart words run in
      let found = value_there (served o talk) (served_there o meant talk) in (
        found.0,
        making_done (run_files cart.digest words.run files) (λ p. served (opened_on cart words p) talk) run
            found.0 (run_there files words.run cart.digest run has) found.1,
      )

  compared_done : (words : CompareWords) (other : CartFile) → RunsHaveMeaning other.code
      → (first second : Recording) (font : List ℕ) → HasRecording files words.recording cart.digest first
      → HasRecording files words.other_recording other.digest second → HasFont files words.font font
      → (made : Output) × (compare_output words cart other files ≡ Some (Ok made))
  unfolding compare_output
  compared_done words other also first second font has has_second has_font =
      let p = compare_there files words cart other first second font has has_second has_font in
      let found = value_there (compared_runs cart.code other.code p.0)
      (compared_there cart.code other.code meant also p.0) in (
        found.0,
        making_done (compare_files words cart other files) (compared_runs cart.code other.code) p.0 found.0
            p.1 found.1,
      )

  edited_done : (words : EditWords) (run : Played) (orders : List Order)
      → HasRun files words.run cart.digest run
      → HasLines files words.script 1048577 script_of orders
      → (made : Output) × (edit_output words cart files ≡ Some (Ok made))
  unfolding edit_output
  edited_done words run orders has lines =
      let l : Loaded = record { run = run; orders = orders } in
      let found = value_there (edit_answers cart.code l).out (edit_answers_there cart.code meant l) in (
        edit_result cart.code l words.out found.0,
        making_done (edit_files cart.digest words files)
            (λ z. option_map (edit_result cart.code z words.out) (edit_answers cart.code z).out) l
            (edit_result cart.code l words.out found.0)
            (edit_there files words cart.digest run orders has lines)
            (ap (option_map (edit_result cart.code l words.out)) found.1),
      )

  rebound_done : (name recording : List ℕ) (talk : Talk) (r : Recording) → HasAnyRecording files recording r
      → IsDone (Rebind name recording) talk cart files
  unfolding rebind_output
  rebound_done name recording talk r has =
      let read = any_recording_there files recording r has in
      (only_written (encoding 2 (rebound cart.digest r)), rw read refl)

  disk_done : (name : List ℕ) (budget : ℕ) (file : List ℕ) (talk : Talk) (disk : List ℕ)
      → HasDisk files file disk → IsDone (BlankDisk name budget file) talk cart files
  unfolding blank_disk_output
  disk_done name budget file talk disk has =
      let read = disk_there files file disk has in
      (only_written (encoding 2 (blank_recording cart.digest budget disk)), rw read refl)

  form_done : (form : Form) (talk : Talk) → CartsHaveMeaning → IsSome (cart_word form)
      → HasRest form cart.digest files → IsDone form talk cart files
  unfolding images_output disk_output net_output ram_output wave_output batch_output units_output
  form_done (Check name) talk law named rest = (only_written checked, refl)
  form_done (Blank name budget) talk law named rest =
      (only_written (encoding 2 (blank_recording cart.digest budget [])), refl)
  form_done (Frames words from to) talk law named (run, has, within) =
      printing_done (run_files_to cart.digest words to files)
      (λ p. place_texts_from Image cart.code p from (to + 1 - from)) run
      (run_to_there files words cart.digest run to has within)
      (place_texts_there cart.code meant Image run from (to + 1 - from))
  form_done (Tones words) talk law named (run, has) = texts_done Schedule words run has
  form_done (Trace words) talk law named (run, has) = texts_done Traces words run has
  form_done (Disk words place) talk law named (run, has, within) =
      printing_done (run_files_to cart.digest words place files)
      (λ p. place_texts_from DiskBytes cart.code p place 1) run
      (run_to_there files words cart.digest run place has within)
      (place_texts_there cart.code meant DiskBytes run place 1)
  form_done (Edit words) talk law named (run, has, orders, lines) = edited_done words run orders has lines
  form_done (Make number) talk law named rest = absurd cc
  form_done (Net words) talk law named (font, has, orders, lines) =
      let l : NetLoaded = record { font = font; orders = orders } in
      printing_done (net_files words files) (net_text cart.code words.budget) l
      (net_there files words font orders has lines) (net_text_there cart.code meant words.budget l)
  form_done (Ram words query) talk law named (run, has, lines, asked) =
      let l : RamLoaded = record { run = run; lines = lines } in
      printing_done (ram_files cart.digest words query files) (ram_text cart.code) l
      (ram_there files words query cart.digest run lines has asked) (ram_text_there cart.code meant l)
  form_done (Wave words) talk law named (run, has) =
      printing_done (run_files cart.digest words files) (wave_text cart.code) run
      (run_there files words cart.digest run has) (wave_text_there cart.code meant run)
  form_done (Batch words) talk law named (font, has, names, list, all) =
      let read = listed_there files names all in
      let l : BatchLoaded = record { font = font; names = names; recordings = read.0 } in
      printing_done (batch_files words files) (batch_text cart) l
      (batch_there files words font names read.0 has list read.1) (batch_text_there cart meant l)
  form_done (Serve words) talk law named (run, has) = served_done words talk run has
  form_done (Units words) talk law named (run, has) =
      printing_done (run_files cart.digest words files) (run_units cart.code) run
      (run_there files words cart.digest run has) (units_text_there cart.code meant run)
  form_done (Compare words) talk law named (other, has_cart, first, second, has, also, font, has_font) =
      let found = compared_done words other (law has_cart.bytes other.code has_cart.accepted) first second
      font has also has_font in
      (found.0, (Ok other, judged_cart files words.other_cart other has_cart, found.1))
  form_done (Rebind name recording) talk law named (r, has) = rebound_done name recording talk r has
  form_done (Inputs recording) talk law named rest = absurd cc
  form_done (BlankDisk name budget file) talk law named (disk, has) = disk_done name budget file talk disk has

made_done : (number : ℕ) (files : Files) → RunsHaveMeaning (made_module number)
    → (made : Output) × (make_output number ≡ Some (Ok made))
made_done number files meant =
    let found = value_there (made_text number) (made_text_there number meant) in
    (only_written found.0, ap (option_map (λ out. Ok (only_written out))) found.1)

inputs_done : (recording : List ℕ) (files : Files) (r : Recording) → HasAnyRecording files recording r
    → (made : Output) × (inputs_output recording files ≡ Ok made)
unfolding inputs_output
inputs_done recording files r has =
    let read = any_recording_there files recording r has in (only_written (inputs_text r), rw read refl)

module _ (talk : Talk) (files : Files) (law : CartsHaveMeaning) where
  named_done : (form : Form) (name : List ℕ) → IsSome (cart_word form) → IsCompleteOver (Some name) form files
      → (made : Output) × OverCart name (OutputsOn form talk) files (Ok made)
  named_done form name named (cart, has, rest) =
      let made = form_done files cart (law has.bytes cart.code has.accepted) form talk law named rest in
      (made.0, (Ok cart, judged_cart files name cart has, made.1))

  done_by : (form : Form) → ((number : ℕ) → RunsHaveMeaning (made_module number)) → IsComplete form files
      → (made : Output) × OutputsForm form talk files (Ok made)
  done_by (Check cart) made all = named_done (Check cart) cart refl all
  done_by (Blank cart budget) made all = named_done (Blank cart budget) cart refl all
  done_by (Frames words from to) made all = named_done (Frames words from to) words.cart refl all
  done_by (Tones words) made all = named_done (Tones words) words.cart refl all
  done_by (Trace words) made all = named_done (Trace words) words.cart refl all
  done_by (Disk words place) made all = named_done (Disk words place) words.cart refl all
  done_by (Edit words) made all = named_done (Edit words) words.run.cart refl all
  done_by (Make number) made all = made_done number files (made number)
  done_by (Net words) made all = named_done (Net words) words.cart refl all
  done_by (Ram words query) made all = named_done (Ram words query) words.cart refl all
  done_by (Wave words) made all = named_done (Wave words) words.cart refl all
  done_by (Batch words) made all = named_done (Batch words) words.cart refl all
  done_by (Serve words) made all = named_done (Serve words) words.run.cart refl all
  done_by (Units words) made all = named_done (Units words) words.cart refl all
  done_by (Compare words) made all = named_done (Compare words) words.cart refl all
  done_by (Rebind cart recording) made all = named_done (Rebind cart recording) cart refl all
  done_by (Inputs recording) made (r, has) = inputs_done recording files r has
  done_by (BlankDisk cart budget disk) made all = named_done (BlankDisk cart budget disk) cart refl all

pub complete_is_done : CompleteIsDone
complete_is_done form talk files law made all = done_by talk files law form made all

-- ---- lines

pub others_take_no_lines : OthersTakeNoLines
others_take_no_lines (Check cart) talk other files output none h = h
others_take_no_lines (Blank cart budget) talk other files output none h = h
others_take_no_lines (Frames words from to) talk other files output none h = h
others_take_no_lines (Tones words) talk other files output none h = h
others_take_no_lines (Trace words) talk other files output none h = h
others_take_no_lines (Disk words place) talk other files output none h = h
others_take_no_lines (Edit words) talk other files output none h = h
others_take_no_lines (Make number) talk other files output none h = h
others_take_no_lines (Net words) talk other files output none h = h
others_take_no_lines (Ram words query) talk other files output none h = h
others_take_no_lines (Wave words) talk other files output none h = h
others_take_no_lines (Batch words) talk other files output none h = h
others_take_no_lines (Serve words) talk other files output none h = absurd (none tt)
others_take_no_lines (Units words) talk other files output none h = h
others_take_no_lines (Compare words) talk other files output none h = h
others_take_no_lines (Rebind cart recording) talk other files output none h = h
others_take_no_lines (Inputs recording) talk other files output none h = h
others_take_no_lines (BlankDisk cart budget disk) talk other files output none h = h
