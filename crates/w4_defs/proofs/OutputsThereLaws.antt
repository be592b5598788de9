-- What the program makes is there, where the runs of its cart have a meaning.
use Rattle.std.proofs.Common.{ℕ, ◌+◌, ◌-◌, List, [], ◌++◌, length, replicate, Option, Some, option_map, refl, ◌≡◌}
use Rattle.std.specs.Prelude.{IsSome, Result, Ok, Err}
use Rattle.std.specs.List.{range_with_len}
use Rattle.sha2.specs.Sha256.{sha256}
use Rattle.w4_defs.specs.declared.place_text.PlaceText.{PlaceText}
use Rattle.w4_defs.specs.declared.place_text.PlaceText.TheVariants.{Image, Schedule, Traces, DiskBytes}
use Rattle.w4_defs.specs.declared.status.Refusal.{Refusal}
use Rattle.w4_defs.specs.Batch.{file_row}
use Rattle.w4_defs.specs.Board.{console_setup}
use Rattle.w4_defs.specs.Commands.{Form, Check, Blank, Frames, Tones, Trace, Disk, Edit, Make, Net, Ram, Wave, Batch, Serve, Units, Compare, Rebind, Inputs, BlankDisk, RunWords, EditWords, NetWords, BatchWords, ServeWords, CompareWords}
use Rattle.w4_defs.specs.EncodeModule.{module_bytes}
use Rattle.w4_defs.specs.Generator.{made_module, made_inputs, made_frames, made_budget}
use Rattle.w4_defs.specs.LogAnswers.{first_session, net_answer}
use Rattle.w4_defs.specs.MadeSummary.{made_setup, summary_text}
use Rattle.w4_defs.specs.Meaning.{RunsHaveMeaning}
use Rattle.w4_defs.specs.Module.{WasmModule}
use Rattle.w4_defs.specs.Output.{CartFile, CartIn, JudgedCart, Loaded, Output, Played, blank_recording, checked, reading, edit_answers, edit_files, edit_output, edit_result, disk_output, images_output, made_text, making, moment_at, only_written, place_texts_from, printing, run_files, run_files_to, run_setup, texts_output}
use Rattle.w4_defs.specs.Live.{Opened, Talk, first_live_session, new_live_session, serve_output, serve_result, served, session_events}
use Rattle.w4_defs.specs.Outputs.{OutputsOn, cart_word}
use Rattle.w4_defs.specs.RecordingOutputs.{blank_disk_output, compare_files, compare_output, compared_runs, rebind_output, run_units, units_output}
use Rattle.w4_defs.specs.Recording.{encoding}
use Rattle.w4_defs.specs.OutputsThere.{CartsHaveMeaning, IsSecondJudged, MadeOutputsAreThere, OutputsAreThere}
use Rattle.w4_defs.specs.PlaceTexts.{as_it_stands, place_text}
use Rattle.w4_defs.specs.Run.{run_state}
use Rattle.w4_defs.specs.ScriptAnswers.{answer}
use Rattle.w4_defs.specs.Session.{new_session}
use Rattle.w4_defs.specs.Sound.{samples, wav_header}
use Rattle.w4_defs.specs.State.{Moment, FrameRecord}
use Rattle.w4_defs.specs.ToolOutputs.{BatchLoaded, NetLoaded, RamLoaded, batch_files, batch_output, batch_text, line_answer, live_order, net_files, net_output, net_text, ram_files, ram_output, ram_text, records_of, wave_output, wave_text}
use Rattle.w4_defs.specs.World.{Files}
use Rattle.w4_defs.proofs.UnitsThereLaws.{units_text_there}
use Rattle.w4_defs.proofs.ComparedThereLaws.{compared_there}
use Rattle.w4_defs.proofs.LiveThereLaws.{live_answer_there, session_events_there}
use Rattle.w4_defs.proofs.ThereLaws.{RunsAreThere, value_there, answer_there, answers_there, file_row_there, mapped_there, net_answer_there, place_text_there, places_there, rows_there, run_state_there, values_there}

-- ---- texts

module _ (m : WasmModule) (meant : RunsHaveMeaning m) where
  pub runs_there : (p : Played) → RunsAreThere (run_setup m p) p.recording.disk
  runs_there p = meant p.font p.recording.budget p.recording.disk

  pub moment_there : (p : Played) (place : ℕ) → IsSome (moment_at m p place)
  moment_there p place = runs_there p p.recording.frames place

  pub place_texts_there : (wanted : PlaceText) (p : Played) (from count : ℕ)
      → IsSome (place_texts_from wanted m p from count)
  place_texts_there wanted p from count =
      places_there (λ place. place_text as_it_stands wanted place (moment_at m p place))
      (λ place. place_text_there as_it_stands wanted place (moment_at m p place) (moment_there p place))
      from count

  pub edit_answers_there : (l : Loaded) → IsSome (edit_answers m l).out
  edit_answers_there l =
      let setup = run_setup m l.run in
      let disk = l.run.recording.disk in
      answers_there (answer as_it_stands setup disk) (answer_there as_it_stands setup disk (runs_there l.run))
      (new_session l.run.recording.frames 0) l.orders

  pub net_text_there : (budget : ℕ) (l : NetLoaded) → IsSome (net_text m budget l)
  net_text_there budget l =
      let setup = console_setup m l.font budget in
      answers_there (net_answer setup) (net_answer_there setup (meant l.font budget [])) first_session
      l.orders

  pub ram_text_there : (l : RamLoaded) → IsSome (ram_text m l)
  ram_text_there l =
      let r = l.run.recording in
      let setup = run_setup m l.run in
      answers_there (line_answer setup r.disk)
      (λ session line.
      live_answer_there as_it_stands setup r.disk (runs_there l.run) session (live_order line))
      (new_live_session r.frames) l.lines

  pub records_there : (p : Played) (places : ℕ) → IsSome (records_of m p places)
  records_there p places =
      values_there (λ place. option_map (λ (moment : Moment). moment.frame_record) (moment_at m p place))
      (λ place. mapped_there (λ (moment : Moment). moment.frame_record) (moment_at m p place)
      (moment_there p place))
      (range_with_len 0 places)

  pub wave_text_there : (p : Played) → IsSome (wave_text m p)
  wave_text_there p =
      let places = length p.recording.frames + 1 in
      mapped_there (λ (records : List FrameRecord). wav_header places ++ samples records)
      (records_of m p places)
      (records_there p places)

pub batch_text_there : (cart : CartFile) → RunsHaveMeaning cart.code → (l : BatchLoaded)
    → IsSome (batch_text cart l)
batch_text_there cart meant l =
    rows_there (file_row sha256 cart.code l.font cart.digest)
    (file_row_there sha256 cart.code l.font cart.digest meant) l.names l.recordings

pub made_text_there : (number : ℕ) → RunsHaveMeaning (made_module number) → IsSome (made_text number)
made_text_there number meant =
    let setup = made_setup number in
    let many = length (module_bytes (made_module number)) in
    mapped_there (summary_text sha256 many) (run_state setup [] (made_inputs number) made_frames)
    (run_state_there setup [] (meant (replicate 1792 0) made_budget []) (made_inputs number) made_frames)

-- ---- outputs

-- what a session is opened on
abbrev pub opened_on : CartFile → ServeWords → Played → Opened
opened_on cart words p = record { cart = cart.code; run = p; out = words.out }

-- a session over any lines is there
pub served_there : (o : Opened) → RunsHaveMeaning o.cart → (talk : Talk) → IsSome (served o talk)
served_there o meant talk = mapped_there (serve_result o talk)
    (session_events o (first_live_session o) talk.saves talk.lines)
    (session_events_there o meant (first_live_session o) talk.saves talk.lines)

abbrev no_talk : Talk
no_talk = record { lines = []; saves = [] }

-- runs of a cart that was judged have a meaning
law_of : CartsHaveMeaning → (read : Result (List ℕ) Refusal) (cart : CartFile) → JudgedCart read (Ok cart)
    → RunsHaveMeaning cart.code
law_of law (Ok bytes) cart judged = law bytes cart.code judged.0
law_of law (Err refusal) cart judged = absurd cc

pub making_there : {Y : Type 0} (read : Result Y Refusal) (make : Y → Option Output)
    → ((y : Y) → IsSome (make y)) → IsSome (making read make)
making_there (Ok y) make there = mapped_there Ok (make y) (there y)
making_there (Err refusal) make there = refl

pub printing_there : {Y : Type 0} (read : Result Y Refusal) (text : Y → Option (List ℕ))
    → ((y : Y) → IsSome (text y)) → IsSome (printing read text)
printing_there read text there =
    making_there read (λ y. option_map only_written (text y))
    (λ y. mapped_there only_written (text y) (there y))

pub made_outputs_are_there : MadeOutputsAreThere
made_outputs_are_there number meant =
    mapped_there (λ out. Ok (only_written out)) (made_text number) (made_text_there number meant)

-- what is there has a value
abbrev HasOutput : Option (Result Output Refusal) → Type 0
HasOutput found = (output : Result Output Refusal) × (found ≡ Some output)

module _ (cart : CartFile) (meant : RunsHaveMeaning cart.code) (files : Files) where
  texts_output_there : (wanted : PlaceText) (words : RunWords) → IsSome (texts_output wanted words cart files)
  unfolding texts_output
  texts_output_there wanted words = printing_there (run_files cart.digest words files)
      (λ p. place_texts_from wanted cart.code p 0 (length p.recording.frames + 1))
      (λ p. place_texts_there cart.code meant wanted p 0 (length p.recording.frames + 1))

  images_output_there : (words : RunWords) (from to : ℕ) → IsSome (images_output words from to cart files)
  unfolding images_output
  images_output_there words from to = printing_there (run_files_to cart.digest words to files)
      (λ p. place_texts_from Image cart.code p from (to + 1 - from))
      (λ p. place_texts_there cart.code meant Image p from (to + 1 - from))

  disk_output_there : (words : RunWords) (place : ℕ) → IsSome (disk_output words place cart files)
  unfolding disk_output
  disk_output_there words place = printing_there (run_files_to cart.digest words place files)
      (λ p. place_texts_from DiskBytes cart.code p place 1)
      (λ p. place_texts_there cart.code meant DiskBytes p place 1)

  edit_output_there : (words : EditWords) → IsSome (edit_output words cart files)
  unfolding edit_output
  edit_output_there words = making_there (edit_files cart.digest words files)
      (λ l. option_map (edit_result cart.code l words.out) (edit_answers cart.code l).out)
      (λ l. mapped_there (edit_result cart.code l words.out) (edit_answers cart.code l).out
      (edit_answers_there cart.code meant l))

  net_output_there : (words : NetWords) → IsSome (net_output words cart files)
  unfolding net_output
  net_output_there words = printing_there (net_files words files) (net_text cart.code words.budget)
      (net_text_there cart.code meant words.budget)

  ram_output_there : (words : RunWords) (query : List ℕ) → IsSome (ram_output words query cart files)
  unfolding ram_output
  ram_output_there words query = printing_there (ram_files cart.digest words query files)
      (ram_text cart.code) (ram_text_there cart.code meant)

  wave_output_there : (words : RunWords) → IsSome (wave_output words cart files)
  unfolding wave_output
  wave_output_there words = printing_there (run_files cart.digest words files)
      (wave_text cart.code) (wave_text_there cart.code meant)

  batch_output_there : (words : BatchWords) → IsSome (batch_output words cart files)
  unfolding batch_output
  batch_output_there words = printing_there (batch_files words files) (batch_text cart)
      (batch_text_there cart meant)

  units_output_there : (words : RunWords) → IsSome (units_output words cart files)
  unfolding units_output
  units_output_there words = printing_there (run_files cart.digest words files) (run_units cart.code)
      (units_text_there cart.code meant)

  serve_output_there : (words : ServeWords) (talk : Talk) → IsSome (serve_output words talk cart files)
  unfolding serve_output
  serve_output_there words talk = making_there (run_files cart.digest words.run files)
      (λ p. served (opened_on cart words p) talk)
      (λ p. served_there (opened_on cart words p) meant talk)

  compare_output_there : (words : CompareWords) (other : CartFile) → RunsHaveMeaning other.code
      → IsSome (compare_output words cart other files)
  unfolding compare_output
  compare_output_there words other also =
      making_there (compare_files words cart other files) (compared_runs cart.code other.code)
      (compared_there cart.code other.code meant also)

  -- over a second cart, which was judged
  compared_over : (words : CompareWords) (other : Result CartFile Refusal) → CartsHaveMeaning
      → CartIn words.other_cart files other
      → (output : Result Output Refusal) × OutputsOn (Compare words) no_talk cart files output
  compared_over words (Err refusal) law judged = (Err refusal, (Err refusal, judged, refl))
  compared_over words (Ok other) law judged =
      let found = value_there (compare_output words cart other files)
      (compare_output_there words other (law_of law (reading files words.other_cart 65537) other judged)) in
      (found.0, (Ok other, judged, found.1))

  -- of a form that names a cart
  pub output_there : (form : Form) (talk : Talk) → IsSome (cart_word form) → CartsHaveMeaning
      → IsSecondJudged form files → (output : Result Output Refusal) × OutputsOn form talk cart files output
  output_there (Check name) talk named law second = (Ok (only_written checked), refl)
  output_there (Blank name budget) talk named law second =
      (Ok (only_written (encoding 2 (blank_recording cart.digest budget []))), refl)
  output_there (Frames words from to) talk named law second =
      value_there (images_output words from to cart files) (images_output_there words from to)
  output_there (Tones words) talk named law second =
      value_there (texts_output Schedule words cart files) (texts_output_there Schedule words)
  output_there (Trace words) talk named law second =
      value_there (texts_output Traces words cart files) (texts_output_there Traces words)
  output_there (Disk words place) talk named law second =
      value_there (disk_output words place cart files) (disk_output_there words place)
  output_there (Edit words) talk named law second =
      value_there (edit_output words cart files) (edit_output_there words)
  output_there (Make number) talk named law second = absurd cc
  output_there (Net words) talk named law second =
      value_there (net_output words cart files) (net_output_there words)
  output_there (Ram words query) talk named law second =
      value_there (ram_output words query cart files) (ram_output_there words query)
  output_there (Wave words) talk named law second =
      value_there (wave_output words cart files) (wave_output_there words)
  output_there (Batch words) talk named law second =
      value_there (batch_output words cart files) (batch_output_there words)
  output_there (Serve words) talk named law second =
      value_there (serve_output words talk cart files) (serve_output_there words talk)
  output_there (Units words) talk named law second =
      value_there (units_output words cart files) (units_output_there words)
  output_there (Compare words) talk named law second =
      let other = second words.other_cart refl in
      compared_over words other.0 law other.1
  output_there (Rebind name recording) talk named law second = (rebind_output recording cart files, refl)
  output_there (Inputs recording) talk named law second = absurd cc
  output_there (BlankDisk name budget disk) talk named law second =
      (blank_disk_output budget disk cart files, refl)

pub outputs_are_there : OutputsAreThere
outputs_are_there form talk files cart named meant law second =
    output_there cart meant files form talk named law second
