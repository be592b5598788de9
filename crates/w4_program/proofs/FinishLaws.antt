-- Only `compare` tells of a difference: what any other command is done with is that all was written.
use Rattle.std.proofs.Common.{◌≡◌, ℕ, ◌+◌, ◌-◌, List, [], length, Option, Some, None, option_map, refl, ap}
use Rattle.std.specs.Prelude.{Result, Ok, Err}
use Rattle.w4_defs.specs.declared.status.Finish.{Finish}
use Rattle.w4_defs.specs.declared.status.Finish.TheVariants.{Done, Different}
use Rattle.w4_defs.specs.declared.status.Refusal.{Refusal}
use Rattle.w4_defs.specs.Causes.{IsWhole}
use Rattle.w4_defs.specs.Commands.{Form, Check, Blank, Frames, Tones, Trace, Disk, Edit, Make, Net, Ram, Wave}
use Rattle.w4_defs.specs.Commands.{Batch, Serve, Units, Compare, Rebind, Inputs, BlankDisk}
use Rattle.w4_defs.specs.Endings.{status_of_finish}
use Rattle.w4_defs.specs.declared.place_text.PlaceText.TheVariants.{Image, Schedule, Traces, DiskBytes}
use Rattle.w4_defs.specs.InputsText.{inputs_text}
use Rattle.w4_defs.specs.Live.{Opened, Talk, first_live_session, serve_output, serve_result, served}
use Rattle.w4_defs.specs.Live.{session_events}
use Rattle.w4_defs.specs.Output.{◌>>=◌, CartFile, Output, blank_recording, checked, edit_answers, edit_files}
use Rattle.w4_defs.specs.Output.{edit_output, edit_result, disk_output, images_output, make_output, made_text}
use Rattle.w4_defs.specs.Output.{making, only_written, place_texts_from, printing, run_files, run_files_to}
use Rattle.w4_defs.specs.Output.{texts_output, written}
use Rattle.w4_defs.specs.Recording.{encoding}
use Rattle.w4_defs.specs.Outputs.{OutputsAlone, OutputsForm, OutputsOn, OverFile, OverJudged, cart_word}
use Rattle.w4_defs.specs.Promise.{IsDoneBy}
use Rattle.w4_defs.specs.RecordingOutputs.{any_recording_in, blank_disk_output, disk_in, inputs_output}
use Rattle.w4_defs.specs.RecordingOutputs.{rebind_output, rebound, run_units, units_output}
use Rattle.w4_defs.specs.ToolOutputs.{batch_files, batch_output, batch_text, net_files, net_output, net_text}
use Rattle.w4_defs.specs.ToolOutputs.{ram_files, ram_output, ram_text, wave_output, wave_text}
use Rattle.w4_defs.specs.World.{Files}

-- each output of these kinds has no difference to tell

written_done : (out : List ℕ) (made : Output) → written out ≡ Some (Ok made) → made.finish ≡ Done
written_done out made is = cc

abbrev ok_result : Output → Result Output Refusal
ok_result made = Ok made

abbrev as_made : Option Output → Option (Result Output Refusal)
as_made found = option_map Ok found

ok_made : (found : Option Output) (made : Output) → as_made found ≡ Some (Ok made) → found ≡ Some made
ok_made None made is = absurd cc
ok_made (Some output) made is = cc

mapped_done : {X : Type 0} (make : X → Output) (found : Option X) (made : Output)
    → ((x : X) → (make x).finish ≡ Done) → option_map make found ≡ Some made → made.finish ≡ Done
mapped_done make None made done is = absurd cc
mapped_done make (Some x) made done is = let same = done x in cc

making_done : {Y : Type 0} (read : Result Y Refusal) (make : Y → Option Output) (made : Output)
    → ((y : Y) (output : Output) → make y ≡ Some output → output.finish ≡ Done)
    → making read make ≡ Some (Ok made) → made.finish ≡ Done
making_done (Ok y) make made done is = done y made (ok_made (make y) made is)
making_done (Err refusal) make made done is = absurd cc

printing_done : {Y : Type 0} (read : Result Y Refusal) (text : Y → Option (List ℕ)) (made : Output)
    → printing read text ≡ Some (Ok made) → made.finish ≡ Done
printing_done read text made is =
    making_done read (λ y. option_map only_written (text y)) made
    (λ y output told. mapped_done only_written (text y) output (λ out. refl) told) is

read_done : {Y : Type 0} (read : Result Y Refusal) (text : Y → List ℕ) (made : Output)
    → (read >>= λ y. Ok (only_written (text y))) ≡ Ok made → made.finish ≡ Done
read_done (Ok y) text made is = cc
read_done (Err refusal) text made is = absurd cc

texts_done : (text : Option (List ℕ)) (made : Output)
    → option_map (λ (out : List ℕ). ok_result (only_written out)) text ≡ Some (Ok made) → made.finish ≡ Done
texts_done None made is = absurd cc
texts_done (Some out) made is = cc

made_done : (number : ℕ) (made : Output) → make_output number ≡ Some (Ok made) → made.finish ≡ Done
made_done number made is =
    texts_done (made_text number) made is

inputs_done : (recording : List ℕ) (files : Files) (made : Output) → inputs_output recording files ≡ Ok made
    → made.finish ≡ Done
unfolding inputs_output
inputs_done recording files made is = read_done (any_recording_in files recording) inputs_text made is

served_finish : (opened : Opened) (talk : Talk) (made : Output) → served opened talk ≡ Some made
    → made.finish ≡ Done
served_finish opened talk made is =
    mapped_done (serve_result opened talk)
    (session_events opened (first_live_session opened) talk.saves talk.lines) made (λ events. refl) is

done_whole : (wanted : Finish) → IsWhole (status_of_finish wanted)
done_whole Done = tt
done_whole Different = tt

-- what a form other than `compare` is done with, over a cart that was judged
on_done : (form : Form) (talk : Talk) (cart : CartFile) (files : Files) (made : Output)
    → OutputsOn form talk cart files (Ok made) → IsDoneBy form (status_of_finish made.finish)
unfolding images_output disk_output texts_output edit_output net_output ram_output wave_output batch_output
    serve_output units_output rebind_output blank_disk_output
on_done (Check name) talk cart files made is = ap status_of_finish (written_done checked made is)
on_done (Blank name budget) talk cart files made is =
    ap status_of_finish (written_done (encoding 2 (blank_recording cart.digest budget [])) made is)
on_done (Frames words from to) talk cart files made is =
    ap status_of_finish
    (printing_done (run_files_to cart.digest words to files)
    (λ p. place_texts_from Image cart.code p from (to + 1 - from)) made is)
on_done (Tones words) talk cart files made is = ap status_of_finish
    (printing_done (run_files cart.digest words files)
    (λ p. place_texts_from Schedule cart.code p 0 (length p.recording.frames + 1)) made is)
on_done (Trace words) talk cart files made is = ap status_of_finish
    (printing_done (run_files cart.digest words files)
    (λ p. place_texts_from Traces cart.code p 0 (length p.recording.frames + 1)) made is)
on_done (Disk words place) talk cart files made is = ap status_of_finish
    (printing_done (run_files_to cart.digest words place files)
    (λ p. place_texts_from DiskBytes cart.code p place 1) made is)
on_done (Edit words) talk cart files made is = ap status_of_finish
    (making_done (edit_files cart.digest words files)
    (λ l. option_map (edit_result cart.code l words.out) (edit_answers cart.code l).out) made
    (λ l output told. mapped_done (edit_result cart.code l words.out) (edit_answers cart.code l).out output
    (λ out. refl) told) is)
on_done (Make number) talk cart files made is = ap status_of_finish (made_done number made is)
on_done (Net words) talk cart files made is = ap status_of_finish
    (printing_done (net_files words files) (net_text cart.code words.budget) made is)
on_done (Ram words query) talk cart files made is = ap status_of_finish
    (printing_done (ram_files cart.digest words query files) (ram_text cart.code) made is)
on_done (Wave words) talk cart files made is = ap status_of_finish
    (printing_done (run_files cart.digest words files) (wave_text cart.code) made is)
on_done (Batch words) talk cart files made is = ap status_of_finish
    (printing_done (batch_files words files) (batch_text cart) made is)
on_done (Serve words) talk cart files made is = ap status_of_finish
    (making_done (run_files cart.digest words.run files)
    (λ p. served (record { cart = cart.code; run = p; out = words.out }) talk) made
    (λ p output told. served_finish (record { cart = cart.code; run = p; out = words.out }) talk output told)
    is)
on_done (Units words) talk cart files made is = ap status_of_finish
    (printing_done (run_files cart.digest words files) (run_units cart.code) made is)
on_done (Compare words) talk cart files made is = done_whole made.finish
on_done (Rebind name recording) talk cart files made is = ap status_of_finish
    (read_done (any_recording_in files recording) (λ r. encoding 2 (rebound cart.digest r)) made is)
on_done (Inputs recording) talk cart files made is =
    ap status_of_finish (inputs_done recording files made is)
on_done (BlankDisk name budget disk) talk cart files made is = ap status_of_finish
    (read_done (disk_in files disk) (λ bytes. encoding 2 (blank_recording cart.digest budget bytes)) made is)

alone_done : (form : Form) (files : Files) (made : Output) → OutputsAlone form files (Ok made)
    → IsDoneBy form (status_of_finish made.finish)
alone_done (Make number) files made is = ap status_of_finish (made_done number made is)
alone_done (Inputs recording) files made is = ap status_of_finish (inputs_done recording files made is)
alone_done (Check cart) files made is = absurd is
alone_done (Blank cart budget) files made is = absurd is
alone_done (Frames words from to) files made is = absurd is
alone_done (Tones words) files made is = absurd is
alone_done (Trace words) files made is = absurd is
alone_done (Disk words place) files made is = absurd is
alone_done (Edit words) files made is = absurd is
alone_done (Net words) files made is = absurd is
alone_done (Ram words query) files made is = absurd is
alone_done (Wave words) files made is = absurd is
alone_done (Batch words) files made is = absurd is
alone_done (Serve words) files made is = absurd is
alone_done (Units words) files made is = absurd is
alone_done (Compare words) files made is = absurd is
alone_done (Rebind cart recording) files made is = absurd is
alone_done (BlankDisk cart budget disk) files made is = absurd is

over_judged_done : (form : Form) (talk : Talk) (files : Files) (cart : Result CartFile Refusal)
    (made : Output) → OverJudged (OutputsOn form talk) files cart (Ok made)
    → IsDoneBy form (status_of_finish made.finish)
over_judged_done form talk files (Ok cart) made is = on_done form talk cart files made is
over_judged_done form talk files (Err refusal) made is = absurd cc

over_done : (word : Option (List ℕ)) (form : Form) (talk : Talk) (files : Files) (made : Output)
    → OverFile word form talk files (Ok made) → IsDoneBy form (status_of_finish made.finish)
over_done None form talk files made is = alone_done form files made is
over_done (Some name) form talk files made (cart, judged, is) =
    over_judged_done form talk files cart made is

-- what is done by a form that is done
pub form_done : (form : Form) (talk : Talk) (files : Files) (made : Output)
    → OutputsForm form talk files (Ok made) → IsDoneBy form (status_of_finish made.finish)
form_done form talk files made is = over_done (cart_word form) form talk files made is
