-- How the whole ended, put together from how its steps ended.
use Rattle.std.proofs.Common.{◌≡◌, ◌+◌, ℕ, inl, inr, List, [], ◌∷◌, ◌++◌, take, Option, Some, option_map}
use Rattle.std.proofs.Common.{Result, Ok, Err, refl, sym, subst, ap, ◌∙◌}
use Rattle.std.specs.Option.{ForSome}
use Rattle.std.specs.Prelude.{IsSome}
use Rattle.std.proofs.lemmas.List.{append-nil}
use Rattle.w4_defs.specs.Recording.{encoding}
use Rattle.w4_defs.specs.World.{Event, InputLost, Saved, Files, World, Rises, RisesBy, Does, FailsToSave}
use Rattle.w4_defs.specs.World.{OutFails, SavesOrFails, failed_saves, not_saved, LeavesReading, LeavesWriting}
use Rattle.w4_defs.specs.World.{wrote}
use Rattle.w4_house.proofs.WorldLaws.{reading_none, rises_later, take-wrote}
use Rattle.w4_defs.specs.declared.status.Finish.{Finish}
use Rattle.w4_defs.specs.declared.status.Refusal.{Refusal}
use Rattle.w4_defs.specs.declared.status.Refusal.TheVariants as refusal
use Rattle.w4_defs.specs.Endings.{Manner, ReadFailed, InputFailed, WriteFailed, MemoryRefused, Refused}
use Rattle.w4_defs.specs.Endings.{manner_of}
use Rattle.w4_defs.specs.Commands.{EditWords, Form}
use Rattle.w4_defs.specs.Live.{Talk}
use Rattle.w4_defs.specs.Output.{CartFile, CartIn, Output, Loaded, all_events, edit_files, edit_answers}
use Rattle.w4_defs.specs.Output.{edited_recording, only_written, edit_result, edit_output, making, printing}
use Rattle.w4_defs.specs.Output.{written}
use Rattle.w4_defs.specs.Outputs.{OutputsBy, OutputsOn, OverCart, OverFile, cart_word}
use Rattle.w4_defs.specs.Causes.{Ends, EndsRefused, RunsOutAfter, WritesPart, stopped_events}
use Rattle.w4_commands.specs.Edit.{Carried, StopsCarrying}
use Rattle.w4_commands.specs.Commands.{EndsDone, finished, MakesOf}
use Rattle.w4_commands.specs.Load.{ResultsIn, Stops}
use Rattle.w4_answers.specs.Writing.{StopsWriting, Written}
use Rattle.w4_defs.proofs.ThereLaws.{value_there}
use Rattle.w4_answers.proofs.LiveAnswerEventLaws.{failed-wrote}
use Rattle.w4_answers.proofs.WritingLaws.{does_later, front_does, written_does}

-- ---- what was done after files were read

abbrev pub Step : Type 1
Step = Files → Result Output Refusal → Type 0

fails_later : (first second third : World) (done saved : List Event) → LeavesReading first second
    → FailsToSave second third done saved → FailsToSave first third done saved
fails_later first second third done saved leaves (inl does) =
    inl (does_later first second third (done ++ not_saved saved) leaves does)
fails_later first second third done saved leaves (inr does) =
    inr (does_later first second third (done ++ saved ++ not_saved saved) leaves does)

out_fails_later : (first second third : World) (done : List Event) → LeavesReading first second
    → OutFails second third done → OutFails first third done
out_fails_later first second third done leaves out =
    subst (λ n. RisesBy (failed_saves done + 1) n third.write_faults) leaves.writes out

saves_later : (first second third : World) (done saved : List Event) → LeavesReading first second
    → SavesOrFails second third done saved → SavesOrFails first third done saved
saves_later first second third done saved leaves (inl does) =
    inl (does_later first second third (done ++ saved) leaves does)
saves_later first second third done saved leaves (inr fails) =
    inr (fails_later first second third done saved leaves fails)

part_later : (first second third : World) (output : Output) → LeavesReading first second
    → WritesPart second third output → WritesPart first third output
part_later first second third output leaves (inl (count, short, inl (does, out))) = inl (
  count,
  short,
  inl (
    does_later first second third (stopped_events output count) leaves does,
    out_fails_later first second third (stopped_events output count) leaves out,
  ),
)
part_later first second third output leaves (inl (count, short, inr (fails, out))) = inl (
  count,
  short,
  inr (
    fails_later first second third (take count output.events) (output.rescued count) leaves fails,
    out_fails_later first second third (take count output.events ++ not_saved (output.rescued count)) leaves
        out,
  ),
)
part_later first second third output leaves (inr (inl (count, wants, rise, fails))) = inr (inl (
  count,
  wants,
  rises_later first.read_faults second.read_faults third.read_faults leaves.later rise,
  fails_later first second third (take count output.events ++ InputLost ∷ []) (output.rescued count) leaves
      fails,
))
part_later first second third output leaves (inr (inr fails)) =
    inr (inr (fails_later first second third output.events output.saved leaves fails))

runs_out_later : (first second third : World) (output : Output) (count : ℕ) → LeavesReading first second
    → RunsOutAfter second third output count → RunsOutAfter first third output count
runs_out_later first second third output count leaves (inl does) =
    inl (does_later first second third (take count output.events) leaves does)
runs_out_later first second third output count leaves (inr (inl (before, near, saves))) = inr (inl (
  before,
  near,
  saves_later first second third (take count output.events) (output.rescued before) leaves saves,
))
runs_out_later first second third output count leaves (inr (inr (wants, inl does))) =
    inr (inr (
      wants,
      inl (does_later first second third (take count output.events ++ InputLost ∷ []) leaves
          does),
    ))
runs_out_later first second third output count leaves (inr (inr (wants, inr saves))) = inr (inr (
  wants,
  inr (saves_later first second third (take count output.events ++ InputLost ∷ []) (output.rescued count)
      leaves
      saves),
))

refused_later : (first second third : World) (why : Manner) (step : Step) → LeavesReading first second
    → EndsRefused second third why step → EndsRefused first third why step
refused_later first second third ReadFailed step leaves (inl rise, same) = (
  inl (rises_later first.read_faults second.read_faults third.read_faults leaves.later rise),
  (same.0 ∙ leaves.events, same.1 ∙ leaves.files),
)
refused_later first second third ReadFailed step leaves (inr (files, told, none), same) =
    (inr (files, sym leaves.files ∙ told, none), (same.0 ∙ leaves.events, same.1 ∙ leaves.files))
refused_later first second third InputFailed step leaves (rise, h) = (
  rises_later first.read_faults second.read_faults third.read_faults leaves.later rise,
  λ files told. let one = h files (leaves.files ∙ told) in (
    one.0,
    one.1,
    (
      one.2.0,
      one.2.1,
      does_later first second third
          (take one.2.0 one.0.events ++ InputLost ∷ one.0.rescued one.2.0) leaves one.2.2,
    ),
  ),
)
refused_later first second third WriteFailed step leaves (rise, h) = (
  subst (λ n. Rises n third.write_faults) leaves.writes rise,
  λ files told. let one = h files (leaves.files ∙ told) in
      (one.0, one.1, part_later first second third one.0 leaves one.2),
)
refused_later first second third MemoryRefused step leaves (inl same) =
    inl (same.0 ∙ leaves.events, same.1 ∙ leaves.files)
refused_later first second third MemoryRefused step leaves (inr h) = inr (λ files told.
    let one = h files (leaves.files ∙ told) in
    (one.0, one.1, one.2, runs_out_later first second third one.0 one.2 leaves one.3))
refused_later first second third (Refused why) step leaves (h, same) = (
  (λ files told. h files (leaves.files ∙ told)),
  (same.0 ∙ leaves.events, same.1 ∙ leaves.files),
)

pub ends_later : (first second third : World) (result : Result Finish Refusal) (step : Step)
    → LeavesReading first second → Ends second third result step → Ends first third result step
ends_later first second third (Ok finish) step leaves h = λ files told.
    let one = h files (leaves.files ∙ told) in
    (one.0, one.1, one.2, does_later first second third (all_events one.0) leaves one.3)
ends_later first second third (Err why) step leaves h =
    refused_later first second third (manner_of why) step leaves h

-- ---- a step in other words

-- what it allows of the files that the house tells, another allows
abbrev pub Allows : World → Step → Step → Type 0
Allows old step other =
    ForSome old.files (λ files. (output : Result Output Refusal) → step files output → other files output)

refused_as : (old new : World) (why : Manner) (step other : Step) → Allows old step other
    → EndsRefused old new why step → EndsRefused old new why other
refused_as old new ReadFailed step other more (inl rise, same) = (inl rise, same)
refused_as old new ReadFailed step other more (inr (files, told, none), same) =
    (inr (files, told, more files told (Err refusal.ReadFault) none), same)
refused_as old new InputFailed step other more (rise, h) =
    (rise, λ files told. let one = h files told in (one.0, more files told (Ok one.0) one.1, one.2))
refused_as old new WriteFailed step other more (rise, h) =
    (rise, λ files told. let one = h files told in (one.0, more files told (Ok one.0) one.1, one.2))
refused_as old new MemoryRefused step other more (inl same) = inl same
refused_as old new MemoryRefused step other more (inr h) =
    inr (λ files told. let one = h files told in (one.0, more files told (Ok one.0) one.1, one.2, one.3))
refused_as old new (Refused why) step other more (h, same) =
    ((λ files told. more files told (Err why) (h files told)), same)

pub ends_as : (old new : World) (result : Result Finish Refusal) (step other : Step) → Allows old step other
    → Ends old new result step → Ends old new result other
ends_as old new (Ok finish) step other more h = λ files told.
    let one = h files told in (one.0, more files told (Ok one.0) one.1, one.2, one.3)
ends_as old new (Err why) step other more h = refused_as old new (manner_of why) step other more h

-- ---- a step that only reads

module _ {Y : Type 0} (old new : World) (reading : Files → Result Y Refusal → Type 0) (step : Step)
    (leaves : LeavesReading old new)
    (more : (files : Files) (fault : Refusal) → reading files (Err fault) → step files (Err fault)) where
  unread_ends : (why : Manner) → Stops old new why reading → EndsRefused old new why step
  unread_ends ReadFailed (inl rise) = (inl rise, (leaves.events, leaves.files))
  unread_ends ReadFailed (inr (files, told, none)) =
      (inr (files, told, more files refusal.ReadFault none), (leaves.events, leaves.files))
  unread_ends InputFailed h = absurd h
  unread_ends WriteFailed h = absurd h
  unread_ends MemoryRefused h = inl (leaves.events, leaves.files)
  unread_ends (Refused fault) h =
      ((λ files told. more files fault (h files told)), (leaves.events, leaves.files))

  -- it stopped, and nothing was done
  pub ends_unread : (why : Refusal) → Stops old new (manner_of why) reading → Ends old new (Err why) step
  ends_unread why h = unread_ends (manner_of why) h

-- the cart wasn't read or is none
pub ends_unjudged : (old new : World) (why : Refusal) (name : List ℕ)
    (step : CartFile → Files → Result Output Refusal → Type 0) → LeavesReading old new
    → Stops old new (manner_of why) (λ files cart. CartIn name files cart)
    → Ends old new (Err why) (OverCart name step)
ends_unjudged old new why name step leaves h =
    ends_unread old new (λ files cart. CartIn name files cart) (OverCart name step) leaves
    (λ files fault none. (Err fault, none, refl)) why h

-- the cart was judged, and the rest ended so
pub ends_judged : (first second third : World) (result : Result Finish Refusal) (name : List ℕ)
    (cart : CartFile) (step : CartFile → Files → Result Output Refusal → Type 0)
    → LeavesReading first second
    → ForSome first.files (λ files. CartIn name files (Ok cart))
    → Ends second third result (step cart)
    → Ends first third result (OverCart name step)
ends_judged first second third result name cart step leaves given h =
    ends_as first third result (step cart) (OverCart name step)
    (λ files told output made. (Ok cart, given files told, made))
    (ends_later first second third result (step cart) leaves h)

-- of a form that names a cart, with any lines that a session may get
abbrev no_talk : Talk
no_talk = record { lines = []; saves = [] }

-- whatever the lines are
pub any_talk : (old new : World) (result : Result Finish Refusal) (step : Step) → Ends old new result step
    → Ends old new result (λ files output. (talk : Talk) × step files output)
any_talk old new result step h =
    ends_as old new result step (λ files output. (talk : Talk) × step files output)
    (λ files told output made. (no_talk, made)) h

pub by_any : {X : Type 0} (old new : World) (result : Result X Refusal) (step : Step)
    → EndsDone old new result step
    → Ends old new (finished result) (λ files output. (talk : Talk) × step files output)
by_any old new result step h = any_talk old new (finished result) step h

over_its_cart : (form : Form) (name : List ℕ) (talk : Talk) (files : Files)
    (output : Result Output Refusal) → cart_word form ≡ Some name
    → OverCart name (OutputsOn form talk) files output → OutputsBy form files output
over_its_cart form name talk files output is h =
    (talk, subst (λ word. OverFile word form talk files output) (sym is) h)

pub unjudged_form : (old new : World) (why : Refusal) (form : Form) (name : List ℕ)
    → cart_word form ≡ Some name
    → LeavesReading old new → Stops old new (manner_of why) (λ files cart. CartIn name files cart)
    → Ends old new (Err why) (OutputsBy form)
unjudged_form old new why form name is leaves h =
    ends_as old new (Err why) (OverCart name (OutputsOn form no_talk)) (OutputsBy form)
    (λ files told output over. over_its_cart form name no_talk files output is over)
    (ends_unjudged old new why name (OutputsOn form no_talk) leaves h)

pub judged_form : (first second third : World) (result : Result Finish Refusal) (form : Form) (name : List ℕ)
    (cart : CartFile) → cart_word form ≡ Some name → LeavesReading first second
    → ForSome first.files (λ files. CartIn name files (Ok cart))
    → Ends second third result (λ files output. (talk : Talk) × OutputsOn form talk cart files output)
    → Ends first third result (OutputsBy form)
judged_form first second third result form name cart is leaves given h =
    let on : Step = λ files output. (talk : Talk) × OutputsOn form talk cart files output in
    ends_as first third result on (OutputsBy form)
    (λ files told output some. over_its_cart form name some.0 files output is
    (Ok cart, given files told, some.1))
    (ends_later first second third result on leaves h)

-- what was to be read wasn't right, so that nothing was made of it
pub ends_unmade : {G : Type 0} (old new : World) (why : Refusal) (read : Files → Result G Refusal)
    (make : G → Option Output) → LeavesReading old new
    → Stops old new (manner_of why) (ResultsIn read)
    → Ends old new (Err why) (MakesOf (λ files. making (read files) make))
ends_unmade old new why read make leaves h =
    ends_unread old new (ResultsIn read) (MakesOf (λ files. making (read files) make)) leaves
    (λ files fault none. rw none refl) why h

pub ends_unprinted : {G : Type 0} (old new : World) (why : Refusal) (read : Files → Result G Refusal)
    (text : G → Option (List ℕ)) → LeavesReading old new
    → Stops old new (manner_of why) (ResultsIn read)
    → Ends old new (Err why) (MakesOf (λ files. printing (read files) text))
ends_unprinted old new why read text leaves h =
    ends_unmade old new why read (λ g. option_map only_written (text g)) leaves h

-- ---- bytes on standard output

-- nothing more is saved
nothing_saved : (old new : World) (done : List Event) → Does old new done → Does old new (done ++ [])
nothing_saved old new done does = subst (Does old new) (sym (append-nil done)) does

-- a write failed after so many of these bytes, and nothing was to be saved
no_saves : (count : ℕ) (bytes : List ℕ) → failed_saves (take count (wrote bytes) ++ []) ≡ 0
no_saves count bytes =
    ap failed_saves (append-nil (take count (wrote bytes)) ∙ take-wrote count bytes)
    ∙ failed-wrote (take count bytes)

pub only_out_fails : (old new : World) (count : ℕ) (bytes : List ℕ) → Rises old.write_faults new.write_faults
    → OutFails old new (take count (wrote bytes) ++ [])
only_out_fails old new count bytes rise =
    subst (λ n. RisesBy (n + 1) old.write_faults new.write_faults) (sym (no_saves count bytes)) rise

-- the bytes were written that a step allows
module _ (first second third : World) (leaves : LeavesReading first second)
    (rest : LeavesWriting second third) (out : List ℕ) (step : Step)
    (made : ForSome first.files (λ files. step files (Ok (only_written out)))) where
  text_stopped : (why : Manner) → StopsWriting second third why out → EndsRefused first third why step
  text_stopped ReadFailed h = absurd h
  text_stopped InputFailed h = absurd h
  text_stopped WriteFailed h =
      let rise = subst (λ n. Rises n third.write_faults) leaves.writes h.0 in (
        rise,
        λ files told. let front = front_does first second third out leaves rest h.1 in (
          only_written out,
          made files told,
          inl (
            front.0,
            inr refl,
            inl (
              nothing_saved first third (take front.0 (wrote out)) front.1,
              only_out_fails first third front.0 out rise,
            ),
          ),
        ),
      )
  text_stopped MemoryRefused h = inr (λ files told.
      let front = front_does first second third out leaves rest h in
      (only_written out, made files told, front.0, inl front.1))
  text_stopped (Refused why) h = absurd h

  pub ends_text : {X : Type 0} (result : Result X Refusal) → Written second third result out
      → EndsDone first third result step
  ends_text (Ok x) h = λ files told. (
    only_written out,
    made files told,
    refl,
    nothing_saved first third (wrote out) (written_does first second third out leaves rest h),
  )
  ends_text (Err why) h = text_stopped (manner_of why) h

-- bytes that need no further file and no run
pub ends_written : {X : Type 0} (old new : World) (result : Result X Refusal) (out : List ℕ)
    → LeavesWriting old new → Written old new result out
    → EndsDone old new result (MakesOf (λ files. written out))
ends_written old new result out rest h =
    ends_text old old new (reading_none old) rest out (MakesOf (λ files. written out)) (λ files told. refl)
    result h

-- what was made of what was read
pub ends_printed : {X G : Type 0} (first second third : World) (read : Files → Result G Refusal) (g : G)
    (text : G → Option (List ℕ)) → LeavesReading first second → LeavesWriting second third
    → ForSome first.files (λ files. read files ≡ Ok g) → IsSome (text g) → (result : Result X Refusal)
    → ForSome (text g) (λ out. Written second third result out)
    → EndsDone first third result (MakesOf (λ files. printing (read files) text))
ends_printed first second third read g text leaves rest given there result h =
    let told = value_there (text g) there in
    ends_text first second third leaves rest told.0 (MakesOf (λ files. printing (read files) text))
    (λ files known.
    ap (λ found. printing found text) (given files known)
    ∙ ap (λ (found : Option (List ℕ)). option_map Ok (option_map only_written found)) told.1) result
    (h told.0 told.1)

-- ---- an edit

module _ (first second third : World) (words : EditWords) (cart : CartFile) (l : Loaded)
    (leaves : LeavesReading first second)
    (given : ForSome first.files (λ files. edit_files cart.digest words files ≡ Ok l))
    (out : List ℕ) (is : (edit_answers cart.code l).out ≡ Some out) where
  edit_made : ForSome first.files (λ files.
      edit_output words cart files ≡ Some (Ok (edit_result cart.code l words.out out)))
  unfolding edit_output
  edit_made = λ files told. rw (given files told, is) refl

  edit_stopped : (why : Manner)
      → StopsCarrying second third why out words.out (encoding 2 (edited_recording cart.code l))
      → EndsRefused first third why (MakesOf (λ files. edit_output words cart files))
  edit_stopped ReadFailed h = absurd h
  edit_stopped InputFailed h = absurd h
  edit_stopped WriteFailed (rise, inl (count, does)) =
      let since = subst (λ n. Rises n third.write_faults) leaves.writes rise in (
        since,
        λ files told. (
          edit_result cart.code l words.out out,
          edit_made files told,
          inl (
            count,
            inr refl,
            inl (
              nothing_saved first third (take count (wrote out))
                  (does_later first second third (take count (wrote out)) leaves does),
              only_out_fails first third count out since,
            ),
          ),
        ),
      )
  edit_stopped WriteFailed (rise, inr fails) = (
    subst (λ n. Rises n third.write_faults) leaves.writes rise,
    λ files told. (
      edit_result cart.code l words.out out,
      edit_made files told,
      inr (inr (fails_later first second third (wrote out)
          (Saved words.out (encoding 2 (edited_recording cart.code l)) ∷ []) leaves fails)),
    ),
  )
  edit_stopped MemoryRefused (count, does) = inr (λ files told. (
    edit_result cart.code l words.out out,
    edit_made files told,
    count,
    inl (does_later first second third (take count (wrote out)) leaves does),
  ))
  edit_stopped (Refused why) h = absurd h

  pub ends_edit : {X : Type 0} (result : Result X Refusal)
      → Carried second third result out words.out (encoding 2 (edited_recording cart.code l))
      → EndsDone first third result (MakesOf (λ files. edit_output words cart files))
  ends_edit (Ok x) h = λ files told. (
    edit_result cart.code l words.out out,
    edit_made files told,
    refl,
    does_later first second third
        (wrote out ++ Saved words.out (encoding 2 (edited_recording cart.code l)) ∷ []) leaves h,
  )
  ends_edit (Err why) h = edit_stopped (manner_of why) h
