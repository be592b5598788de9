-- The pages of an editor whose recording stays.
use Rattle.std.proofs.Common.{◌≡◌, ℕ, List, Option, Some, option_map, ap, sym, ◌∙◌}
use Rattle.std.specs.Prelude.{Result, Ok, Err, IfOk}
use Rattle.w4_defs.specs.declared.console.Input.{Input}
use Rattle.w4_defs.specs.Reset.{Setup}
use Rattle.w4_defs.specs.Run.{run_page, run_state}
use Rattle.w4_defs.specs.State.{State}
use Rattle.w4_editor.specs.Editor.{Editing, editing_setup, with_session}
use Rattle.w4_editor.specs.Playing.{IsShown, KeepsRecording}
use Rattle.w4_inspect.specs.PlacePages.{page_at}
use Rattle.w4_inspect.specs.Watching.{value_at}

abbrev pages : Setup → List ℕ → List Input → ℕ → Option (List ℕ)
pages setup disk inputs p = run_page setup disk inputs p

-- whatever places were shown or brought up to date between
pub same_pages : (old new : Editing) → KeepsRecording old new → page_at new ≡ page_at old
same_pages old new keeps =
    ap (λ e. pages (editing_setup e) e.disk new.session.current.inputs) keeps.same
    ∙ ap (pages (editing_setup old) old.disk) keeps.inputs

-- the page of the state that is shown
pub page_shown : (p ticks_before ticks_after : ℕ) (old new : Editing) (state : State)
    → IsShown p ticks_before ticks_after old new
    → ((q : ℕ) → new.at ≡ Some q
    → run_state (editing_setup new) new.disk new.session.current.inputs q ≡ Some state)
    → page_at old p ≡ Some state.page
page_shown p ticks_before ticks_after old new state shown is =
    ap (λ pages. pages p) (sym (same_pages old new shown.recording))
    ∙ ap (λ (s : Option State). option_map (λ (x : State). x.page) s) (is p shown.at)

-- what is returned, if anything is, is what is wanted
pub if_ok_wanted : {A E : Type 0} (result : Result A E) (wanted : Option A) (made : A) → wanted ≡ Some made
    → IfOk result (λ given. given ≡ made) → IfOk result (λ given. wanted ≡ Some given)
if_ok_wanted (Ok given) wanted made is same = is ∙ ap Some (sym same)
if_ok_wanted (Err e) wanted made is same = same

-- a page that is read when another place is shown
pub moved_page : (e moved : Editing) (at : Option ℕ) (page : List ℕ) (p : ℕ)
    → moved ≡ with_session e e.session at → page_at moved p ≡ Some page → page_at e p ≡ Some page
moved_page e moved at page p is read = ap (λ m. page_at m p) (sym is) ∙ read

-- a value that is read when another place is shown
pub moved_value : (e moved : Editing) (at : Option ℕ) (x address width p : ℕ)
    → moved ≡ with_session e e.session at → value_at moved address width p ≡ Some x
    → value_at e address width p ≡ Some x
moved_value e moved at x address width p is value = ap (λ m. value_at m address width p) (sym is) ∙ value

-- and yet another place
pub moved_on : (e moved new : Editing) (at next : Option ℕ) → moved ≡ with_session e e.session at
    → new ≡ with_session moved moved.session next → new ≡ with_session e e.session next
moved_on e moved new at next is on = on ∙ ap (λ m. with_session m m.session next) is
