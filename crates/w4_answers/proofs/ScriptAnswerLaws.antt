-- Answers that are written one after another.
use Rattle.std.proofs.Common.{◌≡◌, ℕ, ◌+◌, ◌<◌, ◌≤◌, List, [], ◌∷◌, length, get_or, Option, drop, false, pos}
use Rattle.std.proofs.Common.{refl, sym, ap, subst, ◌∙◌, add-one, drop-cons}
use Rattle.std.specs.Prelude.{OnOk, IfOk, Result, Ok, Err}
use Rattle.std.specs.Option.{ForSome}
use Rattle.std.proofs.Math.ListN.{drop_of_length-le}
use Rattle.w4_defs.specs.declared.order.Order.{Order}
use Rattle.w4_defs.specs.declared.order.Order.TheVariants.{Set}
use Rattle.w4_defs.specs.Reset.{Setup}
use Rattle.w4_defs.specs.Session.{Session}
use Rattle.w4_editor.specs.Editor.{Editing, editing_setup, KeepsRest, place_session}
use Rattle.w4_defs.specs.World.{World}
use Rattle.w4_answers.specs.Writing.{AppendsOut, StopsWriting}
use Rattle.w4_defs.specs.ScriptAnswers.{answer, answers}
use Rattle.w4_defs.specs.AllThere.{joined}
use Rattle.w4_defs.specs.Answers.{Answered, carried_out, answers_by}
use Rattle.w4_defs.specs.PlaceTexts.{as_it_stands}
use Rattle.w4_answers.specs.ScriptAnswers.{IsAnswered, answer_by}
use Rattle.w4_defs.specs.Endings.{Manner}
use Rattle.w4_answers.proofs.WritingLaws.{OwesThere, there_less, there_nothing, there_stopped}
use Rattle.w4_answers.proofs.DeskSessionLaws.{same_editing_setup, same_disk}

-- what a list of orders gives past its end
abbrev pub past_end : Order
past_end = Set 0 (record { pads = []; mouse_x = pos 0; mouse_y = pos 0; buttons = 0; reset = false })

-- an answer is the same by what the editor had at first
pub same_answer : (first old : Editing) (order : Order) → KeepsRest first old
    → answer_by as_it_stands old order
    ≡ answer as_it_stands (editing_setup first) first.disk (place_session old) order
same_answer first old order rest =
    λ i. answer as_it_stands (same_editing_setup first old rest i) (same_disk first old rest i)
    (place_session old) order

pub answered_at_first : (now after : World) (first old new : Editing) (order : Order)
    → KeepsRest first old
    → IsAnswered now after old new (answer_by as_it_stands old order)
    → IsAnswered now after old new
    (answer as_it_stands (editing_setup first) first.disk (place_session old) order)
answered_at_first now after first old new order rest h =
    subst (λ (a : Answered (Session ℕ)). IsAnswered now after old new a) (same_answer first old order rest) h

pub stopped_at_first : (now after : World) (why : Manner) (first old : Editing) (order : Order)
    → KeepsRest first old
    → ForSome (answer_by as_it_stands old order).out (λ out. StopsWriting now after why out)
    → ForSome (answer as_it_stands (editing_setup first) first.disk (place_session old) order).out
    (λ out. StopsWriting now after why out)
stopped_at_first now after why first old order rest h =
    subst (λ (a : Answered (Session ℕ)). ForSome a.out (λ out. StopsWriting now after why out))
    (same_answer first old order rest) h

-- the first order's answer, and those of the rest over the session that it leaves
answers-step : {S O : Type 0} (answer_of : S → O → Answered S) (s next : S) (orders : List O) (i : ℕ) (d : O)
    → i < length orders
    → next ≡ (answer_of s (get_or orders i d)).session
    → answers_by answer_of s (drop i orders)
    ≡ record {
      out =
          joined (answer_of s (get_or orders i d)).out (answers_by answer_of next (drop (i + 1) orders)).out;
      session = (answers_by answer_of next (drop (i + 1) orders)).session;
    }
unfolding answers_by
answers-step answer_of s next orders i d lt e =
    let first : drop i orders ≡ get_or orders i d ∷ drop (i + 1) orders =
    rw (add-one i) (drop-cons orders i d lt) in
    rw (first, e) refl

pub answers-out-step : {S O : Type 0} (first now after : World) (answer_of : S → O → Answered S) (s next : S)
    (orders : List O) (i : ℕ) (d : O) (whole : Option (List ℕ))
    → i < length orders
    → next ≡ (answer_of s (get_or orders i d)).session
    → ForSome (answer_of s (get_or orders i d)).out (λ out. AppendsOut now.events after.events out)
    → OwesThere first now (answers_by answer_of s (drop i orders)).out whole
    → OwesThere first after (answers_by answer_of next (drop (i + 1) orders)).out whole
answers-out-step first now after answer_of s next orders i d whole lt e more so_far =
    there_less first now after (answer_of s (get_or orders i d)).out
    (answers_by answer_of next (drop (i + 1) orders)).out whole more
    (subst (λ a. OwesThere first now a.out whole) (answers-step answer_of s next orders i d lt e) so_far)

-- one of them stopped
pub answers-stop : {S O : Type 0} (first now after : World) (why : Manner) (answer_of : S → O → Answered S)
    (s : S) (orders : List O) (i : ℕ) (d : O) (whole : Option (List ℕ))
    → i < length orders → first.write_faults ≤ now.write_faults
    → ForSome (answer_of s (get_or orders i d)).out (λ out. StopsWriting now after why out)
    → OwesThere first now (answers_by answer_of s (drop i orders)).out whole
    → ForSome whole (λ all. StopsWriting first after why all)
answers-stop first now after why answer_of s orders i d whole lt le h so_far =
    let one = answer_of s (get_or orders i d) in
    there_stopped first now after why one.out (answers_by answer_of one.session (drop (i + 1) orders)).out
    (answers_by answer_of s (drop i orders)).out whole
    (ap (λ a. a.out) (answers-step answer_of s one.session orders i d lt refl)) le so_far h

pub answers-session-step : {S O : Type 0} (answer_of : S → O → Answered S) (s next : S) (orders : List O)
    (i : ℕ) (d : O) (whole : S)
    → i < length orders
    → next ≡ (answer_of s (get_or orders i d)).session
    → (answers_by answer_of s (drop i orders)).session ≡ whole
    → (answers_by answer_of next (drop (i + 1) orders)).session ≡ whole
answers-session-step answer_of s next orders i d whole lt e so_far =
    sym (ap (λ a. a.session) (answers-step answer_of s next orders i d lt e)) ∙ so_far

pub answers-end : {S O : Type 0} (answer_of : S → O → Answered S) (s : S) (orders : List O) (i : ℕ)
    → length orders ≤ i → answers_by answer_of s (drop i orders) ≡ carried_out s
unfolding answers_by
answers-end answer_of s orders i le = rw (drop_of_length-le orders le) refl

-- all are answered
pub answers-done : (before after : World) (old new : Editing) (setup : Setup) (disk : List ℕ)
    (orders : List Order) (i : ℕ) (whole : Answered (Session ℕ))
    → length orders ≤ i
    → OwesThere before after (answers setup disk (place_session new) (drop i orders)).out whole.out
    → (answers setup disk (place_session new) (drop i orders)).session ≡ whole.session
    → KeepsRest old new → IsAnswered before after old new whole
answers-done before after old new setup disk orders i whole le owed so_far rest =
    let end = answers-end (answer as_it_stands setup disk) (place_session new) orders i le in record {
      out =
          there_nothing before after (answers setup disk (place_session new) (drop i orders)).out whole.out
          (ap (λ (a : Answered (Session ℕ)). a.out) end) owed;
      session = sym (ap (λ (a : Answered (Session ℕ)). a.session) end) ∙ so_far;
      rest = rest;
    }

pub on_ok : {X E : Type 0} {P : Type 0} (result : Result X E) → P → OnOk result P
on_ok (Ok x) h = h
on_ok (Err e) h = tt

pub if_ok_map : {X E : Type 0} {P Q : X → Type 0} (result : Result X E) → ((x : X) → P x → Q x)
    → IfOk result P → IfOk result Q
if_ok_map (Ok x) f h = f x h
if_ok_map (Err e) f h = h

pub on_ok_map : {X E : Type 0} {P Q : Type 0} (result : Result X E) → (P → Q) → OnOk result P → OnOk result Q
on_ok_map (Ok x) f h = f h
on_ok_map (Err e) f h = tt
