-- Rolling back an editor, one run of wrong inputs after another.
use Rattle.std.proofs.Common.{◌≡◌, ◌≢◌, ℕ, zero, suc, ◌+◌, ◌-◌, ◌<◌, ◌≤◌, Bool, false, List, [], ◌∷◌, ◌++◌}
use Rattle.std.proofs.Common.{length, take, drop, get_or, Some, None, refl, sym, ap, ◌∙◌, subst, inl, inr}
use Rattle.std.proofs.Common.{arith, append_assoc, append-nil, length-append, length-drop}
use Rattle.std.specs.Bool.{Decides}
use Rattle.std.specs.List.{slice_get}
use Rattle.std.proofs.lemmas.Bool.{cases_lt}
use Rattle.std.proofs.lemmas.List.{take-append-le, drop_all}
use Rattle.std.proofs.lemmas.List.FromFn.{length-map-range_with_len}
use Rattle.std.proofs.lemmas.Option.{same_Some, slice_get-get_or, slice_get_past}
use Rattle.std.proofs.lemmas.Slice.{drop-append-drop}
use Rattle.std.proofs.Math.Seq.{take-length}
use Rattle.w4_defs.specs.declared.console.Input.{Input}
use Rattle.w4_defs.specs.KeptList.{Entry}
use Rattle.w4_defs.specs.Rollback.{Known, net_input, net_inputs}
use Rattle.w4_defs.specs.Session.{Draft}
use Rattle.w4_defs.proofs.RollbackLaws.{inputs_grow}
use Rattle.w4_editor.specs.Editor.{Editing, with_session}
use Rattle.w4_editor.specs.Draft.{overwrite_draft}
use Rattle.w4_netplay.specs.Rollback.{IsPartlyRolled, IsRight, IsRolledTo, IsWritten, KeepsLinks, same_input}
use Rattle.w4_netplay.proofs.RollbackFrameLaws.{get_dropped, input_decides}
use Rattle.w4_netplay.proofs.RollbackLinkLaws.{links_all, links_fewer, links_between}

-- ---- one input

-- whether an input is the one that is there
pub is_found : (inputs : List Input) (k : ℕ) (there input : Input) (same : Bool) → k < length inputs
    → there ≡ get_or inputs k there → same ≡ same_input there input
    → Decides same (slice_get inputs k ≡ Some input)
is_found inputs k there input same within is tests =
    let found : slice_get inputs k ≡ Some there = slice_get-get_or inputs k there within ∙ ap Some (sym is) in
    let decides = input_decides there input in (
      λ yes. found ∙ ap Some (decides.0 (sym tests ∙ yes)),
      λ other. tests ∙ decides.1 (same_Some there input (sym found ∙ other)),
    )

pub is_past : (inputs : List Input) (k : ℕ) (input : Input) → length inputs ≤ k
    → Decides false (slice_get inputs k ≡ Some input)
is_past inputs k input past = (
  λ yes. absurd cc,
  λ other. absurd (let none = slice_get_past inputs k past in cc),
)

-- ---- the first so many inputs

pub net_length : (known : Known) (frames : ℕ) → length (net_inputs known frames) ≡ frames
unfolding net_inputs
net_length known frames = length-map-range_with_len (net_input known) 0 frames

pub rolled_none : (known : Known) (editor : Editing) → IsRolledTo known 0 editor editor
unfolding net_inputs
rolled_none known editor = record {
  rest = refl;
  inputs = refl;
  kept = links_all (IsRight known 0 editor.session.current.inputs) editor.session.current.kept;
}

pub rolled_length : (known : Known) (frames : ℕ) (old new : Editing) → IsRolledTo known frames old new
    → length new.session.current.inputs ≡ frames + (length old.session.current.inputs - frames)
rolled_length known frames old new rolled =
    let inputs = old.session.current.inputs in
    let net = net_length known frames in
    let rest = length-drop frames inputs in
    ap length rolled.inputs ∙ length-append (net_inputs known frames) (drop frames inputs)
    ∙ omega (arith, net, rest)

pub rolled_all : (known : Known) (frames : ℕ) (old new : Editing) → IsRolledTo known frames old new
    → length old.session.current.inputs ≤ frames
    → new.session.current.inputs ≡ net_inputs known frames
rolled_all known frames old new rolled few =
    rolled.inputs
    ∙ ap (λ (rest : List Input). net_inputs known frames ++ rest)
    (drop_all frames old.session.current.inputs few)
    ∙ append-nil (net_inputs known frames)

-- ---- one frame after another

-- rolled back but for a run of inputs that aren't the predicted ones, which is still to be written
pub record IsRolling (known : Known) (frames : ℕ) (old now : Editing) (run : List Input) : Type 0 where
  pub done : ℕ
  pub count : done + length run ≡ frames
  pub rolled : IsRolledTo known done old now
  pub inputs : net_inputs known frames ≡ net_inputs known done ++ run
  pub wrong : (k : ℕ) → done ≤ k → k < frames
      → slice_get old.session.current.inputs k ≢ Some (net_input known k)

pub rolling_none : (known : Known) (editor : Editing) → IsRolling known 0 editor editor []
unfolding net_inputs
rolling_none known editor = record {
  done = 0;
  count = refl;
  rolled = rolled_none known editor;
  inputs = refl;
  wrong = λ k from below. absurd (omega (arith, below));
}

-- the list around one element
parted_at : {A : Type 0} (xs : List A) (k : ℕ) (x : A) → slice_get xs k ≡ Some x
    → drop k xs ≡ x ∷ drop (k + 1) xs
parted_at [] k x is = absurd cc
parted_at (y ∷ xs) zero x is = λ i. same_Some y x is i ∷ xs
parted_at (y ∷ xs) (suc k) x is =
    let next : suc (k + 1) ≡ suc k + 1 = omega arith in
    parted_at xs k x is ∙ ap (λ n. x ∷ drop n (y ∷ xs)) next

-- a further input is still as it was
still : (known : Known) (done : ℕ) (old now : Editing) → IsRolledTo known done old now → (k : ℕ) → done ≤ k
    → slice_get now.session.current.inputs k ≡ slice_get old.session.current.inputs k
still known done old now rolled k past =
    let inputs : List Input = old.session.current.inputs in
    let net = net_inputs known done in
    let here : k ≡ done + (k - done) = omega (arith, past) in
    ap (λ (xs : List Input). slice_get xs k) rolled.inputs
    ∙ sym (get_dropped (net ++ drop done inputs) done (k - done) k here)
    ∙ ap (λ (xs : List Input). slice_get xs (k - done))
    (drop-append-drop done inputs net done (omega arith) (net_length known done))
    ∙ get_dropped inputs done (k - done) k here

-- a frame more, whose input is right
rolled_right : (known : Known) (frames : ℕ) (old now : Editing) → IsRolledTo known frames old now
    → slice_get old.session.current.inputs frames ≡ Some (net_input known frames)
    → IsRolledTo known (frames + 1) old now
rolled_right known frames old now rolled right =
    let inputs : List Input = old.session.current.inputs in
    let net = net_inputs known frames in
    let input = net_input known frames in record {
      rest = rolled.rest;
      inputs = rolled.inputs
          ∙ ap (λ (xs : List Input). net ++ xs) (parted_at inputs frames input right)
          ∙ sym (append_assoc net (input ∷ []) (drop (frames + 1) inputs))
          ∙ ap (λ (xs : List Input). xs ++ drop (frames + 1) inputs) (sym (inputs_grow known frames));
      kept = links_fewer (IsRight known frames inputs) (IsRight known (frames + 1) inputs)
          old.session.current.kept now.session.current.kept (λ k is lt. is (omega (arith, lt))) rolled.kept;
    }

module _ (known : Known) (frames : ℕ) (old now : Editing) (run : List Input)
    (rolling : IsRolling known frames old now run) where
  abbrev inputs : List Input
  inputs = old.session.current.inputs

  abbrev input : Input
  input = net_input known frames

  -- where the run begins
  pub run_within : (length run ≤ frames) × (frames ≤ length now.session.current.inputs + length run)
  run_within =
      let count = rolling.count in
      let long = rolled_length known rolling.done old now rolling.rolled in
      (omega (arith, count), omega (arith, count, long))

  -- a frame more, whose input isn't right
  pub rolling_wrong : (more : List Input) → more ≡ run ++ input ∷ []
      → slice_get now.session.current.inputs frames ≢ Some input
      → IsRolling known (frames + 1) old now more
  rolling_wrong more more_is other =
      let count = rolling.count in
      let past : rolling.done ≤ frames = omega (arith, count) in
      let long = ap length more_is ∙ length-append run (input ∷ []) in record {
        done = rolling.done;
        count = omega (arith, count, long);
        rolled = rolling.rolled;
        inputs = inputs_grow known frames
            ∙ ap (λ (xs : List Input). xs ++ input ∷ []) rolling.inputs
            ∙ append_assoc (net_inputs known rolling.done) run (input ∷ [])
            ∙ ap (λ (xs : List Input). net_inputs known rolling.done ++ xs) (sym more_is);
        wrong = λ k from below right. elim (cases_lt k frames) [
          | inl before ↦ rolling.wrong k from before right
          | inr last ↦
              let same : k ≡ frames = omega (arith, below, last) in
              other (still known rolling.done old now rolling.rolled frames past
              ∙ subst (λ j. slice_get inputs j ≡ Some (net_input known j)) same right)
        ];
      }

  -- memory ran out before the run was written
  pub partly : (all : ℕ) → frames ≤ all → IsPartlyRolled known all old now
  partly all few =
      let count = rolling.count in
      record { done = rolling.done; some_of = omega (arith, count, few); rolled = rolling.rolled }

-- nothing is to be written
none_left : (known : Known) (frames : ℕ) (old now : Editing) → IsRolling known frames old now []
    → IsRolledTo known frames old now
none_left known frames old now rolling =
    let count = rolling.count in
    let all : rolling.done ≡ frames = omega (arith, count) in
    subst (λ n. IsRolledTo known n old now) all rolling.rolled

-- the run is written
all_written : (known : Known) (frames : ℕ) (old now next : Editing) (run : List Input)
    → IsRolling known frames old now run → next ≡ with_session now next.session None
    → next.session.current ≡ overwrite_draft (frames - length run) run now.session.current
    → IsRolledTo known frames old next
all_written known frames old now next run rolling rest draft =
    let done = rolling.done in
    let count = rolling.count in
    let inputs : List Input = old.session.current.inputs in
    let now_inputs : List Input = now.session.current.inputs in
    let net = net_inputs known done in
    let long = net_length known done in
    let right : ℕ → Type 0 = IsRight known frames inputs in
    let from : frames - length run ≡ done = omega (arith, count) in
    let is = draft ∙ ap (λ n. overwrite_draft n run now.session.current) from in
    let front : take done now_inputs ≡ net =
    ap (take done) rolling.rolled.inputs
    ∙ take-append-le done net (drop done inputs) (omega (arith, long))
    ∙ ap (λ n. take n net) (sym long)
    ∙ take-length net in
    let back : drop (done + length run) now_inputs ≡ drop frames inputs =
    ap (drop (done + length run)) rolling.rolled.inputs
    ∙ drop-append-drop done inputs net (done + length run) (omega arith) long
    ∙ ap (λ n. drop n inputs) count in
    let at = ap (λ (e : Editing). e.at) rest in record {
      rest = rest ∙ ap (λ (e : Editing). with_session e next.session None) rolling.rolled.rest
          ∙ ap (with_session old next.session) (sym at);
      inputs = ap (λ (d : Draft Entry). d.inputs) is
          ∙ (λ i. front i ++ (run ++ back i))
          ∙ sym (append_assoc net run (drop frames inputs))
          ∙ ap (λ (xs : List Input). xs ++ drop frames inputs) (sym rolling.inputs);
      kept = subst (KeepsLinks right old.session.current.kept) (sym (ap (λ (d : Draft Entry). d.kept) is))
          (links_between right done (done + length run) old.session.current.kept now.session.current.kept
          (λ j from below right. rolling.wrong j from (omega (arith, below, count))
          (right (omega (arith, below, count))))
          (links_fewer (IsRight known done inputs) right old.session.current.kept now.session.current.kept
          (λ k is lt. is (omega (arith, lt, count))) rolling.rolled.kept));
    }

pub run_written : (known : Known) (frames : ℕ) (old now next : Editing) (run : List Input)
    → IsRolling known frames old now run → IsWritten (frames - length run) run now next
    → IsRolledTo known frames old next
run_written known frames old now next [] rolling same =
    subst (IsRolledTo known frames old) (sym same) (none_left known frames old now rolling)
run_written known frames old now next (input ∷ run) rolling written =
    all_written known frames old now next (input ∷ run) rolling written.0 written.1

-- and its end is a frame whose input is right
pub rolling_right : (known : Known) (frames : ℕ) (old now next : Editing) (run left : List Input)
    → IsRolling known frames old now run
    → slice_get now.session.current.inputs frames ≡ Some (net_input known frames)
    → IsWritten (frames - length run) run now next → left ≡ []
    → IsRolling known (frames + 1) old next left
rolling_right known frames old now next run left rolling right written left_is =
    let count = rolling.count in
    let past : rolling.done ≤ frames = omega (arith, count) in
    let was = sym (still known rolling.done old now rolling.rolled frames past) ∙ right in
    let rolled = run_written known frames old now next run rolling written in
    subst (IsRolling known (frames + 1) old next) (sym left_is) (record {
      done = frames + 1;
      count = omega arith;
      rolled = rolled_right known frames old next rolled was;
      inputs = sym (append-nil (net_inputs known (frames + 1)));
      wrong = λ k from below. absurd (omega (arith, from, below));
    })
