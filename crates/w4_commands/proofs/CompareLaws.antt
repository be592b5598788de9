-- Two runs that are compared place by place, and the lines that tell of them.
use Rattle.std.proofs.Common.{◌≡◌, ◌↔◌, ℕ, suc, ◌+◌, Bool, true, false, cond, inl, inr, zero, List, [], ◌∷◌}
use Rattle.std.proofs.Common.{◌++◌, length, map, take, Option, Some, None, option_map, Result, Ok, Err}
use Rattle.std.proofs.Common.{Decides, refl, sym, ap, subst, ◌∙◌, append_assoc, arith}
use Rattle.std.proofs.lemmas.List.{append-nil}
use Rattle.std.specs.Prelude.{IsSome, IsTrue, not}
use Rattle.std.specs.List.{position_from, range_with_len}
use Rattle.std.specs.Option.{ForSome}
use Rattle.std.proofs.lemmas.Iterator.Adapters.{position_from-zero}
use Rattle.w4_defs.specs.AllThere.{all_some}
use Rattle.w4_defs.specs.Causes.{Ends, EndsRefused}
use Rattle.w4_defs.specs.Comparison.{Both, Compared, Respect, Side, both_at, compared}
use Rattle.w4_defs.specs.Comparison.{first_difference, has_same_disk, has_same_image, has_same_state}
use Rattle.w4_defs.specs.Comparison.{has_same_tones, has_same_traces}
use Rattle.w4_defs.specs.Endings.{Manner, ReadFailed, InputFailed, WriteFailed, MemoryRefused, Refused}
use Rattle.w4_defs.specs.Endings.{manner_of}
use Rattle.w4_defs.specs.Commands.{CompareWords}
use Rattle.w4_defs.specs.Meaning.{RunsHaveMeaning}
use Rattle.w4_defs.specs.Output.{CartFile, Output}
use Rattle.w4_defs.specs.RecordingOutputs.{TwoPlayed, compare_files, compare_output, compared_result}
use Rattle.w4_defs.specs.RecordingOutputs.{compared_runs, finish_of, side_of}
use Rattle.w4_defs.proofs.ComparedThereLaws.{compared_there}
use Rattle.w4_defs.specs.World.{Event, Files, World, Does, LeavesReading, LeavesWriting, Rises, wrote}
use Rattle.w4_defs.specs.declared.status.Finish.{Finish}
use Rattle.w4_defs.specs.declared.status.Refusal.{Refusal}
use Rattle.w4_defs.proofs.AllThereLaws.{values_more}
use Rattle.w4_commands.specs.Commands.{MakesOf}
use Rattle.w4_answers.specs.Writing.{StopsWriting}
use Rattle.w4_commands.specs.Compare.{ComparedTo, WrittenTo}
use Rattle.w4_commands.specs.Scene.{scene_side}
use Rattle.w4_commands.specs.Differences.{after_place, both_stages, differences_of, if_differs, noted}
use Rattle.w4_commands.specs.Stage.{IsAtPlace, stage_moment}
use Rattle.w4_commands.specs.declared.scene.Scene.{Scene}
use Rattle.w4_commands.specs.declared.stage.Stage.{Stage}
use Rattle.w4_defs.specs.State.{HasGlobals, Moment}
use Rattle.w4_defs.specs.declared.console.Input.{Input}
use Rattle.w4_commands.specs.declared.differences.Differences.{Differences}
use Rattle.w4_commands.proofs.CommandLaws.{only_out_fails}
use Rattle.w4_answers.proofs.WritingLaws.{front_does, written_does}

-- two tests of the same fact answer alike
pub same_answer : {P : Type 0} (test answer : Bool) → Decides test P → (IsTrue answer ↔ P) → answer ≡ test
same_answer true true decides tells = refl
same_answer true false decides tells = tells.1 (decides.0 refl)
same_answer false true decides tells = sym (decides.1 (tells.0 refl))
same_answer false false decides tells = refl

-- ---- the first difference, after one more place

differs : (same : Bool) (at place : ℕ) → place ≡ at → cond (not same) (Some at) None ≡ if_differs same place
differs true at place is = refl
differs false at place is = ap (λ (n : ℕ). Some n) (sym is)

later : (found : Bool) (at place : ℕ) (rest more : Option ℕ) (same : Bool)
    → more ≡ after_place rest same place
    → cond found (Some at) more ≡ after_place (cond found (Some at) rest) same place
later true at place rest more same is = refl
later false at place rest more same is = is

from_more : (same : Respect) (at place : ℕ) (places : List Both) (both : Both) → place ≡ at + length places
    → position_from (λ b. not (same b)) at (places ++ both ∷ [])
    ≡ after_place (position_from (λ b. not (same b)) at places) (same both) place
from_more same at place [] both is = differs (same both) at place (omega (arith, is))
from_more same at place (one ∷ places) both is =
    later (not (same one)) at place (position_from (λ b. not (same b)) (at + 1) places)
    (position_from (λ b. not (same b)) (at + 1) (places ++ both ∷ [])) (same both)
    (from_more same (at + 1) place places both (omega (arith, is)))

first_more : (same : Respect) (places : List Both) (both : Both) (place : ℕ) → length places ≡ place
    → first_difference same (places ++ both ∷ []) ≡ after_place (first_difference same places)
    (same both) place
first_more same places both place is =
    position_from-zero (λ b. not (same b)) (places ++ both ∷ [])
    ∙ from_more same 0 place places both (omega (arith, is))
    ∙ ap (λ found. after_place found (same both) place) (sym (position_from-zero (λ b. not (same b)) places))

pub noted_more : (places : List Both) (both : Both) → length places ≡ both.place
    → noted both (differences_of places) ≡ differences_of (places ++ both ∷ [])
noted_more places both is = λ i. record {
  state = sym (first_more has_same_state places both both.place is) i;
  image = sym (first_more has_same_image places both both.place is) i;
  tones = sym (first_more has_same_tones places both both.place is) i;
  traces = sym (first_more has_same_traces places both both.place is) i;
  disk = sym (first_more has_same_disk places both both.place is) i;
}

-- ---- places one after another

range_more : (from count : ℕ) → range_with_len from (suc count) ≡ range_with_len from count ++ (from + count)
    ∷ []
range_more from zero = ap (λ (n : ℕ). n ∷ []) (omega arith)
range_more from (suc count) =
    ap (λ (rest : List ℕ). from ∷ rest) (range_more (from + 1) count
    ∙ ap (λ (n : ℕ). range_with_len (from + 1) count ++ n ∷ []) (omega arith))

map_more : {A B : Type 0} (f : A → B) (xs : List A) (x : A) → map f (xs ++ x ∷ []) ≡ map f xs ++ f x ∷ []
map_more f [] x = refl
map_more f (y ∷ xs) x = ap (λ rest. f y ∷ rest) (map_more f xs x)

length_more : {A : Type 0} (xs : List A) (x : A) → length (xs ++ x ∷ []) ≡ length xs + 1
length_more [] x = refl
length_more (y ∷ xs) x = ap (λ (n : ℕ). suc n) (length_more xs x) ∙ omega arith

pub compared_begins : (one other : Side) (both : Both) → both_at one other 0 ≡ Some both → both.place ≡ 0
    → ComparedTo one other 0 (noted both (differences_of []))
compared_begins one other both is at = (both ∷ [], rw is refl, refl, noted_more [] both (sym at))

pub compared_goes_on : (one other : Side) (place : ℕ) (both : Both) (found : Differences)
    → both_at one other (place + 1) ≡ Some both → both.place ≡ place + 1
    → ComparedTo one other place found → ComparedTo one other (place + 1) (noted both found)
compared_goes_on one other place both found is at (places, there, many, so_far) =
    let from : 0 + (place + 1) ≡ place + 1 = omega arith in
    let more : place + 1 + 1 ≡ suc (place + 1) = omega arith in (
      places ++ both ∷ [],
      ap (λ (range : List ℕ). all_some (map (both_at one other) range))
          (ap (λ (n : ℕ). range_with_len 0 n) more ∙ range_more 0 (place + 1))
          ∙ ap (λ xs. all_some xs) (map_more (both_at one other) (range_with_len 0 (place + 1))
          (0 + (place + 1)))
          ∙ values_more (map (both_at one other) (range_with_len 0 (place + 1))) places
          (both_at one other (0 + (place + 1))) both there
          (subst (λ (n : ℕ). both_at one other n ≡ Some both) (sym from) is),
      length_more places both ∙ ap (λ (n : ℕ). n + 1) many,
      ap (λ d. noted both d) so_far ∙ noted_more places both (many ∙ sym at),
    )

-- ---- stages that stand at a place

pub stands_still : (scene : Scene) (inputs : List Input) (place : ℕ) (old new : Stage)
    → stage_moment new ≡ stage_moment old → IsAtPlace scene inputs place old
    → IsAtPlace scene inputs place new
stands_still scene inputs place old new same (is, globals) = (
  is ∙ ap (λ (m : Moment). Some m) (sym same),
  subst (λ (m : Moment). HasGlobals scene.setup.cart.now m.state) (sym same) globals,
)

module _ (one other : Scene) (inputs other_inputs : List Input) where
  both_there : (place : ℕ) (a b : Stage) → IsAtPlace one inputs place a
      → IsAtPlace other other_inputs place b
      → both_at (scene_side one inputs) (scene_side other other_inputs) place ≡ Some (both_stages place a b)
  both_there place a b (is, globals) (other_is, other_globals) = rw is (rw other_is refl)

  pub places_begin : (a b : Stage) (none found : Differences)
      → none ≡ record { state = None; image = None; tones = None; traces = None; disk = None }
      → found ≡ noted (both_stages 0 a b) none → IsAtPlace one inputs 0 a → IsAtPlace other other_inputs 0 b
      → ComparedTo (scene_side one inputs) (scene_side other other_inputs) 0 found
  places_begin a b none found is_none is at other_at =
      subst (ComparedTo (scene_side one inputs) (scene_side other other_inputs) 0)
      (sym (is ∙ ap (λ d. noted (both_stages 0 a b) d) is_none))
      (compared_begins (scene_side one inputs) (scene_side other other_inputs) (both_stages 0 a b)
      (both_there 0 a b at other_at) refl)

  pub places_go_on : (place : ℕ) (a b : Stage) (so_far found : Differences)
      → found ≡ noted (both_stages (place + 1) a b) so_far → IsAtPlace one inputs (place + 1) a
      → IsAtPlace other other_inputs (place + 1) b
      → ComparedTo (scene_side one inputs) (scene_side other other_inputs) place so_far
      → ComparedTo (scene_side one inputs) (scene_side other other_inputs) (place + 1) found
  places_go_on place a b so_far found is at other_at before =
      subst (ComparedTo (scene_side one inputs) (scene_side other other_inputs) (place + 1)) (sym is)
      (compared_goes_on (scene_side one inputs) (scene_side other other_inputs) place
      (both_stages (place + 1) a b) so_far (both_there (place + 1) a b at other_at) refl before)

-- lines that were added one after another
pub lines_in_order : (state image tones traces disk places n m ending : List ℕ)
    → ((((((((state ++ image) ++ tones) ++ traces) ++ disk) ++ places) ++ n) ++ m) ++ ending)
    ≡ (state ++ (image ++ (tones ++ (traces ++ (disk ++ []))))) ++ (places ++ ((n ++ (m ++ [])) ++ ending))
lines_in_order state image tones traces disk places n m ending = rw (append-nil disk, append-nil m)
    (simp append_assoc refl)

-- ---- how the command ends

-- what is made of a value that is there only where it is
mapped_value : {A B : Type 0} (f : A → B) (o : Option A) → IsSome (option_map f o) → (a : A) × (o ≡ Some a)
mapped_value f (Some a) there = (a, refl)
mapped_value f None there = absurd cc

nothing_saved : (old new : World) (done : List Event) → Does old new done → Does old new (done ++ [])
nothing_saved old new done does = subst (Does old new) (sym (append-nil done)) does

module _ (first second third : World) (leaves : LeavesReading first second)
    (rest : LeavesWriting second third)
    (lines : Compared) (step : Files → Result Output Refusal → Type 0)
    (made : ForSome first.files (λ files. step files (Ok (compared_result lines)))) where
  lines_stopped : (why : Manner) → StopsWriting second third why lines.text → EndsRefused first third why step
  lines_stopped ReadFailed h = absurd h
  lines_stopped InputFailed h = absurd h
  lines_stopped WriteFailed h =
      let rise = subst (λ n. Rises n third.write_faults) leaves.writes h.0 in (
        rise,
        λ files told. let front = front_does first second third lines.text leaves rest h.1 in (
          compared_result lines,
          made files told,
          inl (
            front.0,
            inr refl,
            inl (
              nothing_saved first third (take front.0 (wrote lines.text)) front.1,
              only_out_fails first third front.0 lines.text rise,
            ),
          ),
        ),
      )
  lines_stopped MemoryRefused h = inr (λ files told.
      let front = front_does first second third lines.text leaves rest h in
      (compared_result lines, made files told, front.0, inl front.1))
  lines_stopped (Refused why) h = absurd h

  pub ends_compared : (result : Result Finish Refusal)
      → WrittenTo second third result lines.text (finish_of lines) → Ends first third result step
  ends_compared (Ok told) h = λ files known. (
    compared_result lines,
    made files known,
    sym h.1,
    nothing_saved first third (wrote lines.text) (written_does first second third lines.text leaves rest h.0),
  )
  ends_compared (Err why) h = lines_stopped (manner_of why) h

-- what the lines of two runs are, whose files were read
pub ends_sides : (first second third : World) → LeavesReading first second → LeavesWriting second third
    → (words : CompareWords) (one other : CartFile) (p : TwoPlayed)
    → ForSome first.files (λ files. compare_files words one other files ≡ Ok p)
    → RunsHaveMeaning one.code → RunsHaveMeaning other.code → (result : Result Finish Refusal)
    → ForSome (compared (side_of one.code p.first) (side_of other.code p.second))
    (λ lines. WrittenTo second third result lines.text (finish_of lines))
    → Ends first third result (MakesOf (λ files. compare_output words one other files))
unfolding compare_output compared_runs
ends_sides first second third leaves rest words one other p given meant other_meant result h =
    let lines = compared (side_of one.code p.first) (side_of other.code p.second) in
    let there = mapped_value compared_result lines (compared_there one.code other.code meant other_meant p) in
    ends_compared first second third leaves rest there.0
    (MakesOf (λ files. compare_output words one other files))
    (λ files told. rw (given files told) (ap (λ found. option_map Ok (option_map compared_result found))
    there.1))
    result (h there.0 there.1)
