-- The lines that tell of a made cart.
use Rattle.std.proofs.Common.{◌≡◌, ℕ, ◌+◌, ◌/◌, ◌%◌, ◌<◌, ◌≤◌, Bool, true, false, List, [], length, take}
use Rattle.std.proofs.Common.{get_or, Option, Some, option_map, cond, refl, sym, ap, subst, ◌∙◌, arith}
use Rattle.std.specs.Prelude.{count_by, IsSome, not, ◌==◌, Result, Ok, replicate}
use Rattle.std.specs.Option.{ForSome}
use Rattle.std.specs.List.{range_with_len}
use Rattle.std.proofs.lemmas.List.{take_all}
use Rattle.std.proofs.lemmas.List.Sums.{sum_by_more}
use Rattle.std.proofs.lemmas.List.FromFn.{length-range_with_len, get_or-range_with_len}
use Rattle.sha2.specs.Sha256.{sha256}
use Rattle.w4_defs.specs.declared.console.Input.{Input}
use Rattle.w4_defs.specs.Module.{WasmModule}
use Rattle.w4_defs.specs.Board.{console_setup}
use Rattle.w4_defs.specs.Framebuffer.{pixel}
use Rattle.w4_defs.specs.Generator.{made_module, made_inputs, made_frames, made_budget}
use Rattle.w4_defs.specs.MadeSummary.{made_setup, summary_text, lit_pixels}
use Rattle.w4_defs.specs.Run.{run}
use Rattle.w4_defs.specs.State.{Moment}
use Rattle.w4_defs.specs.EncodeModule.{module_bytes}
use Rattle.w4_defs.specs.Output.{made_text, make_output, only_written}
use Rattle.w4_defs.specs.World.{World, LeavesWriting}
use Rattle.w4_defs.specs.declared.status.Refusal.{Refusal}
use Rattle.w4_defs.proofs.ThereLaws.{value_there}
use Rattle.w4_commands.specs.Commands.{EndsDone, MakesOf}
use Rattle.w4_answers.specs.Writing.{Written}
use Rattle.w4_commands.proofs.CommandLaws.{ends_written}

bit_small : (b : Bool) → cond b 1 0 ≤ 1
bit_small true = omega arith
bit_small false = omega arith

-- whether pixel n of the image isn't 0
abbrev pub is_lit : List ℕ → ℕ → Bool
is_lit page n = not (pixel page (n % 160) (n / 160) == 0)

-- one more pixel is counted
pub lit_more : (page : List ℕ) (n lit value bit : ℕ) → n < 25600
    → lit ≡ count_by (is_lit page) (take n (range_with_len 0 25600)) → lit ≤ n
    → value ≡ pixel page (n % 160) (n / 160) → bit ≡ cond (not (value == 0)) 1 0
    → (lit + bit ≡ count_by (is_lit page) (take (n + 1) (range_with_len 0 25600))) × (lit + bit ≤ n + 1)
lit_more page n lit value bit below counted few is one =
    let here : get_or (range_with_len 0 25600) n 0 ≡ n =
    get_or-range_with_len 0 25600 n 0 below ∙ omega arith in
    let more = sum_by_more (λ m. cond (is_lit page m) 1 0) (range_with_len 0 25600) n 0
    (rw (length-range_with_len 0 25600) below) in
    let same : bit ≡ cond (is_lit page n) 1 0 = one ∙ ap (λ v. cond (not (v == 0)) 1 0) is in
    let small : bit ≤ 1 = rw same (bit_small (is_lit page n)) in (
      rw (counted, same)
          (sym (more ∙ ap (λ m. count_by (is_lit page) (take n (range_with_len 0 25600)) + cond
          (is_lit page m) 1 0) here)),
      omega arith,
    )

pub lit_all : (page : List ℕ) (n lit : ℕ) → n ≤ 25600 → 25600 ≤ n
    → lit ≡ count_by (is_lit page) (take n (range_with_len 0 25600)) → lit ≡ lit_pixels page
unfolding lit_pixels
lit_all page n lit most least counted =
    counted ∙ ap (λ xs. count_by (is_lit page) xs)
    (take_all n (range_with_len 0 25600) (rw (length-range_with_len 0 25600) least))

-- the run of a made cart comes to a moment, and the lines tell of its state
lines_say : (number : ℕ) (moment : Moment)
    → run (made_setup number) [] (made_inputs number) made_frames ≡ Some moment
    → made_text number ≡ Some (summary_text sha256 (length (module_bytes (made_module number))) moment.state)
lines_say number moment e = rw e refl

pub summary_is : (number : ℕ) (cart : WasmModule) (font : List ℕ) (budget : ℕ) (inputs : List Input)
    (bytes : List ℕ) (count : ℕ) (moment : Moment)
    → cart ≡ made_module number → font ≡ replicate 1792 0 → budget ≡ made_budget → inputs ≡ made_inputs number
    → bytes ≡ module_bytes (made_module number) → count ≡ length bytes
    → run (console_setup cart font budget) [] inputs made_frames ≡ Some moment
    → made_text number ≡ Some (summary_text sha256 count moment.state)
summary_is number cart font budget inputs bytes count moment made zeros units frames written counted e =
    let of_cart = subst
    (λ (x : WasmModule). run (console_setup x font budget) [] inputs made_frames ≡ Some moment)
    made e in
    let with_font = subst
    (λ (x : List ℕ). run (console_setup (made_module number) x budget) [] inputs made_frames
    ≡ Some moment)
    zeros of_cart in
    let with_budget = subst
    (λ (x : ℕ). run (console_setup (made_module number) (replicate 1792 0) x) [] inputs made_frames
    ≡ Some moment)
    units with_font in
    let whole = subst (λ (x : List Input). run (made_setup number) [] x made_frames ≡ Some moment)
    frames with_budget in
    lines_say number moment whole
    ∙ ap (λ (n : ℕ). Some (summary_text sha256 n moment.state))
    (sym (counted ∙ ap (λ (b : List ℕ). length b) written))

-- the lines are there, and so is what is made of them
pub ends_made : {X : Type 0} (old new : World) (result : Result X Refusal) (number : ℕ)
    → IsSome (made_text number) → LeavesWriting old new
    → ForSome (made_text number) (λ out. Written old new result out)
    → EndsDone old new result (MakesOf (λ files. make_output number))
ends_made old new result number there rest h =
    let told = value_there (made_text number) there in
    subst (λ (text : Option (List ℕ)). EndsDone old new result (MakesOf (λ files.
    option_map (λ out. Ok (only_written out)) text))) (sym told.1)
    (ends_written old new result told.0 rest (h told.0 told.1))
