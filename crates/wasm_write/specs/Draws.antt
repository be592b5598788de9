-- What the draws of a generator's number give: one of the made functions takes three, and each frame takes
-- one.
use Rattle.std.specs.Prelude.{ℕ, ◌%◌, List, [], ◌∷◌, map, pos, false}
use Rattle.std.specs.List.{range_with_len}
use Rattle.w4_defs.specs.declared.console.Input.{Input}
use Rattle.w4_defs.specs.declared.operation.Op.TheVariants.{LocalGet, Basic}
use Rattle.w4_defs.specs.declared.basic.Basic.TheVariants.{I32Const}
use Rattle.w4_defs.specs.Tree.{sequence}
use Rattle.w4_defs.specs.Module.{Function}
use Rattle.w4_defs.specs.Generator.{chosen, draw, made_frames}

-- the function of three draws
abbrev pub function_of_draws : ℕ → ℕ → ℕ → Function
function_of_draws first value second = record {
  runs = [];
  list = sequence (LocalGet 0 ∷ LocalGet 1 ∷ chosen first ∷ Basic (I32Const value) ∷ chosen second ∷ []);
}

-- the input of a draw
abbrev pub input_of_draw : ℕ → Input
input_of_draw drawn = record {
  pads = drawn % 256 ∷ 0 ∷ 0 ∷ 0 ∷ [];
  mouse_x = pos 0;
  mouse_y = pos 0;
  buttons = 0;
  reset = false;
}

-- the inputs of the draws from a number on
abbrev pub inputs_from : ℕ → List Input
inputs_from seed = map (λ k. input_of_draw (draw seed k)) (range_with_len 0 made_frames)
