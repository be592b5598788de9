-- Constants by the operations of a flattening: a single constant is one operation before the end.
use Rattle.std.specs.Prelude.{ℕ, List, [], ◌∷◌, Option, None, unwrap_or}
use Rattle.w4_defs.specs.declared.operation.Op.{Op}
use Rattle.w4_defs.specs.declared.value.Val.{Val}
use Rattle.w4_defs.specs.declared.value.Val.TheVariants as val
use Rattle.w4_defs.specs.declared.value.ValType.{ValType}
use Rattle.w4_defs.specs.Constants.{const_value}
use Rattle.w4_defs.specs.Profile.{i32_constant}
use Rattle.w4_defs.specs.Validity.{constant_type}

-- the number of an i32.const; 0 of any other operation
abbrev pub number32 : Op → ℕ
number32 op = unwrap_or (i32_constant op) 0

-- the number of a first operation that is an i32.const; 0 of any other
abbrev pub first_number32 : List Op → ℕ
first_number32 [] = 0
first_number32 (op ∷ ops) = number32 op

-- the type of the one constant before the end
abbrev pub only_constant : List Op → Option ValType
only_constant (op ∷ (last ∷ [])) = constant_type op
only_constant _ = None

-- the value of a constant; 0 of any other operation
abbrev pub constant_value : Op → Val
constant_value op = unwrap_or (const_value op) (val.I32 0)

-- the value of a first operation that is a constant
abbrev pub first_constant : List Op → Val
first_constant [] = val.I32 0
first_constant (op ∷ ops) = constant_value op
