-- What each step is, by the operation.
use Rattle.std.proofs.Common.{◌≡◌, ℕ, Bool, true, false, List, [], ◌∷◌, None, refl}
use Rattle.w4_defs.specs.declared.operation.Op.{Op}
use Rattle.w4_defs.specs.declared.operation.Op.TheVariants as op
use Rattle.w4_defs.specs.Typing.{Context}
use Rattle.wasm_valid.specs.Pass.{OpenBlock}
use Rattle.wasm_valid.specs.ControlStack.{direct_type, after_operation, after_mark, after_stack_type}

-- an operation that names something of its function or module
abbrev pub names : Op → Bool
names op.Nop = true
names (op.Call func) = true
names (op.LocalGet index) = true
names (op.LocalSet index) = true
names (op.LocalTee index) = true
names (op.GlobalGet index) = true
names (op.GlobalSet index) = true
names (op.Basic i) = true
names _ = false

pub unnamed : (c : Context) (o : Op) → names o ≡ false → None ≡ direct_type c o
unnamed c op.Nop h = absurd (cc h)
unnamed c (op.Call func) h = absurd (cc h)
unnamed c (op.LocalGet index) h = absurd (cc h)
unnamed c (op.LocalSet index) h = absurd (cc h)
unnamed c (op.LocalTee index) h = absurd (cc h)
unnamed c (op.GlobalGet index) h = absurd (cc h)
unnamed c (op.GlobalSet index) h = absurd (cc h)
unnamed c (op.Basic i) h = absurd (cc h)
unnamed c _ h = refl

-- an operation that takes and gives some types alone
abbrev pub branches_or_chooses : Op → Bool
branches_or_chooses op.Unreachable = true
branches_or_chooses (op.Br label) = true
branches_or_chooses (op.BrIf label) = true
branches_or_chooses op.BrTable = true
branches_or_chooses op.Return = true
branches_or_chooses (op.CallIndirect signature table) = true
branches_or_chooses op.Drop = true
branches_or_chooses op.Select = true
branches_or_chooses _ = false

pub passed_step : (c : Context) (o : Op) (labels : List ℕ) (os : List OpenBlock)
    → branches_or_chooses o ≡ false
    → after_stack_type (direct_type c o) os ≡ after_operation c o labels os
passed_step c op.Unreachable labels os h = absurd (cc h)
passed_step c (op.Br label) labels os h = absurd (cc h)
passed_step c (op.BrIf label) labels os h = absurd (cc h)
passed_step c op.BrTable labels os h = absurd (cc h)
passed_step c op.Return labels os h = absurd (cc h)
passed_step c (op.CallIndirect signature table) labels os h = absurd (cc h)
passed_step c op.Drop labels os h = absurd (cc h)
passed_step c op.Select labels os h = absurd (cc h)
passed_step c _ labels os h = refl

abbrev pub opens_or_closes : Op → Bool
opens_or_closes (op.Block r end) = true
opens_or_closes (op.Loop r end) = true
opens_or_closes (op.If r other end) = true
opens_or_closes op.Else = true
opens_or_closes op.End = true
opens_or_closes _ = false

leaf_of : (c : Context) (o : Op) (labels : List ℕ) (p : OpenBlock) (os : List OpenBlock)
    → opens_or_closes o ≡ false
    → after_operation c o labels (p ∷ os) ≡ after_mark c o labels (p ∷ os)
leaf_of c (op.Block r end) labels p os h = absurd (cc h)
leaf_of c (op.Loop r end) labels p os h = absurd (cc h)
leaf_of c (op.If r other end) labels p os h = absurd (cc h)
leaf_of c op.Else labels p os h = absurd (cc h)
leaf_of c op.End labels p os h = absurd (cc h)
leaf_of c _ labels p os h = refl

pub stepped_step : (c : Context) (o : Op) (labels : List ℕ) (os : List OpenBlock) → opens_or_closes o ≡ false
    → after_operation c o labels os ≡ after_mark c o labels os
stepped_step c o labels [] h = refl
stepped_step c o labels (p ∷ os) h = leaf_of c o labels p os h
