-- What the program does for a cart is there, where the cart's runs have a meaning; an accepted cart's have.
use Rattle.std.specs.Prelude.{ℕ, List, Result, Ok, IsSome}
use Rattle.std.specs.Option.{ForSome}
use Rattle.w4_defs.specs.Cart.{IsCart}
use Rattle.w4_defs.specs.Completeness.{IsComplete}
use Rattle.w4_defs.specs.Generator.{made_module}
use Rattle.w4_defs.specs.Live.{Talk}
use Rattle.w4_defs.specs.Meaning.{RunsHaveMeaning}
use Rattle.w4_defs.specs.Module.{WasmModule}
use Rattle.w4_defs.specs.World.{Files}
use Rattle.w4_defs.specs.declared.status.Refusal.{Refusal}
use Rattle.w4_defs.specs.Commands.{Form}
use Rattle.w4_defs.specs.Output.{CartFile, CartIn, Output, make_output}
use Rattle.w4_defs.specs.Outputs.{OutputsForm, OutputsOn, cart_word, other_cart_word}

-- the runs of each accepted cart have a meaning
abbrev pub CartsHaveMeaning : Type 0
CartsHaveMeaning = (bytes : List ℕ) (m : WasmModule) → IsCart bytes m → RunsHaveMeaning m

-- the second cart is judged, where the form names one
abbrev pub IsSecondJudged : Form → Files → Type 0
IsSecondJudged form files =
    ForSome (other_cart_word form) (λ name. (other : Result CartFile Refusal) × CartIn name files other)

-- by a form that names a cart, whatever the files and the lines of a session
abbrev pub OutputsAreThere : Type 0
OutputsAreThere = (form : Form) (talk : Talk) (files : Files) (cart : CartFile) → IsSome (cart_word form)
    → RunsHaveMeaning cart.code → CartsHaveMeaning → IsSecondJudged form files
    → (output : Result Output Refusal) × OutputsOn form talk cart files output

-- by `make`
abbrev pub MadeOutputsAreThere : Type 0
MadeOutputsAreThere = (number : ℕ) → RunsHaveMeaning (made_module number) → IsSome (make_output number)

-- where all is there that a form names, the output is done: it is no refusal
abbrev pub CompleteIsDone : Type 0
CompleteIsDone = (form : Form) (talk : Talk) (files : Files)
    → CartsHaveMeaning
    → ((number : ℕ) → RunsHaveMeaning (made_module number))
    → IsComplete form files → (output : Output) × OutputsForm form talk files (Ok output)
