-- Each reset and frame of the carts that the words name, or of the one that they have made, has a meaning,
-- and so has each of their runs at every place.
use Rattle.std.specs.Prelude.{ℕ, List, Option, Some, None, Ok}
use Rattle.std.specs.Option.{ForSome}
use Rattle.w4_defs.specs.Generator.{made_module}
use Rattle.w4_defs.specs.Reading.{◌>>=◌}
use Rattle.w4_defs.specs.Meaning.{FramesHaveMeaning}
use Rattle.w4_defs.specs.World.{Files}
use Rattle.w4_defs.specs.Commands.{Form, Make, form_of}
use Rattle.w4_defs.specs.Output.{CartFile, CartIn}
use Rattle.w4_defs.specs.Outputs.{cart_word, other_cart_word}

-- the number that a cart is made of, where the form is `make`
abbrev pub made_number : Form → Option ℕ
made_number (Make number) = Some number
made_number form = None

-- runs of an accepted cart of this name have a meaning
abbrev pub NamedRunsHaveMeaning : Files → List ℕ → Type 0
NamedRunsHaveMeaning files name =
    (cart : CartFile) → CartIn name files (Ok cart) → FramesHaveMeaning cart.code

abbrev pub CartRunsHaveMeaning : List (List ℕ) → Files → Type 0
CartRunsHaveMeaning words files = ForSome (form_of words >>= cart_word) (NamedRunsHaveMeaning files)
    × ForSome (form_of words >>= other_cart_word) (NamedRunsHaveMeaning files)
    × ForSome (form_of words >>= made_number) (λ number. FramesHaveMeaning (made_module number))
