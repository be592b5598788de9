-- What is written of a place of a run, by its state there.
use Rattle.std.proofs.Common.{◌≡◌, ℕ, List, Option, Some, None, option_map, ap}
use Rattle.w4_defs.specs.FrameTexts.{state_line}
use Rattle.w4_defs.specs.Image.{image}
use Rattle.w4_defs.specs.State.{State, Moment}
use Rattle.w4_defs.specs.declared.place_text.PlaceText.TheVariants.{Image}
use Rattle.w4_defs.specs.PlaceTexts.{PieceForm, place_text, state_text}
use Rattle.w4_defs.proofs.OptionLaws.{some_same}

abbrev pub state_of : Option Moment → Option State
state_of m = option_map (λ (moment : Moment). moment.state) m

pub image_of_state : (form : PieceForm) (p : ℕ) (m : Option Moment) (s : State) → state_of m ≡ Some s
    → place_text form Image p m ≡ Some (form (image s.page))
image_of_state form p (Some moment) s e =
    ap (λ (x : State). Some (form (image x.page))) (some_same moment.state s e)
image_of_state form p None s e = absurd cc

pub line_of_state : (form : PieceForm) (p count : ℕ) (kept : List ℕ) (m : Option Moment) (s : State)
    → state_of m ≡ Some s → state_text form p count m kept ≡ Some (form (state_line p count s kept))
line_of_state form p count kept (Some moment) s e =
    ap (λ (x : State). Some (form (state_line p count x kept))) (some_same moment.state s e)
line_of_state form p count kept None s e = absurd cc
