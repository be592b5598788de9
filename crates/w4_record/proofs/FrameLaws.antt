-- Frames that are read one after another.
use Rattle.std.proofs.Common.{◌≡◌, ℕ, suc, ◌+◌, ◌-◌, ◌<◌, ◌≤◌, List, [], ◌∷◌, ◌++◌, length, Option, Some}
use Rattle.std.proofs.Common.{None, Bool, true, false, cond, eqb, refl, sym, ap, ◌∙◌, subst, append_assoc}
use Rattle.std.proofs.Common.{arith}
use Rattle.std.specs.Prelude.{is_some, option_map, IsSome}
use Rattle.std.proofs.lemmas.List.{append-nil}
use Rattle.w4_defs.specs.declared.console.Input.{Input}
use Rattle.w4_defs.specs.Reading.{◌>>=◌, front_at}
use Rattle.w4_defs.specs.Recording.{frame_size, frame_of, frames_of}
use Rattle.w4_record.specs.Frames.{first_frame}

-- the first of some things, and those after it
abbrev with_more : Input → Option (List Input) → Option (List Input)
with_more input rest = rest >>= λ more. Some (input ∷ more)

abbrev beside : List ℕ → Input → Option (Input × List ℕ)
beside rest input = Some (input, rest)

abbrev after_first : (List ℕ → Option (List Input)) → (Input × List ℕ) → Option (List Input)
after_first frames first = with_more first.0 (frames first.1)

with_input : (input : Option Input) (rest : List ℕ) (frames : List ℕ → Option (List Input))
    → (input >>= λ i. with_more i (frames rest)) ≡ ((input >>= beside rest) >>= after_first frames)
with_input (Some i) rest frames = refl
with_input None rest frames = refl

abbrev front_then : {A : Type 0} → (List ℕ → Option Input) → (List ℕ → Input → Option A)
    → (List ℕ × List ℕ) → Option A
front_then read next first = read first.0 >>= next first.1

abbrev more_after : (List ℕ → Option (List Input)) → List ℕ → Input → Option (List Input)
more_after frames rest input = with_more input (frames rest)

with_front : (front : Option (List ℕ × List ℕ)) (read : List ℕ → Option Input)
    (frames : List ℕ → Option (List Input))
    → (front >>= front_then read (more_after frames))
    ≡ ((front >>= front_then read beside) >>= after_first frames)
with_front (Some first) read frames = with_input (read first.0) first.1 frames
with_front None read frames = refl

frames_by_first : (version count : ℕ) (bytes : List ℕ)
    → frames_of version (suc count) bytes
    ≡ (first_frame version bytes >>= after_first (frames_of version count))
unfolding frames_of first_frame
frames_by_first version count bytes =
    with_front (front_at (frame_size version) bytes) (frame_of version) (frames_of version count)

-- one of the frames that are left
frames_left : (version count i : ℕ) (rest : List ℕ) → i < count
    → frames_of version (count - i) rest
    ≡ (first_frame version rest >>= after_first (frames_of version (count - (i + 1))))
frames_left version count i rest left =
    let k : count - i ≡ suc (count - (i + 1)) = omega arith in
    ap (λ n. frames_of version n rest) k ∙ frames_by_first version (count - (i + 1)) rest

frames_end : (version count i : ℕ) (rest : List ℕ) → count ≤ i
    → frames_of version (count - i) rest ≡ cond (eqb (length rest) 0) (Some []) None
unfolding frames_of
frames_end version count i rest none =
    let k : count - i ≡ 0 = omega arith in
    ap (λ n. frames_of version n rest) k

-- ---- whether bytes are frames

is_some-with_more : (input : Input) (rest : Option (List Input)) → is_some (with_more input rest)
    ≡ is_some rest
is_some-with_more input (Some more) = refl
is_some-with_more input None = refl

is_some-cond : (b : Bool) (inputs : List Input) → is_some (cond b (Some inputs) None) ≡ b
is_some-cond true inputs = refl
is_some-cond false inputs = refl

pub are_frames-step : (version count i : ℕ) (rest after : List ℕ) (input : Input) (whole : Bool)
    → i < count
    → first_frame version rest ≡ Some (input, after)
    → is_some (frames_of version (count - i) rest) ≡ whole
    → is_some (frames_of version (count - (i + 1)) after) ≡ whole
are_frames-step version count i rest after input whole left first so_far =
    let one : frames_of version (count - i) rest
    ≡ with_more input (frames_of version (count - (i + 1)) after) =
    frames_left version count i rest left
    ∙ ap (λ o. o >>= after_first (frames_of version (count - (i + 1)))) first in
    sym (is_some-with_more input (frames_of version (count - (i + 1)) after)) ∙ sym (ap is_some one)
    ∙ so_far

pub are_frames-none : (version count i : ℕ) (rest : List ℕ) (whole : Bool) → i < count
    → first_frame version rest ≡ None
    → is_some (frames_of version (count - i) rest) ≡ whole
    → false ≡ whole
are_frames-none version count i rest whole left first so_far =
    let one : frames_of version (count - i) rest ≡ None = frames_left version count i rest left
    ∙ ap (λ o. o >>= after_first (frames_of version (count - (i + 1)))) first in
    sym (ap is_some one) ∙ so_far

pub are_frames-end : (version count i : ℕ) (rest : List ℕ) (whole : Bool) → count ≤ i
    → is_some (frames_of version (count - i) rest) ≡ whole
    → eqb (length rest) 0 ≡ whole
are_frames-end version count i rest whole none so_far =
    sym (is_some-cond (eqb (length rest) 0) []) ∙ sym (ap is_some (frames_end version count i rest none))
    ∙ so_far

-- ---- the inputs of frames

-- an option is there where what is made of it is
pub some_mapped : {A B : Type 0} (f : A → B) (o : Option A) (p : Option B) → option_map f o ≡ p
    → IsSome p → IsSome o
some_mapped f (Some x) p e some = refl
some_mapped f None p e some = ap is_some e ∙ some

from_with_more : (front : List Input) (input : Input) (rest : Option (List Input))
    → option_map (λ more. front ++ more) (with_more input rest)
    ≡ option_map (λ more. (front ++ input ∷ []) ++ more) rest
from_with_more front input (Some more) =
    ap (λ (xs : List Input). Some xs) (sym (append_assoc front (input ∷ []) more))
from_with_more front input None = refl

pub mapped_value : {A B : Type 0} (f : A → B) (o : Option A) (x : A) (p : Option B) → o ≡ Some x
    → option_map f o ≡ p
    → p ≡ Some (f x)
mapped_value f o x p is e = sym e ∙ ap (option_map f) is

pub frames_of-step : (version count i : ℕ) (front : List Input) (rest after : List ℕ) (input : Input)
    (whole : Option (List Input)) → i < count
    → first_frame version rest ≡ Some (input, after)
    → option_map (λ more. front ++ more) (frames_of version (count - i) rest) ≡ whole
    → option_map (λ more. (front ++ input ∷ []) ++ more) (frames_of version (count - (i + 1)) after)
    ≡ whole
frames_of-step version count i front rest after input whole left first so_far =
    let frames : Option (List Input) = frames_of version (count - (i + 1)) after in
    let one : frames_of version (count - i) rest
    ≡ with_more input frames = frames_left version count i rest left
    ∙ ap (λ o. o >>= after_first (frames_of version (count - (i + 1)))) first in
    sym (from_with_more front input frames)
    ∙ sym (ap (option_map (λ more. front ++ more)) one)
    ∙ so_far

-- a frame is left where the bytes are frames
some_first : (first : Option (Input × List ℕ)) (frames : List ℕ → Option (List Input))
    (front : List Input)
    → IsSome (option_map (λ more. front ++ more) (first >>= after_first frames)) → IsSome first
some_first (Some p) frames front some = refl
some_first None frames front some = some

pub frames_of-some : (version count i : ℕ) (front : List Input) (rest : List ℕ)
    (whole : Option (List Input))
    → i < count
    → option_map (λ more. front ++ more) (frames_of version (count - i) rest) ≡ whole
    → IsSome whole → IsSome (first_frame version rest)
frames_of-some version count i front rest whole left so_far some =
    let frames = frames_of version (count - (i + 1)) in
    let one : option_map (λ more. front ++ more) (first_frame version rest >>= after_first frames)
    ≡ whole =
    sym (ap (option_map (λ more. front ++ more)) (frames_left version count i rest left)) ∙ so_far in
    some_first (first_frame version rest) frames front (subst IsSome (sym one) some)

last_some : (b : Bool) (front : List Input) (whole : Option (List Input))
    → option_map (λ more. front ++ more) (cond b (Some []) None) ≡ whole → IsSome whole
    → whole ≡ Some front
last_some true front whole e some = sym e ∙ ap (λ (xs : List Input). Some xs) (append-nil front)
last_some false front whole e some = let none : false ≡ true = subst IsSome (sym e) some in absurd cc

pub frames_of-end : (version count i : ℕ) (front : List Input) (rest : List ℕ)
    (whole : Option (List Input))
    → count ≤ i
    → option_map (λ more. front ++ more) (frames_of version (count - i) rest) ≡ whole
    → IsSome whole → whole ≡ Some front
frames_of-end version count i front rest whole none so_far some =
    last_some (eqb (length rest) 0) front whole
    (sym (ap (option_map (λ more. front ++ more)) (frames_end version count i rest none)) ∙ so_far) some
