-- What bytes encode is decoded.
use Rattle.std.proofs.Common.{◌≡◌, ℕ, ◌+◌, ◌*◌, ◌/◌, ◌%◌, ◌≤◌, ◌⊎◌, true, false, List, [], ◌∷◌, ◌++◌, length, Some, refl, sym, ap, ◌∙◌, append_assoc, arith, ℤ, Bool, FitsSigned}
use Rattle.std.specs.List.{flat_map, AllByRecursion}
use Rattle.std.specs.Int.{w16, w32, from_le_bytes, to_le_bytes, cast_signed, cast_unsigned}
use Rattle.std.proofs.lemmas.Bool.{le-leb}
use Rattle.std.proofs.lemmas.List.Concat.{flat_map-cons}
use Rattle.std.proofs.lemmas.Int.{to_z-of_z}
use Rattle.std.proofs.lemmas.Nat.{from_le_bytes-to_le_bytes_2, from_le_bytes-to_le_bytes_4}
use Rattle.w4_defs.specs.declared.console.Input.{Input}
use Rattle.w4_defs.specs.MemoryMap.{input_bytes}
use Rattle.w4_defs.specs.Reading.{◌>>=◌}
use Rattle.w4_defs.specs.Recording.{Recording, IsInput, IsRecording, heading, flag_of, frame_size, frame_bytes, encoding, HasNoReset, version_of, input_of, reset_of, frame_of, frames_of, recording_of}
use Rattle.w4_defs.proofs.ReadingLaws.{front_again, number_again}

-- a version that there is
abbrev pub IsVersion : ℕ → Type 0
IsVersion version = (version ≡ 1) ⊎ (version ≡ 2)

-- a frame that is decoded from its own bytes
abbrev pub IsDecoded : ℕ → Input → Type 0
IsDecoded version input = (length (frame_bytes version input) ≡ frame_size version)
    × (frame_of version (frame_bytes version input) ≡ Some input)

-- ---- a frame's bytes are decoded

-- a coordinate of the mouse is decoded from its two bytes
coordinate_again : (z : ℤ) → FitsSigned w16 z
    → cast_signed w16 (cast_unsigned w16 z % 256 + 256 * (cast_unsigned w16 z / 256)) ≡ z
coordinate_again z fits =
    let n : ℕ = cast_unsigned w16 z in
    let whole : n % 256 + 256 * (n / 256) ≡ n = omega arith in
    ap (cast_signed w16) whole ∙ to_z-of_z w16 z fits

input_with : List ℕ → ℕ → Bool → ℤ → ℤ → Input
input_with pads buttons reset x y =
    record { pads = pads; mouse_x = x; mouse_y = y; buttons = buttons; reset = reset }

-- the nine bytes, and whatever follows them
fields_again : (pads tail : List ℕ) (buttons : ℕ) (reset : Bool) (x y : ℤ) → length pads ≡ 4
    → FitsSigned w16 x → FitsSigned w16 y
    → input_of (input_bytes (input_with pads buttons reset x y) ++ tail) reset
    ≡ input_with pads buttons reset x y
unfolding input_with
fields_again [] tail buttons reset x y h fx fy = absurd cc
fields_again (a ∷ []) tail buttons reset x y h fx fy = absurd cc
fields_again (a ∷ b ∷ []) tail buttons reset x y h fx fy = absurd cc
fields_again (a ∷ b ∷ c ∷ []) tail buttons reset x y h fx fy = absurd cc
fields_again (a ∷ b ∷ c ∷ d ∷ []) tail buttons reset x y h fx fy =
    let pads : List ℕ = a ∷ b ∷ c ∷ d ∷ [] in
    let n : ℕ = cast_unsigned w16 y in
    ap (λ x'. input_with pads buttons reset x' (cast_signed w16 (n % 256 + 256 * (n / 256))))
    (coordinate_again x fx)
    ∙ ap (λ y'. input_with pads buttons reset x y') (coordinate_again y fy)
fields_again (a ∷ b ∷ c ∷ d ∷ e ∷ pads) tail buttons reset x y h fx fy = absurd (omega arith)

input_again : (input : Input) (tail : List ℕ) → IsInput input
    → input_of (input_bytes input ++ tail) input.reset ≡ input
unfolding input_with
input_again input tail is =
    fields_again input.pads tail input.buttons input.reset input.mouse_x input.mouse_y is.four_pads
    is.mouse_x is.mouse_y

reset_again : (reset : Bool) → reset_of (flag_of reset) ≡ Some reset
reset_again true = refl
reset_again false = refl

decoded_1 : (input : Input) → IsInput input → input.reset ≡ false → IsDecoded 1 input
decoded_1 input is none = (
  refl,
  ap (λ (i : Input). Some i) (ap (input_of (input_bytes input)) (sym none)
      ∙ input_again input [] is),
)

decoded_2 : (input : Input) → IsInput input → IsDecoded 2 input
decoded_2 input is =
    let bytes : List ℕ = input_bytes input ++ flag_of input.reset ∷ [] in (
      refl,
      ap (λ o. o >>= λ reset. Some (input_of bytes reset)) (reset_again input.reset)
          ∙ ap (λ (i : Input). Some i) (input_again input (flag_of input.reset ∷ []) is),
    )

all_decoded_1 : (inputs : List Input) → AllByRecursion IsInput inputs
    → AllByRecursion (λ (i : Input). i.reset ≡ false) inputs → AllByRecursion (IsDecoded 1) inputs
all_decoded_1 [] all none = tt
all_decoded_1 (input ∷ inputs) all none = (decoded_1 input all.0 none.0, all_decoded_1 inputs all.1 none.1)

all_decoded_2 : (inputs : List Input) → AllByRecursion IsInput inputs → AllByRecursion (IsDecoded 2) inputs
all_decoded_2 [] all = tt
all_decoded_2 (input ∷ inputs) all = (decoded_2 input all.0, all_decoded_2 inputs all.1)

frames_again : (version : ℕ) (inputs : List Input) → AllByRecursion (IsDecoded version) inputs
    → frames_of version (length inputs) (flat_map (frame_bytes version) inputs) ≡ Some inputs
unfolding frames_of
frames_again version [] all = refl
frames_again version (input ∷ inputs) all =
    let frame = frame_bytes version input in
    let frames = flat_map (frame_bytes version) inputs in
    rw (
      flat_map-cons (frame_bytes version) input inputs,
      front_again frame frames
          (frame_size version) all.0.0,
      all.0.1,
      frames_again version inputs all.1,
    ) refl

-- ---- a recording's bytes are decoded

pub regroup : (a b c d e f g : List ℕ)
    → a ++ b ++ c ++ d ++ e ++ f ++ g ≡ a ++ (b ++ (c ++ (d ++ (e ++ (f ++ g)))))
regroup a b c d e f g = simp append_assoc refl

-- the fields are decoded, each from its own bytes
parts_again : (version : ℕ) (head digest b s disk c frames : List ℕ) (budget : ℕ) (inputs : List Input)
    → length head ≡ 5 → version_of head ≡ Some version → length digest ≡ 32
    → length b ≡ 4 → from_le_bytes w32 b ≡ budget → length s ≡ 2 → from_le_bytes w16 s ≡ length disk
    → length c ≡ 4 → from_le_bytes w32 c ≡ length inputs
    → 1 ≤ budget → length disk ≤ 1024 → length inputs ≤ 36000
    → frames_of version (length inputs) frames ≡ Some inputs
    → recording_of (head ++ (digest ++ (b ++ (s ++ (disk ++ (c ++ frames))))))
    ≡ Some (record { digest = digest; budget = budget; disk = disk; frames = inputs })
unfolding recording_of
parts_again version head digest b s disk c frames budget inputs hl he dl bl bv sl sv cl cv least size most
    read =
    rw (
      front_again head (digest ++ (b ++ (s ++ (disk ++ (c ++ frames))))) 5 hl,
      he,
      front_again digest (b ++ (s ++ (disk ++ (c ++ frames)))) 32 dl,
      number_again w32 b (s ++ (disk ++ (c ++ frames))) budget bl bv,
      number_again w16 s (disk ++ (c ++ frames)) (length disk) sl sv,
      front_again disk (c ++ frames) (length disk) refl,
      number_again w32 c frames (length inputs) cl cv,
      le-leb 1 budget least,
      le-leb (length disk) 1024 size,
      le-leb (length inputs) 36000 most,
      read,
    ) refl

whole_again : (version : ℕ) (r : Recording) → version_of (heading version) ≡ Some version → IsRecording r
    → AllByRecursion (IsDecoded version) r.frames
    → recording_of (encoding version r) ≡ Some r
unfolding encoding
whole_again version r known is all =
    let frames = flat_map (frame_bytes version) r.frames in
    let disk = to_le_bytes w16 (length r.disk) in
    let count = to_le_bytes w32 (length r.frames) in
    ap recording_of (regroup (heading version) r.digest (to_le_bytes w32 r.budget) disk r.disk count frames)
    ∙ parts_again version (heading version) r.digest
    (to_le_bytes w32 r.budget) disk r.disk count frames r.budget r.frames
    refl known is.digest_length refl (from_le_bytes-to_le_bytes_4 r.budget is.budget)
    refl (from_le_bytes-to_le_bytes_2 (length r.disk) (omega (arith, is.small_disk)))
    refl (from_le_bytes-to_le_bytes_4 (length r.frames) (omega (arith, is.few_frames)))
    is.some_budget is.small_disk is.few_frames (frames_again version r.frames all)

pub again_1 : (r : Recording) → IsRecording r → HasNoReset r → recording_of (encoding 1 r) ≡ Some r
again_1 r is none = whole_again 1 r refl is (all_decoded_1 r.frames is.frames none)

pub again_2 : (r : Recording) → IsRecording r → recording_of (encoding 2 r) ≡ Some r
again_2 r is = whole_again 2 r refl is (all_decoded_2 r.frames is.frames)
