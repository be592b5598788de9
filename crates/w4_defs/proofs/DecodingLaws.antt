-- What is decoded is encoded, by one recording alone.
use mir.Val.{Fits}
use Rattle.std.proofs.Common.{◌≡◌, ℕ, zero, suc, ◌+◌, ◌*◌, ◌/◌, ◌%◌, ◌^◌, ◌<◌, ◌≤◌, ◌⊎◌, inl, inr, true, false, cond, eqb, leb, ◌&&◌, List, [], ◌∷◌, ◌++◌, length, get_or, Option, Some, None, refl, sym, ap, ◌∙◌, subst, arith, Bool, FitsSigned, ne_eqb, eqb-true}
use Rattle.std.specs.Str.{bytes_eq}
use Rattle.std.specs.List.{flat_map, AllByRecursion}
use Rattle.std.specs.Int.{w16, w32, to_le_bytes, cast_signed, cast_unsigned}
use Rattle.std.proofs.lemmas.Bool.{and_parts, cases_eq, leb-true}
use Rattle.std.proofs.lemmas.List.{length-append}
use Rattle.std.proofs.lemmas.List.Concat.{flat_map-cons}
use Rattle.std.proofs.lemmas.Slice.Eq.{bytes_eq-Decides}
use Rattle.std.proofs.lemmas.Int.{of_z-to_z}
use Rattle.std.proofs.Math.Facts.{sfits_to_z}
use Rattle.std.proofs.Math.Nat.{mul-suc}
use Rattle.w4_defs.specs.declared.console.Input.{Input}
use Rattle.w4_defs.specs.MemoryMap.{input_bytes}
use Rattle.w4_defs.specs.Reading.{◌>>=◌, IsBytes, front_at, little_endian_at}
use Rattle.w4_defs.specs.Recording.{Recording, IsInput, IsRecording, heading, flag_of, frame_size, frame_bytes, encoding, HasNoReset, IsEncoded, EncodedIsDecoded, DecodedIsEncoded, EncodesAtMostOne, OneEncoding, RewrittenIsSame, EncodingLength, LongestEncoding, version_of, input_of, reset_of, frame_of, frames_of, is_within_limits, recording_of}
use Rattle.w4_defs.proofs.ReadingLaws.{front_read, front_bytes, rest_bytes, number_read_2, number_read_4}
use Rattle.w4_defs.proofs.OptionLaws.{bind_some, held_if, some_same, no_none}
use Rattle.w4_defs.proofs.RecordingLaws.{IsVersion, regroup, again_1, again_2}

-- ---- a frame that is decoded has these bytes

-- what was decoded from a frame's bytes
abbrev pub IsFrame : ℕ → List ℕ → Input → Type 0
IsFrame version bytes input = (frame_bytes version input ≡ bytes) × IsInput input × (version ≡ 1
    → input.reset ≡ false)

-- two bytes, from the coordinate that they are
low_byte : (n a b : ℕ) → n ≡ a + 256 * b → a < 256 → n % 256 ≡ a
low_byte n a b e h = omega arith

high_byte : (n a b : ℕ) → n ≡ a + 256 * b → a < 256 → n / 256 ≡ b
high_byte n a b e h = omega arith

coordinate_back : (a b : ℕ) → a < 256 → b < 256
    → cast_unsigned w16 (cast_signed w16 (a + 256 * b)) ≡ a + 256 * b
coordinate_back a b ha hb = of_z-to_z w16 (a + 256 * b) (omega arith)

coordinate_fits : (a b : ℕ) → a < 256 → b < 256 → FitsSigned w16 (cast_signed w16 (a + 256 * b))
coordinate_fits a b ha hb = let fits : Fits w16
    (a + 256 * b) = record { fits = omega arith } in sfits_to_z fits

nine_back : (a b c d e f g h i : ℕ) (tail : List ℕ) (reset : Bool)
    → IsBytes (a ∷ b ∷ c ∷ d ∷ e ∷ f ∷ g ∷ h ∷ i ∷ tail)
    → input_bytes (input_of (a ∷ b ∷ c ∷ d ∷ e ∷ f ∷ g ∷ h ∷ i ∷ tail) reset)
    ≡ a ∷ b ∷ c ∷ d ∷ e ∷ f ∷ g ∷ h ∷ i ∷ []
nine_back a b c d e f g h i tail reset small =
    let x : ℕ = cast_unsigned w16 (cast_signed w16 (e + 256 * f)) in
    let y : ℕ = cast_unsigned w16 (cast_signed w16 (g + 256 * h)) in
    let is_x : x ≡ e + 256 * f = coordinate_back e f (small 4) (small 5) in
    let is_y : y ≡ g + 256 * h = coordinate_back g h (small 6) (small 7) in
    let p : x % 256 ≡ e = low_byte x e f is_x (small 4) in
    let q : x / 256 ≡ f = high_byte x e f is_x (small 4) in
    let r : y % 256 ≡ g = low_byte y g h is_y (small 6) in
    let s : y / 256 ≡ h = high_byte y g h is_y (small 6) in
    λ k. a ∷ b ∷ c ∷ d ∷ p k ∷ q k ∷ r k ∷ s k ∷ i ∷ []

input_fits : (a b c d e f g h i : ℕ) (tail : List ℕ) (reset : Bool)
    → IsBytes (a ∷ b ∷ c ∷ d ∷ e ∷ f ∷ g ∷ h ∷ i ∷ tail)
    → IsInput (input_of (a ∷ b ∷ c ∷ d ∷ e ∷ f ∷ g ∷ h ∷ i ∷ tail) reset)
input_fits a b c d e f g h i tail reset small = record {
  four_pads = refl;
  pads = front_bytes (a ∷ b ∷ c ∷ d ∷ []) (e ∷ f ∷ g ∷ h ∷ i ∷ tail) small;
  mouse_x = coordinate_fits e f (small 4) (small 5);
  mouse_y = coordinate_fits g h (small 6) (small 7);
  buttons = small 8;
}

two_not_one : (n : ℕ) → n ≡ 2 → n ≡ 1 → ⊥
two_not_one n two one = omega (arith, two, one)

flag_back : (flag : ℕ) (reset : Bool) → reset_of flag ≡ Some reset → flag_of reset ≡ flag
flag_back flag reset e = elim (cases_eq flag 0) [
  | inl zero_flag ↦
      let read : reset_of flag ≡ Some false = ap reset_of zero_flag in
      ap flag_of (sym (some_same false reset (sym read ∙ e))) ∙ sym zero_flag
  | inr other ↦ elim (cases_eq flag 1) [
    | inl one_flag ↦
        let read : reset_of flag ≡ Some true = ap reset_of one_flag in
        ap flag_of (sym (some_same true reset (sym read ∙ e))) ∙ sym one_flag
    | inr neither ↦
        let read : reset_of flag ≡ None = rw (ne_eqb flag 0 other, ne_eqb flag 1 neither) refl in
        absurd (no_none reset (sym read ∙ e))
  ]
]

frame_1 : (bytes : List ℕ) (input : Input) → length bytes ≡ 9 → IsBytes bytes
    → Some (input_of bytes false) ≡ Some input → IsFrame 1 bytes input
frame_1 (a ∷ b ∷ c ∷ d ∷ e ∷ f ∷ g ∷ h ∷ i ∷ []) input len small read =
    let bytes : List ℕ = a ∷ b ∷ c ∷ d ∷ e ∷ f ∷ g ∷ h ∷ i ∷ [] in
    subst (IsFrame 1 bytes) (some_same (input_of bytes false) input read)
    (nine_back a b c d e f g h i [] false small, input_fits a b c d e f g h i [] false small, λ _. refl)
frame_1 (a ∷ b ∷ c ∷ d ∷ e ∷ f ∷ g ∷ h ∷ i ∷ j ∷ more) input len small read = absurd (omega arith)
frame_1 bytes input len small read = absurd (omega arith)

frame_2 : (bytes : List ℕ) (input : Input) → length bytes ≡ 10 → IsBytes bytes
    → (reset_of (get_or bytes 9 0) >>= λ reset. Some (input_of bytes reset)) ≡ Some input
    → IsFrame 2 bytes input
frame_2 (a ∷ b ∷ c ∷ d ∷ e ∷ f ∷ g ∷ h ∷ i ∷ j ∷ []) input len small read =
    let bytes : List ℕ = a ∷ b ∷ c ∷ d ∷ e ∷ f ∷ g ∷ h ∷ i ∷ j ∷ [] in
    let both = bind_some (reset_of j) (λ reset. Some (input_of bytes reset)) input read in
    let reset : Bool = both.0 in
    let nine = nine_back a b c d e f g h i (j ∷ []) reset small in
    let ten : frame_bytes 2 (input_of bytes reset) ≡ bytes = λ k. nine k ++ flag_back j reset both.1 k ∷ [] in
    subst (IsFrame 2 bytes) (some_same (input_of bytes reset) input both.2)
    (ten, input_fits a b c d e f g h i (j ∷ []) reset small, λ no. absurd (two_not_one 2 refl no))
frame_2 (a ∷ b ∷ c ∷ d ∷ e ∷ f ∷ g ∷ h ∷ i ∷ j ∷ k ∷ more) input len small read = absurd (omega arith)
frame_2 bytes input len small read = absurd (omega arith)

-- a frame of either version
abbrev FrameReads : List ℕ → Input → ℕ → Type 0
FrameReads bytes input version = length bytes ≡ frame_size version → IsBytes bytes
    → frame_of version bytes ≡ Some input → IsFrame version bytes input

frame_read : (version : ℕ) (bytes : List ℕ) (input : Input) → IsVersion version
    → FrameReads bytes input version
frame_read version bytes input known = elim known [
  | inl one ↦ subst (FrameReads bytes input) (sym one) (frame_1 bytes input)
  | inr two ↦ subst (FrameReads bytes input) (sym two) (frame_2 bytes input)
]

-- what was decoded from the bytes of frames
pub record AreFrames (version count : ℕ) (bytes : List ℕ) (inputs : List Input) : Type 0 where
  pub bytes_are : bytes ≡ flat_map (frame_bytes version) inputs
  pub many : length inputs ≡ count
  pub fit : AllByRecursion IsInput inputs
  pub plain : version ≡ 1 → AllByRecursion (λ (input : Input). input.reset ≡ false) inputs

no_bytes : (bytes : List ℕ) → length bytes ≡ 0 → bytes ≡ []
no_bytes [] e = refl
no_bytes (b ∷ bytes) e = absurd (omega arith)

one_more : (version count : ℕ) (bytes front rest : List ℕ) (input : Input) (inputs : List Input)
    → bytes ≡ front ++ rest
    → IsFrame version front input → AreFrames version count rest inputs
    → AreFrames version (suc count) bytes (input ∷ inputs)
one_more version count bytes front rest input inputs whole frame are = record {
  bytes_are = whole ∙ (λ k. sym frame.0 k ++ are.bytes_are k)
      ∙ sym (flat_map-cons (frame_bytes version) input inputs);
  many = omega (arith, are.many);
  fit = (frame.1, are.fit);
  plain = λ one. (frame.2 one, are.plain one);
}

frames_read : (version count : ℕ) (bytes : List ℕ) (inputs : List Input) → IsVersion version → IsBytes bytes
    → frames_of version count bytes ≡ Some inputs → AreFrames version count bytes inputs
unfolding frames_of
frames_read version zero bytes inputs known small read =
    let both = held_if (eqb (length bytes) 0) (Some []) inputs read in
    let none : [] ≡ inputs = some_same [] inputs both.1 in
    subst (AreFrames version 0 bytes) none (record {
      bytes_are = no_bytes bytes
          (eqb-true _ _ both.0);
      many = refl;
      fit = tt;
      plain = λ _. tt;
    })
frames_read version (suc count) bytes inputs known small read =
    let after_input : (List ℕ × List ℕ) → Input → Option (List Input) =
    λ first input. frames_of version count first.1 >>= λ more. Some (input ∷ more) in
    let after_front : (List ℕ × List ℕ)
    → Option (List Input) = λ first. frame_of version first.0 >>= after_input first in
    let first = bind_some (front_at (frame_size version) bytes) after_front inputs read in
    let parts = front_read (frame_size version) bytes first.0.0 first.0.1 first.1 in
    let small_parts : IsBytes (first.0.0 ++ first.0.1) = subst IsBytes parts.0 small in
    let second = bind_some (frame_of version first.0.0) (after_input first.0) inputs first.2 in
    let third = bind_some (frames_of version count first.0.1) (λ more. Some
    (second.0 ∷ more)) inputs second.2 in
    let frame = frame_read version first.0.0 second.0 known parts.1
    (front_bytes first.0.0 first.0.1 small_parts) second.1 in
    let rest = frames_read version count first.0.1 third.0 known
    (rest_bytes first.0.0 first.0.1 small_parts) third.1 in
    subst (AreFrames version (suc count) bytes) (some_same (second.0 ∷ third.0) inputs third.2)
    (one_more version count bytes first.0.0 first.0.1 second.0 third.0 parts.0 frame rest)

-- ---- a recording that is decoded has these bytes

picked : (a b : Bool) (version : ℕ) → cond a (Some 1) (cond b (Some 2) None) ≡ Some version
    → ((a ≡ true) × (version ≡ 1)) ⊎ ((b ≡ true) × (version ≡ 2))
picked true b version e = inl (refl, sym (some_same 1 version e))
picked false true version e = inr (refl, sym (some_same 2 version e))
picked false false version e = absurd (no_none version e)

version_read : (head : List ℕ) (version : ℕ) → version_of head ≡ Some version
    → (head ≡ heading version) × IsVersion version
version_read head version e = elim (picked (bytes_eq head (heading 1)) (bytes_eq head
    (heading 2)) version e) [
      | inl one ↦ ((bytes_eq-Decides head (heading 1)).0 one.0 ∙ ap heading (sym one.1), inl one.1)
      | inr two ↦ ((bytes_eq-Decides head (heading 2)).0 two.0 ∙ ap heading (sym two.1), inr two.1)
    ]

-- the steps of decoding, each from what the one before it read
abbrev with_frames : List ℕ → ℕ → List ℕ → List Input → Option Recording
with_frames digest budget disk frames = Some
    (record { digest = digest; budget = budget; disk = disk; frames = frames })

abbrev with_count : ℕ → List ℕ → ℕ → ℕ → List ℕ → (ℕ × List ℕ) → Option Recording
with_count version digest budget size disk count =
    cond (is_within_limits budget size count.0)
    (frames_of version count.0 count.1) None >>= with_frames digest budget disk

abbrev with_disk : ℕ → List ℕ → ℕ → ℕ → (List ℕ × List ℕ) → Option Recording
with_disk version digest budget size disk =
    little_endian_at w32 disk.1 >>= with_count version digest budget size disk.0

abbrev with_size : ℕ → List ℕ → ℕ → (ℕ × List ℕ) → Option Recording
with_size version digest budget size = front_at size.0 size.1 >>= with_disk version digest budget size.0

abbrev with_budget : ℕ → List ℕ → (ℕ × List ℕ) → Option Recording
with_budget version digest budget = little_endian_at w16 budget.1 >>= with_size version digest budget.0

abbrev with_digest : ℕ → (List ℕ × List ℕ) → Option Recording
with_digest version digest = little_endian_at w32 digest.1 >>= with_budget version digest.0

abbrev with_version : List ℕ → ℕ → Option Recording
with_version rest version = front_at 32 rest >>= with_digest version

limits : (budget size count : ℕ) → is_within_limits budget size count ≡ true
    → (1 ≤ budget) × (size ≤ 1024) × (count ≤ 36000)
limits budget size count e =
    let all = and_parts (leb 1 budget && leb size 1024) (leb count 36000) e in
    let two = and_parts (leb 1 budget) (leb size 1024) all.0 in
    (leb-true _ _ two.0, leb-true _ _ two.1, leb-true _ _ all.1)

-- the encoding from each field on
abbrev count_on : ℕ → Recording → List ℕ
count_on version r = to_le_bytes w32 (length r.frames) ++ flat_map (frame_bytes version) r.frames

abbrev disk_on : ℕ → Recording → List ℕ
disk_on version r = r.disk ++ count_on version r

abbrev size_on : ℕ → Recording → List ℕ
size_on version r = to_le_bytes w16 (length r.disk) ++ disk_on version r

abbrev budget_on : ℕ → Recording → List ℕ
budget_on version r = to_le_bytes w32 r.budget ++ size_on version r

abbrev digest_on : ℕ → Recording → List ℕ
digest_on version r = r.digest ++ budget_on version r

-- what is known of a recording that was decoded from its frames, from its disk on, and so forth to its front
pub record FromCount (version : ℕ) (digest_read : List ℕ) (budget_read size : ℕ) (disk_read rest : List ℕ)
    (r : Recording) : Type 0 where
  pub bytes_are : rest ≡ count_on version r
  pub digest : r.digest ≡ digest_read
  pub budget : r.budget ≡ budget_read
  pub disk : r.disk ≡ disk_read
  pub some_budget : 1 ≤ budget_read
  pub small_disk : size ≤ 1024
  pub few_frames : length r.frames ≤ 36000
  pub frames : AllByRecursion IsInput r.frames
  pub plain : version ≡ 1 → HasNoReset r

pub record FromDisk (version : ℕ) (digest_read : List ℕ) (budget_read size : ℕ) (rest : List ℕ)
    (r : Recording) : Type 0 where
  pub bytes_are : rest ≡ disk_on version r
  pub digest : r.digest ≡ digest_read
  pub budget : r.budget ≡ budget_read
  pub disk_length : length r.disk ≡ size
  pub disk : IsBytes r.disk
  pub some_budget : 1 ≤ budget_read
  pub small_disk : size ≤ 1024
  pub few_frames : length r.frames ≤ 36000
  pub frames : AllByRecursion IsInput r.frames
  pub plain : version ≡ 1 → HasNoReset r

pub record FromSize (version : ℕ) (digest_read : List ℕ) (budget_read : ℕ) (rest : List ℕ)
    (r : Recording) : Type 0 where
  pub bytes_are : rest ≡ size_on version r
  pub digest : r.digest ≡ digest_read
  pub budget : r.budget ≡ budget_read
  pub disk : IsBytes r.disk
  pub some_budget : 1 ≤ budget_read
  pub small_disk : length r.disk ≤ 1024
  pub few_frames : length r.frames ≤ 36000
  pub frames : AllByRecursion IsInput r.frames
  pub plain : version ≡ 1 → HasNoReset r

count_parts : (version : ℕ) (digest : List ℕ) (budget size : ℕ) (disk rest after : List ℕ) (count : ℕ)
    (r : Recording)
    → IsVersion version → IsBytes after → rest ≡ to_le_bytes w32 count ++ after
    → with_count version digest budget size disk (count, after) ≡ Some r
    → FromCount version digest budget size disk rest r
count_parts version digest budget size disk rest after count r known small whole e =
    let frames = bind_some (cond (is_within_limits budget size count) (frames_of version count after) None)
    (with_frames digest budget disk) r e in
    let tested = held_if (is_within_limits budget size count) (frames_of version count after) frames.0
    frames.1 in
    let fit = limits budget size count tested.0 in
    let are = frames_read version count after frames.0 known small tested.1 in
    let decoded : Recording = record { digest = digest; budget = budget; disk = disk; frames = frames.0 } in
    let few : length frames.0 ≤ 36000 = subst (λ n. n ≤ 36000) (sym are.many) fit.2 in
    subst (FromCount version digest budget size disk rest) (some_same decoded r frames.2) (record {
      bytes_are = whole ∙ (λ k. to_le_bytes w32 (sym are.many k) ++ are.bytes_are k);
      digest = refl;
      budget = refl;
      disk = refl;
      some_budget = fit.0;
      small_disk = fit.1;
      few_frames = few;
      frames = are.fit;
      plain = are.plain;
    })

from_count : (version : ℕ) (digest : List ℕ) (budget size : ℕ) (disk rest : List ℕ) (r : Recording)
    → IsVersion version → IsBytes rest
    → (little_endian_at w32 rest >>= with_count version digest budget size disk) ≡ Some r
    → FromCount version digest budget size disk rest r
from_count version digest budget size disk rest r known small e =
    let count = bind_some (little_endian_at w32 rest) (with_count version digest budget size disk) r e in
    let parts = number_read_4 rest count.0.1 count.0.0 small count.1 in
    count_parts version digest budget size disk rest count.0.1 count.0.0 r known
    (rest_bytes (to_le_bytes w32 count.0.0) count.0.1 (subst IsBytes parts.0 small)) parts.0 count.2

disk_parts : (version : ℕ) (digest : List ℕ) (budget size : ℕ) (disk rest after : List ℕ) (r : Recording)
    → length disk ≡ size → IsBytes disk
    → rest ≡ disk ++ after → FromCount version digest budget size disk after r
    → FromDisk version digest budget size rest r
disk_parts version digest budget size disk rest after r len small whole from = record {
  bytes_are = whole ∙ (λ k. sym from.disk k ++ from.bytes_are k);
  digest = from.digest;
  budget = from.budget;
  disk_length = ap length from.disk ∙ len;
  disk = subst IsBytes (sym from.disk) small;
  some_budget = from.some_budget;
  small_disk = from.small_disk;
  few_frames = from.few_frames;
  frames = from.frames;
  plain = from.plain;
}

from_disk : (version : ℕ) (digest : List ℕ) (budget size : ℕ) (rest : List ℕ) (r : Recording)
    → IsVersion version → IsBytes rest
    → (front_at size rest >>= with_disk version digest budget size) ≡ Some r
    → FromDisk version digest budget size rest r
from_disk version digest budget size rest r known small e =
    let disk = bind_some (front_at size rest) (with_disk version digest budget size) r e in
    let parts = front_read size rest disk.0.0 disk.0.1 disk.1 in
    let both : IsBytes (disk.0.0 ++ disk.0.1) = subst IsBytes parts.0 small in
    disk_parts version digest budget size disk.0.0 rest disk.0.1 r parts.1
    (front_bytes disk.0.0 disk.0.1 both) parts.0
    (from_count version digest budget size disk.0.0 disk.0.1 r known
    (rest_bytes disk.0.0 disk.0.1 both) disk.2)

size_parts : (version : ℕ) (digest : List ℕ) (budget size : ℕ) (rest after : List ℕ) (r : Recording)
    → rest ≡ to_le_bytes w16 size ++ after
    → FromDisk version digest budget size after r → FromSize version digest budget rest r
size_parts version digest budget size rest after r whole from = record {
  bytes_are = whole ∙ (λ k. to_le_bytes w16 (sym from.disk_length k) ++ from.bytes_are k);
  digest = from.digest;
  budget = from.budget;
  disk = from.disk;
  some_budget = from.some_budget;
  small_disk = subst (λ n. n ≤ 1024) (sym from.disk_length) from.small_disk;
  few_frames = from.few_frames;
  frames = from.frames;
  plain = from.plain;
}

from_size : (version : ℕ) (digest : List ℕ) (budget : ℕ) (rest : List ℕ) (r : Recording)
    → IsVersion version → IsBytes rest
    → (little_endian_at w16 rest >>= with_size version digest budget) ≡ Some r
    → FromSize version digest budget rest r
from_size version digest budget rest r known small e =
    let size = bind_some (little_endian_at w16 rest) (with_size version digest budget) r e in
    let parts = number_read_2 rest size.0.1 size.0.0 small size.1 in
    size_parts version digest budget size.0.0 rest size.0.1 r parts
    (from_disk version digest budget size.0.0 size.0.1 r known (rest_bytes
    (to_le_bytes w16 size.0.0) size.0.1 (subst IsBytes parts small)) size.2)

-- what is known of a recording that was decoded from its digest on
abbrev FromDigest : ℕ → List ℕ → Recording → Type 0
FromDigest version rest r = IsRecording r × (rest ≡ digest_on version r) × (version ≡ 1 → HasNoReset r)

budget_parts : (version : ℕ) (digest : List ℕ) (budget : ℕ) (whole rest after : List ℕ) (r : Recording)
    → length digest ≡ 32 → IsBytes digest → whole ≡ digest ++ rest
    → rest ≡ to_le_bytes w32 budget ++ after → budget < 2 ^ 32
    → FromSize version digest budget after r → FromDigest version whole r
budget_parts version digest budget whole rest after r len small first second below from = (
  record {
    digest_length = ap length from.digest ∙ len;
    digest = subst IsBytes (sym from.digest) small;
    some_budget = subst (λ n. 1 ≤ n) (sym from.budget) from.some_budget;
    budget = subst (λ n. n < 2 ^ 32) (sym from.budget) below;
    small_disk = from.small_disk;
    disk = from.disk;
    few_frames = from.few_frames;
    frames = from.frames;
  },
  first ∙ (λ k. sym from.digest k ++ (second
      ∙ (λ k. to_le_bytes w32 (sym from.budget k) ++ from.bytes_are k)) k),
  from.plain,
)

from_digest : (version : ℕ) (rest : List ℕ) (r : Recording) → IsVersion version → IsBytes rest
    → with_version rest version ≡ Some r → FromDigest version rest r
from_digest version rest r known small e =
    let digest = bind_some (front_at 32 rest) (with_digest version) r e in
    let parts = front_read 32 rest digest.0.0 digest.0.1 digest.1 in
    let both : IsBytes (digest.0.0 ++ digest.0.1) = subst IsBytes parts.0 small in
    let small_rest : IsBytes digest.0.1 = rest_bytes digest.0.0 digest.0.1 both in
    let budget = bind_some (little_endian_at w32 digest.0.1) (with_budget version digest.0.0) r digest.2 in
    let number = number_read_4 digest.0.1 budget.0.1 budget.0.0 small_rest budget.1 in
    budget_parts version digest.0.0 budget.0.0 rest digest.0.1 budget.0.1 r parts.1
    (front_bytes digest.0.0 digest.0.1 both) parts.0 number.0 number.1
    (from_size version digest.0.0 budget.0.0 budget.0.1 r known (rest_bytes
    (to_le_bytes w32 budget.0.0) budget.0.1 (subst IsBytes number.0 small_rest)) budget.2)

encoded_from : (version : ℕ) (bytes head rest : List ℕ) (r : Recording) → IsVersion version
    → bytes ≡ head ++ rest → head ≡ heading version
    → FromDigest version rest r → IsEncoded r bytes
unfolding encoding
encoded_from version bytes head rest r known whole is from =
    let all : bytes ≡ encoding version r = whole ∙ (λ k. is k ++ from.1 k)
    ∙ sym (regroup (heading version) r.digest (to_le_bytes w32 r.budget) (to_le_bytes w16
    (length r.disk)) r.disk (to_le_bytes w32 (length r.frames)) (flat_map
    (frame_bytes version) r.frames)) in (
      from.0,
      elim known [
        | inl one ↦ inl (from.2 one, all ∙ ap (λ v. encoding v r) one)
        | inr two ↦ inr (all ∙ ap (λ v. encoding v r) two)
      ],
    )

-- ---- the laws

pub decoded_is_encoded : DecodedIsEncoded
unfolding recording_of
decoded_is_encoded r bytes small e =
    let head = bind_some (front_at 5 bytes) (λ (head : List ℕ
    × List ℕ). version_of head.0 >>= with_version head.1) r e in
    let parts = front_read 5 bytes head.0.0 head.0.1 head.1 in
    let version = bind_some (version_of head.0.0) (with_version head.0.1) r head.2 in
    let known = version_read head.0.0 version.0 version.1 in
    encoded_from version.0 bytes head.0.0 head.0.1 r known.1 parts.0 known.0
    (from_digest version.0 head.0.1 r known.1 (rest_bytes head.0.0 head.0.1
    (subst IsBytes parts.0 small)) version.2)

pub encoded_is_decoded : EncodedIsDecoded
encoded_is_decoded r bytes encodes = elim encodes.1 [
  | inl first ↦ ap recording_of first.1 ∙ again_1 r encodes.0 first.0
  | inr second ↦ ap recording_of second ∙ again_2 r encodes.0
]

pub encodes_at_most_one : EncodesAtMostOne
encodes_at_most_one r s bytes one other =
    some_same r s (sym (encoded_is_decoded r bytes one) ∙ encoded_is_decoded s bytes other)

first_version : (r : Recording) → get_or (encoding 1 r) 4 0 ≡ 1
unfolding encoding
first_version r = refl

pub one_encoding : OneEncoding
one_encoding r bytes encodes byte = elim encodes.1 [
  | inl first ↦ absurd (two_not_one 2 refl (sym byte ∙ ap (λ xs. get_or xs 4 0) first.1 ∙ first_version r))
  | inr second ↦ second
]

pub rewritten_is_same : RewrittenIsSame
rewritten_is_same r bytes small e = again_2 r (decoded_is_encoded r bytes small e).0

frames_length : (size : ℕ) (bytes : Input → List ℕ) (inputs : List Input) → ((input : Input)
    → length (bytes input) ≡ size)
    → length (flat_map bytes inputs) ≡ size * length inputs
frames_length size bytes [] each = omega arith
frames_length size bytes (input ∷ inputs) each =
    rw (flat_map-cons bytes input inputs, mul-suc size (length inputs))
    (omega (
      arith,
      length-append (bytes input)
          (flat_map bytes inputs),
      each input,
      frames_length size bytes inputs each,
    ))

parts_length : (head digest b s disk c frames : List ℕ) → length head ≡ 5 → length digest ≡ 32
    → length b ≡ 4 → length s ≡ 2 → length c ≡ 4
    → length (head ++ digest ++ b ++ s ++ disk ++ c ++ frames) ≡ 47 + length disk + length frames
parts_length head digest b s disk c frames hl dl bl sl cl = omega (
  arith,
  hl,
  dl,
  bl,
  sl,
  cl,
  length-append head digest,
  length-append (head ++ digest) b,
  length-append (head ++ digest ++ b) s,
  length-append (head ++ digest ++ b ++ s) disk,
  length-append (head ++ digest ++ b ++ s ++ disk) c,
  length-append (head ++ digest ++ b ++ s ++ disk ++ c) frames,
)

encoding_size : (version size : ℕ) (r : Recording) → IsRecording r → ((input : Input)
    → length (frame_bytes version input) ≡ size)
    → length (encoding version r) ≡ 47 + length r.disk + size * length r.frames
unfolding encoding
encoding_size version size r is each =
    parts_length (heading version) r.digest (to_le_bytes w32 r.budget) (to_le_bytes w16
    (length r.disk)) r.disk (to_le_bytes w32 (length r.frames))
    (flat_map (frame_bytes version) r.frames) refl is.digest_length refl refl refl
    ∙ ap (λ n. 47 + length r.disk + n) (frames_length size (frame_bytes version) r.frames each)

pub encoding_length : EncodingLength
encoding_length r is = (encoding_size 1 9 r is (λ _. refl), encoding_size 2 10 r is (λ _. refl))

longest_1 : (n disk frames : ℕ) → n ≡ 47 + disk + 9 * frames → disk ≤ 1024 → frames ≤ 36000 → n ≤ 361071
longest_1 n disk frames e small few = omega (arith, e)

longest_2 : (n disk frames : ℕ) → n ≡ 47 + disk + 10 * frames → disk ≤ 1024 → frames ≤ 36000 → n ≤ 361071
longest_2 n disk frames e small few = omega (arith, e)

pub longest_encoding : LongestEncoding
longest_encoding r bytes encodes =
    let sizes = encoding_length r encodes.0 in
    elim encodes.1 [
      | inl first ↦ longest_1 (length bytes) (length r.disk) (length r.frames) (ap length first.1
          ∙ sizes.0) encodes.0.small_disk encodes.0.few_frames
      | inr second ↦ longest_2 (length bytes) (length r.disk) (length r.frames) (ap length second
          ∙ sizes.1) encodes.0.small_disk encodes.0.few_frames
    ]
