-- Laws of tones: levels and frequencies lie between their ends, and a tone ends after its frames.
use Rattle.std.proofs.Common.{◌≡◌, ℕ, zero, suc, ◌+◌, ◌-◌, ◌*◌, ◌/◌, ◌<◌, ◌≤◌, inl, inr, min, max, Bool, true, false, cond, nat_lt, ◌==◌, ◌||◌, pos, neg_ℤ, ◌+ℤ◌, ◌-ℤ◌, ◌*ℤ◌, int_div, Some, None, refl, sym, ◌∙◌, ap, subst, mul_comm, zero-mul, arith}
use Rattle.std.proofs.lemmas.Int.{ints}
use Rattle.std.proofs.lemmas.Nat.{le-div, mul-le}
use Rattle.std.proofs.Math.Nat.{mul-add, div-le_of_le-mul, zero-div}
use Rattle.std.proofs.lemmas.Bool.{cases_lt, lt-ltb, le-ltb, ltb-true, ltb-false, le-leb, lt-leb, eq-eqb, ne_eqb}
use Rattle.w4_defs.specs.declared.console.Tone.{Tone}
use Rattle.w4_defs.specs.declared.console.Voice.{Voice}
use Rattle.w4_defs.specs.Tones.{interpolate, frequency_slide, ticks, tone_frames, level_at, frequency_at, older, aged_often, started}

-- ---- levels

-- a weighted sum lies between the least and the greatest end, weighed by the whole
weighed_low : (least from to rest at : ℕ) → least ≤ from → least ≤ to
    → least * (rest + at) ≤ from * rest + to * at
weighed_low least from to rest at f t =
    omega (
      arith,
      mul-add least rest at,
      mul-le least rest from rest f (omega arith),
      mul-le least at to at t (omega arith),
    )

weighed_high : (most from to rest at : ℕ) → from ≤ most → to ≤ most
    → from * rest + to * at ≤ most * (rest + at)
weighed_high most from to rest at f t =
    omega (
      arith,
      mul-add most rest at,
      mul-le from rest most rest f (omega arith),
      mul-le to at most at t (omega arith),
    )

pub mix_above : (least from to at len : ℕ) → at < len → least ≤ from → least ≤ to
    → least ≤ interpolate from to at len
mix_above least from to at len h f t =
    let whole : (len - at) + at ≡ len = omega arith in
    le-div least (from * (len - at) + to * at) len (omega arith)
    (let P : ℕ → Type 0 = λ n. least * n ≤ from * (len - at) + to * at in
    subst P whole (weighed_low least from to (len - at) at f t))

pub mix_below : (most from to at len : ℕ) → at < len → from ≤ most → to ≤ most
    → interpolate from to at len ≤ most
mix_below most from to at len h f t =
    let whole : (len - at) + at ≡ len = omega arith in
    div-le_of_le-mul len {m = from * (len - at) + to * at} {n = most}
    (let P : ℕ → Type 0 = λ n. from * (len - at) + to * at ≤ n in
    subst P (ap (λ n. most * n) whole ∙ mul_comm most len) (weighed_high most from to (len - at) at f t))

-- a fact of both cases of a choice
of_both : (b : Bool) (P : ℕ → Type 0) (x y : ℕ) → (b ≡ true → P x) → (b ≡ false → P y) → P (cond b x y)
of_both true P x y f g = f refl
of_both false P x y f g = g refl

pub level_small : (tone : Tone) (t : ℕ) → tone.peak ≤ 100 → tone.level ≤ 100 → t < ticks (tone_frames tone)
    → level_at tone t ≤ 100
unfolding level_at
level_small tone t peak level within =
    let small : ℕ → Type 0 = λ n. n ≤ 100 in
    let a = ticks tone.attack in
    let d = ticks tone.decay in
    let s = ticks tone.sustain in
    of_both (nat_lt t a) small _ _ (λ h. mix_below 100 0 tone.peak t a (ltb-true t a h) (omega arith) peak)
    (λ past. of_both (nat_lt t (a + d)) small _ _
    (λ h. mix_below 100 tone.peak tone.level (t - a) d
    (omega (arith, ltb-true t (a + d) h, ltb-false t a past)) peak level)
    (λ later. of_both (nat_lt t (a + d + s)) small _ _ (λ h. level)
    (λ last. mix_below 100 tone.level 0 (t - (a + d + s)) (ticks tone.release)
    (omega (arith, ltb-false t (a + d + s) last)) level (omega arith))))

-- ---- frequencies

-- a part of a gap is at most the gap
part_small : (gap at len : ℕ) → at < len → gap * at / len ≤ gap
part_small gap at len h =
    div-le_of_le-mul len {m = gap * at} {n = gap}
    (omega (arith, mul-le gap at gap len (omega arith) (omega arith), mul_comm gap len))

slide_up : (first second at len : ℕ) → first ≤ second
    → frequency_slide first second at len ≡ first + (second - first) * at / len
slide_up first second at len h =
    ap (λ b. cond b (first + (second - first) * at / len) (first - (first - second) * at / len))
    (le-leb first second h)

slide_down : (first second at len : ℕ) → second < first
    → frequency_slide first second at len ≡ first - (first - second) * at / len
slide_down first second at len h =
    ap (λ b. cond b (first + (second - first) * at / len) (first - (first - second) * at / len))
    (lt-leb first second h)

pub slide_above : (first second at len : ℕ) → at < len
    → min first second ≤ frequency_slide first second at len
slide_above first second at len h = elim (cases_lt second first) [
  | inl down ↦ omega (arith, slide_down first second at len down, part_small (first - second) at len h)
  | inr up ↦ omega (arith, slide_up first second at len up, part_small (second - first) at len h)
]

pub slide_below : (first second at len : ℕ) → at < len
    → frequency_slide first second at len ≤ max first second
slide_below first second at len h = elim (cases_lt second first) [
  | inl down ↦ omega (arith, slide_down first second at len down, part_small (first - second) at len h)
  | inr up ↦ omega (arith, slide_up first second at len up, part_small (second - first) at len h)
]

pub frequency_above : (tone : Tone) (t : ℕ) → t < ticks (tone_frames tone)
    → min tone.first tone.second ≤ frequency_at tone t
unfolding frequency_at
frequency_above tone t h = of_both ((tone.second == 0) || tone.note) (λ n. min tone.first tone.second ≤ n) _ _
    (λ still. omega arith) (λ slides. slide_above tone.first tone.second t (ticks (tone_frames tone)) h)

pub frequency_below : (tone : Tone) (t : ℕ) → t < ticks (tone_frames tone)
    → frequency_at tone t ≤ max tone.first tone.second
unfolding frequency_at
frequency_below tone t h = of_both ((tone.second == 0) || tone.note) (λ n. n ≤ max tone.first tone.second) _ _
    (λ still. omega arith) (λ slides. slide_below tone.first tone.second t (ticks (tone_frames tone)) h)

-- a quotient of a number that isn't positive is cut toward zero
pub neg_part : (n len : ℕ) → int_div (neg_ℤ (pos n)) (pos len) ≡ neg_ℤ (pos (n / len))
neg_part zero len = ap pos (zero-div len) ∙ ap (λ q. neg_ℤ (pos q)) (sym (zero-div len))
neg_part (suc n) len = refl

neg_times : (gap at : ℕ) → neg_ℤ (pos gap) *ℤ pos at ≡ neg_ℤ (pos (gap * at))
neg_times zero at = ap pos (zero-mul at) ∙ ap (λ q. neg_ℤ (pos q)) (sym (zero-mul at))
neg_times (suc gap) at = refl

pub slide_cut : (first second at len : ℕ) → at < len →
    pos (frequency_slide first second at len) ≡ pos first +ℤ int_div ((pos second -ℤ pos first) *ℤ pos at)
    (pos len)
slide_cut first second at len h = elim (cases_lt second first) [
  | inl down ↦
      let gap : pos second -ℤ pos first ≡ neg_ℤ (pos (first - second)) = omega (arith, ints) in
      let part = (first - second) * at / len in
      let small : part ≤ first - second = part_small (first - second) at len h in
      let less : pos (first - part) ≡ pos first +ℤ neg_ℤ (pos part) = omega (arith, ints) in
      ap pos (slide_down first second at len down)
      ∙ (less
      ∙ ap (λ q. pos first +ℤ q) (sym (ap (λ g. int_div (g *ℤ pos at) (pos len)) gap
      ∙ (ap (λ g. int_div g (pos len)) (neg_times (first - second) at)
      ∙ neg_part ((first - second) * at) len))))
  | inr up ↦
      let gap : pos second -ℤ pos first ≡ pos (second - first) = omega (arith, ints) in
      ap pos (slide_up first second at len up) ∙ ap (λ g. pos first +ℤ int_div (g *ℤ pos at) (pos len))
      (sym gap)
]

-- ---- ageing

silence_stays : (frames : ℕ) → aged_often frames None ≡ None
silence_stays zero = refl
silence_stays (suc frames) = silence_stays frames

abbrev voice : Tone → ℕ → Voice
voice tone age = record { tone = tone; age = age }

older_on : (tone : Tone) (age : ℕ) → age + 1 < tone_frames tone
    → older (voice tone age) ≡ Some (voice tone (age + 1))
older_on tone age h =
    ap (λ b. cond b (Some (voice tone (age + 1))) None) (lt-ltb (age + 1) (tone_frames tone) h)

older_out : (tone : Tone) (age : ℕ) → tone_frames tone ≤ age + 1 → older (voice tone age) ≡ None
older_out tone age h =
    ap (λ b. cond b (Some (voice tone (age + 1))) None) (le-ltb (age + 1) (tone_frames tone) h)

-- a voice of some age after more frames
ages_on : (tone : Tone) (age frames : ℕ) → age + frames < tone_frames tone →
    aged_often frames (Some (voice tone age)) ≡ Some (voice tone (age + frames))
ages_on tone age zero h = let same : age ≡ age + 0 = omega arith in ap (λ n. Some (voice tone n)) same
ages_on tone age (suc frames) h =
    let same : (age + 1) + frames ≡ age + suc frames = omega arith in
    ap (aged_often frames) (older_on tone age (omega arith))
    ∙ (ages_on tone (age + 1) frames (omega arith) ∙ ap (λ n. Some (voice tone n)) same)

ages_out : (tone : Tone) (age frames : ℕ) → age < tone_frames tone → tone_frames tone ≤ age + frames →
    aged_often frames (Some (voice tone age)) ≡ None
ages_out tone age zero h k = absurd (omega arith)
ages_out tone age (suc frames) h k = elim (cases_lt (age + 1) (tone_frames tone)) [
  | inl more ↦ ap (aged_often frames) (older_on tone age more)
      ∙ ages_out tone (age + 1) frames more (omega arith)
  | inr last ↦ ap (aged_often frames) (older_out tone age last) ∙ silence_stays frames
]

started_some : (tone : Tone) → 0 < tone_frames tone → started tone ≡ Some (voice tone 0)
started_some tone h =
    ap (λ b. cond b None (Some (voice tone 0))) (ne_eqb (tone_frames tone) 0 (λ e. omega arith))

started_none : (tone : Tone) → tone_frames tone ≡ 0 → started tone ≡ None
started_none tone h = ap (λ b. cond b None (Some (voice tone 0))) (eq-eqb (tone_frames tone) 0 h)

pub tone_sounds : (tone : Tone) (frames : ℕ) → frames < tone_frames tone
    → aged_often frames (started tone) ≡ Some (record { tone = tone; age = frames })
tone_sounds tone frames h =
    let same : 0 + frames ≡ frames = omega arith in
    ap (aged_often frames) (started_some tone (omega arith))
    ∙ (ages_on tone 0 frames (omega arith) ∙ ap (λ n. Some (voice tone n)) same)

pub tone_stops : (tone : Tone) (frames : ℕ) → tone_frames tone ≤ frames
    → aged_often frames (started tone) ≡ None
tone_stops tone frames h = elim (cases_lt 0 (tone_frames tone)) [
  | inl some ↦ ap (aged_often frames) (started_some tone some) ∙ ages_out tone 0 frames some (omega arith)
  | inr none ↦ ap (aged_often frames) (started_none tone (omega arith)) ∙ silence_stays frames
]
