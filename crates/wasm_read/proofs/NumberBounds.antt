-- Numbers of w bits, a byte at a time.
use Rattle.std.proofs.Common.{◌≡◌, ℕ, ◌+◌, ◌-◌, ◌*◌, ◌^◌, ◌<◌, ◌≤◌, true, nat_lt, ap, ◌∙◌, arith, sym}
use Rattle.std.proofs.Math.Pow.{pow_mono}
use Rattle.std.proofs.lemmas.Nat.{pow-add}
use Rattle.std.proofs.lemmas.Bool.{lt-ltb}

pub seven_more : (w : ℕ) → 7 < w → 2 ^ w ≡ 128 * 2 ^ (w - 7)
seven_more w h =
    let e : w ≡ 7 + (w - 7) = omega arith in
    ap (λ k. 2 ^ k) e ∙ pow-add 2 7 (w - 7)

pub joined_below : (w b m : ℕ) → 7 < w → b < 256 → m < 2 ^ (w - 7) → b - 128 + 128 * m < 2 ^ w
joined_below w b m h hb hm = omega (arith, seven_more w h)

pub at_most_word : (w m : ℕ) → 7 < w → w ≤ 64 → m < 2 ^ (w - 7) → 128 * m + 128 ≤ 2 ^ 64
at_most_word w m h most hm =
    let p : 2 ^ w ≤ 2 ^ 64 = pow_mono most in
    omega (arith, seven_more w h, p)

pub below_any : (n w : ℕ) → n < 2 ^ 64 → 64 ≤ w → true ≡ nat_lt n (2 ^ w)
below_any n w h wide =
    let p : 2 ^ 64 ≤ 2 ^ w = pow_mono wide in
    sym (lt-ltb n (2 ^ w) (omega (arith, p)))
