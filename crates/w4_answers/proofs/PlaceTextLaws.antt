-- Texts of places, one after another. Where one of them isn't there, all together aren't.
use Rattle.std.proofs.Common.{◌≡◌, ℕ, zero, suc, ◌+◌, ◌-◌, ◌<◌, ◌≤◌, List, Option, Some, None, [], refl, ap}
use Rattle.std.proofs.Common.{subst, arith, append-nil}
use Rattle.std.specs.Option.{ForSome}
use Rattle.w4_defs.specs.AllThere.{joined}
use Rattle.w4_defs.specs.World.{World}
use Rattle.w4_answers.specs.Writing.{AppendsOut, StopsWriting}
use Rattle.w4_defs.specs.Endings.{Manner}
use Rattle.w4_defs.specs.PlaceTexts.{place_texts}
use Rattle.w4_answers.proofs.WritingLaws.{OwesThere, there_less, there_nothing, there_stopped}

texts-next : (text : ℕ → Option (List ℕ)) (at end : ℕ) → at < end
    → place_texts text at (end - at) ≡ joined (text at) (place_texts text (at + 1) (end - (at + 1)))
texts-next text at end lt = let k : end - at ≡ suc (end - (at + 1)) = omega arith in rw k refl

pub texts-more : (first now next : World) (text : ℕ → Option (List ℕ)) (whole : Option (List ℕ)) (at end : ℕ)
    → at < end → ForSome (text at) (λ written. AppendsOut now.events next.events written)
    → OwesThere first now (place_texts text at (end - at)) whole
    → OwesThere first next (place_texts text (at + 1) (end - (at + 1))) whole
texts-more first now next text whole at end lt h so_far =
    there_less first now next (text at) (place_texts text (at + 1) (end - (at + 1))) whole h
    (subst (λ owed. OwesThere first now owed whole) (texts-next text at end lt) so_far)

-- where one of them stopped
pub texts-stop : (first now next : World) (why : Manner) (text : ℕ → Option (List ℕ))
    (whole : Option (List ℕ)) (at end : ℕ) → at < end → first.write_faults ≤ now.write_faults
    → OwesThere first now (place_texts text at (end - at)) whole
    → ForSome (text at) (λ written. StopsWriting now next why written)
    → ForSome whole (λ all. StopsWriting first next why all)
texts-stop first now next why text whole at end lt le so_far h =
    there_stopped first now next why (text at) (place_texts text (at + 1) (end - (at + 1)))
    (place_texts text at (end - at)) whole (texts-next text at end lt) le so_far h

pub texts-all : (first now : World) (text : ℕ → Option (List ℕ)) (whole : Option (List ℕ)) (at end : ℕ)
    → end ≤ at
    → OwesThere first now (place_texts text at (end - at)) whole
    → ForSome whole (λ all. AppendsOut first.events now.events all)
texts-all first now text whole at end le so_far =
    let k : end - at ≡ 0 = omega arith in
    there_nothing first now (place_texts text at (end - at)) whole (rw k refl) so_far

joined_nothing : (text : Option (List ℕ)) → joined text (Some []) ≡ text
joined_nothing (Some bytes) = ap (λ (xs : List ℕ). Some xs) (append-nil bytes)
joined_nothing None = refl

-- the text of one place is that of a range
pub text-alone : (text : ℕ → Option (List ℕ)) (p : ℕ) → place_texts text p (p + 1 - p) ≡ text p
text-alone text p = let k : p + 1 - p ≡ suc zero = omega arith in rw k (joined_nothing (text p))
