-- Names as text, and sections in order.
use Rattle.std.proofs.Common.{◌≡◌, ◌≢◌, ℕ, zero, suc, ◌<◌, ◌≤◌, eqb, nat_le, nat_lt, Bool, true, false}
use Rattle.std.proofs.Common.{if◌then◌else◌, ◌⊎◌, inl, inr, List, [], ◌∷◌, ◌++◌, length, Option, Some, None}
use Rattle.std.proofs.Common.{Result, Ok, Err, MatchResult, refl, ap, sym, ◌∙◌, subst, arith, eq-eqb}
use Rattle.std.specs.Prelude.{IsUtf8}
use Rattle.std.specs.Str.{is_utf8}
use Rattle.std.specs.Result.{is_ok}
use Rattle.std.proofs.lemmas.Str.{IsUtf8-from_is_utf8, is_utf8-from_IsUtf8}
use Rattle.std.proofs.lemmas.Bool.{eqb-true, ltb-true, leb-true, lt-ltb, le-leb}
use Rattle.std.proofs.lemmas.Bool.Decides.{nat_tests}
use Rattle.std.proofs.lemmas.List.{length-append}
use Rattle.w4_defs.specs.BinaryText.{◌then◌, byte, items}
use Rattle.w4_defs.specs.BinaryType.{bytes}
use Rattle.w4_defs.specs.BinarySection.{Section, section, BeginsWithName, rank, RanksRise, contents}
use Rattle.w4_defs.specs.Reading.{◌>>=◌}
use Rattle.w4_defs.proofs.OptionLaws.{bind_some, held_if}
use Rattle.wasm_read.specs.Reader.{read_as, Takes, Reads}
use Rattle.wasm_read.specs.Combine.{sized_bytes_at}
use Rattle.wasm_read.specs.ReadType.{name_at}
use Rattle.wasm_read.specs.ReadSection.{any_at, section_at, rank_after, ordered_at, contents_at}
use Rattle.wasm_read.proofs.Basics.{split_if, takes_as_read, numbers_differ}
use Rattle.wasm_read.proofs.CombineLaws.{both_reads, cut_reads}
use Rattle.wasm_read.proofs.TypeLaws.{name_reads}

false_of : (b : Bool) → (b ≡ true → ⊥) → b ≡ false
false_of true h = absurd (h refl)
false_of false h = refl

pub text_tested : {S E : Type 0} (A : S → Type 0) (B : E → Type 0) (r : Result S E) (bs : List ℕ)
    → MatchResult r (λ s. A s × IsUtf8 bs) (λ e. (IsUtf8 bs → ⊥) × B e) → is_ok r ≡ is_utf8 bs
text_tested A B (Ok s) bs h = sym (is_utf8-from_IsUtf8 bs h.1)
text_tested A B (Err e) bs h = sym (false_of (is_utf8 bs) (λ t. h.0 (IsUtf8-from_is_utf8 bs t)))

any_sound : (bs : List ℕ) (b : ℕ) (rest : List ℕ) → any_at bs ≡ Some (b, rest) → Takes byte bs b rest
any_sound [] b rest e = absurd cc
any_sound (c ∷ bs) b rest e = takes_as_read byte (c ∷ bs) c b bs rest (c ∷ [], refl, refl) e

any_reads : Reads byte any_at
any_reads = record { sound = any_sound; complete = λ text rest b h. ap (λ t. any_at (t ++ rest)) h }

pub section_reads : Reads section section_at
unfolding section_at
section_reads = both_reads byte bytes any_at sized_bytes_at any_reads cut_reads

section_long : (s : Section) (text : List ℕ) → section s text → 1 ≤ length text
section_long s text h = omega (arith, ap (λ t. length t) h.2, length-append h.0 h.1, ap (λ t. length t) h.3)

-- loops
pub contents_more : (n m id found : ℕ) (bs contents after : List ℕ) (all : Option (List ℕ))
    → contents_at n id bs ≡ all → n ≡ suc m
    → section_at bs ≡ Some ((found, contents), after) → found ≢ id → contents_at m id after ≡ all
contents_more n m id found bs contents after all inv e h other =
    let test : eqb found id ≡ false = grind (arith, nat_tests) in
    let step : contents_at (suc m) id bs ≡ contents_at m id after = rw (h, test) refl in
    sym step ∙ ap (λ k. contents_at k id bs) (sym e) ∙ inv

-- one more section
abbrev NextSection : ℕ → Section → ℕ → Type 0
NextSection last s r =
    ((s.0 ≡ 0) × BeginsWithName s.1 × (r ≡ last))
    ⊎ ((s.0 ≢ 0) × (s.0 ≤ 12) × (last < rank s.0) × (r ≡ rank s.0))

rank_sound : (last : ℕ) (s : Section) (r : ℕ) → rank_after last s ≡ Some r → NextSection last s r
unfolding rank_after
rank_sound last s r e =
    let third : Option ℕ = if nat_lt last (rank s.0) then Some (rank s.0) else None in
    let second : Option ℕ = if nat_le s.0 12 then third else None in
    elim (split_if (eqb s.0 0) (name_at s.1 >>= λ called. Some last) second (Some r) e) [
      | inl h ↦
          let n = bind_some (name_at s.1) (λ called. Some last) r h.1 in
          let t = name_reads.sound s.1 n.0.0 n.0.1 n.1 in
          let same : r ≡ last = cc in
          inl (eqb-true s.0 0 h.0, (n.0.0, t.0, n.0.1, t.1, t.2), same)
      | inr h ↦
          let i = held_if (nat_le s.0 12) third r h.1 in
          let j = held_if (nat_lt last (rank s.0)) (Some (rank s.0)) r i.1 in
          let same : r ≡ rank s.0 = cc in
          let other : s.0 ≢ 0 = numbers_differ s.0 0 h.0 in
          inr (other, leb-true s.0 12 i.0, ltb-true last (rank s.0) j.0, same)
    ]

rises_more : (last : ℕ) (s : Section) (r : ℕ) (ss : List Section) → NextSection last s r → RanksRise r ss
    → RanksRise last (s ∷ ss)
rises_more last s r ss (inl (zero_id, named, same)) h =
    let P : ℕ → Type 0 = λ k. RanksRise k ss in
    inl (zero_id, named, subst P same h)
rises_more last s r ss (inr (other, low, above, same)) h =
    let P : ℕ → Type 0 = λ k. RanksRise k ss in
    inr (other, low, above, subst P same h)

pub ordered_sound : (turns last : ℕ) (bs : List ℕ) (r : ℕ) → ordered_at turns last bs ≡ Some r
    → (ss : List Section) × items section ss bs × RanksRise last ss
ordered_sound turns last [] r e = ([], refl, tt)
ordered_sound zero last (b ∷ bs) r e = absurd cc
ordered_sound (suc turns) last (b ∷ bs) r e =
    let s = bind_some (section_at (b ∷ bs))
    (λ (x : Section × List ℕ). rank_after last x.0 >>= λ k. ordered_at turns k x.1) r e in
    let k = bind_some (rank_after last s.0.0) (λ k. ordered_at turns k s.0.1) r s.2 in
    let t = section_reads.sound (b ∷ bs) s.0.0 s.0.1 s.1 in
    let others = ordered_sound turns k.0 s.0.1 r k.2 in (
      s.0.0 ∷ others.0,
      (t.0, s.0.1, t.1, t.2, others.1),
      rises_more last s.0.0 k.0 others.0 (rank_sound last s.0.0 k.0 k.1) others.2,
    )

rank_complete_custom : (last : ℕ) (s : Section) → s.0 ≡ 0 → BeginsWithName s.1 → rank_after last s ≡ Some last
unfolding rank_after
rank_complete_custom last s zero_id named =
    let test : eqb s.0 0 ≡ true = eq-eqb s.0 0 zero_id in
    let e : name_at s.1 ≡ read_as named.0 named.2 = ap name_at named.3
    ∙ name_reads.complete named.1 named.2 named.0 named.4 in
    rw (test, e) refl

rank_complete : (last : ℕ) (s : Section) → s.0 ≢ 0 → s.0 ≤ 12 → last < rank s.0
    → rank_after last s ≡ Some (rank s.0)
unfolding rank_after
rank_complete last s other low above =
    let test : eqb s.0 0 ≡ false = grind (arith, nat_tests) in
    let second : nat_le s.0 12 ≡ true = le-leb s.0 12 low in
    let third : nat_lt last (rank s.0) ≡ true = lt-ltb last (rank s.0) above in
    rw (test, second, third) refl

-- one section is read where fuel is left
section_first : (s : Section) (turns : ℕ) (a b bs : List ℕ) → bs ≡ a ++ b → section s a
    → length bs ≤ suc turns → (section_at bs ≡ Some (s, b)) × (length b ≤ turns)
section_first s turns a b bs e h few = (
  ap section_at e ∙ section_reads.complete a b s h,
  omega (arith, ap (λ t. length t) e, length-append a b, section_long s a h),
)

-- the rank after a section that may stand there
rank_next : (last : ℕ) (s : Section) (ss : List Section) → RanksRise last (s ∷ ss) → (r : ℕ)
    × (rank_after last s ≡ Some r) × RanksRise r ss
rank_next last s ss (inl (zero_id, named, h)) = (last, rank_complete_custom last s zero_id named, h)
rank_next last s ss (inr (other, low, above, h)) = (rank s.0, rank_complete last s other low above, h)

no_sections : (s : Section) (ss : List Section) → items section (s ∷ ss) [] → ⊥
no_sections s ss h = omega (arith, ap (λ t. length t) h.2, length-append h.0 h.1, section_long s h.0 h.3)

pub ordered_complete : (ss : List Section) (turns last : ℕ) (bs : List ℕ) → items section ss bs
    → RanksRise last ss → length bs ≤ turns → (r : ℕ) × (ordered_at turns last bs ≡ Some r)
ordered_complete [] zero last bs h rises few = (last, ap (λ t. ordered_at zero last t) h)
ordered_complete [] (suc turns) last bs h rises few = (last, ap (λ t. ordered_at (suc turns) last t) h)
ordered_complete (s ∷ ss) turns last [] h rises few = absurd (no_sections s ss h)
ordered_complete (s ∷ ss) zero last (b ∷ bs) h rises few = absurd (omega arith)
ordered_complete (s ∷ ss) (suc turns) last (b ∷ bs) h rises few =
    let f = section_first s turns h.0 h.1 (b ∷ bs) h.2 h.3 few in
    let k = rank_next last s ss rises in
    let others = ordered_complete ss turns k.0 h.1 h.4 k.2 f.1 in
    let e = f.0 in
    let g = k.1 in
    (others.0, (rw (e, g) refl) ∙ others.1)

contents_none : (turns id : ℕ) → contents_at turns id [] ≡ None
unfolding section_at
contents_none zero id = refl
contents_none (suc turns) id = refl

contents_step : (c : Bool) (x : List ℕ) (o p : Option (List ℕ)) → o ≡ p
    → (if c then Some x else o) ≡ (if c then Some x else p)
contents_step true x o p e = refl
contents_step false x o p e = e

pub contents_found : (ss : List Section) (turns id : ℕ) (bs : List ℕ) → items section ss bs
    → length bs ≤ turns → contents_at turns id bs ≡ contents id ss
contents_found [] turns id bs h few = ap (λ t. contents_at turns id t) h ∙ contents_none turns id
contents_found (s ∷ ss) zero id [] h few = absurd (no_sections s ss h)
contents_found (s ∷ ss) (suc turns) id [] h few = absurd (no_sections s ss h)
contents_found (s ∷ ss) zero id (b ∷ bs) h few = absurd (omega arith)
contents_found (s ∷ ss) (suc turns) id (b ∷ bs) h few =
    let f = section_first s turns h.0 h.1 (b ∷ bs) h.2 h.3 few in
    let e = f.0 in
    let others = contents_found ss turns id h.1 h.4 f.1 in
    (rw e refl) ∙ contents_step (eqb s.0 id) s.1 (contents_at turns id h.1) (contents id ss) others
