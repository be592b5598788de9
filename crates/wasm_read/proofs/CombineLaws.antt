-- Readers made of exact readers are exact.
use Rattle.std.proofs.Common.{◌≡◌, ℕ, zero, suc, ◌≤◌, Bool, Decides, true, eqb, ltb, if◌then◌else◌, inl, inr}
use Rattle.std.proofs.Common.{List, [], ◌∷◌, ◌++◌, length, take, drop, Option, Some, None, refl, ap, sym, ◌∙◌}
use Rattle.std.proofs.Common.{subst, append_assoc, append-nil, arith, eq-eqb}
use Rattle.std.proofs.lemmas.Bool.{eqb-true}
use Rattle.std.proofs.lemmas.List.{nil_from_length, length-take-le, take-append-drop}
use Rattle.std.proofs.lemmas.Bool.Decides.{nat_tests}
use Rattle.w4_defs.specs.BinaryText.{Texts, ◌then◌, provided, byte, items}
use Rattle.w4_defs.specs.BinaryNumber.{unsigned}
use Rattle.w4_defs.specs.BinaryType.{vector, sized, bytes}
use Rattle.w4_defs.specs.Reading.{◌>>=◌, front_at}
use Rattle.w4_defs.proofs.ReadingLaws.{front_again}
use Rattle.w4_defs.proofs.OptionLaws.{bind_some, held_if}
use Rattle.wasm_read.specs.Reader.{Reader, read_as, Takes, Reads, ReadsWhole, row_of, coded_at}
use Rattle.wasm_read.specs.ReadNumber.{unsigned_at}
use Rattle.wasm_read.specs.Combine.{both_at, mapped_at, tested_at, headed_at, items_at, vector_at, whole_at}
use Rattle.wasm_read.specs.Combine.{sized_bytes_at, sized_at}
use Rattle.wasm_read.proofs.Basics.{split_if, same_read, takes_as_read}
use Rattle.wasm_read.proofs.NumberLaws.{unsigned_reads}

-- one text and then another, taken from the front
joined_takes : {A B : Type 0} (P : A → Texts) (Q : B → Texts) (bytes : List ℕ) (x : A) (mid : List ℕ) (y : B)
    (rest : List ℕ)
    → Takes P bytes x mid → Takes Q mid y rest → Takes (λ (z : A × B). P z.0 then Q z.1) bytes (x, y) rest
joined_takes P Q bytes x mid y rest p q =
    (p.0 ++ q.0, p.1 ∙ ap (λ m. p.0 ++ m) q.1 ∙ sym (append_assoc p.0 q.0 rest), (p.0, q.0, refl, p.2, q.2))

pub both_reads : {A B : Type 0} (P : A → Texts) (Q : B → Texts) (p : Reader A) (q : Reader B) → Reads P p
    → Reads Q q → Reads (λ (x : A × B). P x.0 then Q x.1) (both_at p q)
both_reads {A} {B} P Q p q rp rq = record {
  sound = λ bytes x rest e.
      let f = bind_some (p bytes) (λ (a : A × List ℕ). q a.1 >>= λ b. read_as (a.0, b.0) b.1) (x, rest) e in
      let s = bind_some (q f.0.1) (λ (b : B × List ℕ). read_as (f.0.0, b.0) b.1) (x, rest) f.2 in
      takes_as_read (λ (z : A × B). P z.0 then Q z.1) bytes (f.0.0, s.0.0) x s.0.1 rest
      (joined_takes P Q bytes f.0.0 f.0.1 s.0.0 s.0.1 (rp.sound bytes f.0.0 f.0.1 f.1)
      (rq.sound f.0.1 s.0.0 s.0.1 s.1)) s.2;
  complete = λ text rest x h.
      ap (both_at p q) (ap (λ t. t ++ rest) h.2 ∙ append_assoc h.0 h.1 rest)
      ∙ (let e = rp.complete h.0 (h.1 ++ rest) x.0 h.3 in let e2 = rq.complete h.1 rest x.1 h.4 in
      rw (e, e2) refl);
}

pub mapped_reads : {A B : Type 0} (P : A → Texts) (p : Reader A) (f : A → B) (g : B → A)
    → ((a : A) → g (f a) ≡ a) → ((b : B) → f (g b) ≡ b)
    → Reads P p → Reads (λ b. P (g b)) (mapped_at f p)
mapped_reads {A} {B} P p f g there back r = record {
  sound = λ bytes y rest e.
      let s = bind_some (p bytes) (λ (a : A × List ℕ). read_as (f a.0) a.1) (y, rest) e in
      let t = r.sound bytes s.0.0 s.0.1 s.1 in
      let Q : A → Type 0 = λ a. P a t.0 in
      takes_as_read (λ (b : B). P (g b)) bytes (f s.0.0) y s.0.1 rest
      (t.0, t.1, subst Q (sym (there s.0.0)) t.2) s.2;
  complete = λ text rest y h.
      let e = r.complete text rest (g y) h in
      rw e (ap (λ b. read_as b rest) (back y));
}

pub tested_reads : {A : Type 0} (P : A → Texts) (p : Reader A) (C : A → Type 0) (test : A → Bool)
    → ((a : A) → Decides (test a) (C a))
    → Reads P p → Reads (λ a. provided (C a) (P a)) (tested_at test p)
tested_reads {A} P p C test decides r = record {
  sound = λ bytes x rest e.
      let s = bind_some (p bytes) (λ (a : A × List ℕ). if test a.0 then Some a else None) (x, rest) e in
      let i = held_if (test s.0.0) (Some s.0) (x, rest) s.2 in
      let t = r.sound bytes s.0.0 s.0.1 s.1 in
      takes_as_read (λ (a : A). provided (C a) (P a)) bytes s.0.0 x s.0.1 rest
      (t.0, t.1, ((decides s.0.0).0 i.0, t.2)) i.1;
  complete = λ text rest x h.
      let e = r.complete text rest x h.1 in
      let c = (decides x).1 h.0 in
      rw (e, c) refl;
}

head_taken : {A : Type 0} (P : A → Texts) (code b : ℕ) (bs : List ℕ) (x : A) (rest : List ℕ) → b ≡ code
    → Takes P bs x rest → Takes (λ z. byte code then P z) (b ∷ bs) x rest
head_taken P code b bs x rest e t =
    (code ∷ t.0, ap (λ k. k ∷ bs) e ∙ ap (λ xs. code ∷ xs) t.1, (code ∷ [], t.0, refl, refl, t.2))

headed_sound : {A : Type 0} (P : A → Texts) (p : Reader A) (code : ℕ) → Reads P p
    → (bytes : List ℕ) (x : A) (rest : List ℕ)
    → headed_at code p bytes ≡ Some (x, rest) → Takes (λ z. byte code then P z) bytes x rest
headed_sound P p code r [] x rest e = absurd cc
headed_sound P p code r (b ∷ bs) x rest e =
    let i = held_if (eqb b code) (p bs) (x, rest) e in
    head_taken P code b bs x rest (eqb-true b code i.0) (r.sound bs x rest i.1)

headed_complete : {A : Type 0} (P : A → Texts) (p : Reader A) (code : ℕ) → Reads P p
    → (text rest : List ℕ) (x : A)
    → (byte code then P x) text → headed_at code p (text ++ rest) ≡ Some (x, rest)
headed_complete P p code r text rest x h =
    let same : text ≡ code ∷ h.1 = h.2 ∙ ap (λ a. a ++ h.1) h.3 in
    let test : eqb code code ≡ true = eq-eqb code code refl in
    ap (λ t. headed_at code p (t ++ rest)) same ∙ (rw test (r.complete h.1 rest x h.4))

pub headed_reads : {A : Type 0} (P : A → Texts) (p : Reader A) (code : ℕ) → Reads P p
    → Reads (λ x. byte code then P x) (headed_at code p)
headed_reads P p code r = record { sound = headed_sound P p code r; complete = headed_complete P p code r }

-- so many items
items_sound : {A : Type 0} (P : A → Texts) (p : Reader A) → Reads P p
    → (n : ℕ) (bytes : List ℕ) (xs : List A) (rest : List ℕ)
    → items_at p n bytes ≡ Some (xs, rest) → (length xs ≡ n) × Takes (items P) bytes xs rest
items_sound {A} P p r zero bytes xs rest e =
    let same = same_read [] xs bytes rest e in
    (ap (λ ys. length ys) (sym same.0), takes_as_read (items P) bytes [] xs bytes rest ([], refl, refl) e)
items_sound {A} P p r (suc n) bytes xs rest e =
    let f = bind_some (p bytes) (λ (a : A × List ℕ). items_at p n a.1 >>= λ b. read_as (a.0 ∷ b.0) b.1)
    (xs, rest) e in
    let s = bind_some (items_at p n f.0.1) (λ (b : List A × List ℕ). read_as (f.0.0 ∷ b.0) b.1) (xs, rest)
    f.2 in
    let others = items_sound P p r n f.0.1 s.0.0 s.0.1 s.1 in
    let front = r.sound bytes f.0.0 f.0.1 f.1 in
    let pair = joined_takes P (items P) bytes f.0.0 f.0.1 s.0.0 s.0.1 front others.1 in
    let t : Takes (items P) bytes (f.0.0 ∷ s.0.0) s.0.1 = pair in
    let same = same_read (f.0.0 ∷ s.0.0) xs s.0.1 rest s.2 in
    let count : length (f.0.0 ∷ s.0.0) ≡ suc n = omega (arith, others.0) in (
      ap (λ ys. length ys) (sym same.0) ∙ count,
      takes_as_read (items P) bytes (f.0.0 ∷ s.0.0) xs s.0.1 rest t s.2,
    )

items_complete : {A : Type 0} (P : A → Texts) (p : Reader A) → Reads P p → (xs : List A) (text rest : List ℕ)
    → items P xs text → items_at p (length xs) (text ++ rest) ≡ Some (xs, rest)
items_complete P p r [] text rest h = ap (λ t. read_as [] (t ++ rest)) h
items_complete P p r (x ∷ xs) text rest h =
    let e = r.complete h.0 (h.1 ++ rest) x h.3 in
    let e2 = items_complete P p r xs h.1 rest h.4 in
    ap (λ t. items_at p (length (x ∷ xs)) t) (ap (λ t. t ++ rest) h.2 ∙ append_assoc h.0 h.1 rest)
    ∙ rw (e, e2) refl

pub vector_reads : {A : Type 0} (P : A → Texts) (p : Reader A) → Reads P p → Reads (vector P) (vector_at p)
unfolding vector_at
vector_reads {A} P p r = record {
  sound = λ bytes xs rest e.
      let n = bind_some (unsigned_at 32 bytes) (λ (k : ℕ × List ℕ). items_at p k.0 k.1) (xs, rest) e in
      let count = (unsigned_reads 32).sound bytes n.0.0 n.0.1 n.1 in
      let others = items_sound P p r n.0.0 n.0.1 xs rest n.2 in
      let Q : ℕ → Type 0 = λ k. unsigned 32 k count.0 in
      let t = others.1 in (
        count.0 ++ t.0,
        count.1 ∙ ap (λ m. count.0 ++ m) t.1 ∙ sym (append_assoc count.0 t.0 rest),
        (count.0, t.0, refl, subst Q (sym others.0) count.2, t.2),
      );
  complete = λ text rest xs h.
      let e = (unsigned_reads 32).complete h.0 (h.1 ++ rest) (length xs) h.3 in
      let e2 = items_complete P p r xs h.1 rest h.4 in
      ap (vector_at p) (ap (λ t. t ++ rest) h.2 ∙ append_assoc h.0 h.1 rest) ∙ rw (e, e2) refl;
}

pub whole_reads : {A : Type 0} (P : A → Texts) (p : Reader A) → Reads P p → ReadsWhole P (whole_at p)
whole_reads {A} P p r = record {
  sound = λ bytes x e.
      let s = bind_some (p bytes) (λ (a : A × List ℕ). if eqb (length a.1) 0 then Some a.0 else None) x e in
      let i = held_if (eqb (length s.0.1) 0) (Some s.0.0) x s.2 in
      let t = r.sound bytes s.0.0 s.0.1 s.1 in
      let empty : s.0.1 ≡ [] = nil_from_length s.0.1 (eqb-true (length s.0.1) 0 i.0) in
      let all : bytes ≡ t.0 = t.1 ∙ ap (λ m. t.0 ++ m) empty ∙ append-nil t.0 in
      let Q : List ℕ → Type 0 = λ m. P s.0.0 m in
      let R : A → Type 0 = λ a. P a bytes in
      let same : s.0.0 ≡ x = cc in
      subst R same (subst Q (sym all) t.2);
  complete = λ bytes x h.
      let e : p bytes ≡ read_as x [] = ap p (sym (append-nil bytes)) ∙ r.complete bytes [] x h in
      rw e refl;
}

front_taken : (n : ℕ) (bytes : List ℕ) (front rest : List ℕ) → front_at n bytes ≡ Some (front, rest)
    → (length front ≡ n) × (bytes ≡ front ++ rest)
front_taken n bytes front rest e =
    elim (split_if (ltb (length bytes) n) None (read_as (take n bytes) (drop n bytes)) (read_as front rest)
    e) [
      | inl h ↦ absurd cc
      | inr h ↦
          let same = same_read (take n bytes) front (drop n bytes) rest h.1 in
          let long : n ≤ length bytes = grind (arith, nat_tests) in (
            ap (λ xs. length xs) (sym same.0) ∙ length-take-le n bytes long,
            sym (take-append-drop n bytes)
                ∙ ap (λ f. f ++ drop n bytes) same.0 ∙ ap (λ r. front ++ r) same.1,
          )
    ]

pub cut_reads : Reads bytes sized_bytes_at
unfolding sized_bytes_at
cut_reads = record {
  sound = λ text front rest e.
      let n = bind_some (unsigned_at 32 text) (λ (k : ℕ × List ℕ). front_at k.0 k.1) (front, rest) e in
      let size = (unsigned_reads 32).sound text n.0.0 n.0.1 n.1 in
      let cut = front_taken n.0.0 n.0.1 front rest n.2 in
      let Q : ℕ → Type 0 = λ k. unsigned 32 k size.0 in (
        size.0 ++ front,
        size.1 ∙ ap (λ m. size.0 ++ m) cut.1 ∙ sym (append_assoc size.0 front rest),
        (size.0, front, refl, subst Q (sym cut.0) size.2, refl),
      );
  complete = λ text rest x h.
      let e = (unsigned_reads 32).complete h.0 (h.1 ++ rest) (length h.1) h.3 in
      let e2 = front_again h.1 rest (length h.1) refl in
      ap sized_bytes_at (ap (λ t. t ++ rest) h.2 ∙ append_assoc h.0 h.1 rest) ∙ (rw (e, e2) refl)
      ∙ ap (λ m. read_as m rest) h.4;
}

pub sized_reads : {A : Type 0} (P : A → Texts) (whole : List ℕ → Option A) → ReadsWhole P whole
    → Reads (sized P) (sized_at whole)
unfolding sized_at
sized_reads {A} P whole r = record {
  sound = λ text x rest e.
      let f = bind_some (sized_bytes_at text) (λ (g : List ℕ × List ℕ). whole g.0 >>= λ y. read_as y g.1)
      (x, rest) e in
      let w = bind_some (whole f.0.0) (λ y. read_as y f.0.1) (x, rest) f.2 in
      let t = cut_reads.sound text f.0.0 f.0.1 f.1 in
      let c = t.2 in
      let same : List ℕ → Type 0 = λ m. P w.0 m in
      takes_as_read (sized P) text w.0 x f.0.1 rest
      (t.0, t.1, (c.0, c.1, c.2, c.3, subst same (sym c.4) (r.sound f.0.0 w.0 w.1))) w.2;
  complete = λ text rest x h.
      let e = cut_reads.complete text rest h.1 (h.0, h.1, h.2, h.3, refl) in
      let e3 = r.complete h.1 x h.4 in
      rw (e, e3) refl;
}

-- every row's value is encoded by its byte
abbrev pub AllCoded : {A : Type 0} → (A → Texts) → List (ℕ × A) → Type 0
AllCoded P [] = Unit {0}
AllCoded P (row ∷ rows) = P row.1 (row.0 ∷ []) × AllCoded P rows

row_coded : {A : Type 0} (P : A → Texts) (rows : List (ℕ × A)) (b : ℕ) (x : A) → AllCoded P rows
    → row_of rows b ≡ Some x → P x (b ∷ [])
row_coded P [] b x all e = absurd cc
row_coded {A} P (row ∷ rows) b x all e =
    elim (split_if (eqb b row.0) (Some row.1) (row_of rows b) (Some x) e) [
      | inl h ↦
          let code : row.0 ≡ b = sym (eqb-true b row.0 h.0) in
          let value : row.1 ≡ x = cc in
          let Q : ℕ → Type 0 = λ k. P row.1 (k ∷ []) in
          let R : A → Type 0 = λ y. P y (b ∷ []) in
          subst R value (subst Q code all.0)
      | inr h ↦ row_coded P rows b x all.1 h.1
    ]

coded_sound : {A : Type 0} (P : A → Texts) (rows : List (ℕ × A)) → AllCoded P rows
    → (bytes : List ℕ) (x : A) (rest : List ℕ)
    → coded_at rows bytes ≡ Some (x, rest) → Takes P bytes x rest
coded_sound P rows all [] x rest e = absurd cc
coded_sound P rows all (b ∷ bs) x rest e =
    let s = bind_some (row_of rows b) (λ y. read_as y bs) (x, rest) e in
    takes_as_read P (b ∷ bs) s.0 x bs rest (b ∷ [], refl, row_coded P rows b s.0 all s.1) s.2

pub coded_reads : {A : Type 0} (P : A → Texts) (rows : List (ℕ × A)) → AllCoded P rows
    → ((x : A) (text : List ℕ) → P x text → (b : ℕ) × (text ≡ b ∷ []) × (row_of rows b ≡ Some x))
    → Reads P (coded_at rows)
coded_reads P rows all found = record {
  sound = coded_sound P rows all;
  complete = λ text rest x h.
      let f = found x text h in
      ap (λ t. coded_at rows (t ++ rest)) f.1 ∙ ap (λ o. o >>= λ y. read_as y rest) f.2;
}
