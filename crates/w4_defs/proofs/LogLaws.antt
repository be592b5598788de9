-- Laws of logs: one more item, and many.
use Rattle.std.proofs.Common.{◌≡◌, ℕ, ◌+◌, ◌-◌, ◌^◌, ◌<◌, ◌≤◌, inl, inr, min, true, false, cond, nat_lt, List, [], ◌∷◌, ◌++◌, take, length, length-append, sym, ◌∙◌, ap, arith, append_assoc}
use Rattle.std.proofs.lemmas.List.{length-take-le, take-append-le, append-nil}
use Rattle.std.proofs.Math.Seq.{take_all}
use Rattle.std.proofs.lemmas.Bool.{cases_lt, lt-ltb, le-ltb}
use Rattle.w4_defs.specs.Logs.{Log, empty_log, logged, all_logged, log_of, LogsInOrder}

same_log : {Item : Type 0} (items other : List Item) (dropped more : ℕ) → items ≡ other → dropped ≡ more →
    let P : Log Item = record { items = items; dropped = dropped } in
    let Q : Log Item = record { items = other; dropped = more } in P ≡ Q
same_log items other dropped more p q = λ i. record { items = p i; dropped = q i }

logged-room : {Item : Type 0} (bound : ℕ) (items : List Item) (item : Item) → length items < bound →
    logged bound (log_of bound items) item ≡ log_of bound (items ++ (item ∷ []))
logged-room {Item} bound items item h =
    let long : length (items ++ (item ∷ [])) ≡ length items + 1 = length-append items (item ∷ []) in
    let all : take bound items ≡ items = take_all bound items (omega arith) in
    let more : take bound (items ++ (item ∷ [])) ≡ items ++ (item ∷ []) =
    take_all bound (items ++ (item ∷ [])) (omega (arith, long)) in
    let fits : nat_lt (length (take bound items)) bound ≡ true =
    lt-ltb (length (take bound items)) bound (rw all h) in
    let none : min (length items - bound) (2 ^ 64 - 1) ≡ min (length (items ++ (item ∷ [])) - bound)
    (2 ^ 64 - 1) = omega (arith, long) in
    let before : Log Item =
    record {
      items = take bound items ++ (item ∷ []);
      dropped =
          min (length items - bound) (2 ^ 64 - 1);
    } in
    let full : Log Item =
    record {
      items = take bound items;
      dropped =
          min (min (length items - bound) (2 ^ 64 - 1) + 1) (2 ^ 64 - 1);
    } in
    ap (λ b. cond b before full) fits
    ∙ same_log (take bound items ++ (item ∷ [])) _ _ _ (ap (λ items. items ++ (item ∷ [])) all ∙ sym more)
    none

logged-full : {Item : Type 0} (bound : ℕ) (items : List Item) (item : Item) → bound ≤ length items →
    logged bound (log_of bound items) item ≡ log_of bound (items ++ (item ∷ []))
logged-full {Item} bound items item h =
    let long : length (items ++ (item ∷ [])) ≡ length items + 1 = length-append items (item ∷ []) in
    let fits : nat_lt (length (take bound items)) bound ≡ false =
    le-ltb (length (take bound items)) bound (omega (arith, length-take-le bound items h)) in
    let one : min (min (length items - bound) (2 ^ 64 - 1) + 1) (2 ^ 64 - 1)
    ≡ min (length (items ++ (item ∷ [])) - bound) (2 ^ 64 - 1) = omega (arith, long) in
    let before : Log Item =
    record {
      items = take bound items ++ (item ∷ []);
      dropped =
          min (length items - bound) (2 ^ 64 - 1);
    } in
    let full : Log Item =
    record {
      items = take bound items;
      dropped =
          min (min (length items - bound) (2 ^ 64 - 1) + 1) (2 ^ 64 - 1);
    } in
    ap (λ b. cond b before full) fits
    ∙ same_log (take bound items) _ _ _ (sym (take-append-le bound items (item ∷ []) h)) one

-- a log that has room keeps the item, and one that is full counts it
pub logged-next : {Item : Type 0} (bound : ℕ) (items : List Item) (item : Item) →
    logged bound (log_of bound items) item ≡ log_of bound (items ++ (item ∷ []))
logged-next bound items item = elim (cases_lt (length items) bound) [
  | inl h ↦ logged-room bound items item h
  | inr h ↦ logged-full bound items item h
]

pub all_logged-from : {Item : Type 0} (bound : ℕ) (before items : List Item) →
    all_logged bound (log_of bound before) items ≡ log_of bound (before ++ items)
all_logged-from bound before [] = ap (log_of bound) (sym (append-nil before))
all_logged-from bound before (item ∷ items) =
    ap (λ log. all_logged bound log items) (logged-next bound before item)
    ∙ (all_logged-from bound (before ++ (item ∷ [])) items
    ∙ ap (log_of bound) (append_assoc before (item ∷ []) items))

pub logs_in_order : {Item : Type 0} → LogsInOrder Item
logs_in_order {Item} bound items =
    let empty : empty_log {Item = Item} ≡ log_of bound [] =
    same_log [] (take bound []) 0 (min (0 - bound) (2 ^ 64 - 1)) (sym (take_all bound [] (omega arith)))
    (omega arith) in
    ap (λ log. all_logged bound log items) empty ∙ all_logged-from bound [] items
