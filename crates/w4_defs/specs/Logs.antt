-- A log of one frame (project rule): the first items up to a bound, and how many came later. The count stays
-- at 2^64 - 1. A frame keeps 32 lines and 64 tones.
use Rattle.std.specs.Prelude.{◌≡◌, ℕ, ◌+◌, ◌-◌, ◌^◌, min, nat_lt, if◌then◌else◌, List, [], ◌∷◌, ◌++◌, length, take, replicate, refl}

pub record Log (Item : Type 0) : Type 0 where
  pub items : List Item
  pub dropped : ℕ

abbrev pub empty_log : {Item : Type 0} → Log Item
empty_log = record { items = []; dropped = 0 }

-- how many lines and how many tones a frame keeps
abbrev pub kept_lines : ℕ
kept_lines = 32

abbrev pub kept_tones : ℕ
kept_tones = 64

-- the log after one more item
abbrev pub logged : {Item : Type 0} → ℕ → Log Item → Item → Log Item
logged bound log item =
    if nat_lt (length log.items) bound then record log { items = log.items ++ item ∷ [] }
    else record log { dropped = min (log.dropped + 1) (2 ^ 64 - 1) }

-- the log after more items
abbrev pub all_logged : {Item : Type 0} → ℕ → Log Item → List Item → Log Item
all_logged bound log [] = log
all_logged bound log (item ∷ items) = all_logged bound (logged bound log item) items

-- the log of all these items in words: the first ones, and the number of the others, cut at 2^64 - 1
abbrev pub log_of : {Item : Type 0} → ℕ → List Item → Log Item
log_of bound items =
    record { items = take bound items; dropped = min (length items - bound) (2 ^ 64 - 1) }

-- items that come one after another leave that log
abbrev pub LogsInOrder : Type 0 → Type 0
LogsInOrder Item =
    (bound : ℕ) (items : List Item) → all_logged bound empty_log items ≡ log_of bound items

-- 33 lines in a frame: 32 are kept and one is dropped
abbrev pub DroppedCase : Type 0
DroppedCase =
    all_logged {Item = ℕ} kept_lines empty_log (replicate 33 7)
    ≡ record { items = replicate 32 7; dropped = 1 }

pub dropped-case : DroppedCase
dropped-case = refl
