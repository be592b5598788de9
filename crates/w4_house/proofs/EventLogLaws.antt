-- What events write, and what one entry more adds to the events of a log.
use Rattle.std.proofs.Common.{◌≡◌, ℕ, List, [], ◌∷◌, ◌++◌, refl, ap, ◌∙◌, append-nil}
use Rattle.std.proofs.lemmas.List.Concat.{flat_map-append}
use Rattle.w4_defs.specs.World.{Event, Took, InputEnded, InputLost, Wrote, Saved, NotSaved, wrote, written_by}
use Rattle.w4_house.specs.EventLog.{events_of, logged}
use Rattle.w4_house.specs.declared.log_entry.LogEntry.{LogEntry}

pub written_by-append : (some more : List Event)
    → written_by (some ++ more) ≡ written_by some ++ written_by more
written_by-append [] more = refl
written_by-append (Took line ∷ some) more = written_by-append some more
written_by-append (InputEnded ∷ some) more = written_by-append some more
written_by-append (InputLost ∷ some) more = written_by-append some more
written_by-append (Wrote byte ∷ some) more = ap (λ rest. byte ∷ rest) (written_by-append some more)
written_by-append (Saved name bytes ∷ some) more = written_by-append some more
written_by-append (NotSaved name ∷ some) more = written_by-append some more

pub written_by-wrote : (bytes : List ℕ) → written_by (wrote bytes) ≡ bytes
written_by-wrote [] = refl
written_by-wrote (byte ∷ bytes) = ap (λ rest. byte ∷ rest) (written_by-wrote bytes)

pub logged_one_more : (entries : List LogEntry) (entry : LogEntry)
    → logged (entries ++ entry ∷ []) ≡ logged entries ++ events_of entry
logged_one_more entries entry = flat_map-append events_of entries (entry ∷ [])
    ∙ ap (λ last. logged entries ++ last) (append-nil (events_of entry))

-- What a log has written, after one entry more that writes nothing, or these bytes.
pub written_silently : (entries : List LogEntry) (entry : LogEntry) (out : List ℕ)
    → written_by (logged entries) ≡ out → written_by (events_of entry) ≡ []
    → written_by (logged (entries ++ entry ∷ [])) ≡ out
written_silently entries entry out so_far silent = ap written_by (logged_one_more entries entry)
    ∙ written_by-append (logged entries) (events_of entry)
    ∙ ap (λ more. written_by (logged entries) ++ more) silent
    ∙ append-nil (written_by (logged entries))
    ∙ so_far

pub written_more : (entries : List LogEntry) (entry : LogEntry) (out bytes : List ℕ)
    → written_by (logged entries) ≡ out → events_of entry ≡ wrote bytes
    → written_by (logged (entries ++ entry ∷ [])) ≡ out ++ bytes
written_more entries entry out bytes so_far writes = ap written_by (logged_one_more entries entry)
    ∙ written_by-append (logged entries) (events_of entry)
    ∙ ap (λ events. written_by (logged entries) ++ written_by events) writes
    ∙ ap (λ more. written_by (logged entries) ++ more) (written_by-wrote bytes)
    ∙ ap (λ before. before ++ bytes) so_far
