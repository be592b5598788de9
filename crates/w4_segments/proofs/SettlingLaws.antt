-- What the rounds leave, and what a settling after them leaves.
use Rattle.std.proofs.Common.{◌≡◌, ◌≢◌, ℕ, ◌+◌, ◌-◌, ◌≤◌, Bool, false, ◌&&◌, List, length, sym, ap, ◌∙◌}
use Rattle.std.proofs.Common.{arith}
use Rattle.std.specs.Prelude.{OnOk, Result, Ok, Err}
use Rattle.std.proofs.lemmas.List.{get_or_past}
use Rattle.w4_defs.specs.KeptList.{Entry, IsSettled, SamePlaces, kept_entry_at, linked_at, nowhere, state_at}
use Rattle.w4_defs.specs.SameState.{same_state}
use Rattle.w4_editor.specs.Editor.{Editing}
use Rattle.w4_editor.specs.Settling.{AreLinked}
use Rattle.w4_segments.specs.Filming.{KeepsShown}
use Rattle.w4_segments.specs.Rounds.{entries_of}
use Rattle.w4_segments.specs.Settling.{AreAllLinked, IsSettledWide}
use Rattle.w4_segments.proofs.RoundLaws.{recording_kept_both}

past_end : (kept : List Entry) (i : ℕ) → length kept ≤ i → kept_entry_at kept i ≡ nowhere
past_end kept i past = get_or_past kept i nowhere past

unlinked_past : (kept : List Entry) (i : ℕ) → length kept ≤ i → linked_at kept i ≡ false
unlinked_past kept i past = ap (λ (x : Entry). x.linked) (past_end kept i past)

-- all entries of a list were settled, so whatever list with these places it was before
settled_before : (old mid new : List Entry) → SamePlaces old mid → IsSettled (length mid - 1) mid new
    → IsSettled (length old - 1) old new
settled_before old mid new same settled =
    let many = same.many in
    let after = settled.same.many in
    record {
      same = record {
        many = after ∙ many;
        places = λ i. settled.same.places i ∙ same.places i;
      };
      linked = λ i le. settled.linked i (omega (arith, le, many));
      states = λ i past. ap (λ (x : Entry). x.state)
          (past_end new i (omega (arith, past, many, after)) ∙ sym (past_end old i (omega (arith, past))));
      next = unlinked_past new (length old - 1 + 1) (omega (arith, many, after))
          ∙ sym (ap (λ (b : Bool). b && same_state (state_at old (length old - 1))
          (state_at new (length old - 1))) (unlinked_past old (length old - 1 + 1) (omega arith)));
      links = λ i past. unlinked_past new i (omega (arith, past, many, after))
          ∙ sym (unlinked_past old i (omega (arith, past)));
    }

pub settled_after : (old mid new : Editing) → KeepsShown old mid → IsSettledWide mid new
    → IsSettledWide old new
settled_after old mid new keeps settled = record {
  recording = recording_kept_both old mid new keeps.recording settled.recording;
  at = settled.at;
  settled = settled_before (entries_of old) (entries_of mid) (entries_of new) keeps.recording.places
      settled.settled;
  states = settled.states;
}

-- the entries that the rounds linked are all that there are
pub linked_after : (old mid : Editing) → KeepsShown old mid
    → AreLinked (length (entries_of old) - 1) (entries_of mid)
    → AreAllLinked mid
linked_after old mid keeps linked i le =
    let many = keeps.recording.places.many in
    linked i (omega (arith, le, many))

-- an entry isn't linked
pub some_unlinked : (e : Editing) (last owed : ℕ) → last ≡ length (entries_of e) - 1
    → (AreLinked last (entries_of e) → owed ≡ 0)
    → owed ≢ 0 → AreAllLinked e → ⊥
some_unlinked e last owed last_is none some linked =
    some (none (λ i le. linked i (omega (arith, le, last_is))))

pub on_ok_map : {X E P Q : Type 0} (result : Result X E) → (P → Q) → OnOk result P → OnOk result Q
on_ok_map (Ok x) f h = f h
on_ok_map (Err e) f h = tt
