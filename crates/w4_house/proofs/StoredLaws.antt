-- The map of std and the files that it keeps answer alike.
use Rattle.std.proofs.Common.{◌≡◌, ℕ, Bool, true, false, cond, List, [], ◌∷◌, map, Option, Some, Vec, String}
use Rattle.std.proofs.Common.{string_bytes, option_map, refl, sym, ap, ◌∙◌}
use Rattle.std.specs.FinMap.{find, get, insert, get-from_entries, get-insert, same_map}
use Rattle.std.specs.FinMap.{slice_cmp-IsAntisymmetric, nat_cmp-IsAntisymmetric}
use Rattle.std.specs.Cmp.Lexicographic.{slice_cmp}
use Rattle.std.specs.Ordering.{nat_cmp, is_eq, eq_by_cmp}
use Rattle.std.specs.Str.{bytes_eq}
use Rattle.std.specs.String.{string_cmp}
use Rattle.std.specs.Map.{lookup}
use Rattle.std.specs.BTreeMap as tree
use Rattle.std.specs.BTreeMap.{BTreeMap, is_at}
use Rattle.std.proofs.lemmas.Cmp.{nat_list_cmp_total, eq_by_cmp_equiv}
use Rattle.std.proofs.lemmas.Map.Text.{btree_map_updates_text, is_eq-slice_cmp}
use Rattle.w4_house.specs.Stored.{stored_files}

-- two names are alike in the test of the map and in that of the files
same_names : (one other : List ℕ) → bytes_eq one other ≡ eq_by_cmp (slice_cmp nat_cmp) other one
same_names one other = sym (is_eq-slice_cmp one other) ∙ (eq_by_cmp_equiv nat_list_cmp_total).symm one other

cond-items : {Z : Type 0} (here : Bool) (value : Vec ℕ Z) (other : Option (Vec ℕ Z))
    → option_map (λ (bytes : Vec ℕ Z). bytes.items) (cond here (Some value) other)
    ≡ cond here (Some value.items) (option_map (λ (bytes : Vec ℕ Z). bytes.items) other)
cond-items true value other = refl
cond-items false value other = refl

module _ {Y Z : Type 0} where
  -- the entries as the files have them
  abbrev spelt : List (String Y × Vec ℕ Z) → List (List ℕ × List ℕ)
  spelt entries = map (λ entry. (string_bytes entry.0, entry.1.items)) entries

  find-spelt : (name : List ℕ) (entries : List (String Y × Vec ℕ Z))
      → find (slice_cmp nat_cmp) name (spelt entries) ≡ option_map (λ bytes. bytes.items)
      (lookup (is_at (λ key. slice_cmp nat_cmp name (string_bytes key))) entries)
  find-spelt name [] = refl
  find-spelt name (entry ∷ entries) =
      elim (is_eq (slice_cmp nat_cmp name (string_bytes entry.0)))
      as (λ here. cond here (Some entry.1.items) (find (slice_cmp nat_cmp) name (spelt entries)) ≡ option_map
      (λ (bytes : Vec ℕ Z). bytes.items)
      (cond here (Some entry.1)
      (lookup (is_at (λ key. slice_cmp nat_cmp name (string_bytes key))) entries)))
      [ true ↦ refl | false ↦ find-spelt name entries ]

  pub get-stored : (kept : BTreeMap (String Y) (Vec ℕ Z)) (name : List ℕ)
      → get (stored_files kept) name ≡ option_map (λ bytes. bytes.items) (tree.get_by_text kept name)
  get-stored kept name = get-from_entries nat_list_cmp_total (spelt kept.entries) name
      ∙ find-spelt name kept.entries

  -- what a map has after the insertion of a name is what its files have after it
  pub stored-insert : (old new : BTreeMap (String Y) (Vec ℕ Z)) (key : String Y) (value : Vec ℕ Z)
      → tree.Updates string_cmp old new key (Some value)
      → stored_files new ≡ insert (stored_files old) (string_bytes key) value.items
  stored-insert old new key value updates =
      same_map nat_list_cmp_total (slice_cmp-IsAntisymmetric nat_cmp-IsAntisymmetric) (stored_files new)
      (insert (stored_files old) (string_bytes key) value.items) (λ name.
      get-stored new name
      ∙ ap (option_map (λ bytes. bytes.items))
      (btree_map_updates_text (string_bytes key) old new (Some value) updates name)
      ∙ cond-items (bytes_eq (string_bytes key) name) value (tree.get_by_text old name)
      ∙ ap (λ here. cond here (Some value.items)
      (option_map (λ bytes. bytes.items) (tree.get_by_text old name)))
      (same_names (string_bytes key) name)
      ∙ ap (cond (eq_by_cmp (slice_cmp nat_cmp) name (string_bytes key)) (Some value.items))
      (sym (get-stored old name))
      ∙ sym (get-insert nat_list_cmp_total (stored_files old) (string_bytes key) value.items name))
