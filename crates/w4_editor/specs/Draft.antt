-- A draft after an edit of several inputs at once (project rule).
use Rattle.std.specs.Prelude.{◌≡◌, ℕ, ◌+◌, ◌<◌, List, [], ◌∷◌, length}
use Rattle.std.specs.List.{splice}
use Rattle.w4_defs.specs.declared.console.Input.{Input}
use Rattle.w4_defs.specs.KeptList.{Entry, IsDraft, kept_entries}
use Rattle.w4_defs.specs.Reset.{Setup}
use Rattle.w4_defs.specs.Session.{Draft, set_draft}
use Rattle.w4_editor.specs.KeptList.{unlink_between}

abbrev pub inputs_after_overwrite : ℕ → List Input → List Input → List Input
inputs_after_overwrite k written inputs = splice inputs k (k + length written) written

abbrev pub kept_after_overwrite : ℕ → List Input → List Entry → List Entry
kept_after_overwrite k written kept = unlink_between k (k + length written) 0 kept

abbrev pub overwrite_draft : ℕ → List Input → Draft Entry → Draft Entry
overwrite_draft k written draft = record {
  inputs = inputs_after_overwrite k written draft.inputs;
  kept = kept_after_overwrite k written draft.kept;
}

-- one input, where there is one: as a set
abbrev pub OverwritesOne : Type 0
OverwritesOne = (setup : Setup) (disk : List ℕ) (k : ℕ) (input : Input) (draft : Draft Entry) →
    IsDraft setup disk draft → k < length draft.inputs
    → overwrite_draft k (input ∷ []) draft ≡ set_draft kept_entries k input draft
