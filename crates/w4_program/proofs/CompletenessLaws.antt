-- Where all is there that the words name, and neither a read nor a write failed, the run is done or memory
-- ran out.
use Rattle.std.proofs.Common.{◌≡◌, ◌⊎◌, ℕ, inl, inr, List, Option, Some, None, Result, Ok, subst, sym}
use Rattle.std.specs.Option.{ForSome}
use Rattle.w4_defs.specs.declared.status.Refusal.{Refusal}
use Rattle.w4_defs.specs.declared.status.Status.{Status}
use Rattle.w4_defs.specs.declared.status.Status.TheVariants.{OutOfMemory}
use Rattle.w4_defs.specs.Causes.{IsExact, status_of}
use Rattle.w4_defs.specs.Commands.{Form, form_of}
use Rattle.w4_defs.specs.Completeness.{IsComplete}
use Rattle.w4_defs.specs.EncodeModule.{module_bytes}
use Rattle.w4_defs.specs.Generator.{made_module}
use Rattle.w4_defs.specs.Live.{Talk}
use Rattle.w4_defs.specs.Meaning.{AcceptedRunsHaveMeaning}
use Rattle.w4_defs.specs.Output.{Output}
use Rattle.w4_defs.specs.Outputs.{Outputs, OutputsForm}
use Rattle.w4_defs.specs.OutputsThere.{CompleteIsDone}
use Rattle.w4_defs.specs.Promise.{IsDoneBy, NoFault}
use Rattle.w4_defs.specs.World.{Files, World}
use Rattle.wasm_read.specs.Unique.{AtMostOneModule}
use Rattle.wasm_write.specs.Laws.{MadeModulesAreCarts}
use Rattle.w4_program.proofs.FinishLaws.{form_done}
use Rattle.w4_program.proofs.OutputLaws.{one_output}
use Rattle.w4_program.proofs.RunLaws.{not_none}

same_form : (found : Option Form) (form other : Form) → found ≡ Some form → found ≡ Some other → other ≡ form
same_form found form other one two = cc

module _ (law : AcceptedRunsHaveMeaning) (made_law : MadeModulesAreCarts) (done : CompleteIsDone)
    (unique : AtMostOneModule) where
  -- the definition's one output isn't a refusal, so the status isn't one either
  complete_by : (form : Form) (talk : Talk) (files : Files) (found : Result Output Refusal)
      → IsComplete form files → OutputsForm form talk files found → IsDoneBy form (status_of found)
  complete_by form talk files found all is =
      let made =
      done form talk files (λ bytes m accepted. (law bytes m accepted).runs)
      (λ number. (law (module_bytes (made_module number)) (made_module number) (made_law number)).runs) all in
      subst (λ output. IsDoneBy form (status_of output))
      (one_output unique form talk files (Ok made.0) found made.1 is)
      (form_done form talk files made.0 made.1)

  exact_complete : (result : Status) (words : List (List ℕ)) (form : Form) (files : Files)
      → form_of words ≡ Some form → IsComplete form files
      → IsExact result (form_of words ≡ None) (Outputs words files)
      → IsDoneBy form result ⊎ (result ≡ OutOfMemory)
  exact_complete result words form files formed all (inl memory) = inr memory
  exact_complete result words form files formed all (inr (inl (usage, none))) =
      absurd (not_none (form_of words) form formed none)
  exact_complete result words form files formed all (inr (inr (found, (other, named, (talk, is)), ends))) =
      let by_form =
      subst (λ f. OutputsForm f talk files found) (same_form (form_of words) form other formed named) is in
      inl (subst (λ s. IsDoneBy form s) (sym ends) (complete_by form talk files found all by_form))

  pub complete : (old new : World) (result : Status) (words : List (List ℕ))
      → ForSome old.files (λ files. NoFault old new
      → IsExact result (form_of words ≡ None) (Outputs words files))
      → ForSome old.files (λ files. NoFault old new
      → ForSome (form_of words) (λ form. IsComplete form files
      → IsDoneBy form result ⊎ (result ≡ OutOfMemory)))
  complete old new result words exact = λ files told well form formed all.
      exact_complete result words form files formed all (exact files told well)
