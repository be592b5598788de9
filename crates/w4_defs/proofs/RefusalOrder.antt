-- Which refusal comes first.
use Rattle.std.proofs.Common.{length, refl}
use Rattle.std.proofs.lemmas.Bool.{lt-leb}
use Rattle.w4_defs.specs.Output.{edit_files, run_files, run_files_to}
use Rattle.w4_defs.specs.WorkedAnswers.{RefusalsInOrder}

pub refusals_in_order : RefusalsInOrder
unfolding edit_files run_files run_files_to
refusals_in_order digest words files recording font refusal = (
  λ none. rw none refl,
  λ there none. rw (there, none) refl,
  λ there drawn none. rw (there, drawn, none) refl,
  λ place none. rw none refl,
  λ place there past. rw (there, lt-leb place (length recording.frames) past) refl,
)
