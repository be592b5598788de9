use Rattle.std.proofs.Common.{◌∙◌, sym, ap, Err}
use Rattle.w4_defs.specs.Recording.{Recording}
use Rattle.sha2.specs.Sha256.{sha256}
use Rattle.w4_segments.proofs.BatchingLaws.{bad_row, wrong_row, right_row, bytes_differ, bytes_agree}
use Rattle.w4_segments.proofs.batching.row.Goals as goal

pub returns-in-Err-BadRecording : goal.returns-in-Err-BadRecording
returns-in-Err-BadRecording g c = let files = c.args.files.now in record {
  row = bad_row sha256 files.cart.now files.font.now files.digest.now c.args.bytes.now
      (c.in-Err-BadRecording.ensures.bad (ap Err c.in-Err-BadRecording.field-0-is));
  types = c.requires.types;
}

pub returns-then-ne : goal.returns-then-ne
returns-then-ne g c = let files = c.args.files.now in record {
  row = wrong_row sha256 files.cart.now files.font.now files.digest.now c.args.bytes.now
      c.in-Ok.recording c.in-Ok.ensures.read
      (λ same. bytes_differ c.recording.inside.digest files.digest.now (sym c.if-ne.true ∙ c.ne.ensures)
      (ap (λ (r : Recording). r.digest) c.recording.view_is ∙ same));
  types = c.requires.types;
}

pub returns-clause-row : goal.returns-clause-row
returns-clause-row g c =
    let files = c.args.files.now in
    right_row sha256 files.cart.now files.font.now files.digest.now c.args.bytes.now c.in-Ok.recording
    c.in-Ok.ensures.read
    (sym (ap (λ (r : Recording). r.digest) c.recording.view_is)
    ∙ bytes_agree c.recording.inside.digest files.digest.now (sym c.if-ne.false ∙ c.ne.ensures))
    ∙ c.run_recording.ensures.row
