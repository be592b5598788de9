use Rattle.std.specs.Prelude.{codes}
use Rattle.w4_defs.specs.Comparison.{respect_line}
use Rattle.w4_defs.specs.FrameTexts.{line_end, spaced}
use Rattle.w4_commands.proofs.CompareLaws.{lines_in_order}
use Rattle.w4_commands.proofs.differences.Differences.text.Goals as goal

pub returns : goal.returns
returns c =
    rw (
      c.in_ok-add_words-2.ensures,
      c.in_ok-add_number-2.ensures,
      c.in_ok-add_number.ensures,
      c.in_ok-add_words.ensures,
      c.in_ok-add_respect-5.ensures,
      c.in_ok-add_respect-4.ensures,
      c.in_ok-add_respect-3.ensures,
      c.in_ok-add_respect-2.ensures,
      c.in_ok-add_respect.ensures,
      c.new-text.ensures.items,
    )
    (lines_in_order (respect_line (codes "state") c.args.self.now.state)
    (respect_line (codes "image") c.args.self.now.image) (respect_line (codes "tones") c.args.self.now.tones)
    (respect_line (codes "traces") c.args.self.now.traces) (respect_line (codes "disk") c.args.self.now.disk)
    (codes "places") (spaced c.args.n) (spaced c.args.m) line_end)
