use Rattle.std.proofs.Common.{◌∙◌}
use Rattle.wasm_read.proofs.SectionLaws.{text_tested}
use Rattle.wasm_read.proofs.section.is_text.Goals as goal

pub returns : goal.returns
returns c = c.is_ok.ensures.value
    ∙ text_tested _ _ c.from_utf8.result c.args.bytes.now c.from_utf8.ensures.cases
