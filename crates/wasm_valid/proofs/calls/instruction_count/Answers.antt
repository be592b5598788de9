-- The marks that pass are counted as the iterators yield them.
use Rattle.std.proofs.Common.{rules, tests, ◌∙◌}
use Rattle.std.proofs.lemmas.Iterator.{YieldsList-from_slice}
use Rattle.std.proofs.lemmas.Iterator.Consumers.{YieldsList-at, YieldsList-from_filter}
use Rattle.std.proofs.lemmas.Iterator.Consumers.{count_from_yields_List}
use Rattle.std.proofs.lemmas.List.Sums.{length-filter}
use Rattle.wasm_valid.specs.Instructions.{is_instruction}
use Rattle.wasm_valid.proofs.calls.instruction_count.Goals as goal

pub returns : goal.returns
returns c =
    count_from_yields_List c.filter.result c.count.result c.count.ensures.ran
    (YieldsList-from_filter _ is_instruction
    (YieldsList-at c.filter.ensures.source (YieldsList-from_slice c.args.ops.now cc))
    c.filter.ensures.closure (λ x r q k. search (rules, tests)))
    ∙ length-filter is_instruction c.args.ops.now
