use Rattle.w4_defs.specs.Batch.{batch-cases}
use Rattle.w4_defs.specs.Generator.{generator-cases}
use Rattle.w4_defs.specs.MadeSummary.{summary-case}
use Rattle.w4_defs.specs.Rollback.{rollback-cases}
use Rattle.w4_defs.specs.Search.{search-cases}
use Rattle.w4_defs.specs.Sound.{header-case, sample-cases}
use Rattle.w4_defs.proofs.tool_laws.tool_cases.Goals as goal

pub returns-clause-generator : goal.returns-clause-generator
returns-clause-generator c = generator-cases

pub returns-clause-summary : goal.returns-clause-summary
returns-clause-summary c = summary-case

pub returns-clause-header : goal.returns-clause-header
returns-clause-header c = header-case

pub returns-clause-samples : goal.returns-clause-samples
returns-clause-samples c = sample-cases

pub returns-clause-search : goal.returns-clause-search
returns-clause-search c = search-cases

pub returns-clause-rollback : goal.returns-clause-rollback
returns-clause-rollback c = rollback-cases

pub returns-clause-batch : goal.returns-clause-batch
returns-clause-batch c = batch-cases
