use Rattle.w4_script.specs.Words.{words_left}
use Rattle.w4_script.proofs.QueryLaws.{request_fits}
use Rattle.w4_script.proofs.query.ask_of.Goals as goal

pub returns-clause-fit : goal.returns-clause-fit
returns-clause-fit c =
    request_fits c.in_ok-name.name.now (words_left c.next.new.self) c.ask_named.result c.ask_named.ensures
