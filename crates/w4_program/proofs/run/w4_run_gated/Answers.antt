-- Each clause is what its status says, over the worlds before the words are obeyed and after the report.
use Rattle.std.proofs.Common.{◌≡◌, map, ◌∙◌, None, string_bytes}
use Rattle.w4_defs.specs.StatusLines.{status_line}
use Rattle.w4_defs.specs.Commands.{form_of}
use Rattle.w4_defs.specs.Outputs.{Outputs}
use Rattle.w4_defs.specs.CartRuns.{CartRunsHaveMeaning}
use Rattle.w4_program.proofs.RunLaws.{cart_runs, obeyed_reported}
use Rattle.w4_program.proofs.CompletenessLaws.{complete}
use Rattle.w4_program.proofs.StatusLaws as laws
use Rattle.w4_program.proofs.run.w4_run_gated.Goals as goal

pub returns : goal.returns
returns g c =
    let old = g.H.House.world c.args.house.now in
    let mid = g.H.House.world c.obey-status.new.house in
    let new = g.H.House.world c.report.new.house in
    let why = c.obey-status.result in
    let result = c.report.result in
    let words = map string_bytes c.args.words.now in
    let NoForm = form_of words ≡ None in
    let step = Outputs words in
    let obeyed = c.obey-status.ensures in
    let reported = c.report.ensures in
    let ends =
    obeyed_reported old mid new NoForm step reported.rest obeyed.err why result obeyed.obeyed reported.status
    reported.cut in
    let runs = cart_runs c.accepted_runs_have_meaning.ensures c.made_modules_are_carts.ensures words in
    let exact = laws.exact old new NoForm step result ends in
    record {
      done = laws.done old new NoForm step result (CartRunsHaveMeaning words) ends runs;
      different = laws.different old new NoForm step result (CartRunsHaveMeaning words) ends runs;
      no_line = λ whole. reported.no_line whole ∙ obeyed.err.0;
      usage = laws.usage old new NoForm step result ends;
      no_form = laws.no_form old mid NoForm step why result obeyed.obeyed reported.status;
      cart_refused = laws.cart_refused old new NoForm step result ends;
      recording_refused = laws.recording_refused old new NoForm step result ends;
      font_refused = laws.font_refused old new NoForm step result ends;
      script_refused = laws.script_refused old new NoForm step result ends;
      frame_refused = laws.frame_refused old new NoForm step result ends;
      list_refused = laws.list_refused old new NoForm step result ends;
      read_fault = laws.read_fault old new NoForm step result ends;
      input_fault = λ e. (laws.input_fault old new NoForm step result ends e).0;
      input_fault_output = λ e. (laws.input_fault old new NoForm step result ends e).1;
      write_fault = λ e. (laws.write_fault old new NoForm step result ends e).0;
      write_fault_output = λ e. (laws.write_fault old new NoForm step result ends e).1;
      out_of_memory = laws.out_of_memory old new NoForm step result ends;
      refused_out = λ r. (laws.refused_leaves_outputs old new NoForm step result ends r).0;
      refused_files = λ r. (laws.refused_leaves_outputs old new NoForm step result ends r).1;
      line = λ r. laws.line_reported old mid new (status_line result) obeyed.err (reported.line r);
      exact = exact;
      complete =
          complete c.accepted_runs_have_meaning.ensures c.made_modules_are_carts.ensures
          c.complete_is_done.ensures c.at_most_one.ensures old new result words exact;
    }
