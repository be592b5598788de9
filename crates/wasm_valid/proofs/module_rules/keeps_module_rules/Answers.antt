use Rattle.std.proofs.Common.{◌≢◌, List, subst, arith}
use Rattle.std.specs.Prelude.{AllPairs}
use Rattle.w4_defs.specs.Module.{Exported}
use Rattle.wasm_valid.proofs.module_rules.keeps_module_rules.Goals as goal

pub returns : goal.returns
returns c = (
  λ passes. record {
    functions = c.have_types.ensures.0 c.if-not-have_types.false;
    one_table = omega (arith, c.counted-counts.ensures.tables);
    one_memory = omega (arith, c.counted-counts.ensures.memories);
    table_limits = c.have_table_limits.ensures.0 c.if-not-have_table_limits.false;
    memory_limits = c.have_memory_limits.ensures.0 c.if-not-have_memory_limits.false;
    globals = c.have_first_values.ensures.0 c.if-not-have_first_values.false;
    exports = c.name_what_exists.ensures.0 c.if-not-name_what_exists.false;
    export_names =
        subst (λ (xs : List Exported). AllPairs (λ e f. e.name ≢ f.name) xs) c.exports.ensures
        (c.have_names_apart.ensures.0 c.if-not-have_names_apart.false);
    start = c.has_right_start.ensures.0 c.if-not-has_right_start.false;
    elements = c.have_right_elements.ensures.0 c.if-not-have_right_elements.false;
    segments = c.have_right_segments.ensures.0 passes;
  },
  λ rules. c.have_right_segments.ensures.1 rules.segments,
)
