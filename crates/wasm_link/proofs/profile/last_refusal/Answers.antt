use Rattle.std.proofs.Common.{ap, sym, ◌∙◌}
use Rattle.std.specs.Prelude.{not, option_map}
use Rattle.std.specs.List.{list_any}
use Rattle.w4_defs.specs.declared.refusal.ProfileRefusal.TheVariants.{SegmentOutside}
use Rattle.w4_defs.specs.Profile.{is_memory, is_update, is_wrong_entry}
use Rattle.wasm_link.proofs.ProfileLaws.{cause_given, cause_passed, last}
use Rattle.wasm_link.proofs.profile.last_refusal.Goals as goal

pub returns-then-not-any : goal.returns-then-not-any
returns-then-not-any c =
    let memory = sym (c.any.ensures ∙ ap (list_any is_memory) c.imports.ensures) in
    cause_given _ _ _ (ap not (memory ∙ c.if-not-any.true))

pub returns-then-not-any-2 : goal.returns-then-not-any-2
returns-then-not-any-2 c =
    let memory = sym (c.any.ensures ∙ ap (list_any is_memory) c.imports.ensures) in
    let update = sym (c.any-2.ensures ∙ ap (list_any is_update) c.exports.ensures) in
    cause_given _ _ _ (ap not (update ∙ c.if-not-any-2.true))
    ∙ cause_passed _ _ _ (ap not (memory ∙ c.if-not-any.false))

pub returns : goal.returns
returns c =
    let m = c.args.code.now in
    let memory = sym (c.any.ensures ∙ ap (list_any is_memory) c.imports.ensures) in
    let update = sym (c.any-2.ensures ∙ ap (list_any is_update) c.exports.ensures) in
    let no_wrong_entry = sym (c.any-3.ensures ∙ ap (list_any (is_wrong_entry m)) c.exports-2.ensures) in
    c.segment_refusal.ensures ∙ ap (option_map SegmentOutside) c.first_outside.ensures ∙ last _
    ∙ cause_passed _ _ _ (no_wrong_entry ∙ c.if-any.false)
    ∙ cause_passed _ _ _ (ap not (update ∙ c.if-not-any-2.false))
    ∙ cause_passed _ _ _ (ap not (memory ∙ c.if-not-any.false))
