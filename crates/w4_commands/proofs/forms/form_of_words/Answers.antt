use Rattle.std.proofs.Common.{sym, ◌∙◌}
use Rattle.w4_defs.specs.Commands.{form_of}
use Rattle.w4_commands.proofs.FormsLaws.{form_named}
use Rattle.w4_commands.proofs.forms.form_of_words.Goals as goal

pub returns-in-check : goal.returns-in-check
unfolding form_of
returns-in-check c =
    c.check_form.ensures ∙ sym (form_named c.args.words.now c.name-item.result _ c.in-len1-up.len_at_least
    c.name-item.is (sym c.as_str.ensures.value ∙ c.in-check.is))

pub returns-in-blank : goal.returns-in-blank
unfolding form_of
returns-in-blank c =
    c.blank_form.ensures ∙ sym (form_named c.args.words.now c.name-item.result _ c.in-len1-up.len_at_least
    c.name-item.is (sym c.as_str.ensures.value ∙ c.in-blank.is))

pub returns-in-frames : goal.returns-in-frames
unfolding form_of
returns-in-frames c =
    c.frames_form.ensures ∙ sym (form_named c.args.words.now c.name-item.result _ c.in-len1-up.len_at_least
    c.name-item.is (sym c.as_str.ensures.value ∙ c.in-frames.is))

pub returns-in-tones : goal.returns-in-tones
unfolding form_of
returns-in-tones c =
    c.whole_form.ensures ∙ sym (form_named c.args.words.now c.name-item.result _ c.in-len1-up.len_at_least
    c.name-item.is (sym c.as_str.ensures.value ∙ c.in-tones.is))

pub returns-in-trace : goal.returns-in-trace
unfolding form_of
returns-in-trace c =
    c.whole_form-in-trace.ensures ∙
    sym (form_named c.args.words.now c.name-item.result _
    c.in-len1-up.len_at_least c.name-item.is (sym c.as_str.ensures.value ∙ c.in-trace.is))

pub returns-in-disk : goal.returns-in-disk
unfolding form_of
returns-in-disk c =
    c.disk_form.ensures ∙ sym (form_named c.args.words.now c.name-item.result _ c.in-len1-up.len_at_least
    c.name-item.is (sym c.as_str.ensures.value ∙ c.in-disk.is))

pub returns-in-edit : goal.returns-in-edit
unfolding form_of
returns-in-edit c =
    c.edit_form.ensures ∙ sym (form_named c.args.words.now c.name-item.result _ c.in-len1-up.len_at_least
    c.name-item.is (sym c.as_str.ensures.value ∙ c.in-edit.is))

pub returns-in-make : goal.returns-in-make
unfolding form_of
returns-in-make c =
    c.make_form.ensures ∙ sym (form_named c.args.words.now c.name-item.result _ c.in-len1-up.len_at_least
    c.name-item.is (sym c.as_str.ensures.value ∙ c.in-make.is))

pub returns-in-net : goal.returns-in-net
unfolding form_of
returns-in-net c =
    c.net_form.ensures ∙ sym (form_named c.args.words.now c.name-item.result _ c.in-len1-up.len_at_least
    c.name-item.is (sym c.as_str.ensures.value ∙ c.in-net.is))

pub returns-in-ram : goal.returns-in-ram
unfolding form_of
returns-in-ram c =
    c.ram_form.ensures ∙ sym (form_named c.args.words.now c.name-item.result _ c.in-len1-up.len_at_least
    c.name-item.is (sym c.as_str.ensures.value ∙ c.in-ram.is))

pub returns-in-wave : goal.returns-in-wave
unfolding form_of
returns-in-wave c =
    c.whole_form-in-wave.ensures ∙
    sym (form_named c.args.words.now c.name-item.result _
    c.in-len1-up.len_at_least c.name-item.is (sym c.as_str.ensures.value ∙ c.in-wave.is))

pub returns-in-batch : goal.returns-in-batch
unfolding form_of
returns-in-batch c =
    c.batch_form.ensures ∙ sym (form_named c.args.words.now c.name-item.result _ c.in-len1-up.len_at_least
    c.name-item.is (sym c.as_str.ensures.value ∙ c.in-batch.is))

pub returns-in-serve : goal.returns-in-serve
unfolding form_of
returns-in-serve c =
    c.serve_form.ensures ∙ sym (form_named c.args.words.now c.name-item.result _ c.in-len1-up.len_at_least
    c.name-item.is (sym c.as_str.ensures.value ∙ c.in-serve.is))

pub returns-in-units : goal.returns-in-units
unfolding form_of
returns-in-units c =
    c.whole_form-in-units.ensures ∙
    sym (form_named c.args.words.now c.name-item.result _
    c.in-len1-up.len_at_least c.name-item.is (sym c.as_str.ensures.value ∙ c.in-units.is))

pub returns-in-compare : goal.returns-in-compare
unfolding form_of
returns-in-compare c =
    c.compare_form.ensures ∙ sym (form_named c.args.words.now c.name-item.result _ c.in-len1-up.len_at_least
    c.name-item.is (sym c.as_str.ensures.value ∙ c.in-compare.is))

pub returns-in-rebind : goal.returns-in-rebind
unfolding form_of
returns-in-rebind c =
    c.rebind_form.ensures ∙ sym (form_named c.args.words.now c.name-item.result _ c.in-len1-up.len_at_least
    c.name-item.is (sym c.as_str.ensures.value ∙ c.in-rebind.is))

pub returns-in-inputs : goal.returns-in-inputs
unfolding form_of
returns-in-inputs c =
    c.inputs_form.ensures ∙ sym (form_named c.args.words.now c.name-item.result _ c.in-len1-up.len_at_least
    c.name-item.is (sym c.as_str.ensures.value ∙ c.in-inputs.is))
