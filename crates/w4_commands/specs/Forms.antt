-- Arguments as the definitions see them.
use Rattle.std.specs.Prelude.{ℕ, List, Option, Some, None, nat_le, option_and_then, if◌then◌else◌}
use Rattle.w4_defs.specs.Lines.{number_of}
use Rattle.w4_commands.specs.declared.forms.RunNames.{RunNames}
use Rattle.w4_commands.specs.declared.forms.EditNames.{EditNames}
use Rattle.w4_commands.specs.declared.forms.NetNames.{NetNames}
use Rattle.w4_commands.specs.declared.forms.BatchNames.{BatchNames}
use Rattle.w4_commands.specs.declared.forms.ServeNames.{ServeNames}
use Rattle.w4_commands.specs.declared.forms.CompareNames.{CompareNames}
use Rattle.w4_commands.specs.declared.forms.CartCommand.{CartCommand}
use Rattle.w4_commands.specs.declared.forms.CartCommand.TheVariants as cart
use Rattle.w4_commands.specs.declared.forms.EditorCommand.{EditorCommand}
use Rattle.w4_commands.specs.declared.forms.EditorCommand.TheVariants as editor
use Rattle.w4_commands.specs.declared.forms.Form.{Form as Named}
use Rattle.w4_commands.specs.declared.forms.Form.TheVariants as named
use Rattle.w4_defs.specs.Commands.{RunWords, EditWords, NetWords, BatchWords, ServeWords, CompareWords, Form}
use Rattle.w4_defs.specs.Commands.{Check, Blank, Frames, Disk, Edit, Make, Net, Ram, Batch, Serve, Compare}
use Rattle.w4_defs.specs.Commands.{Rebind, Inputs, BlankDisk}
use Rattle.w4_commands.specs.RunOutputs.{whole_command}

abbrev pub run_view : RunNames → RunWords
run_view n = record { cart = n.cart.now; recording = n.recording.now; font = n.font.now }

abbrev pub edit_view : EditNames → EditWords
edit_view n = record { run = run_view n.run; script = n.script.now; out = n.out.now }

abbrev pub net_view : NetNames → NetWords
net_view n = record { cart = n.cart.now; font = n.font.now; budget = n.budget.units; log = n.log.now }

abbrev pub batch_view : BatchNames → BatchWords
batch_view n =
    record { cart = n.cart.now; font = n.font.now; list = n.list.now; workers = n.workers.count }

abbrev pub serve_view : ServeNames → ServeWords
serve_view n = record { run = run_view n.run; out = n.out.now }

abbrev pub compare_view : CompareNames → CompareWords
compare_view n = record {
  cart = n.cart.now;
  recording = n.recording.now;
  other_cart = n.other_cart.now;
  other_recording = n.other_recording.now;
  font = n.font.now;
}

-- the budget that an argument gives: a number of at least 1
abbrev pub at_least_one : ℕ → Option ℕ
at_least_one units = if nat_le 1 units then Some units else None

abbrev pub budget_given : List ℕ → Option ℕ
budget_given word = option_and_then at_least_one (number_of word)

abbrev pub cart_command_view : CartCommand → Form
cart_command_view (cart.Check name) = Check name.now
cart_command_view (cart.Blank name budget) = Blank name.now budget.units
cart_command_view (cart.BlankDisk name budget disk) = BlankDisk name.now budget.units disk.now
cart_command_view (cart.Rebind name recording) = Rebind name.now recording.now
cart_command_view (cart.Frames names places) = Frames (run_view names) places.from places.to
cart_command_view (cart.Whole names text) = whole_command text (run_view names)
cart_command_view (cart.Disk names place) = Disk (run_view names) place
cart_command_view (cart.Batch names) = Batch (batch_view names)

abbrev pub editor_command_view : EditorCommand → Form
editor_command_view (editor.Ram names query) = Ram (run_view names) query.now
editor_command_view (editor.Edit names) = Edit (edit_view names)
editor_command_view (editor.Serve names) = Serve (serve_view names)
editor_command_view (editor.Net names) = Net (net_view names)

abbrev pub form_view : Named → Form
form_view (named.Make number) = Make number
form_view (named.Inputs recording) = Inputs recording.now
form_view (named.Compare names) = Compare (compare_view names)
form_view (named.OnCart given) = cart_command_view given
form_view (named.InEditor given) = editor_command_view given
