use Rattle.w4_devices.proofs.hexadecimal.+add_hexadecimal.Given as goal

abbrev pub decreases-add_hexadecimal : goal.decreases-add_hexadecimal
decreases-add_hexadecimal l = l.number
