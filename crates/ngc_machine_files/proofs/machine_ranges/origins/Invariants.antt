use Rattle.std.proofs.Common.{◌≡◌, length, take, map}
use Rattle.ngc_machine_files.specs.MachineText.{place_of}
use Rattle.ngc_machine_files.proofs.machine_ranges.origins.Given as goal

abbrev pub invariant-loop-i : goal.invariant-loop-i
invariant-loop-i l = (length l.places ≡ 9) × (take l.i l.places ≡ map place_of (take l.i l.origins))
