use Rattle.std.proofs.Common.{◌≡◌, ◌++◌, take}
use Rattle.ngc_machine_files.proofs.parts.Parts.of.Given as goal

abbrev pub invariant-loop-part : goal.invariant-loop-part
invariant-loop-part l = l.made ≡ l.initial.made ++ take l.part-index l.part-items
