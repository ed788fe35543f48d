use Rattle.std.proofs.Common.{◌≡◌, drop}
use Rattle.ngc_output_file.specs.Names.{HasName}
use Rattle.ngc_output_file.specs.Outputs.{KeepsAll}
use Rattle.ngc_output_file.proofs.names.is_one_of.Given as goal

abbrev pub invariant-loop-other : goal.invariant-loop-other
invariant-loop-other g l =
    (HasName l.name l.names → HasName l.name (drop l.other-index l.names))
    × KeepsAll (g.D.Outputs.bytes l.initial.outputs) (g.D.Outputs.bytes l.outputs)
