use Rattle.std.proofs.Common.{false}
use Rattle.std.specs.Prelude.{replicate}
use Rattle.ngc_map_picture.specs.Registers.{Divides}
use Rattle.ngc_map_picture.proofs.check.with_byte.Given as goal

abbrev pub invariant-loop : goal.invariant-loop
invariant-loop l = Divides (replicate l.counter false) l.initial.left l.left
