use Rattle.std.proofs.Common.{◌≡◌, ◌+◌, drop}
use Rattle.ngc_picture_shapes.specs.Tools.{rank_of}
use Rattle.ngc_picture_shapes.proofs.tools.rank_of.Given as goal

abbrev pub invariant-loop-i : goal.invariant-loop-i
invariant-loop-i l = rank_of l.tools l.number ≡ rank_of (drop l.i l.tools) l.number + l.i
