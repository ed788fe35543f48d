use Rattle.std.proofs.Common.{take}
use Rattle.ngc_map_picture.specs.Checks.{message}
use Rattle.ngc_map_picture.specs.Registers.{Divides}
use Rattle.ngc_map_picture.proofs.check.with_bytes.Given as goal

abbrev pub invariant-loop-byte : goal.invariant-loop-byte
invariant-loop-byte l = Divides (message (take l.byte-index l.bytes)) l.register l.left
