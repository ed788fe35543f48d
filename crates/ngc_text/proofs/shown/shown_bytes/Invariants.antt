-- The number of bytes shown.
use Rattle.std.proofs.Common.{◌≡◌, take, map}
use Rattle.ngc_text.specs.Shown.{shown}
use Rattle.ngc_text.proofs.shown.shown_bytes.Given as goal

abbrev pub invariant-loop-byte : goal.invariant-loop-byte
invariant-loop-byte l = l.text.items ≡ map shown (take l.byte-index l.byte-items)
