-- The rest has the same bytes after its blanks.
use Rattle.std.proofs.Common.{◌≡◌, length}
use Rattle.ngc_line_reader.specs.Load.{after_blanks}
use Rattle.ngc_line_reader.proofs.program.phase.skip_blanks.Given as goal

abbrev pub invariant-loop-first : goal.invariant-loop-first
invariant-loop-first l = after_blanks l.bytes ≡ after_blanks l.rest

abbrev pub decreases-loop-first : goal.decreases-loop-first
decreases-loop-first l = length l.rest
