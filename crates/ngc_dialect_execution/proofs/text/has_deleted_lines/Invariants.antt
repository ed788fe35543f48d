-- No line so far begins with `/`.
use Rattle.std.proofs.Common.{◌≡◌, length}
use Rattle.ngc_dialect_execution.specs.Text.{has_deleted}
use Rattle.ngc_dialect_execution.proofs.text.has_deleted_lines.Given as goal

abbrev pub invariant-loop-rest : goal.invariant-loop-rest
invariant-loop-rest l = has_deleted l.rest ≡ has_deleted l.text

abbrev pub decreases-loop-rest : goal.decreases-loop-rest
decreases-loop-rest l = length l.rest
