-- The rest of the text has the same reading as the whole.
use Rattle.std.proofs.Common.{◌≡◌, ◌≤◌, ◌-◌}
use Rattle.ngc_dialect_reader.specs.Flow.{arguments_at}
use Rattle.ngc_dialect_reader.proofs.flow.arguments_at.Given as goal

abbrev pub invariant-loop-count : goal.invariant-loop-count
invariant-loop-count l = record {
  few : l.count ≤ 31;
  read : arguments_at l.dialect (31 - l.count) l.count l.parts.items l.rest ≡ arguments_at l.fn.dialect 31 0 l.initial.parts.items l.fn.s;
}

abbrev pub decreases-loop-count : goal.decreases-loop-count
decreases-loop-count l = 31 - l.count
