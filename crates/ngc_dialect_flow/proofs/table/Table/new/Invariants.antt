-- The table so far is that of the lines from the index on.
use Rattle.std.proofs.Common.{◌≡◌, ◌≤◌, length, map, drop}
use Rattle.ngc_dialect_flow.specs.Places.{lines_in, dialect_of, Covers}
use Rattle.ngc_dialect_flow.proofs.table.Table.new.Given as goal

abbrev pub invariant-loop-index : goal.invariant-loop-index
invariant-loop-index g l = record {
  bound : l.index ≤ length l.lines;
  dialect : dialect_of l.table ≡ l.fn.dialect;
  covers : Covers l.table (drop l.index (lines_in l.fn.dialect (map (λ x. x.now) l.lines))) l.index;
}

abbrev pub decreases-loop-index : goal.decreases-loop-index
decreases-loop-index g l = l.index
