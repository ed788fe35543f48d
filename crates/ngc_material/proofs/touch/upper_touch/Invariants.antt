use Rattle.std.proofs.Common.{◌≡◌, ◌<◌, ℕ, length}
use Rattle.ngc_stock.specs.Stocks.{lowest_part, from_part}
use Rattle.ngc_stock.specs.Walk.{IsClear}
use Rattle.ngc_material.proofs.touch.upper_touch.Given as goal

-- the parts so far are clear, and the next one is the lowest of those that are left
abbrev pub invariant-loop-part : goal.invariant-loop-part
invariant-loop-part l = record {
  some : 0 < l.part;
  lower : (p : ℕ) → 0 < p → p < l.part → IsClear l.stock (lowest_part (from_part l.tool p)) l.line.start l.line.end l.heights;
  upper : l.part < length l.tool.parts → l.upper ≡ from_part l.tool l.part;
}
