use Rattle.std.proofs.Common.{◌≡◌, ◌<◌, ℕ, length}
use Rattle.ngc_stock.specs.Feeds.{IsAbove}
use Rattle.ngc_stock.specs.Stocks.{lowest_part, from_part}
use Rattle.ngc_material.proofs.rim.low_part.Given as goal

-- the parts so far are above the stock, and the next one is the lowest of those that are left
abbrev pub invariant-loop-part : goal.invariant-loop-part
invariant-loop-part l = record {
  some : 0 < l.part;
  lower : (p : ℕ) → 0 < p → p < l.part → IsAbove l.stock (lowest_part (from_part l.tool p)) l.arc;
  upper : l.part < length l.tool.parts → l.upper ≡ from_part l.tool l.part;
}
