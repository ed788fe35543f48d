use Rattle.std.proofs.Common.{◌≡◌, ◌*◌, length, take}
use Rattle.ngc_stock.specs.Walk.{AreArcsCut}
use Rattle.ngc_material.specs.Heights.{AreWithin}
use Rattle.ngc_material.proofs.sweep.cut_arcs.Given as goal

-- the heights after the discs so far
abbrev pub invariant-loop-disc : goal.invariant-loop-disc
invariant-loop-disc l = record {
  count : length l.heights ≡ l.stock.grid.columns * l.stock.grid.rows;
  within : AreWithin l.stock l.heights;
  cut : AreArcsCut l.stock (take l.disc-index l.discs) l.arc l.fn.heights l.heights;
}
