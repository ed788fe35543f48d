use Rattle.std.proofs.Common.{◌≡◌, ◌*◌, length, take}
use Rattle.ngc_sure_contacts.specs.Maps.{AreSwept}
use Rattle.ngc_sure_contacts.specs.Swept.{IsSweptByAny}
use Rattle.ngc_sure_contacts.proofs.sweep.sweep.Given as goal

-- the heights after the cylinders so far
abbrev pub invariant-loop-cylinder : goal.invariant-loop-cylinder
invariant-loop-cylinder l = record {
  count : length l.heights ≡ l.stock.grid.columns * l.stock.grid.rows;
  swept : AreSwept l.stock (IsSweptByAny (take l.cylinder-index l.body) l.way) l.fn.heights l.heights;
}
