use Rattle.std.proofs.Common.{◌≡◌, ◌-◌, ◌*◌, ◌++◌, length}
use Rattle.ngc_map_picture.specs.Maps.{greys, palette}
use Rattle.ngc_map_picture.proofs.palette.palette.Given as goal

abbrev pub invariant-loop-grey : goal.invariant-loop-grey
invariant-loop-grey l = record {
  made : l.colours.items ++ greys l.grey (256 - l.grey) ≡ palette;
  count : length l.colours.items ≡ 3 * l.grey;
}
