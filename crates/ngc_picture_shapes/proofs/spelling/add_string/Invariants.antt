use Rattle.std.proofs.Common.{◌≡◌, ◌≤◌, ◌+◌, ◌*◌, ◌++◌, length, take, flat_map}
use Rattle.ngc_picture_shapes.specs.Spelling.{escaped}
use Rattle.ngc_picture_shapes.proofs.spelling.add_string.Given as goal

abbrev pub invariant-loop-character : goal.invariant-loop-character
invariant-loop-character l = record {
  told : l.chunk ≡ l.initial.chunk ++ flat_map escaped (take l.character-index l.text);
  short : length l.chunk ≤ length l.initial.chunk + 6 * l.character-index;
}
