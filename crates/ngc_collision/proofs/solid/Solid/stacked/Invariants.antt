use Rattle.std.proofs.Common.{◌≡◌, ◌≤◌, ◌*◌, ◌+◌, ◌++◌, drop, map, unsigned_abs}
use Rattle.arrayvec.specs.ArrayVec.{array_vec_len}
use Rattle.ngc_collision.specs.Body.{stacked}
use Rattle.ngc_collision.specs.Inside.{solid_of}
use Rattle.ngc_collision.proofs.solid.Solid.stacked.Given as goal

abbrev pub invariant-loop-part : goal.invariant-loop-part
invariant-loop-part l =
    (array_vec_len l.solids ≡ l.part-index)
    × ((unsigned_abs l.foot ≤ 100000000000 * (1 + l.part-index))
    × (stacked l.tool.bottom l.tool.parts (solid_of l.self) ≡ map solid_of l.solids.items ++ stacked l.foot (drop l.part-index l.part-items) (solid_of l.self)))
