use Rattle.std.proofs.Common.{◌≡◌, to_z, of_z}
use Rattle.std.specs.Int.{w32}
use Rattle.std.proofs.lemmas.Int.{to_z-of_z}
use Rattle.ngc_arc_geometry.proofs.SpanLemmas.{ordered, kept_coordinate}
use Rattle.ngc_arc_geometry.proofs.extent.GridRange.inside.Goals as goal

pub invariant_of-result : goal.invariant_of-result
invariant_of-result c =
    let first : to_z w32 (of_z w32 c.first_grid_point.result) ≡ c.first_grid_point.result =
    to_z-of_z w32 c.first_grid_point.result (record { sfits = c.first_grid_point.type_inv }) in
    let last : to_z w32 (of_z w32 c.last_grid_point.result) ≡ c.last_grid_point.result =
    to_z-of_z w32 c.last_grid_point.result (record { sfits = c.last_grid_point.type_inv }) in
    let above = rw (kept_coordinate c.args.low c.requires.low) at c.first_grid_point.ensures.near in
    let below = rw (kept_coordinate c.args.high c.requires.high) at c.last_grid_point.ensures.near in
    record {
      ordered = rw (first, last)
          (ordered c.args.low c.args.high c.args.step c.first_grid_point.result c.last_grid_point.result c.requires.step c.requires.apart above below);
    }
