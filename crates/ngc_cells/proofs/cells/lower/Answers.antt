use Rattle.std.proofs.Common.{◌≡◌, ◌<◌, to_z, of_z, refl, arith, ◌∙◌, get_or}
use Rattle.std.specs.Int.{w64}
use Rattle.std.proofs.lemmas.Int.{ints}
use Rattle.std.proofs.lemmas.Nat.{mul-le}
use Rattle.ngc_cells.proofs.Kept.{kept64}
use Rattle.ngc_cells.proofs.Lowering.{IsRow, AreRows, row_lowered, row_rest, early_far, unlowered, all_lowered}
use Rattle.ngc_cells.proofs.Grids.{middle_near}
use Rattle.ngc_cells.proofs.cells.lower.Goals as goal

pub loop-row-preserved : goal.loop-row-preserved
loop-row-preserved c =
    let g = c.args.grid.now in
    let s = c.args.stretch.now in
    let row = c.loop-row.row in
    let first = c.indices_in-indices.result.first in
    let end = c.indices_in-indices.result.end in
    let span = c.near_span-span.result in
    let v = c.loop-row.invariant in
    let yk : to_z w64 (of_z w64 c.middle_of-y.result) ≡ c.middle_of-y.result = omega (arith, ints) in
    let cy = kept64 g.corner.y (omega (arith, c.requires.grid.y)) in
    let cx = kept64 g.corner.x (omega (arith, c.requires.grid.x)) in
    let e = yk ∙ rw cy at c.middle_of-y.ensures in
    let known : IsRow g s c.args.radius row first end span = record {
      within = c.indices_in-indices.ensures.within;
      near = λ x. rw e at (c.near_span-span.ensures x);
      are = rw cx at c.indices_in-indices.ensures.are;
    } in
    record {
      done = row_lowered g s c.args.radius c.args.level row first end span c.args.heights.now c.loop-row.heights c.lower_cells.new.heights known
          c.lower_cells.ensures.inside c.lower_cells.ensures.before c.lower_cells.ensures.after v.done v.rest;
      rest = row_rest g row end c.args.heights.now c.loop-row.heights c.lower_cells.new.heights c.indices_in-indices.ensures.within c.lower_cells.ensures.after v.rest;
    }

pub loop-row-init : goal.loop-row-init
loop-row-init c =
    let g = c.args.grid.now in
    let s = c.args.stretch.now in
    let rows = c.near_rows-rows in
    let known : AreRows g s c.args.radius rows.result.first rows.result.end = record { far = rows.ensures.far } in
    record {
      done = λ k less.
          let m = mul-le rows.result.first g.columns g.rows g.columns rows.ensures.first (omega arith) in
          unlowered g s c.args.radius c.args.level k (get_or c.args.heights.now k 0) (get_or c.args.heights.now k 0)
          (early_far g s c.args.radius rows.result.first rows.result.end k known (omega (arith, less, m)) less) refl;
      rest = λ k past. refl;
    }

pub near_span-span-requires-clause-y : goal.near_span-span-requires-clause-y
near_span-span-requires-clause-y c =
    let g = c.args.grid.now in
    let yk : to_z w64 (of_z w64 c.middle_of-y.result) ≡ c.middle_of-y.result = omega (arith, ints) in
    let cy = kept64 g.corner.y (omega (arith, c.requires.grid.y)) in
    let e = yk ∙ rw cy at c.middle_of-y.ensures in
    let less : c.loop-row.row < g.rows = omega (arith, c.loop-row-test.true, c.near_rows-rows.ensures.within) in
    rw e (middle_near g.corner.y g.half c.loop-row.row g.rows c.requires.grid.y c.requires.grid.end_y less)

pub returns : goal.returns
returns c =
    let g = c.args.grid.now in
    let s = c.args.stretch.now in
    let rows = c.near_rows-rows in
    let known : AreRows g s c.args.radius rows.result.first rows.result.end = record { far = rows.ensures.far } in
    let v = c.loop-row.invariant in
    record {
      count = omega (arith, c.loop-row.auto.heights);
      each = λ k less. all_lowered g s c.args.radius c.args.level rows.result.first rows.result.end c.loop-row.row c.args.heights.now c.loop-row.heights known
          (omega (arith, c.loop-row-test.false)) v.done v.rest k (omega (arith, less, c.requires.count));
    }
