use Rattle.std.proofs.Common.{◌≡◌, ◌+◌, ◌*◌, ◌<◌, to_z, of_z, arith, sym, ◌∙◌, subst, length}
use Rattle.std.specs.Int.{w64}
use Rattle.std.proofs.lemmas.Int.{ints}
use Rattle.std.proofs.lemmas.Nat.{mul-le}
use Rattle.ngc_cells.proofs.Kept.{kept64}
use Rattle.std.proofs.Common.{inl, inr}
use Rattle.std.proofs.lemmas.Bool.{cases_lt}
use Rattle.ngc_cells.specs.declared.cells.Peak.{Peak}
use Rattle.ngc_cells.specs.Grids.{IsNearPeak}
use Rattle.ngc_cells.proofs.Grids.{middle_near}
use Rattle.ngc_cells.proofs.Lowering.{IsRow, AreRows, early_far, all_most, row_most, row_found, later_peak}
use Rattle.ngc_cells.proofs.cells.highest_above.Goals as goal

pub loop-row-preserved : goal.loop-row-preserved
loop-row-preserved c =
    let g = c.args.grid.now in
    let s = c.args.stretch.now in
    let row = c.loop-row.row in
    let first = c.indices_in-indices.result.first in
    let end = c.indices_in-indices.result.end in
    let span = c.near_span-span.result in
    let v = c.loop-row.invariant in
    let yk : to_z w64 (of_z w64 c.middle_of-y.result) ≡ c.middle_of-y.result = omega (arith, ints) in
    let cy = kept64 g.corner.y (omega (arith, c.requires.grid.y)) in
    let cx = kept64 g.corner.x (omega (arith, c.requires.grid.x)) in
    let e = yk ∙ rw cy at c.middle_of-y.ensures in
    let known : IsRow g s c.args.radius row first end span = record {
      within = c.indices_in-indices.ensures.within;
      near = λ x. rw e at (c.near_span-span.ensures x);
      are = rw cx at c.indices_in-indices.ensures.are;
    } in
    let old = c.loop-row.peak in
    let new = c.peak_in-peak.result in
    record {
      within = omega (arith, c.loop-row-test.true, c.near_rows-rows.ensures.within);
      most = row_most g s c.args.radius row first end span c.args.heights.now old.height new.height known c.peak_in-peak.ensures.most c.peak_in-peak.ensures.least v.most;
      least = omega (arith, v.least, c.peak_in-peak.ensures.least);
      one = λ more. elim (cases_lt old.height new.height) [
        | inl grew ↦ row_found g s c.args.radius row first end span c.args.heights.now new known (c.peak_in-peak.ensures.found grew)
        | inr same ↦ (let f = c.peak_in-peak.ensures.same same in
            subst (λ (p : Peak). IsNearPeak g s c.args.radius c.args.heights.now ((row + 1) * g.columns) p) (sym f)
            (later_peak g s c.args.radius (row * g.columns) ((row + 1) * g.columns) c.args.heights.now old (omega arith) (v.one (subst (λ (p : Peak). c.args.level < p.height) f more))))
      ];
    }

pub near_span-span-requires-clause-y : goal.near_span-span-requires-clause-y
near_span-span-requires-clause-y c =
    let g = c.args.grid.now in
    let yk : to_z w64 (of_z w64 c.middle_of-y.result) ≡ c.middle_of-y.result = omega (arith, ints) in
    let cy = kept64 g.corner.y (omega (arith, c.requires.grid.y)) in
    let e = yk ∙ rw cy at c.middle_of-y.ensures in
    let less : c.loop-row.row < g.rows = omega (arith, c.loop-row-test.true, c.near_rows-rows.ensures.within) in
    rw e (middle_near g.corner.y g.half c.loop-row.row g.rows c.requires.grid.y c.requires.grid.end_y less)

pub loop-row-init : goal.loop-row-init
loop-row-init c =
    let g = c.args.grid.now in
    let s = c.args.stretch.now in
    let rows = c.near_rows-rows in
    let known : AreRows g s c.args.radius rows.result.first rows.result.end = record { far = rows.ensures.far } in
    record {
      within = rows.ensures.first;
      most = λ k less near.
          let m = mul-le rows.result.first g.columns g.rows g.columns rows.ensures.first (omega arith) in
          absurd (early_far g s c.args.radius rows.result.first rows.result.end k known (omega (arith, less, m)) less near);
      least = omega arith;
      one = λ more. absurd (omega (arith, more));
    }

pub returns-else-level-peak-clause-none : goal.returns-else-level-peak-clause-none
returns-else-level-peak-clause-none c =
    let g = c.args.grid.now in
    let s = c.args.stretch.now in
    let rows = c.near_rows-rows in
    let known : AreRows g s c.args.radius rows.result.first rows.result.end = record { far = rows.ensures.far } in
    λ k less near.
    let m = all_most g s c.args.radius rows.result.first rows.result.end c.loop-row.row c.args.heights.now c.loop-row.peak.height known
    (omega (arith, c.loop-row-test.false)) c.loop-row.invariant.most k (omega (arith, less, c.requires.count)) near in
    omega (arith, m, c.if-level-peak.false)

pub returns-then-level-peak-clause-some : goal.returns-then-level-peak-clause-some
returns-then-level-peak-clause-some c =
    let g = c.args.grid.now in
    let s = c.args.stretch.now in
    let rows = c.near_rows-rows in
    let known : AreRows g s c.args.radius rows.result.first rows.result.end = record { far = rows.ensures.far } in
    let v = c.loop-row.invariant in
    let fits = mul-le c.loop-row.row g.columns g.rows g.columns v.within (omega arith) in
    record {
      found = later_peak g s c.args.radius (c.loop-row.row * g.columns) (length c.args.heights.now) c.args.heights.now c.loop-row.peak
          (omega (arith, fits, c.requires.count)) (v.one c.if-level-peak.true);
      above = c.if-level-peak.true;
      greatest = λ k less near.
          all_most g s c.args.radius rows.result.first rows.result.end c.loop-row.row c.args.heights.now c.loop-row.peak.height known
          (omega (arith, c.loop-row-test.false)) v.most k (omega (arith, less, c.requires.count)) near;
    }
