use Rattle.std.proofs.Common.{ℕ, ◌+◌, to_z, of_z, arith, ◌∙◌, ap, ap₂}
use Rattle.std.specs.Int.{w64}
use Rattle.ngc_fixed_length.specs.declared.points.Point2.{Point2}
use Rattle.ngc_cells.proofs.Kept.{kept64}
use Rattle.ngc_sure_contacts.proofs.Sinking.{above_arc, swept_cleared, swept_round}
use Rattle.ngc_sure_contacts.specs.Swept.{IsSweptAlong}
use Rattle.ngc_sure_contacts.proofs.sweep.sweep_round.Goals as goal

pub returns-then-stock-level : goal.returns-then-stock-level
returns-then-stock-level c =
    above_arc c.args.stock.now c.args.cylinder.now c.args.arc.now c.start.result c.end.result c.args.heights.now c.line_level-level.result
    c.start.ensures.value c.end.ensures.value c.line_level-level.ensures c.if-stock-level.true

pub returns-then-not-is_near : goal.returns-then-not-is_near
returns-then-not-is_near c =
    swept_cleared c.args.stock.now (IsSweptAlong c.args.cylinder.now c.args.arc.now) c.args.heights.now c.clear.new.heights
    c.requires.heights.count c.clear.ensures.count c.clear.ensures.zero

pub sink-requires-clause-stretch : goal.sink-requires-clause-stretch
sink-requires-clause-stretch c =
    let spot = c.is_near.ensures.0 c.if-not-is_near.false in
    record { start = spot; end = spot; parts = omega arith; part = omega arith }

pub returns : goal.returns
returns c =
    let x = kept64 c.nanometres.result (omega (arith, c.nanometres.ensures.bound)) in
    let y = kept64 c.nanometres-2.result (omega (arith, c.nanometres-2.ensures.bound)) in
    swept_round c.args.stock.now c.args.cylinder.now c.args.arc.now c.start.result c.end.result (to_z w64 (of_z w64 c.nanometres.result)) (to_z w64 (of_z w64 c.nanometres-2.result))
    (c.reach.result + c.outer_radius.result) c.line_level-level.result c.args.heights.now c.sink.new.heights c.requires.heights.grid c.requires.heights.count
    c.start.ensures.value c.end.ensures.value
    (x ∙ c.nanometres.ensures.value ∙ ap (λ (p : Point2). p.u) c.centre-centre.ensures.value)
    (y ∙ c.nanometres-2.ensures.value ∙ ap (λ (p : Point2). p.v) c.centre-centre.ensures.value)
    (ap₂ (λ (m n : ℕ). m + n) c.reach.ensures.value c.outer_radius.ensures.value) c.line_level-level.ensures c.sink.ensures
