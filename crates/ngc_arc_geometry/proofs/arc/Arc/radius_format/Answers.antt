use Rattle.std.proofs.Common.{◌≡◌, ◌<◌, ◌≤◌, ◌*◌, false, not, Ok, ◌∙◌, ap, sym, unsigned_abs, arith, rules}
use Rattle.std.proofs.lemmas.Int.{ints}
use Rattle.ngc_fixed_length.specs.declared.points.Point2.{Point2}
use Rattle.ngc_arc_geometry.specs.declared.fault.ArcFault.TheVariants.{NoAxisWord, EndIsStart, RadiusOutOfRange}
use Rattle.ngc_arc_geometry.specs.Centre.{arc_about, chord_square, radius_centre}
use Rattle.ngc_arc_geometry.specs.Faults.{◌>>=◌}
use Rattle.ngc_arc_geometry.specs.Tolerance.{tolerance}
use Rattle.ngc_arc_geometry.specs.Radii.{with_equal_radii}
use Rattle.ngc_arc_geometry.proofs.Machine.{square_fits}
use Rattle.ngc_arc_geometry.proofs.LastStep.{four_pass, not_zero, not_over}
use Rattle.ngc_arc_geometry.proofs.arc.Arc.radius_format.Goals as goal

pub returns : goal.returns
returns c =
    let e = c.args.ends.now in
    let r = c.args.radius in
    let t = tolerance c.args.units in
    let size : c.from-size.result ≡ unsigned_abs r = omega (arith, ints) in
    let chord_is : c.square.result ≡ chord_square e = cc in
    let word : not e.has_axis_word ≡ false = cc in
    let chord : 0 < chord_square e = omega (arith, chord_is) in
    let some : 0 < unsigned_abs r = omega (arith, size) in
    let limit : unsigned_abs r * unsigned_abs r ≤ 4000000000000000000 = rw (← size) c.if-size-gt-SQUARE_LIMIT.false in
    let found : radius_centre t e r ≡ Ok c.in_ok-centre.centre = cc (c.in_ok-centre.was {u = tt}) in
    let last : c.with_equal_radii.result ≡ with_equal_radii t (arc_about e c.in_ok-centre.centre) =
    c.with_equal_radii.ensures ∙ ap (λ n. with_equal_radii n (arc_about e c.in_ok-centre.centre)) c.tolerance-2.ensures.value in
    let rest = λ (centre : Point2). with_equal_radii t (arc_about e centre) in
    let passed = four_pass (not e.has_axis_word) _ _ _ NoAxisWord EndIsStart RadiusOutOfRange RadiusOutOfRange (radius_centre t e r >>= rest) word
    (not_zero (chord_square e) chord) (not_zero (unsigned_abs r) some) (not_over 4000000000000000000 (unsigned_abs r * unsigned_abs r) limit) in
    last ∙ sym (passed ∙ ap (λ found. found >>= rest) found)

pub overflow_mul-size : goal.overflow_mul-size
overflow_mul-size c = square_fits c.from-size.result (omega (arith, ints))

pub returns-then-not-ends : goal.returns-then-not-ends
returns-then-not-ends c = search rules

pub returns-then-square-eq0 : goal.returns-then-square-eq0
returns-then-square-eq0 c = search rules

pub returns-then-size-eq0 : goal.returns-then-size-eq0
returns-then-size-eq0 c = search rules

pub returns-then-size-gt-SQUARE_LIMIT : goal.returns-then-size-gt-SQUARE_LIMIT
returns-then-size-gt-SQUARE_LIMIT c = search rules
