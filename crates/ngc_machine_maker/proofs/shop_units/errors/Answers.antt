use Rattle.std.proofs.Common.{arith, ◌≡◌, ◌≤◌, ℤ, unsigned_abs, to_z, of_z, refl}
use Rattle.std.specs.Int.{w64}
use Rattle.std.proofs.lemmas.Int.{ints}
use Rattle.ngc_machine_maker.proofs.UnitLaws.{short_travel}
use Rattle.ngc_machine_maker.proofs.shop_units.errors.Goals as goal

kept : (z : ℤ) → unsigned_abs z ≤ 3999000000 → to_z w64 (of_z w64 z) ≡ z
kept z near = omega (arith, ints)

pub error_over-requires-clause-scale : goal.error_over-requires-clause-scale
error_over-requires-clause-scale c = c.requires.scale

pub error_over-requires-clause-distance : goal.error_over-requires-clause-distance
error_over-requires-clause-distance c =
    let x = c.requires.numbers.places.x in
    rw (c.travel_length.ensures, kept c.args.numbers.now.low.x x.low_near, kept c.args.numbers.now.high.x x.high_near)
    (short_travel c.args.numbers.now.low.x c.args.numbers.now.high.x x.low_near x.high_near)

pub error_over-requires-2-clause-scale : goal.error_over-requires-2-clause-scale
error_over-requires-2-clause-scale c = c.requires.scale

pub error_over-requires-2-clause-distance : goal.error_over-requires-2-clause-distance
error_over-requires-2-clause-distance c =
    let y = c.requires.numbers.places.y in
    rw (c.travel_length-2.ensures, kept c.args.numbers.now.low.y y.low_near, kept c.args.numbers.now.high.y y.high_near)
    (short_travel c.args.numbers.now.low.y c.args.numbers.now.high.y y.low_near y.high_near)

pub error_over-requires-3-clause-scale : goal.error_over-requires-3-clause-scale
error_over-requires-3-clause-scale c = c.requires.scale

pub error_over-requires-3-clause-distance : goal.error_over-requires-3-clause-distance
error_over-requires-3-clause-distance c =
    let z = c.requires.numbers.places.z in
    rw (c.travel_length-3.ensures, kept c.args.numbers.now.low.z z.low_near, kept c.args.numbers.now.high.z z.high_near)
    (short_travel c.args.numbers.now.low.z c.args.numbers.now.high.z z.low_near z.high_near)

pub returns : goal.returns
returns c =
    let x = c.requires.numbers.places.x in
    let y = c.requires.numbers.places.y in
    let z = c.requires.numbers.places.z in
    rw (
      c.error_over.ensures,
      c.travel_length.ensures,
      kept c.args.numbers.now.low.x x.low_near,
      kept c.args.numbers.now.high.x x.high_near,
      c.error_over-2.ensures,
      c.travel_length-2.ensures,
      kept c.args.numbers.now.low.y y.low_near,
      kept c.args.numbers.now.high.y y.high_near,
      c.error_over-3.ensures,
      c.travel_length-3.ensures,
      kept c.args.numbers.now.low.z z.low_near,
      kept c.args.numbers.now.high.z z.high_near,
    ) refl
