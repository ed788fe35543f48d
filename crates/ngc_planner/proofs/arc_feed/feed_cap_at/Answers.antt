use Rattle.std.proofs.Common.{◌≡◌, ◌≤◌, ◌*◌, ◌∙◌, ℕ, ap, arith, cond, false, sym, unsigned_abs}
use Rattle.ngc_arc_geometry.specs.Radii.{IsArc}
use Rattle.ngc_arc_geometry.specs.Shape.{ArcShape}
use Rattle.ngc_machine_files.specs.Machine.{file_of}
use Rattle.ngc_planner.specs.ArcFeed.{rise, sloped_length}
use Rattle.ngc_planner.specs.Caps.{STEPS_LIMIT}
use Rattle.ngc_planner.specs.Headings.{is_level}
use Rattle.ngc_planner.proofs.ArcFeedLaws.{radius_some, length_some}
use Rattle.ngc_planner.proofs.BoundLaws.{step_within, ranges_of}
use Rattle.std.specs.Int.{w64}
use Rattle.std.proofs.lemmas.Int.{to_z-of_z}
use Rattle.ngc_planner.proofs.arc_feed.feed_cap_at.Goals as goal

pub place_cap-cap-requires-clause-radius_least : goal.place_cap-cap-requires-clause-radius_least
place_cap-cap-requires-clause-radius_least g c =
    let some = radius_some c.args.arc.now c.axis_distance.ensures.arc in
    omega (arith, some, c.outer_radius.ensures.value)

-- the length of a helix
long_enough : (flat step n length : ℕ) (a : ArcShape) → IsArc a → is_level a ≡ false → flat ≡ n * step → n ≤ STEPS_LIMIT → step ≤ 50000 →
    length ≡ cond (is_level a) 0 (sloped_length (n * step) (rise a)) → (1 ≤ length) × (flat ≤ length)
long_enough flat step n length a is helix same few small h =
    let some = length_some flat step n a is helix same few small in
    let long = h ∙ ap (λ b. cond b 0 (sloped_length (n * step) (rise a))) helix in
    (omega (arith, some.0, long), omega (arith, some.1, long))

pub sloped_cap-requires-clause-some : goal.sloped_cap-requires-clause-some
sloped_cap-requires-clause-some g c =
    let step = step_within (file_of c.args.machine.now) (ranges_of c.args.machine.now) in
    (long_enough c.flat_length.result (unsigned_abs c.args.machine.now.step) c.args.n c.args.length c.args.arc.now c.axis_distance.ensures.arc
    (sym c.is_level.ensures ∙ c.if-is_level.false) c.flat_length.ensures.value c.requires.steps step.1 c.requires.length).0

pub sloped_cap-requires-clause-least : goal.sloped_cap-requires-clause-least
sloped_cap-requires-clause-least g c =
    let step = step_within (file_of c.args.machine.now) (ranges_of c.args.machine.now) in
    (long_enough c.flat_length.result (unsigned_abs c.args.machine.now.step) c.args.n c.args.length c.args.arc.now c.axis_distance.ensures.arc
    (sym c.is_level.ensures ∙ c.if-is_level.false) c.flat_length.ensures.value c.requires.steps step.1 c.requires.length).1

pub axis_distance-requires : goal.axis_distance-requires
axis_distance-requires g c = c.args.machine.now.step_in_range

pub place_cap-cap-requires-clause-ticks : goal.place_cap-cap-requires-clause-ticks
place_cap-cap-requires-clause-ticks g c = omega (arith, c.args.machine.now.ticks_in_range)

pub place_cap-cap-requires-clause-step_least : goal.place_cap-cap-requires-clause-step_least
place_cap-cap-requires-clause-step_least g c =
    let step = step_within (file_of c.args.machine.now) (ranges_of c.args.machine.now) in
    rw (c.unsigned_abs.ensures.value, to_z-of_z w64 c.nanometres.result (record { sfits = c.nanometres.type_inv }), c.nanometres.ensures.value) step.0

pub place_cap-cap-requires-clause-step_greatest : goal.place_cap-cap-requires-clause-step_greatest
place_cap-cap-requires-clause-step_greatest g c =
    let step = step_within (file_of c.args.machine.now) (ranges_of c.args.machine.now) in
    rw (c.unsigned_abs.ensures.value, to_z-of_z w64 c.nanometres.result (record { sfits = c.nanometres.type_inv }), c.nanometres.ensures.value) step.1

pub flat_length-requires-clause-steps : goal.flat_length-requires-clause-steps
flat_length-requires-clause-steps g c = c.requires.steps

pub flat_length-requires-clause-step : goal.flat_length-requires-clause-step
flat_length-requires-clause-step g c = c.args.machine.now.step_in_range

pub sloped_cap-requires-clause-flat : goal.sloped_cap-requires-clause-flat
sloped_cap-requires-clause-flat g c = c.flat_length.ensures.bound

pub sloped_cap-requires-clause-cap : goal.sloped_cap-requires-clause-cap
sloped_cap-requires-clause-cap g c = c.place_cap-cap.ensures.bound

pub returns-then-is_level-clause-value : goal.returns-then-is_level-clause-value
returns-then-is_level-clause-value g c =
    let step = to_z-of_z w64 c.nanometres.result (record { sfits = c.nanometres.type_inv }) in
    rw (
      c.place_cap-cap.ensures.value,
      c.unsigned_abs.ensures.value,
      step,
      c.nanometres.ensures.value,
      c.outer_radius.ensures.value,
      c.axis_distance.ensures.value,
      c.in-PerMinute.is,
      ← c.is_level.ensures,
      c.if-is_level.true,
    )

pub returns-then-is_level-clause-bound : goal.returns-then-is_level-clause-bound
returns-then-is_level-clause-bound g c = omega (arith, c.place_cap-cap.ensures.bound)

pub returns-else-is_level-clause-value : goal.returns-else-is_level-clause-value
returns-else-is_level-clause-value g c =
    let step = to_z-of_z w64 c.nanometres.result (record { sfits = c.nanometres.type_inv }) in
    rw (
      c.sloped_cap.ensures.value,
      c.flat_length.ensures.value,
      c.place_cap-cap.ensures.value,
      c.unsigned_abs.ensures.value,
      step,
      c.nanometres.ensures.value,
      c.outer_radius.ensures.value,
      c.axis_distance.ensures.value,
      c.requires.length,
      c.in-PerMinute.is,
      ← c.is_level.ensures,
      c.if-is_level.false,
    )

pub returns-else-is_level-clause-bound : goal.returns-else-is_level-clause-bound
returns-else-is_level-clause-bound g c = c.sloped_cap.ensures.bound

pub returns-in-Inverse-clause-value : goal.returns-in-Inverse-clause-value
returns-in-Inverse-clause-value g c = rw c.in-Inverse.is
