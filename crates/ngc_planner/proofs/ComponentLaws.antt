-- The axes' limits on a motion: the greatest rate and the greatest change that keep them.
use Rattle.std.proofs.Common.{◌≡◌, ℕ, ◌==◌, cond, ◌*◌, ◌/◌, ◌≤◌, ◌↔◌, min, max, ℤ, IsTrue, Bool, true, false, Option, Some, None}
use Rattle.std.proofs.Common.{arith, refl, ap}
use Rattle.std.specs.Prelude.{IfSome}
use Rattle.std.proofs.lemmas.Bool.Decides.{nat_tests}
use Rattle.std.proofs.lemmas.Nat.{mul-le}
use Rattle.std.proofs.Math.Nat.{le-div_iff_mul-le}
use Rattle.ngc_fixed_length.specs.Grid.{grid}
use Rattle.ngc_fixed_length.specs.Limits.{MILLION}
use Rattle.ngc_fixed_length.specs.declared.modes.Plane.{Plane}
use Rattle.ngc_fixed_length.specs.declared.modes.Plane.TheVariants.{XY, ZX, YZ}
use Rattle.ngc_arc_geometry.specs.Shape.{ArcShape}
use Rattle.ngc_machine_files.specs.Machine.{MachineFile}
use Rattle.ngc_machine_files.specs.MachineRanges.{IsMachine}
use Rattle.ngc_machine_files.specs.Ranges.{AreRates, AreLimits}
use Rattle.ngc_machine_files.specs.declared.machine.AxisLimits.{AxisLimits}
use Rattle.ngc_machine_files.specs.declared.machine.AxisRates.{AxisRates}
use Rattle.ngc_commands.specs.declared.command.Action.{Action}
use Rattle.ngc_commands.specs.declared.command.Action.TheVariants.{Move}
use Rattle.ngc_commands.specs.declared.movement.Way.{Way}
use Rattle.ngc_commands.specs.declared.movement.Way.TheVariants.{Line, Arc}
use Rattle.ngc_planner.specs.declared.axes.Axes.{Axes}
use Rattle.ngc_planner.specs.declared.components.AxisSteps.{AxisSteps}
use Rattle.ngc_planner.specs.Axes.{IsWithinAxes, rate_where, least_rate, axes_of}
use Rattle.ngc_planner.specs.Components.{steps_between, steps_along, plane_axes, third_rate, third_steps, AxisKeeps, AxesKeep, ArcKeeps, IsWithinComponents}
use Rattle.ngc_planner.specs.Components.{by_component, least_component, component_rate, MayMoveAlong, MayMoveAxes, rate_along, axes_bound}
use Rattle.ngc_planner.specs.Components.{IsChangeOfAxes, MayChangeAlong, MayChange, axes_change, change_along, change_of, IsGreatestChange, IsOneChange}
use Rattle.ngc_planner.specs.Components.{least_of_changes, least_change, IsLeastChange}

-- ---- the least of two or three

two_of : (x y v : ℕ) → v ≤ min x y → (v ≤ x) × (v ≤ y)
two_of x y v h = (omega arith, omega arith)

below_both : (x y v : ℕ) → v ≤ x → v ≤ y → v ≤ min x y
below_both x y v a b = omega arith

least_of : (x y z v : ℕ) → v ≤ min x (min y z) → (v ≤ x) × ((v ≤ y) × (v ≤ z))
least_of x y z v h = (omega arith, (omega arith, omega arith))

below_least : (x y z v : ℕ) → v ≤ x → v ≤ y → v ≤ z → v ≤ min x (min y z)
below_least x y z v a b c = omega arith

-- ---- the axes that may move

one_axis : (moves : Bool) (rate v : ℕ) → v ≤ MILLION → (v ≤ rate_where moves rate) ↔ (IsTrue moves → v ≤ rate)
one_axis true rate v small = (λ h t. h, λ h. h refl)
one_axis false rate v small = (λ h t. cc, λ h. small)

within_axes : (rates : AxisRates) (axes : Axes) (v : ℕ) → v ≤ MILLION → (v ≤ least_rate rates axes) ↔ IsWithinAxes rates axes v
within_axes rates axes v small =
    let x = one_axis axes.x rates.x v small in
    let y = one_axis axes.y rates.y v small in
    let z = one_axis axes.z rates.z v small in (
      λ less. (
          let each = least_of (rate_where axes.x rates.x) (rate_where axes.y rates.y) (rate_where axes.z rates.z) v less in
          record { x = x.0 each.0; y = y.0 each.1.0; z = z.0 each.1.1 }),
      λ within. below_least (rate_where axes.x rates.x) (rate_where axes.y rates.y) (rate_where axes.z rates.z) v (x.1 within.x) (y.1 within.y) (z.1 within.z),
    )

-- ---- by component

-- a division rounds down, so the quotient is the greatest
component_by : (none : Bool) (limit n d v : ℕ) → none ≡ (d == 0) → v ≤ MILLION →
    (v ≤ cond none MILLION (min (limit * max n d / d) MILLION)) ↔ AxisKeeps limit n d v
component_by true limit n d v test small =
    let zero : d ≡ 0 = grind (arith, nat_tests) in
    let none : v * d ≡ v * 0 = ap (λ k. v * k) zero in (
      λ less. omega (arith, none),
      λ keeps. small,
    )
component_by false limit n d v test small =
    let some : 1 ≤ d = grind (arith, nat_tests) in
    let quotient = le-div_iff_mul-le {k = d} {x = v} {y = limit * max n d} some in (
      λ less. quotient.0 (two_of (limit * max n d / d) MILLION v less).0,
      λ keeps. below_both (limit * max n d / d) MILLION v (quotient.1 keeps) small,
    )

component : (limit n d v : ℕ) → v ≤ MILLION → (v ≤ by_component limit n d) ↔ AxisKeeps limit n d v
component limit n d v small = component_by (d == 0) limit n d v refl small

components : (limits : AxisRates) (n : ℕ) (d : AxisSteps) (v : ℕ) → v ≤ MILLION → (v ≤ least_component limits n d) ↔ AxesKeep limits n d v
components limits n d v small =
    let x = component limits.x n d.x v small in
    let y = component limits.y n d.y v small in
    let z = component limits.z n d.z v small in (
      λ less. (
          let each = least_of (by_component limits.x n d.x) (by_component limits.y n d.y) (by_component limits.z n d.z) v less in
          record { x = x.0 each.0; y = y.0 each.1.0; z = z.0 each.1.1 }),
      λ keep. below_least (by_component limits.x n d.x) (by_component limits.y n d.y) (by_component limits.z n d.z) v (x.1 keep.x) (y.1 keep.y) (z.1 keep.z),
    )

arc_keeps : (limits : AxisRates) (step : ℤ) (a : ArcShape) (n v : ℕ) → v ≤ MILLION → (v ≤ component_rate limits step (Arc a) n) ↔ ArcKeeps limits step a n v
arc_keeps limits step a n v small =
    let rise = third_steps a.plane (steps_along step a) in
    let plane = within_axes limits (plane_axes a.plane) v small in
    let third = component (third_rate a.plane limits) n rise v small in (
      λ less. (
          let each = two_of (least_rate limits (plane_axes a.plane)) (by_component (third_rate a.plane limits) n rise) v less in
          record { plane = plane.0 each.0; third = third.0 each.1 }),
      λ keeps. below_both (least_rate limits (plane_axes a.plane)) (by_component (third_rate a.plane limits) n rise) v (plane.1 keeps.plane) (third.1 keeps.third),
    )

within_components : (limits : AxisRates) (step : ℤ) (w : Way) (n v : ℕ) → v ≤ MILLION → (v ≤ component_rate limits step w n) ↔ IsWithinComponents limits step w n v
within_components limits step (Line b e) n v small = components limits n (steps_between (grid step b) (grid step e)) v small
within_components limits step (Arc a) n v small = arc_keeps limits step a n v small

-- a rate that each axis allows as a whole
low_keeps : (limit n d v : ℕ) → v ≤ limit → AxisKeeps limit n d v
low_keeps limit n d v low = mul-le v d limit (max n d) low (omega arith)

record AreLow (limits : AxisRates) (v : ℕ) : Type 0 where
  x : v ≤ limits.x
  y : v ≤ limits.y
  z : v ≤ limits.z

one_low : (limits : AxisRates) → AreRates limits → AreLow limits 1
one_low limits ranges = record { x = ranges.x.least; y = ranges.y.least; z = ranges.z.least }

lows_keep : (limits : AxisRates) (n : ℕ) (d : AxisSteps) (v : ℕ) → AreLow limits v → AxesKeep limits n d v
lows_keep limits n d v low =
    record { x = low_keeps limits.x n d.x v low.x; y = low_keeps limits.y n d.y v low.y; z = low_keeps limits.z n d.z v low.z }

lows_within : (limits : AxisRates) (axes : Axes) (v : ℕ) → AreLow limits v → IsWithinAxes limits axes v
lows_within limits axes v low = record { x = λ t. low.x; y = λ t. low.y; z = λ t. low.z }

third_some : (plane : Plane) (rates : AxisRates) → AreRates rates → 1 ≤ third_rate plane rates
third_some XY rates ranges = ranges.z.least
third_some ZX rates ranges = ranges.y.least
third_some YZ rates ranges = ranges.x.least

one_component : (limits : AxisRates) (step : ℤ) (w : Way) (n : ℕ) → AreRates limits → IsWithinComponents limits step w n 1
one_component limits step (Line b e) n ranges = lows_keep limits n (steps_between (grid step b) (grid step e)) 1 (one_low limits ranges)
one_component limits step (Arc a) n ranges = record {
  plane = lows_within limits (plane_axes a.plane) 1 (one_low limits ranges);
  third = low_keeps (third_rate a.plane limits) n (third_steps a.plane (steps_along step a)) 1 (third_some a.plane limits ranges);
}

-- ---- the rates of a motion

moves_along : (own : Option AxisLimits) (rates : AxisRates) (step : ℤ) (w : Way) (n v : ℕ) → v ≤ MILLION →
    (v ≤ rate_along own rates step w n) ↔ MayMoveAlong own rates step w n v
moves_along None rates step w n v small = within_axes rates (axes_of step w) v small
moves_along (Some limits) rates step w n v small = within_components rates step w n v small

pub moves_axes : (m : MachineFile) (a : Action) (n v : ℕ) → v ≤ MILLION → (v ≤ axes_bound m a n) ↔ MayMoveAxes m a n v
moves_axes m (Move motion) n v small = moves_along m.own m.axis_rates m.step motion.way n v small
moves_axes m _ n v small = (λ h. tt, λ h. small)

one_along : (own : Option AxisLimits) (rates : AxisRates) (step : ℤ) (w : Way) (n : ℕ) → AreRates rates → MayMoveAlong own rates step w n 1
one_along None rates step w n ranges = lows_within rates (axes_of step w) 1 (one_low rates ranges)
one_along (Some limits) rates step w n ranges = one_component rates step w n ranges

may_move_axes : (m : MachineFile) (a : Action) (n : ℕ) → IsMachine m → MayMoveAxes m a n 1
may_move_axes m (Move motion) n ranges = one_along m.own m.axis_rates m.step motion.way n ranges.axis_rates
may_move_axes m _ n ranges = tt

pub axes_some : (m : MachineFile) (a : Action) (n : ℕ) → IsMachine m → 1 ≤ axes_bound m a n
axes_some m a n ranges = (moves_axes m a n 1 (omega arith)).1 (may_move_axes m a n ranges)

-- ---- the change of a motion

changes_axes : (changes : AxisRates) (step : ℤ) (w : Way) (n c : ℕ) → c ≤ MILLION → (c ≤ axes_change changes step w n) ↔ IsChangeOfAxes changes step w n c
changes_axes changes step (Line b e) n c small = components changes n (steps_between (grid step b) (grid step e)) c small
changes_axes changes step (Arc a) n c small = within_axes changes (axes_of step (Arc a)) c small

low_change : (changes : AxisRates) (step : ℤ) (w : Way) (n c : ℕ) → AreLow changes c → IsChangeOfAxes changes step w n c
low_change changes step (Line b e) n c low = lows_keep changes n (steps_between (grid step b) (grid step e)) c low
low_change changes step (Arc a) n c low = lows_within changes (axes_of step (Arc a)) c low

changes_along : (own : Option AxisLimits) (change : ℕ) (step : ℤ) (w : Way) (n c : ℕ) → change ≤ MILLION →
    (c ≤ change_along own change step w n) ↔ ((c ≤ change) × MayChangeAlong own step w n c)
changes_along None change step w n c small = (λ h. (h, tt), λ h. h.0)
changes_along (Some limits) change step w n c small = (
  λ less. (
      let each = two_of change (axes_change limits.changes step w n) c less in
      (each.0, (changes_axes limits.changes step w n c (omega (arith, each.0, small))).0 each.1)),
  λ may. below_both change (axes_change limits.changes step w n) c may.0
      ((changes_axes limits.changes step w n c (omega (arith, may.0, small))).1 may.1),
)

may_change : (m : MachineFile) (a : Action) (n c : ℕ) → IsMachine m → (c ≤ change_of m a n) ↔ MayChange m a n c
may_change m (Move motion) n c ranges =
    let both = changes_along m.own m.change m.step motion.way n c ranges.change.greatest in (
      λ less. (let may = both.0 less in record { greatest = may.0; axes = may.1 }),
      λ may. both.1 (may.greatest, may.axes),
    )
may_change m _ n c ranges = (λ h. record { greatest = h; axes = tt }, λ may. may.greatest)

-- ---- the least change

least_along : (own : Option AxisLimits) (change : ℕ) (step : ℤ) (w : Way) (n : ℕ) → MayChangeAlong own step w n (least_of_changes own change)
least_along None change step w n = tt
least_along (Some limits) change step w n = low_change limits.changes step w n _ (record { x = omega arith; y = omega arith; z = omega arith })

least_most : (own : Option AxisLimits) (change : ℕ) → least_of_changes own change ≤ change
least_most None change = omega arith
least_most (Some limits) change = omega arith

least_some : (own : Option AxisLimits) (change : ℕ) → IfSome own AreLimits → 1 ≤ change → 1 ≤ least_of_changes own change
least_some None change ranges some = some
least_some (Some limits) change ranges some = omega (arith, some, ranges.changes.x.least, ranges.changes.y.least, ranges.changes.z.least)

least_may_change : (m : MachineFile) (a : Action) (n : ℕ) → MayChange m a n (least_change m)
least_may_change m (Move motion) n = record { greatest = least_most m.own m.change; axes = least_along m.own m.change m.step motion.way n }
least_may_change m _ n = record { greatest = least_most m.own m.change; axes = tt }

pub least_changes : IsLeastChange
least_changes m a n ranges = record {
  some = least_some m.own m.change ranges.own ranges.change.least;
  least = (may_change m a n (least_change m) ranges).1 (least_may_change m a n);
}

pub change_some : (m : MachineFile) (a : Action) (n : ℕ) → IsMachine m → 1 ≤ change_of m a n
change_some m a n ranges = let least = least_changes m a n ranges in omega (arith, least.some, least.least)

-- at most the machine's change
pub change_most : (m : MachineFile) (a : Action) (n : ℕ) → IsMachine m → change_of m a n ≤ m.change
change_most m a n ranges = ((may_change m a n (change_of m a n) ranges).0 (omega arith)).greatest

pub change_small : (m : MachineFile) (a : Action) (n : ℕ) → IsMachine m → change_of m a n ≤ MILLION
change_small m a n ranges = let most = change_most m a n ranges in omega (arith, most, ranges.change.greatest)

pub greatest_change : IsGreatestChange
greatest_change m a n ranges = record { some = change_some m a n ranges; greatest = λ c. may_change m a n c ranges }

one_along_none : (own : Option AxisLimits) (change : ℕ) (step : ℤ) (w : Way) (n : ℕ) → own ≡ None → change_along own change step w n ≡ change
one_along_none None change step w n none = refl
one_along_none (Some limits) change step w n none = cc

pub one_change : IsOneChange
one_change m (Move motion) n none = one_along_none m.own m.change m.step motion.way n none
one_change m _ n none = refl
