-- Feed caps, in millionths of a path step per tick; no rate is above a MILLION. Our own; the
-- meaning of F is that of NISTIR 6556, 2.1.2.5 and 3.5.19.
use Rattle.std.specs.Prelude.{ℕ, ◌+◌, ◌*◌, ◌/◌, ◌≤◌, max, unsigned_abs, if◌then◌else◌}
use Rattle.ngc_fixed_length.specs.Grid.{distance}
use Rattle.ngc_fixed_length.specs.Limits.{MILLION}
use Rattle.ngc_fixed_length.specs.Places.{height}
use Rattle.ngc_fixed_length.specs.Roots.{whole_root_above}
use Rattle.ngc_fixed_length.specs.Signed.{same}
use Rattle.ngc_fixed_length.specs.declared.points.Point3.{Point3}
use Rattle.ngc_arc_geometry.specs.Shape.{ArcShape}
use Rattle.ngc_machine_files.specs.Machine.{MachineFile}
use Rattle.ngc_commands.specs.declared.command.Action.{Action}
use Rattle.ngc_commands.specs.declared.command.Action.TheVariants.{Move}
use Rattle.ngc_commands.specs.declared.movement.Feed.{Feed}
use Rattle.ngc_commands.specs.declared.movement.Feed.TheVariants.{PerMinute, Inverse}
use Rattle.ngc_commands.specs.declared.movement.Pace.{Pace}
use Rattle.ngc_commands.specs.declared.movement.Pace.TheVariants as paces
use Rattle.ngc_commands.specs.declared.movement.Way.{Way}
use Rattle.ngc_commands.specs.declared.movement.Way.TheVariants.{Line, Arc}

-- the greatest number of path steps of a motion
abbrev pub STEPS_LIMIT : ℕ
STEPS_LIMIT = 1000000000

abbrev pub square : ℕ → ℕ
square n = n * n

-- the length from b to e, rounded up to whole nanometres
abbrev pub length_between : Point3 → Point3 → ℕ
length_between b e = whole_root_above
    (square (distance b.x e.x) + square (distance b.y e.y) + square (distance b.z e.z))

-- thousandths of a step, a little more than a path step's length; an arc is a helix if its ends
-- differ in height
abbrev pub crosswise : ArcShape → ℕ
crosswise a = if same (height a.plane a.start) (height a.plane a.end) then 1415 else 1733

-- for n path steps in inverse time, f millionths per minute, with hz ticks per second
abbrev pub inverse_cap : ℕ → ℕ → ℕ → ℕ
inverse_cap hz n f = n * f / (60 * hz)

-- for n path steps on a line of length nanometres, f nanometres per minute
abbrev pub line_cap : ℕ → ℕ → ℕ → Feed → ℕ
line_cap hz n length (PerMinute f) = n * f * MILLION / (length * 60 * hz)
line_cap hz n length (Inverse f) = inverse_cap hz n f

-- for n path steps on an arc
abbrev pub arc_cap : ℕ → ℕ → ℕ → ℕ → Feed → ℕ
arc_cap hz n step thousandths (PerMinute f) = f * 1000000000 / (60 * hz * step * thousandths)
arc_cap hz n step thousandths (Inverse f) = inverse_cap hz n f

-- for n path steps on a path
abbrev pub feed_cap : Way → ℕ → Feed → MachineFile → ℕ
feed_cap (Line b e) n f m = line_cap m.ticks_per_second n (length_between b e) f
feed_cap (Arc a) n f m = arc_cap m.ticks_per_second n (unsigned_abs m.step) (crosswise a) f

-- the cap of a motion of n path steps, raised to 1 if it is 0
abbrev pub motion_cap : Way → Pace → ℕ → MachineFile → ℕ
motion_cap w paces.Rapid n m = m.max_rate
motion_cap w (paces.Feed f) n m = max 1 (feed_cap w n f m)

abbrev pub cap_of : Action → ℕ → MachineFile → ℕ
cap_of (Move motion) n m = motion_cap motion.way motion.pace n m
cap_of _ n m = 0

-- a rate up to the cap covers at most f nanometres per minute of a line of n path steps
abbrev pub KeepsMinuteFeed : ℕ → ℕ → ℕ → ℕ → ℕ → Type 0
KeepsMinuteFeed hz n length f cap = (v : ℕ) → v ≤ cap → v * length * 60 * hz ≤ n * f * MILLION

-- the same for a line's feed, unless its cap was raised to 1
abbrev pub KeepsLineFeed : ℕ → ℕ → ℕ → Feed → ℕ → Type 0
KeepsLineFeed hz n length (PerMinute f) cap =
    1 ≤ line_cap hz n length (PerMinute f) → KeepsMinuteFeed hz n length f cap
KeepsLineFeed hz n length (Inverse f) cap = Unit {0}

abbrev pub KeepsMotionFeed : MachineFile → Way → Pace → ℕ → ℕ → Type 0
KeepsMotionFeed m (Line b e) (paces.Feed f) n cap =
    KeepsLineFeed m.ticks_per_second n (length_between b e) f cap
KeepsMotionFeed m _ _ n cap = Unit {0}

abbrev pub KeepsFeed : MachineFile → Action → ℕ → ℕ → Type 0
KeepsFeed m (Move motion) n cap = KeepsMotionFeed m motion.way motion.pace n cap
KeepsFeed m _ n cap = Unit {0}
