-- Arcs at their feed and their turn: a target that depends on the place. Our own; the meaning of F
-- is that of NISTIR 6556, 2.1.2.5.
use Rattle.std.specs.Prelude.{◌≡◌, ℕ, ◌+◌, ◌-◌, ◌*◌, ◌/◌, ◌≤◌, min, max, ℤ, unsigned_abs, Bool, true}
use Rattle.std.specs.Prelude.{false, ◌&&◌, ◌||◌, if◌then◌else◌}
use Rattle.ngc_fixed_length.specs.Grid.{distance}
use Rattle.ngc_fixed_length.specs.Limits.{MILLION}
use Rattle.ngc_fixed_length.specs.Places.{height}
use Rattle.ngc_fixed_length.specs.Roots.{whole_root_above}
use Rattle.ngc_fixed_length.specs.declared.points.StepPos.{StepPos}
use Rattle.ngc_arc_geometry.specs.GridPlaces.{seen}
use Rattle.ngc_arc_geometry.specs.Radii.{IsArc, outer_radius}
use Rattle.ngc_arc_geometry.specs.Shape.{ArcShape}
use Rattle.ngc_machine_files.specs.Machine.{MachineFile}
use Rattle.ngc_machine_files.specs.MachineRanges.{IsMachine}
use Rattle.ngc_machine_files.specs.declared.machine.ArcFeed.{ArcFeed}
use Rattle.ngc_machine_files.specs.declared.machine.ArcFeed.TheVariants as arc_feeds
use Rattle.ngc_commands.specs.declared.command.Action.{Action}
use Rattle.ngc_commands.specs.declared.command.Action.TheVariants.{Move}
use Rattle.ngc_commands.specs.declared.movement.Feed.{Feed}
use Rattle.ngc_commands.specs.declared.movement.Feed.TheVariants.{PerMinute, Inverse}
use Rattle.ngc_commands.specs.declared.movement.Motion.{Motion}
use Rattle.ngc_commands.specs.declared.movement.Pace.{Pace}
use Rattle.ngc_commands.specs.declared.movement.Pace.TheVariants as paces
use Rattle.ngc_commands.specs.declared.movement.Way.{Way}
use Rattle.ngc_commands.specs.declared.movement.Way.TheVariants.{Line, Arc}
use Rattle.ngc_planner.specs.Bounds.{turn_rate, is_turn_by_place, diagonal_rate}
use Rattle.ngc_planner.specs.Bounds.{aimed_at, target_at}
use Rattle.ngc_planner.specs.Caps.{STEPS_LIMIT, square, cap_of}
use Rattle.ngc_planner.specs.Headings.{is_level}
use Rattle.ngc_planner.specs.Turns.{arc_turn}

-- the distance of a grid point from an arc's centre, along the axis of the plane on which it is
-- greater
abbrev pub axis_distance : ℤ → ArcShape → StepPos → ℕ
axis_distance step a p =
    max (distance a.centre.u (seen step a p).u) (distance a.centre.v (seen step a p).v)

-- The cap at a place m nanometres from the centre, at f nanometres per minute. At a point of a
-- circle that is m from the centre along one axis, the tool moves m nanometres along the other axis
-- for each `radius` of the circle, and each step along that axis is a path step. A grid point may
-- be a step farther out than the arc, so one step is subtracted. No place counts as farther out
-- than the radius.
abbrev pub place_cap : ℕ → ℕ → ℕ → ℕ → ℕ → ℕ
place_cap hz step radius m f = f * MILLION * min (m - step) radius / (60 * hz * step * radius)

-- the difference in height of an arc's ends, in nanometres
abbrev pub rise : ArcShape → ℕ
rise a = distance (height a.plane a.start) (height a.plane a.end)

-- the length of a line with this length in the plane and this rise, rounded up
abbrev pub sloped_length : ℕ → ℕ → ℕ
sloped_length flat rise = whole_root_above (square flat + square rise)

-- The length of a line that goes one step along an axis for each of the n path steps of a helix,
-- and has its height; 0 for any other motion
abbrev pub length_along : ℤ → Way → ℕ → ℕ
length_along step (Line b e) n = 0
length_along step (Arc a) n =
    if is_level a then 0 else sloped_length (n * unsigned_abs step) (rise a)

abbrev pub helix_length : ℤ → Action → ℕ → ℕ
helix_length step (Move motion) n = length_along step motion.way n
helix_length step _ n = 0

-- The cap on a helix. Its height is distributed evenly over its path steps, and no path step is
-- shorter in the plane than a step. So the remaining share of the feed for the plane is at least
-- that of a line that goes all path steps along an axis and has the same height.
abbrev pub sloped_cap : ℕ → ℕ → ℕ → ℕ
sloped_cap flat length cap = cap * flat / length

-- the cap at a place of an arc of n path steps, at a feed per minute; otherwise there is none
abbrev pub feed_cap_at : MachineFile → ArcShape → ℕ → Feed → StepPos → ℕ
feed_cap_at m a n (PerMinute f) p =
    let cap = place_cap m.ticks_per_second (unsigned_abs m.step) (outer_radius a)
    (axis_distance m.step a p) f in
    if is_level a then cap
    else sloped_cap (n * unsigned_abs m.step) (length_along m.step (Arc a) n) cap
feed_cap_at m a n (Inverse f) p = 0

abbrev pub arc_cap_at : MachineFile → ArcShape → ℕ → Pace → StepPos → ℕ
arc_cap_at m a n paces.Rapid p = 0
arc_cap_at m a n (paces.Feed f) p = feed_cap_at m a n f p

abbrev pub way_cap_at : MachineFile → Way → ℕ → Pace → StepPos → ℕ
way_cap_at m (Line b e) n pace p = 0
way_cap_at m (Arc a) n pace p = arc_cap_at m a n pace p

abbrev pub is_feed_by_place : ArcFeed → Bool
is_feed_by_place arc_feeds.Off = false
is_feed_by_place arc_feeds.Feed = true
is_feed_by_place arc_feeds.FeedAndTurn = true

-- if the machine runs arcs at their feed
abbrev pub cap_at : MachineFile → Action → ℕ → StepPos → ℕ
cap_at m (Move motion) n p =
    if is_feed_by_place m.arc_feed then way_cap_at m motion.way n motion.pace p else 0
cap_at m _ n p = 0

-- Of the greatest rate on an arc, what its turn allows at a place m nanometres from the centre.
-- A path step is as long there as for the cap.
abbrev pub place_turn : ℕ → ℕ → ℕ → ℕ → ℕ
place_turn rate step radius m = rate * min (m - step) radius / radius

-- the radius of an arc for its turn
abbrev pub turn_radius : MachineFile → ArcShape → ℕ
turn_radius m a = max (outer_radius a) (unsigned_abs m.step)

-- the greatest target that the turn allows at a place of an arc: no place has less than the arc
-- where it runs diagonally
abbrev pub arc_turn_at : MachineFile → ArcShape → StepPos → ℕ
arc_turn_at m a p =
    let rate = turn_rate m (Arc a) in
    max (diagonal_rate rate)
    (place_turn rate (unsigned_abs m.step) (turn_radius m a) (axis_distance m.step a p))

abbrev pub way_turn_at : MachineFile → Way → StepPos → ℕ
way_turn_at m (Line b e) p = MILLION
way_turn_at m (Arc a) p =
    if is_turn_by_place m.arc_feed then arc_turn_at m a p else turn_rate m (Arc a)

abbrev pub turn_at : MachineFile → Action → StepPos → ℕ
turn_at m (Move motion) p = way_turn_at m motion.way p
turn_at m _ p = MILLION

-- the target rate of a tick of a motion of n path steps at a place: from the greater of its two
-- caps, so that no place has less than `target_at`
abbrev pub target_on : MachineFile → Action → ℕ → ℕ → StepPos → ℕ
target_on machine action n percent p =
    aimed_at machine action n (max (cap_of action n machine) (cap_at machine action n p))
    (turn_at machine action p) percent

-- ---- whether it depends on the place

abbrev pub is_minute_feed : Feed → Bool
is_minute_feed (PerMinute f) = true
is_minute_feed (Inverse f) = false

abbrev pub has_minute_feed : Pace → Bool
has_minute_feed paces.Rapid = false
has_minute_feed (paces.Feed f) = is_minute_feed f

abbrev pub is_arc : Way → Bool
is_arc (Line b e) = false
is_arc (Arc a) = true

-- the feed of an arc in units per minute, or the turn of any arc
abbrev pub is_by_place : MachineFile → Action → Bool
is_by_place m (Move motion) =
    is_arc motion.way
    && (is_turn_by_place m.arc_feed
    || (is_feed_by_place m.arc_feed && has_minute_feed motion.pace))
is_by_place m _ = false

-- ---- properties of every place

-- a rate up to the cap covers no more of the arc than f nanometres per minute, and no more path
-- steps than a line along an axis at that feed
pub record KeepsArcFeed (hz step radius m f v : ℕ) : Type 0 where
  pub along_arc : v * (60 * hz * step * radius) ≤ f * MILLION * (m - step)
  pub along_axis : v * (60 * hz * step * radius) ≤ f * MILLION * radius

abbrev pub PlacesKeepFeed : Type 0
PlacesKeepFeed =
    (hz step radius m f v : ℕ) → v ≤ place_cap hz step radius m f →
    KeepsArcFeed hz step radius m f v

-- The same for each arc with its height. At m nanometres from the centre a path step is at most
-- step * radius / m long in the plane, and it rises by an nth of the height; a line of n path steps
-- along an axis has the same rise. The square of the distance that a rate covers per minute follows
-- from the squares of these lengths.
pub record KeepsSlopedFeed (hz step radius n rise m f v : ℕ) : Type 0 where
  pub along_arc :
      square (v * (60 * hz)) * (square (n * step * radius) + square (rise * (m - step)))
      ≤ square (f * MILLION * n * (m - step))
  pub along_line :
      square (v * (60 * hz)) * (square (n * step) + square rise) ≤ square (f * MILLION * n)

abbrev pub ArcsKeepFeed : Type 0
ArcsKeepFeed =
    (machine : MachineFile) (a : ArcShape) (n f v : ℕ) (p : StepPos) →
    IsMachine machine → IsArc a → n ≤ STEPS_LIMIT →
    v ≤ feed_cap_at machine a n (PerMinute f) p →
    KeepsSlopedFeed machine.ticks_per_second (unsigned_abs machine.step) (outer_radius a) n
    (rise a) (axis_distance machine.step a p) f v

-- The turn at a rate v, m nanometres from the centre. At a point of the circle that is m from the
-- centre along one axis, path steps are step * radius / m nanometres long. So the square of
-- v * step * radius / m, over the radius, is at most turn * step. One step is subtracted from m, as
-- for the feed, but no m counts as less than where the circle runs diagonally: there the square of
-- m is half of that of the radius, and on the circle m is never less.
pub record KeepsTurn (turn step radius m v : ℕ) : Type 0 where
  pub at_place :
      2 * (v * v * step * radius) ≤ turn * max (2 * square (m - step)) (square radius)
  pub on_circle : square radius ≤ 2 * square m → v * v * step * radius ≤ turn * square m

-- a target above 1 on an arc, if the machine's turn holds at each place
abbrev pub ArcsKeepTurn : Type 0
ArcsKeepTurn =
    (machine : MachineFile) (motion : Motion) (a : ArcShape) (n percent : ℕ) (p : StepPos)
    (v : ℕ) → IsMachine machine → IsArc a → motion.way ≡ Arc a →
    machine.arc_feed ≡ arc_feeds.FeedAndTurn → 2 ≤ v →
    v ≤ target_on machine (Move motion) n percent p →
    KeepsTurn (arc_turn machine a) (unsigned_abs machine.step) (turn_radius machine a)
    (axis_distance machine.step a p) v

-- the target at a place is at least the target without a place
abbrev pub IsNoLessByPlace : Type 0
IsNoLessByPlace =
    (machine : MachineFile) (action : Action) (n percent : ℕ) (p : StepPos) →
    target_at machine action n percent ≤ target_on machine action n percent p

-- and it is the same, unless the machine and the motion are of that kind
abbrev pub IsSameElsewhere : Type 0
IsSameElsewhere =
    (machine : MachineFile) (action : Action) (n percent : ℕ) (p : StepPos) →
    is_by_place machine action ≡ false →
    target_on machine action n percent p ≡ target_at machine action n percent
