-- Caps, bounds, joints and rates on worked motions, by evaluating the definitions.
use Rattle.std.proofs.Common.{◌≡◌, ℕ, ℤ, pos, negsuc, true, false, [], ◌∷◌, refl}
use Rattle.ngc_fixed_length.specs.Roots.{whole_root, whole_root_above}
use Rattle.ngc_fixed_length.specs.declared.modes.Plane.TheVariants.{XY, ZX, YZ}
use Rattle.ngc_fixed_length.specs.Places.{plus, zero_point}
use Rattle.ngc_fixed_length.specs.declared.modes.Turn.{Turn}
use Rattle.ngc_fixed_length.specs.declared.modes.Turn.TheVariants.{Clockwise, Counterclockwise}
use Rattle.ngc_fixed_length.specs.declared.points.Point3.{Point3}
use Rattle.ngc_arc_geometry.specs.Shape.{ArcShape}
use Rattle.ngc_machine_files.specs.Machine.{MachineFile, built_in_machine}
use Rattle.ngc_machine_files.specs.declared.machine.ArcFeed.TheVariants as arc_feeds
use Rattle.ngc_commands.specs.declared.command.Action.{Action}
use Rattle.ngc_commands.specs.declared.command.Action.TheVariants.{Move}
use Rattle.ngc_commands.specs.declared.movement.Feed.{Feed}
use Rattle.ngc_commands.specs.declared.movement.Feed.TheVariants.{PerMinute, Inverse}
use Rattle.ngc_commands.specs.declared.movement.Pace.TheVariants as paces
use Rattle.ngc_commands.specs.declared.movement.Way.{Way}
use Rattle.ngc_commands.specs.declared.movement.Way.TheVariants as ways
use Rattle.ngc_fixed_length.specs.declared.points.StepPos.{StepPos}
use Rattle.ngc_planner.specs.ArcFeed.{axis_distance, place_turn, target_on}
use Rattle.ngc_planner.specs.Caps.{cap_of}
use Rattle.ngc_planner.specs.Bounds.{turn_rate, diagonal_rate, bound_of, target_at, least_travel}
use Rattle.ngc_planner.specs.Joints.{joint_of}
use Rattle.ngc_planner.specs.Ramp.{on_legs, after_tick}
use Rattle.ngc_planner.specs.Stretches.{chosen_rate, rise, fall}
use Rattle.ngc_braking.specs.declared.leg.Leg.{Leg}
use Rattle.ngc_braking.specs.Braking.{braking_terms}

abbrev pub at : ℤ → ℤ → ℤ → Point3
at x y z = record { x = x; y = y; z = z }

abbrev traverse : Point3 → Point3 → Action
traverse start end = Move (record { way = ways.Line start end; pace = paces.Rapid; stop = false })

abbrev feed : Point3 → Feed → Action
feed end f = Move (record { way = ways.Line (at (pos 0) (pos 0) (pos 0)) end; pace = paces.Feed f; stop = false })

abbrev along : ArcShape → Feed → Action
along a f = Move (record { way = ways.Arc a; pace = paces.Feed f; stop = false })

-- about a point on the x axis, from zero
abbrev arc : ℤ → Point3 → ArcShape
arc centre end = record { plane = XY; turn = Clockwise; start = at (pos 0) (pos 0) (pos 0); end = end; centre = record { u = centre; v = pos 0 } }

-- 60 mm per minute over 10 mm
cap_long : cap_of (feed (at (pos 10000000) (pos 0) (pos 0)) (PerMinute 60000000)) 1000 built_in_machine ≡ 10000
unfolding whole_root_above
cap_long = refl

-- 3 mm and 4 mm on two axes
cap_slanted : cap_of (feed (at (pos 3000000) (pos 4000000) (pos 0)) (PerMinute 60000000)) 400 built_in_machine ≡ 8000
unfolding whole_root_above
cap_slanted = refl

-- a feed so low that the cap would be 0
cap_raised : cap_of (feed (at (pos 10000000) (pos 0) (pos 0)) (PerMinute 100)) 1000 built_in_machine ≡ 1
unfolding whole_root_above
cap_raised = refl

cap_arc : cap_of (along (arc (pos 5000000) (at (pos 10000000) (pos 0) (pos 0))) (PerMinute 60000000)) 2000 built_in_machine ≡ 7067
cap_arc = refl

cap_helix : cap_of (along (arc (pos 5000000) (at (pos 10000000) (pos 0) (pos 1000000))) (PerMinute 60000000)) 2000 built_in_machine ≡ 5770
cap_helix = refl

-- twice per minute
cap_inverse : cap_of (feed (at (pos 10000000) (pos 0) (pos 0)) (Inverse 2000000)) 1000 built_in_machine ≡ 3333
unfolding whole_root_above
cap_inverse = refl

-- a full circle with a radius of 1 mm
turn_small : turn_rate built_in_machine (ways.Arc (arc (pos 1000000) (at (pos 0) (pos 0) (pos 0)))) ≡ 316227
unfolding whole_root
turn_small = refl

-- a feed motion has at most twice its cap, also after a traverse
bound_feed : bound_of built_in_machine (feed (at (pos 10000000) (pos 0) (pos 0)) (PerMinute 60000000)) 1000 ≡ 20000
unfolding whole_root_above
bound_feed = refl

target_feed : target_at built_in_machine (feed (at (pos 10000000) (pos 0) (pos 0)) (PerMinute 60000000)) 1000 50 ≡ 5000
unfolding whole_root_above
target_feed = refl

-- no override raises a traverse above the greatest rate
target_traverse : target_at built_in_machine (traverse (at (pos 0) (pos 0) (pos 0)) (at (pos 1000000) (pos 0) (pos 0))) 100 200 ≡ 400000
target_traverse = refl

target_none : target_at built_in_machine (traverse (at (pos 0) (pos 0) (pos 0)) (at (pos 1000000) (pos 0) (pos 0))) 100 0 ≡ 0
target_none = refl

least_traverse : least_travel built_in_machine (traverse (at (pos 0) (pos 0) (pos 0)) (at (pos 1000000) (pos 0) (pos 0))) 100 ≡ 1000
least_traverse = refl

joint_corner : joint_of built_in_machine (traverse (at (pos 0) (pos 0) (pos 0)) (at (pos 1000000) (pos 0) (pos 0)))
    (traverse (at (pos 1000000) (pos 0) (pos 0)) (at (pos 1000000) (pos 1000000) (pos 0))) ≡ 50000
joint_corner = refl

joint_back : joint_of built_in_machine (traverse (at (pos 0) (pos 0) (pos 0)) (at (pos 1000000) (pos 0) (pos 0)))
    (traverse (at (pos 1000000) (pos 0) (pos 0)) (at (pos 0) (pos 0) (pos 0))) ≡ 50000
joint_back = refl

joint_straight : joint_of built_in_machine (traverse (at (pos 0) (pos 0) (pos 0)) (at (pos 1000000) (pos 0) (pos 0)))
    (traverse (at (pos 1000000) (pos 0) (pos 0)) (at (pos 3000000) (pos 0) (pos 0))) ≡ 1000000
joint_straight = refl

-- ---- joints by headings

-- the built-in machine, with a corner of 5,000 and a jump
abbrev pub jumping : ℕ → MachineFile
jumping jump = record {
  step = pos 10000;
  motor_steps = built_in_machine.motor_steps;
  ticks_per_second = 10000;
  max_rate = 400000;
  axis_rates = record { x = 1000000; y = 1000000; z = 1000000 };
  change = 1000;
  corner = 5000;
  jump = jump;
  turn = 1000000000;
  own = built_in_machine.own;
  ring = 16;
  arc_feed = built_in_machine.arc_feed;
  changer = false;
  low = record { x = pos 0; y = pos 0; z = negsuc 99999999 };
  high = record { x = pos 300000000; y = pos 300000000; z = pos 0 };
  start = zero_point;
  home28 = zero_point;
  home30 = zero_point;
  origins = [];
  fixtures = [];
  margins = built_in_machine.margins;
  rapids = built_in_machine.rapids;
  dialect = built_in_machine.dialect;
  stock = built_in_machine.stock;
}

-- from zero along a vector, and on along another one
abbrev lines : Point3 → Point3 → Way × Way
lines p q = (ways.Line (at (pos 0) (pos 0) (pos 0)) p, ways.Line p (plus p q))

abbrev joint_along : ℕ → Way × Way → ℕ
joint_along jump two = joint_of (jumping jump) (Move (record { way = two.0; pace = paces.Rapid; stop = false }))
    (Move (record { way = two.1; pace = paces.Rapid; stop = false }))

-- a right angle is passed at the jump, a reversal at half of it, and no joint is below the corner
joint_right : joint_along 20000 (lines (at (pos 1000000) (pos 0) (pos 0)) (at (pos 0) (pos 3000000) (pos 0))) ≡ 20000
joint_right = refl

joint_reversed : joint_along 20000 (lines (at (pos 1000000) (pos 0) (pos 0)) (at (negsuc 2999999) (pos 0) (pos 0))) ≡ 10000
joint_reversed = refl

joint_low : joint_along 8000 (lines (at (pos 1000000) (pos 0) (pos 0)) (at (negsuc 2999999) (pos 0) (pos 0))) ≡ 5000
joint_low = refl

-- one degree
joint_degree : joint_along 10000 (lines (at (pos 1000000) (pos 0) (pos 0)) (at (pos 1000000) (pos 17455) (pos 0))) ≡ 572901
joint_degree = refl

-- 45 degrees in space, and half a degree, which allows every rate
joint_slanted : joint_along 20000 (lines (at (pos 1000000) (pos 0) (pos 0)) (at (pos 2000000) (pos 0) (negsuc 1999999))) ≡ 20000
joint_slanted = refl

joint_slight : joint_along 20000 (lines (at (pos 1000000) (pos 0) (pos 0)) (at (pos 1000000) (pos 8727) (pos 0))) ≡ 1000000
joint_slight = refl

-- lines that continue straight, with lengths that share no factor
joint_onward : joint_along 1 (lines (at (pos 3000001) (pos 6000002) (negsuc 9000002)) (at (pos 7) (pos 14) (negsuc 20))) ≡ 1000000
joint_onward = refl

-- from zero about a point on the y axis, as a line along the x axis meets it, and another level arc
abbrev pub bow : Turn → ℤ → ArcShape
bow turn centre = record { plane = XY; turn = turn; start = at (pos 0) (pos 0) (pos 0); end = at (pos 5000000) centre (pos 0); centre = record { u = pos 0; v = centre } }

abbrev pub from_left : Way
from_left = ways.Line (at (negsuc 9999999) (pos 0) (pos 0)) (at (pos 0) (pos 0) (pos 0))

-- a line that enters an arc along its tangent, and one from which the arc turns back
joint_tangent : joint_along 1 (from_left, ways.Arc (bow Clockwise (negsuc 4999999))) ≡ 1000000
joint_tangent = refl

joint_tangent_other : joint_along 1 (from_left, ways.Arc (bow Counterclockwise (pos 5000000))) ≡ 1000000
joint_tangent_other = refl

joint_cusp : joint_along 20000 (from_left, ways.Arc (bow Counterclockwise (negsuc 4999999))) ≡ 10000
joint_cusp = refl

-- the quarter of a circle ends along the y axis
joint_left : joint_along 1 (ways.Arc (bow Counterclockwise (pos 5000000)), ways.Line (at (pos 5000000) (pos 5000000) (pos 0)) (at (pos 5000000) (pos 9000000) (pos 0))) ≡ 1000000
joint_left = refl

joint_left_aside : joint_along 20000 (ways.Arc (bow Counterclockwise (pos 5000000)), ways.Line (at (pos 5000000) (pos 5000000) (pos 0)) (at (pos 9000000) (pos 5000000) (pos 0))) ≡ 20000
joint_left_aside = refl

-- in the plane of z and x counterclockwise is from z to x: from the x axis it leads against z; in
-- that of y and z from z against y
joint_zx : joint_along 1 (
  ways.Line (at (pos 5000000) (pos 0) (pos 9)) (at (pos 5000000) (pos 0) (pos 0)),
  ways.Arc (record { plane = ZX; turn = Counterclockwise; start = at (pos 5000000) (pos 0) (pos 0); end = at (pos 0) (pos 0) (negsuc 4999999); centre = record { u = pos 0; v = pos 0 } }),
) ≡ 1000000
joint_zx = refl

joint_yz : joint_along 1 (
  ways.Line (at (pos 0) (pos 9) (pos 5000000)) (at (pos 0) (pos 0) (pos 5000000)),
  ways.Arc (record { plane = YZ; turn = Counterclockwise; start = at (pos 0) (pos 0) (pos 5000000); end = at (pos 0) (negsuc 4999999) (pos 0); centre = record { u = pos 0; v = pos 0 } }),
) ≡ 1000000
joint_yz = refl

-- and one that ends at another height
abbrev helix : ArcShape
helix = record { plane = XY; turn = Clockwise; start = at (pos 0) (pos 0) (pos 0); end = at (pos 5000000) (negsuc 4999999) (pos 1); centre = record { u = pos 0; v = negsuc 4999999 } }

-- a helix has no heading, nor has a motion of no length
joint_helix : joint_along 20000 (from_left, ways.Arc helix) ≡ 5000
joint_helix = refl

joint_after_helix : joint_along 20000 (ways.Arc helix, ways.Line (at (pos 5000000) (negsuc 4999999) (pos 1)) (at (pos 5000000) (negsuc 5999999) (pos 1))) ≡ 5000
joint_after_helix = refl

joint_still : joint_along 20000 (lines (at (pos 0) (pos 0) (pos 0)) (at (pos 1000000) (pos 0) (pos 0))) ≡ 5000
joint_still = refl

-- without a jump only the corner counts, also along a tangent and at the slightest turn
joint_plain_tangent : joint_along 0 (from_left, ways.Arc (bow Clockwise (negsuc 4999999))) ≡ 5000
joint_plain_tangent = refl

joint_plain_slight : joint_along 0 (lines (at (pos 100000000) (pos 0) (pos 0)) (at (pos 100000000) (pos 1) (pos 0))) ≡ 5000
joint_plain_slight = refl

joint_plain_onward : joint_along 0 (lines (at (pos 3000001) (pos 6000002) (negsuc 9000002)) (at (pos 7) (pos 14) (negsuc 20))) ≡ 1000000
joint_plain_onward = refl

-- ---- arcs at their feed

-- the built-in machine with arcs at their feed
abbrev at_feed : MachineFile
at_feed = record built_in_machine { arc_feed = arc_feeds.Feed }

-- a circle of radius 5 mm about zero
abbrev round : ArcShape
round =
    record { plane = XY; turn = Counterclockwise; start = at (pos 5000000) (pos 0) (pos 0); end = at (pos 5000000) (pos 0) (pos 0); centre = record { u = pos 0; v = pos 0 } }

abbrev step_at : ℤ → ℤ → ℤ → StepPos
step_at x y z = record { x = x; y = y; z = z }

-- 600 mm per minute are 100,000 path steps of 0.01 mm in a million ticks along an axis; where the
-- circle crosses the x axis it is this less one of its 500 steps
place_on_axis : target_on at_feed (along round (PerMinute 600000000)) 2828 100 (step_at (pos 500) (pos 0) (pos 0)) ≡ 99800
unfolding whole_root whole_root_above
place_on_axis = refl

-- at 30 degrees it is 432 of 500
place_at_thirty : target_on at_feed (along round (PerMinute 600000000)) 2828 100 (step_at (negsuc 432) (pos 250) (pos 0)) ≡ 86400
unfolding whole_root whole_root_above
place_at_thirty = refl

-- at 45 degrees 353 of 500, which is 70,600, and the cap without a place is 100,000 / 1.415
place_diagonal : target_on at_feed (along round (PerMinute 600000000)) 2828 100 (step_at (pos 354) (negsuc 353) (pos 0)) ≡ 70671
unfolding whole_root whole_root_above
place_diagonal = refl

place_without : target_on built_in_machine (along round (PerMinute 600000000)) 2828 100 (step_at (pos 500) (pos 0) (pos 0)) ≡ 70671
unfolding whole_root whole_root_above
place_without = refl

-- half of it
place_overridden : target_on at_feed (along round (PerMinute 600000000)) 2828 50 (step_at (pos 500) (pos 0) (pos 0)) ≡ 49900
unfolding whole_root whole_root_above
place_overridden = refl

-- no place is farther out than the radius
place_outside : target_on at_feed (along round (PerMinute 600000000)) 2828 100 (step_at (pos 600) (pos 0) (pos 0)) ≡ 100000
unfolding whole_root whole_root_above
place_outside = refl

-- twice per minute over 2,828 path steps
place_inverse : target_on at_feed (along round (Inverse 2000000)) 2828 100 (step_at (pos 500) (pos 0) (pos 0)) ≡ 9426
unfolding whole_root whole_root_above
place_inverse = refl

-- a helix about zero with a radius of 5 mm
abbrev screw : ℕ → ArcShape
screw rise = record round { end = at (pos 5000000) (pos 0) (pos rise) }

-- 2,828 path steps of 0.01 mm are 28.28 mm. The height of 21.21 mm is three quarters of that, and
-- the long side is five quarters: 35.35 mm. So four fifths of the feed remain for the plane: of
-- 99,800
helix_on_axis : target_on at_feed (along (screw 21210000) (PerMinute 600000000)) 2828 100 (step_at (pos 500) (pos 0) (pos 0)) ≡ 79840
unfolding whole_root whole_root_above
helix_on_axis = refl

-- of 86,400, at any height
helix_at_thirty : target_on at_feed (along (screw 21210000) (PerMinute 600000000)) 2828 100 (step_at (negsuc 432) (pos 250) (pos 1000)) ≡ 69120
unfolding whole_root whole_root_above
helix_at_thirty = refl

-- of 70,600 they are 56,480, and the cap without a place is 100,000 / 1.733
helix_diagonal : target_on at_feed (along (screw 21210000) (PerMinute 600000000)) 2828 100 (step_at (pos 354) (negsuc 353) (pos 0)) ≡ 57703
unfolding whole_root whole_root_above
helix_diagonal = refl

helix_without : target_on built_in_machine (along (screw 21210000) (PerMinute 600000000)) 2828 100 (step_at (pos 500) (pos 0) (pos 0)) ≡ 57703
unfolding whole_root whole_root_above
helix_without = refl

-- half of it
helix_overridden : target_on at_feed (along (screw 21210000) (PerMinute 600000000)) 2828 50 (step_at (pos 500) (pos 0) (pos 0)) ≡ 39920
unfolding whole_root whole_root_above
helix_overridden = refl

-- a helix that rises by 1 mm per turn takes 1 in 1,600 of the feed for its height: the long side is
-- 28.2977 mm, and 99,800 * 28.28 / 28.2977 is 99,737.6
helix_slight : target_on at_feed (along (screw 1000000) (PerMinute 600000000)) 2828 100 (step_at (pos 500) (pos 0) (pos 0)) ≡ 99737
unfolding whole_root whole_root_above
helix_slight = refl

-- twice per minute over 2,828 path steps
helix_inverse : target_on at_feed (along (screw 21210000) (Inverse 2000000)) 2828 100 (step_at (pos 500) (pos 0) (pos 0)) ≡ 9426
unfolding whole_root whole_root_above
helix_inverse = refl

-- two of the coordinates are in the plane
out_zx : axis_distance (pos 10000) (record round { plane = ZX }) (step_at (pos 300) (pos 700) (negsuc 399)) ≡ 4000000
out_zx = refl

out_yz : axis_distance (pos 10000) (record round { plane = YZ; centre = record { u = pos 1000000; v = pos 0 } }) (step_at (pos 700) (negsuc 299) (pos 200)) ≡ 4000000
out_yz = refl

-- ---- arcs at their turn

-- the built-in machine with a turn that allows 100,000 on the circle: its square times a step of
-- 0.01 mm is 20,000,000 times the radius of 5 mm
abbrev at_turn : MachineFile
at_turn = record built_in_machine { turn = 20000000; arc_feed = arc_feeds.FeedAndTurn }

-- 1,200 mm per minute are 200,000 along an axis, more than the turn allows. Where the circle crosses
-- the x axis the target is 499 of 500 steps of what the turn allows
turn_on_axis : target_on at_turn (along round (PerMinute 1200000000)) 2828 100 (step_at (pos 500) (pos 0) (pos 0)) ≡ 99800
unfolding whole_root whole_root_above
turn_on_axis = refl

turn_at_thirty : target_on at_turn (along round (PerMinute 1200000000)) 2828 100 (step_at (negsuc 432) (pos 250) (pos 0)) ≡ 86400
unfolding whole_root whole_root_above
turn_at_thirty = refl

-- 353 of 500 steps are 70,600, and without a place it is 100,000 / 1.415
turn_diagonal : target_on at_turn (along round (PerMinute 1200000000)) 2828 100 (step_at (pos 354) (negsuc 353) (pos 0)) ≡ 70671
unfolding whole_root whole_root_above
turn_diagonal = refl

turn_without : target_at at_turn (along round (PerMinute 1200000000)) 2828 100 ≡ 70671
unfolding whole_root
turn_without = refl

-- no bound of a tick depends on the place
turn_bound_stays : bound_of at_turn (along round (PerMinute 1200000000)) 2828 ≡ 100000
unfolding whole_root
turn_bound_stays = refl

-- a hundred times per minute over 2,828 path steps are 471,333
turn_inverse : target_on at_turn (along round (Inverse 100000000)) 2828 100 (step_at (pos 500) (pos 0) (pos 0)) ≡ 99800
unfolding whole_root whole_root_above
turn_inverse = refl

-- a feed that needs less than the turn allows
turn_not_needed : target_on at_turn (along round (PerMinute 600000000)) 2828 50 (step_at (pos 500) (pos 0) (pos 0)) ≡ 49900
unfolding whole_root whole_root_above
turn_not_needed = refl

-- with arcs at their feed alone, the turn allows 100,000 at each place
turn_everywhere : target_on (record at_turn { arc_feed = arc_feeds.Feed }) (along round (PerMinute 1200000000)) 2828 100 (step_at (pos 354) (negsuc 353) (pos 0)) ≡ 100000
unfolding whole_root whole_root_above
turn_everywhere = refl

-- a radius of 2.5 mm and steps of 0.0025 mm
turn_of_a_small_circle : place_turn 223606 2500 2500000 2500000 ≡ 223382
turn_of_a_small_circle = refl

turn_off_its_axes : place_turn 223606 2500 2500000 1770000 ≡ 158089
turn_off_its_axes = refl

turn_of_its_diagonal : diagonal_rate 223606 ≡ 158025
turn_of_its_diagonal = refl

least_turn : diagonal_rate 1 ≡ 1
least_turn = refl

-- ---- rates on a ramp

-- a leg of this change and length
abbrev leg : ℕ → ℕ → Leg
leg change millionths = record { millionths = millionths; change = change; bound = 1000000; entry = 1000000; exit = 1000000; joined = true }

-- the rate that follows 7 with the wish 10, if the last tick began on a leg with the change `last`,
-- and this much remains of the head, after which nothing is known
abbrev chosen : ℕ → ℕ → ℕ → ℕ
chosen last change rest = chosen_rate (on_legs last 7 rest (leg change 1000000) [] 16) 10 (leg change 1000000) []

-- with one change: 10 + 7 + 4 + 1 is less than 23, but not than 22
up : chosen 3 3 23 ≡ 10
unfolding braking_terms
up = refl

down : chosen 3 3 22 ≡ 4
unfolding braking_terms
down = refl

-- after a leg with a greater change: 8 + 7 + .. + 1 is less than 37. The rate rises by the change of
-- the head, and falls by the greater one.
up_by_less : chosen 3 1 37 ≡ 8
unfolding braking_terms
up_by_less = refl

down_by_more : chosen 3 1 36 ≡ 4
unfolding braking_terms
down_by_more = refl

-- after a leg with a lesser change: both are by the change of the head
up_by_more : chosen 1 3 23 ≡ 10
unfolding braking_terms
up_by_more = refl

down_by_the_head : chosen 1 3 22 ≡ 4
unfolding braking_terms
down_by_the_head = refl

-- the change of a tick is that of the leg on which it begins, also if it ends on the next one
stays : after_tick (on_legs 3 7 9 (leg 1 20) (leg 5 30 ∷ []) 16) (leg 1 20) (leg 5 30 ∷ []) 8 ≡ on_legs 1 8 1 (leg 1 20) (leg 5 30 ∷ []) 16
stays = refl

passes_over : after_tick (on_legs 3 7 5 (leg 1 20) (leg 5 30 ∷ []) 16) (leg 1 20) (leg 5 30 ∷ []) 8 ≡ on_legs 1 8 27 (leg 5 30) [] 16
passes_over = refl

-- three ticks after one at 7: 9 + 11 + 13, and 5 + 3 + 1
three_up : rise 3 7 2 ≡ 33
three_up = refl

three_down : fall 3 7 2 ≡ 9
three_down = refl
