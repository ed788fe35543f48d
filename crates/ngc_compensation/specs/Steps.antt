-- Cutter compensation, move by move (LinuxCNC's documentation, "Cutter Radius Compensation"): the
-- end of a move is held until the next move is known.
use Rattle.std.specs.Prelude.{ℕ, ◌==◌, ℤ, pos, ◌-ℤ◌, int_lt, int_le, Bool, true, false, not, ◌&&◌, ◌||◌}
use Rattle.std.specs.Prelude.{Option, Some, None, Result, Ok, Err, if◌then◌else◌, is_some, unwrap_or}
use Rattle.ngc_fixed_length.specs.Places.{from}
use Rattle.ngc_fixed_length.specs.Signed.{is_zero, is_negative}
use Rattle.ngc_fixed_length.specs.declared.modes.Plane.{Plane}
use Rattle.ngc_fixed_length.specs.declared.modes.Plane.TheVariants.{XY, ZX, YZ}
use Rattle.ngc_fixed_length.specs.declared.modes.Turn.{Turn}
use Rattle.ngc_fixed_length.specs.declared.points.Point2.{Point2}
use Rattle.ngc_compensation.specs.declared.corner.Joint.{Joint}
use Rattle.ngc_compensation.specs.declared.corner.Joint.TheVariants.{Straight, Outside, Inside}
use Rattle.ngc_compensation.specs.declared.join.Joined.{Joined}
use Rattle.ngc_compensation.specs.declared.normal.Normals.{Normals}
use Rattle.ngc_compensation.specs.declared.moves.Compensation.{Compensation}
use Rattle.ngc_compensation.specs.declared.moves.Held.{Held}
use Rattle.ngc_compensation.specs.declared.moves.Motion.{Motion}
use Rattle.ngc_compensation.specs.declared.moves.Motion.TheVariants.{Traverse, Feed, Arc}
use Rattle.ngc_compensation.specs.declared.moves.Move.{Move}
use Rattle.ngc_compensation.specs.declared.moves.Outcome.{Outcome}
use Rattle.ngc_compensation.specs.declared.moves.Side.{Side}
use Rattle.ngc_compensation.specs.declared.refusal.Refusal.{Refusal}
use Rattle.ngc_compensation.specs.declared.refusal.Refusal.TheVariants as why
use Rattle.ngc_compensation.specs.Refusals.{◌>>=◌, refuse_if, needed}
use Rattle.ngc_compensation.specs.Sides.{opposite, turned, norm, apart, centre_side, turn_about, is_inside}
use Rattle.ngc_compensation.specs.Offsets.{PLACE_LIMIT, TOOL_LIMIT, is_near, beside}
use Rattle.ngc_compensation.specs.Corners.{joint, is_wide}
use Rattle.ngc_compensation.specs.Meetings.{lines_meet, line_meets, circles_meet}
use Rattle.ngc_compensation.specs.Ways.{runs_on, keeps_start, keeps_end, stays_short, is_close}
use Rattle.ngc_compensation.specs.Entries.{radius_of, arc_normal, is_too_small, holding, enter}

-- ---- the directions from the path to the tool, at a move's beginning and at its end

abbrev pub line_normal : Side → Point2 → Point2 → Point2
line_normal side start end = turned side (from start end)

abbrev pub arc_normals : Compensation → Point2 → Turn → Point2 → Result Normals Refusal
arc_normals k end turn centre =
    if (apart k.place centre == 0) || is_too_small k.side (radius_of k) turn centre end
    then Err why.ArcTooSmall
    else Ok (record {
      first = arc_normal k.side turn centre k.place;
      last = arc_normal k.side turn centre end;
    })

abbrev pub line_normals : Compensation → Point2 → Normals
line_normals k end =
    record { first = line_normal k.side k.place end; last = line_normal k.side k.place end }

abbrev pub normals : Compensation → Point2 → Motion → Result Normals Refusal
normals k end Traverse = Ok (line_normals k end)
normals k end Feed = Ok (line_normals k end)
normals k end (Arc turn centre) = arc_normals k end turn centre

-- ---- the corner

-- where both paths meet at an inside corner, the held one and one that ends at a place
abbrev pub meet_line : Compensation → Held → Point2 → Motion → Option Point2
meet_line k h first Traverse = lines_meet k.place (radius_of k) h.normal first
meet_line k h first Feed = lines_meet k.place (radius_of k) h.normal first
meet_line k h first (Arc turn centre) =
    line_meets k.place (radius_of k) first centre (apart centre h.end)
    (if is_inside k.side turn then k.side else opposite k.side)

abbrev pub meet_arc : Compensation → Held → Point2 → Turn → Point2 → Motion → Option Point2
meet_arc k h end turn centre (Arc old c) =
    circles_meet c (apart c h.end) centre (apart centre end)
    (if is_inside k.side old then centre_side turn else opposite (centre_side turn))
meet_arc k h end turn centre Traverse =
    line_meets k.place (radius_of k) h.normal centre (apart centre end)
    (if is_inside k.side turn then opposite k.side else k.side)
meet_arc k h end turn centre Feed =
    line_meets k.place (radius_of k) h.normal centre (apart centre end)
    (if is_inside k.side turn then opposite k.side else k.side)

abbrev pub meet : Compensation → Held → Point2 → Point2 → Motion → Option Point2
meet k h first end Traverse = meet_line k h first h.motion
meet k h first end Feed = meet_line k h first h.motion
meet k h first end (Arc turn centre) = meet_arc k h end turn centre h.motion

-- an outside corner is gone round by an arc about its point; a traverse goes straight
abbrev pub corner_motion : Compensation → Motion → Motion
corner_motion k Traverse = Traverse
corner_motion k Feed = Arc (turn_about (opposite k.side)) k.place
corner_motion k (Arc turn centre) = Arc (turn_about (opposite k.side)) k.place

abbrev pub round_corner : Compensation → Motion → Point2 → Joined
round_corner k motion p = record {
  start = p;
  moved = None;
  corner = Some (record { motion = corner_motion k motion; end = p; height = k.height });
}

abbrev pub begun_at : Point2 → Joined
begun_at p = record { start = p; moved = Some p; corner = None }

abbrev pub joined_by : Joint → Compensation → Held → Motion → Normals → Point2 → Result Joined Refusal
joined_by Straight k h motion n end = Ok (record { start = h.end; moved = None; corner = None })
joined_by Outside k h motion n end =
    Ok (round_corner k motion (beside k.place (radius_of k) n.first))
joined_by Inside k h motion n end = do
  p ← needed why.NoIntersection (meet k h n.first end motion)
  Ok (begun_at p)

abbrev pub joined : Compensation → Held → Motion → Normals → Point2 → Result Joined Refusal
joined k h motion n end =
    joined_by (joint k.side (is_wide k.side h.motion motion) h.normal n.first) k h motion n end

-- ---- the held move

abbrev pub keeps_way : Side → Held → Option Point2 → Motion → Bool
keeps_way side h moved Traverse = runs_on side h.normal h.start (unwrap_or moved h.end)
keeps_way side h moved Feed = runs_on side h.normal h.start (unwrap_or moved h.end)
keeps_way side h None (Arc turn c) = true
keeps_way side h (Some p) (Arc turn c) = keeps_start turn (from c h.start) (from c h.end) (from c p)

-- the held move as it is made, with another end if there is one
abbrev pub settled : Side → Held → Option Point2 → Result Move Refusal
settled side h moved =
    if keeps_way side h moved h.motion
    then Ok (record { motion = h.motion; end = unwrap_or moved h.end; height = h.height })
    else Err why.Backwards

-- ---- the new move

-- the tool's end of an arc that isn't begun later: a full circle ends where it begins
abbrev pub circle_end : Point2 → Point2 → Result Point2 Refusal
circle_end start end = if is_close start end then Ok start else Err why.Backwards

abbrev pub whole_arc : Point2 → Point2 → Turn → Point2 → Point2 → Point2 → Result Point2 Refusal
whole_arc place programmed turn c start end =
    if apart place programmed == 0 then circle_end start end
    else (if stays_short turn (from c place) (from c programmed) (from c start) (from c end)
    then Ok end else Err why.Backwards)

-- that of an arc which would begin at a place, and begins later, at a corner
abbrev pub later_arc : Point2 → Turn → Point2 → Point2 → Point2 → Result Point2 Refusal
later_arc place turn c start end =
    if keeps_end turn (from c place) (from c end) (from c start) then Ok end else Err why.Backwards

abbrev pub last_place : Compensation → Move → Normals → Joined → Point2 → Motion → Result Point2 Refusal
last_place k m n j end Traverse = Ok end
last_place k m n j end Feed = Ok end
last_place k m n j end (Arc turn c) =
    if is_some j.moved then later_arc (beside k.place (radius_of k) n.first) turn c j.start end
    else whole_arc k.place m.end turn c j.start end

-- ---- a step

-- a move with these directions to the tool, which would end at a place
unfoldable pub follow_to : Compensation → Held → Move → Normals → Point2 → Result Outcome Refusal
follow_to k h m n end = do
  j ← joined k h m.motion n end
  made ← settled k.side h j.moved
  last ← last_place k m n j end m.motion
  Ok (record {
    made = Some made;
    corner = j.corner;
    next = holding k m m.motion j.start last n.last;
  })

unfoldable pub follow : Compensation → Held → Move → Result Outcome Refusal
follow k h m = do
  n ← normals k m.end m.motion
  follow_to k h m n (beside m.end (radius_of k) n.last)

-- a move along the third axis alone: nothing becomes certain
abbrev pub lifted : Compensation → Move → Outcome
lifted k m = record {
  made = None;
  corner = None;
  next = record {
    side = k.side;
    radius = k.radius;
    place = k.place;
    height = m.height;
    held = k.held;
  };
}

abbrev pub is_lift : Compensation → Point2 → Motion → Bool
is_lift k end Traverse = apart k.place end == 0
is_lift k end Feed = apart k.place end == 0
is_lift k end (Arc turn centre) = false

abbrev pub taken : Compensation → Move → Option Held → Result Outcome Refusal
taken k m None = enter k m
taken k m (Some h) = if is_lift k m.end m.motion then Ok (lifted k m) else follow k h m

-- ---- limits

abbrev pub has_near_centre : ℕ → Motion → Bool
has_near_centre limit Traverse = true
has_near_centre limit Feed = true
has_near_centre limit (Arc turn centre) = is_near limit centre

abbrev pub is_near_move : Move → Bool
is_near_move m = is_near PLACE_LIMIT m.end && has_near_centre PLACE_LIMIT m.motion

abbrev pub is_direction : Point2 → Bool
is_direction d = is_near 10000000000 d && not (norm d == 0)

abbrev pub is_near_held : Option Held → Bool
is_near_held None = true
is_near_held (Some h) =
    is_near TOOL_LIMIT h.start && is_near TOOL_LIMIT h.end
    && has_near_centre TOOL_LIMIT h.motion && is_direction h.normal

-- from 1 nm to 0.1 m
abbrev pub is_radius : ℤ → Bool
is_radius r = int_lt (pos 0) r && int_le r (pos 100000000)

abbrev pub is_near_compensation : Compensation → Bool
is_near_compensation k = is_radius k.radius && is_near PLACE_LIMIT k.place && is_near_held k.held

unfoldable pub step : Compensation → Move → Result Outcome Refusal
step k m = do
  near ← refuse_if (not (is_near_compensation k && is_near_move m)) why.TooFar
  taken k m k.held

-- ---- G40

abbrev pub finished_by : Side → Option Held → Result (Option Move) Refusal
finished_by side None = Ok None
finished_by side (Some h) = do
  made ← settled side h None
  Ok (Some made)

-- the held move ends at its own end
abbrev pub finished : Compensation → Result (Option Move) Refusal
finished k = do
  near ← refuse_if (not (is_near_compensation k)) why.TooFar
  finished_by k.side k.held

-- ---- G41, G42

abbrev pub is_yz : Plane → Bool
is_yz XY = false
is_yz ZX = false
is_yz YZ = true

-- a radius below 0 is one on the other side
abbrev pub begun : Side → ℤ → Point2 → ℤ → Compensation
begun side radius place height = record {
  side = if is_negative radius then opposite side else side;
  radius = if is_negative radius then pos 0 -ℤ radius else radius;
  place = place;
  height = height;
  held = None;
}

abbrev pub start : Bool → Plane → Side → ℤ → Point2 → ℤ → Result (Option Compensation) Refusal
start is_on plane side radius place height = do
  off ← refuse_if is_on why.AlreadyOn
  fits ← refuse_if (is_yz plane) why.PlaneYz
  if is_zero radius then Ok None else Ok (Some (begun side radius place height))
