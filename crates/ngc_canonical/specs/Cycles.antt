-- A line's canned cycle: its words, the kept words, and its moves as commands (NISTIR 6556, 3.5.16
-- and 3.5.20).
use Rattle.std.specs.Prelude.{ℕ, ◌==◌, ℤ, unsigned_abs, List, [], ◌∷◌, flat_map, Option, Some}
use Rattle.std.specs.Prelude.{Result, Ok, is_some, unwrap_or, not}
use Rattle.ngc_fixed_length.specs.Places.{height, in_plane, at_height}
use Rattle.ngc_fixed_length.specs.declared.modes.Plane.{Plane}
use Rattle.ngc_fixed_length.specs.declared.modes.Plane.TheVariants.{XY, ZX, YZ}
use Rattle.ngc_fixed_length.specs.declared.points.Point3.{Point3}
use Rattle.ngc_modal_state.specs.declared.block.AxisWords.{AxisWords}
use Rattle.ngc_modal_state.specs.declared.code.CycleCode.{CycleCode}
use Rattle.ngc_modal_state.specs.declared.code.CycleCode.TheVariants as codes
use Rattle.ngc_modal_state.specs.declared.effect.CycleWords.{CycleWords}
use Rattle.ngc_modal_state.specs.Use.{depth_word}
use Rattle.ngc_offsets.specs.Frames.{to_machine, to_program}
use Rattle.ngc_canned_cycles.specs.declared.cycle.Hole.{Hole}
use Rattle.ngc_canned_cycles.specs.declared.cycle.Hole.TheVariants.{Drill, DrillWithDwell, Peck}
use Rattle.ngc_canned_cycles.specs.declared.cycle.Hole.TheVariants.{Bore, BoreWithStop}
use Rattle.ngc_canned_cycles.specs.declared.cycle.Hole.TheVariants.{BoreWithDwell}
use Rattle.ngc_canned_cycles.specs.declared.cycle.Cycle.{Cycle}
use Rattle.ngc_canned_cycles.specs.declared.cycle.Start.{Start}
use Rattle.ngc_canned_cycles.specs.declared.cycle.CycleMove.{CycleMove}
use Rattle.ngc_canned_cycles.specs.declared.cycle.CycleMove.TheVariants as moves
use Rattle.ngc_canned_cycles.specs.Heights.{repeats_of}
use Rattle.ngc_canned_cycles.specs.Holes.{counting}
use Rattle.ngc_canned_cycles.specs.Moves.{repeat_moves}
use Rattle.ngc_canned_cycles.specs.Refusals.{check, is_in_range}
use Rattle.ngc_commands.specs.declared.command.Action.TheVariants as actions
use Rattle.ngc_commands.specs.declared.command.SpindleState.TheVariants.{Off}
use Rattle.ngc_canonical.specs.declared.fault.Fault.{Fault}
use Rattle.ngc_canonical.specs.declared.fault.Fault.TheVariants as faults
use Rattle.ngc_commands.specs.declared.movement.Feed.TheVariants.{PerMinute}
use Rattle.ngc_commands.specs.declared.movement.Pace.TheVariants as paces
use Rattle.ngc_commands.specs.declared.movement.Way.TheVariants.{Line}
use Rattle.ngc_canonical.specs.declared.state.Kept.{Kept}
use Rattle.ngc_canonical.specs.Steps.{◌>>=◌, faulted, refuse_if}
use Rattle.ngc_canonical.specs.State.{State, emit, go, traverse_to}
use Rattle.ngc_canonical.specs.Spindle.{spindle_state}
use Rattle.ngc_canonical.specs.Places.{word_length}

-- the plane's two axis words
abbrev pub word_u : Plane → AxisWords → Option ℤ
word_u XY axes = axes.x
word_u ZX axes = axes.z
word_u YZ axes = axes.y

abbrev pub word_v : Plane → AxisWords → Option ℤ
word_v XY axes = axes.y
word_v ZX axes = axes.x
word_v YZ axes = axes.z

-- the words of the line, and the kept ones for those that it leaves out: lengths, and for P a value
abbrev pub kept_after : State → AxisWords → CycleWords → Result Kept Fault
kept_after s axes words = do
  retract ← word_length s.modes.units words.r
  bottom ← word_length s.modes.units (depth_word s.modes.plane axes)
  peck ← word_length s.modes.units words.q
  Ok (record {
    retract = unwrap_or retract s.kept.retract;
    bottom = unwrap_or bottom s.kept.bottom;
    dwell = unwrap_or words.p s.kept.dwell;
    peck = unwrap_or peck s.kept.peck;
  })

abbrev pub hole_of : CycleCode → Kept → Hole
hole_of codes.Drill kept = Drill
hole_of codes.DrillWithDwell kept = DrillWithDwell kept.dwell
hole_of codes.Peck kept = Peck kept.peck
hole_of codes.Bore kept = Bore
hole_of codes.BoreWithStop kept = BoreWithStop kept.dwell
hole_of codes.BoreWithDwell kept = BoreWithDwell kept.dwell

abbrev pub cycle_of : CycleCode → State → AxisWords → CycleWords → Kept → Result Cycle Fault
cycle_of hole s axes words kept = do
  u ← word_length s.modes.units (word_u s.modes.plane axes)
  v ← word_length s.modes.units (word_v s.modes.plane axes)
  Ok (record {
    hole = hole_of hole kept;
    plane = s.modes.plane;
    distance = s.modes.distance;
    clear = s.modes.return_mode;
    feed_mode = s.modes.feed_mode;
    u = u;
    v = v;
    retract = kept.retract;
    bottom = kept.bottom;
    repeats = words.l;
  })

-- the machine's height before the series, and the point at that height; a series begins here if
-- none is in progress
abbrev pub series_of : State → ℤ
series_of s = unwrap_or s.series (height s.modes.plane s.place)

abbrev pub series_place : State → Point3
series_place s = at_height s.modes.plane (in_plane s.modes.plane s.place) (series_of s)

-- the cycle begins at the programmed point, and retracts to the programmed height before the series
abbrev pub start_of : State → Start
start_of s = record {
  place = to_program s.frames s.place;
  series = height s.modes.plane (to_program s.frames (series_place s));
  turning = is_some s.spindle;
  reach = s.frames.reach;
}

-- ---- moves

abbrev pub feed_to : Point3 → State → Result State Fault
feed_to end s = go (Line s.place end) (paces.Feed (PerMinute s.feed)) s

abbrev pub make_move : CycleMove → State → Result State Fault
make_move (moves.Traverse p) s = traverse_to (to_machine s.frames p) s
make_move (moves.Feed p) s = feed_to (to_machine s.frames p) s
make_move (moves.Dwell v) s = emit (actions.Dwell (unsigned_abs v)) s
make_move moves.StopSpindle s = emit (actions.Spindle Off) s
make_move moves.StartSpindle s = emit (actions.Spindle (spindle_state s.spindle s.speed)) s

-- moves in order
unfoldable pub make_moves : List CycleMove → State → Result State Fault
make_moves [] s = Ok s
make_moves (move ∷ rest) s = do
  t ← make_move move s
  make_moves rest t

-- the moves of n repeats from repeat j on
abbrev pub moves_from : Cycle → Start → ℕ → ℕ → List CycleMove
moves_from c start j n = flat_map (repeat_moves c start) (counting j n)

abbrev pub all_moves : Cycle → Start → List CycleMove
all_moves c start = moves_from c start 1 (repeats_of c.repeats)

-- the first refusal: the cycle's own, a feed of 0, or a programmed coordinate out of range
abbrev pub refusal : Cycle → Start → ℕ → Result (Unit {0}) Fault
refusal c start feed = do
  checked ← faulted faults.Cycle (check c start)
  fed ← refuse_if (feed == 0) faults.FeedZero
  refuse_if (not (is_in_range c start)) (faults.CycleBeyondRange start.reach)

abbrev pub cycle : CycleCode → AxisWords → CycleWords → State → Result State Fault
cycle hole axes words s = do
  kept ← kept_after s axes words
  c ← cycle_of hole s axes words kept
  checked ← refusal c (start_of s) s.feed
  make_moves (all_moves c (start_of s)) (record s { kept = kept; series = Some (series_of s) })
