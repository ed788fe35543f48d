-- The result of each effect, by cases (NISTIR 6556, 3.5 to 3.8): the state after it, or a fault.
use Rattle.std.specs.Prelude.{unsigned_abs, List, [], ◌∷◌, Result, Ok, true}
use Rattle.ngc_fixed_length.specs.Limits.{nanometres_of}
use Rattle.ngc_modal_state.specs.declared.code.MotionMode.{MotionMode}
use Rattle.ngc_modal_state.specs.declared.code.MotionMode.TheVariants as motions
use Rattle.ngc_modal_state.specs.declared.code.Stopping.{Stopping}
use Rattle.ngc_modal_state.specs.declared.code.Stopping.TheVariants as stops
use Rattle.ngc_modal_state.specs.declared.modes.Modes.{Modes}
use Rattle.ngc_modal_state.specs.declared.effect.Effect.{Effect}
use Rattle.ngc_modal_state.specs.declared.effect.Effect.TheVariants as acts
use Rattle.ngc_offsets.specs.Frames as frame
use Rattle.ngc_commands.specs.declared.command.Action.TheVariants as actions
use Rattle.ngc_canonical.specs.declared.fault.Fault.{Fault}
use Rattle.ngc_canonical.specs.Steps.{◌>>=◌}
use Rattle.ngc_canonical.specs.State.{Setup, State, emit, unseries}
use Rattle.ngc_canonical.specs.Spindle.{set_speed, change_tool, set_spindle, set_coolant}
use Rattle.ngc_canonical.specs.Places.{set_origin, set_offset, set_length, go_home}
use Rattle.ngc_canonical.specs.Motions.{traverse, straight}
use Rattle.ngc_canonical.specs.Arcs.{arc}
use Rattle.ngc_canonical.specs.Cycles.{cycle}

abbrev pub with_modes : Modes → State → State
with_modes m s = record s { modes = m }

-- a code that is not a cycle ends the series
abbrev pub with_motion : MotionMode → State → State
with_motion (motions.Cycle hole) s = with_modes (record s.modes { motion = motions.Cycle hole }) s
with_motion code s = unseries (with_modes (record s.modes { motion = code }) s)

abbrev pub stop : Stopping → State → Result State Fault
stop stops.Stop s = emit actions.Stop s
stop stops.OptionalStop s = emit actions.OptionalStop s
stop stops.End s = do
  t ← emit actions.End s
  Ok (record t { ended = true })

abbrev pub perform : Setup → Effect → State → Result State Fault
perform setup (acts.FeedMode mode) s = Ok (with_modes (record s.modes { feed_mode = mode }) s)
perform setup (acts.Feed value units) s =
    Ok (record s { feed = unsigned_abs (nanometres_of units value) })
perform setup (acts.Speed value) s = set_speed value s
perform setup (acts.SelectTool n) s = Ok (record s { selected = n })
perform setup acts.ChangeTool s = change_tool setup.tools s.selected s
perform setup (acts.Spindle code) s = set_spindle code s
perform setup (acts.Coolant code) s = set_coolant code s
perform setup (acts.Override on) s = emit (actions.Override on) s
perform setup (acts.Dwell value) s = emit (actions.Dwell (unsigned_abs value)) s
perform setup (acts.Plane plane) s = Ok (unseries (with_modes (record s.modes { plane = plane }) s))
perform setup (acts.Units units) s = Ok (with_modes (record s.modes { units = units }) s)
perform setup acts.CutterCompensationOff s = Ok s
perform setup (acts.ToolLength h) s = set_length setup.tools h s
perform setup (acts.System system) s =
    Ok (unseries (record s { frames = frame.select s.frames system }))
perform setup (acts.Path path) s = Ok (with_modes (record s.modes { path = path }) s)
perform setup (acts.Distance distance) s =
    Ok (with_modes (record s.modes { distance = distance }) s)
perform setup (acts.Return mode) s = Ok (with_modes (record s.modes { return_mode = mode }) s)
perform setup (acts.GoHome home words) s = go_home setup.machine home words s
perform setup (acts.SetOrigin system words) s = set_origin system words s
perform setup (acts.SetOffset words) s = set_offset words s
perform setup acts.ClearOffset s = Ok (unseries (record s { frames = frame.clear s.frames }))
perform setup acts.SuspendOffset s = Ok (unseries (record s { frames = frame.suspend s.frames }))
perform setup acts.RestoreOffset s = Ok (unseries (record s { frames = frame.restore s.frames }))
perform setup (acts.Motion code) s = Ok (with_motion code s)
perform setup (acts.Traverse is_machine_place words) s = traverse is_machine_place words s
perform setup (acts.Straight is_machine_place words f) s = straight is_machine_place words f s
perform setup (acts.Arc turn axes words f) s = arc turn axes words f s
perform setup (acts.Cycle hole axes words) s = cycle hole axes words s
perform setup (acts.Stopping code) s = stop code s

-- effects in order
abbrev pub run : Setup → List Effect → State → Result State Fault
run setup [] s = Ok s
run setup (effect ∷ effects) s = do
  t ← perform setup effect s
  run setup effects t
