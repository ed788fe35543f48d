-- Only a stop adds an end, and that end ends the program.
use Rattle.std.proofs.Common.{◌≡◌, ℕ, zero, suc, List, [], ◌∷◌, ◌++◌, Option, Some, None, Bool, true, false, Result, Ok, refl}
use Rattle.std.proofs.lemmas.Result.{IfOk-weaker}
use Rattle.std.specs.Prelude.{ℤ, IfOk, unsigned_abs, not, if◌then◌else◌}
use Rattle.ngc_fixed_length.specs.declared.modes.Turn.{Turn}
use Rattle.ngc_fixed_length.specs.declared.modes.System.{System}
use Rattle.ngc_fixed_length.specs.declared.points.Point3.{Point3}
use Rattle.ngc_machine_files.specs.Machine.{MachineFile}
use Rattle.ngc_machine_files.specs.declared.tools.Tool.{Tool}
use Rattle.ngc_machine_files.specs.Tools.{tool_at}
use Rattle.ngc_offsets.specs.Offsets.{Offsets}
use Rattle.ngc_offsets.specs.declared.fault.FrameFault.{FrameFault}
use Rattle.ngc_offsets.specs.Frames as frame
use Rattle.ngc_offsets.specs.Frames.{to_machine}
use Rattle.ngc_arc_geometry.specs.declared.fault.ArcFault.TheVariants.{NoAxisWord}
use Rattle.ngc_canned_cycles.specs.declared.cycle.CycleMove.{CycleMove}
use Rattle.ngc_canned_cycles.specs.declared.cycle.CycleMove.TheVariants as cycle_moves
use Rattle.ngc_modal_state.specs.declared.block.AxisWords.{AxisWords}
use Rattle.ngc_modal_state.specs.declared.code.CycleCode.{CycleCode}
use Rattle.ngc_modal_state.specs.declared.code.MotionMode.{MotionMode}
use Rattle.ngc_modal_state.specs.declared.code.MotionMode.TheVariants as motions
use Rattle.ngc_modal_state.specs.declared.code.Stopping.{Stopping}
use Rattle.ngc_modal_state.specs.declared.code.Stopping.TheVariants as stops
use Rattle.ngc_modal_state.specs.declared.effect.ArcWords.{ArcWords}
use Rattle.ngc_modal_state.specs.declared.effect.CycleWords.{CycleWords}
use Rattle.ngc_modal_state.specs.declared.effect.Effect.{Effect}
use Rattle.ngc_modal_state.specs.declared.effect.Effect.TheVariants as acts
use Rattle.ngc_modal_state.specs.declared.effect.Home.{Home}
use Rattle.ngc_commands.specs.declared.command.Action.{Action}
use Rattle.ngc_commands.specs.declared.command.Action.TheVariants as actions
use Rattle.ngc_commands.specs.declared.command.Command.{Command}
use Rattle.ngc_commands.specs.declared.command.SpindleState.TheVariants as turning
use Rattle.ngc_canonical.specs.declared.fault.Fault.{Fault}
use Rattle.ngc_canonical.specs.declared.fault.Fault.TheVariants as faults
use Rattle.ngc_commands.specs.declared.movement.Feed.{Feed}
use Rattle.ngc_commands.specs.declared.movement.Feed.TheVariants.{PerMinute}
use Rattle.ngc_commands.specs.declared.movement.Pace.{Pace}
use Rattle.ngc_commands.specs.declared.movement.Pace.TheVariants as paces
use Rattle.ngc_commands.specs.declared.movement.Way.{Way}
use Rattle.ngc_commands.specs.declared.movement.Way.TheVariants as ways
use Rattle.ngc_commands.specs.Sequence.{IsLastIfEnd, EndIsLast, HasEnd}
use Rattle.ngc_commands.specs.Movement.{end_of as moved_to}
use Rattle.ngc_canonical.specs.Steps.{faulted, refuse_if}
use Rattle.ngc_canonical.specs.State.{Setup, State, emit, at_place, motion_in, go, traverse_to, unseries}
use Rattle.ngc_canonical.specs.Spindle.{spindle_state, emit_speed, turn_of, mount, mount_found, change_tool, with_coolant}
use Rattle.ngc_canonical.specs.Places.{axis_lengths, end_of, with_frames, set_origin, set_offset, tool_length, set_length, home_of, stands, go_home}
use Rattle.ngc_canonical.specs.Motions.{traverse, feed_in, straight}
use Rattle.ngc_canonical.specs.Arcs.{has_plane_word, arc_of, arc}
use Rattle.ngc_canonical.specs.Cycles.{kept_after, cycle_of, series_of, start_of, make_move, make_moves, all_moves, refusal, cycle}
use Rattle.ngc_canonical.specs.Perform.{with_motion, stop, perform, run}
use Rattle.ngc_canonical.proofs.Ending.{IsPassing, IsLastIfStop, StopIsLast}
use Rattle.ngc_canonical.proofs.JoinedMotions.{onward, after, emitted}

abbrev pub IsNotEnd : Action → Type 0
IsNotEnd actions.End = ⊥
IsNotEnd _ = Unit {0}

abbrev pub HasNoEnd : List Command → Type 0
HasNoEnd [] = Unit {0}
HasNoEnd (c ∷ cs) = IsNotEnd c.action × HasNoEnd cs

-- the program continues
pub record IsOpen (cs : List Command) (ended : Bool) : Type 0 where
  pub running : ended ≡ false
  pub no_end : HasNoEnd cs

-- nothing follows the end, and without an end the program continues
pub record IsLeft (cs : List Command) (ended : Bool) : Type 0 where
  pub last : EndIsLast cs
  pub no_end : ended ≡ false → HasNoEnd cs
  pub has_end : ended ≡ true → HasEnd cs

-- the end is the last command, and no other command is an end
abbrev pub IsEndOnly : List Command → Type 0
IsEndOnly cs = EndIsLast cs × HasEnd cs

abbrev pub Open : State → Type 0
Open s = IsOpen s.commands s.ended

abbrev pub Left : State → Type 0
Left s = IsLeft s.commands s.ended

no_end_more : (cs : List Command) (c : Command) → HasNoEnd cs → IsNotEnd c.action → HasNoEnd (cs ++ (c ∷ []))
no_end_more [] c none not_end = (not_end, tt)
no_end_more (x ∷ cs) c none not_end = (none.0, no_end_more cs c none.1 not_end)

last_alone : (a : Action) → IsLastIfEnd a []
last_alone actions.End = refl
last_alone _ = tt

not_last : (a : Action) (later : List Command) → IsNotEnd a → IsLastIfEnd a later
not_last actions.End later not_end = absurd not_end
not_last _ later not_end = tt

pub last_behind : (cs : List Command) (c : Command) → HasNoEnd cs → EndIsLast (cs ++ (c ∷ []))
last_behind [] c none = (last_alone c.action, tt)
last_behind (x ∷ cs) c none = (not_last x.action (cs ++ (c ∷ [])) none.0, last_behind cs c none.1)

last_of_none : (cs : List Command) → HasNoEnd cs → EndIsLast cs
last_of_none [] none = tt
last_of_none (c ∷ cs) none = (not_last c.action cs none.0, last_of_none cs none.1)

pub left_open : (s : State) → Open s → Left s
left_open s h = record { last = last_of_none s.commands h.no_end; no_end = λ _. h.no_end; has_end = λ e. absurd (cc (h.running, e)) }

pub ended_by : (cs : List Command) (line : ℕ) → HasNoEnd cs → IsEndOnly (cs ++ (record { line = line; action = actions.End } ∷ []))
ended_by cs line none =
    let last : Command = record { line = line; action = actions.End } in
    (last_behind cs last none, record { before = cs; last = last; are = refl; is_end = refl })

-- an action that is not an end
passes : (a : Action) (s : State) → Open s → IsNotEnd a → IfOk (emit a s) Open
passes a s h not_end =
    emitted Open a s (λ room. record { running = h.running; no_end = no_end_more s.commands (record { line = s.line; action = a }) h.no_end not_end })

moves : (w : Way) (pace : Pace) (s : State) → Open s → IfOk (go w pace s) Open
moves w pace s h =
    let a : Action = actions.Move (motion_in s.modes.path w pace) in
    onward Open Open (emit a s) (λ t. Ok (at_place (moved_to w) t)) (passes a s h tt) (λ t h_t. h_t)

-- ---- spindle, coolant and tools

tell_speed_open : (turn : Option Turn) (s : State) → Open s → IfOk (emit_speed turn s) Open
tell_speed_open None s h = h
tell_speed_open (Some turn) s h = passes (actions.Spindle (turning.Turning turn s.speed)) s h tt

mount_open : (tool : Option Tool) (s : State) → Open s → IfOk (mount tool s) Open
mount_open tool s h = passes (actions.Mount tool) (record s { spindle = None }) h tt

mount_found_open : (n : ℕ) (tool : Option Tool) (s : State) → Open s → IfOk (mount_found n tool s) Open
mount_found_open n None s h = tt
mount_found_open n (Some tool) s h = mount_open (Some tool) s h

change_tool_open : (tools : List Tool) (n : ℕ) (s : State) → Open s → IfOk (change_tool tools n s) Open
change_tool_open tools zero s h = mount_open None s h
change_tool_open tools (suc n) s h = mount_found_open (suc n) (tool_at tools (suc n)) s h

-- ---- points and frames

traverse_to_open : (end : Point3) (s : State) → Open s → IfOk (traverse_to end s) Open
traverse_to_open end s h = moves (ways.Line s.place end) paces.Rapid s h

with_frames_open : (s : State) (changed : Result Offsets FrameFault) → Open s → IfOk (with_frames s changed) Open
with_frames_open s changed h = after Open (faulted faults.Frame changed) (λ f. Ok (unseries (record s { frames = f }))) (λ f. h)

set_origin_open : (system : System) (words : AxisWords) (s : State) → Open s → IfOk (set_origin system words s) Open
set_origin_open system words s h =
    after Open (axis_lengths s.modes.units words) (λ given. with_frames s (frame.set_origin s.frames system given))
    (λ given. with_frames_open s (frame.set_origin s.frames system given) h)

set_offset_open : (words : AxisWords) (s : State) → Open s → IfOk (set_offset words s) Open
set_offset_open words s h =
    after Open (axis_lengths s.modes.units words) (λ given. with_frames s (frame.set_axis s.frames s.place given))
    (λ given. with_frames_open s (frame.set_axis s.frames s.place given) h)

set_length_open : (tools : List Tool) (number : Option ℕ) (s : State) → Open s → IfOk (set_length tools number s) Open
set_length_open tools number s h =
    after Open (tool_length tools number) (λ length. with_frames s (frame.set_length s.frames (Some length)))
    (λ length. with_frames_open s (frame.set_length s.frames (Some length)) h)

through_open : (through : Point3) (b : Bool) (s : State) → Open s →
    (let stay : Result State Fault = Ok s in IfOk (if b then traverse_to through s else stay) Open)
through_open through true s h = traverse_to_open through s h
through_open through false s h = h

go_home_open : (machine : MachineFile) (home : Home) (words : AxisWords) (s : State) → Open s → IfOk (go_home machine home words s) Open
go_home_open machine home words s h =
    after Open (end_of false s words) _ (λ through.
    onward Open Open _ _ (through_open through (stands words) s h) (λ t h_t.
    onward Open Open (traverse_to (home_of machine home) t) (λ u. Ok (unseries u)) (traverse_to_open (home_of machine home) t h_t) (λ u h_u. h_u)))

-- ---- motions

traverse_open : (is_machine_place : Bool) (words : AxisWords) (s : State) → Open s → IfOk (traverse is_machine_place words s) Open
traverse_open is_machine_place words s h = after Open (end_of is_machine_place s words) (λ end. traverse_to end s) (λ end. traverse_to_open end s h)

feed_open : (end : Point3) (feed : Feed) (s : State) → Open s → IfOk (go (ways.Line s.place end) (paces.Feed feed) s) Open
feed_open end feed s h = moves (ways.Line s.place end) (paces.Feed feed) s h

straight_open : (is_machine_place : Bool) (words : AxisWords) (f : Option ℤ) (s : State) → Open s → IfOk (straight is_machine_place words f s) Open
straight_open is_machine_place words f s h =
    after Open (feed_in s.modes.feed_mode s.feed f) _ (λ feed.
    after Open (end_of is_machine_place s words) (λ end. go (ways.Line s.place end) (paces.Feed feed) s)
    (λ end. feed_open end feed s h))

arc_open : (turn : Turn) (axes : AxisWords) (words : ArcWords) (f : Option ℤ) (s : State) → Open s → IfOk (arc turn axes words f s) Open
arc_open turn axes words f s h =
    after Open (refuse_if (not (has_plane_word s.modes.plane axes)) (faults.Arc NoAxisWord)) _ (λ worded.
    after Open (feed_in s.modes.feed_mode s.feed f) _ (λ feed.
    after Open (arc_of turn axes words s) (λ a. go (ways.Arc a) (paces.Feed feed) s)
    (λ a. moves (ways.Arc a) (paces.Feed feed) s h)))

-- ---- cycles

make_move_open : (move : CycleMove) (s : State) → Open s → IfOk (make_move move s) Open
make_move_open (cycle_moves.Traverse q) s h = traverse_to_open (to_machine s.frames q) s h
make_move_open (cycle_moves.Feed q) s h = feed_open (to_machine s.frames q) (PerMinute s.feed) s h
make_move_open (cycle_moves.Dwell v) s h = passes (actions.Dwell (unsigned_abs v)) s h tt
make_move_open cycle_moves.StopSpindle s h = passes (actions.Spindle turning.Off) s h tt
make_move_open cycle_moves.StartSpindle s h = passes (actions.Spindle (spindle_state s.spindle s.speed)) s h tt

make_moves_open : (moves : List CycleMove) (s : State) → Open s → IfOk (make_moves moves s) Open
unfolding make_moves
make_moves_open [] s h = h
make_moves_open (move ∷ rest) s h = onward Open Open (make_move move s) (make_moves rest) (make_move_open move s h) (make_moves_open rest)

cycle_open : (hole : CycleCode) (axes : AxisWords) (words : CycleWords) (s : State) → Open s → IfOk (cycle hole axes words s) Open
cycle_open hole axes words s h =
    after Open (kept_after s axes words) _ (λ kept.
    after Open (cycle_of hole s axes words kept) _ (λ c.
    after Open (refusal c (start_of s) s.feed) _
    (λ checked. make_moves_open (all_moves c (start_of s)) (record s { kept = kept; series = Some (series_of s) }) h)))

-- ---- all effects

with_motion_open : (code : MotionMode) (s : State) → Open s → Open (with_motion code s)
with_motion_open (motions.Cycle hole) s h = h
with_motion_open code s h = h

perform_open : (setup : Setup) (effect : Effect) (s : State) → IsPassing effect → Open s → IfOk (perform setup effect s) Open
perform_open setup (acts.Speed value) s passing h = tell_speed_open s.spindle (record s { speed = unsigned_abs value }) h
perform_open setup acts.ChangeTool s passing h = change_tool_open setup.tools s.selected s h
perform_open setup (acts.Spindle code) s passing h = passes (actions.Spindle (spindle_state (turn_of code) s.speed)) (record s { spindle = turn_of code }) h tt
perform_open setup (acts.Coolant code) s passing h =
    passes (actions.Coolant (with_coolant code s.coolant)) (record s { coolant = with_coolant code s.coolant }) h tt
perform_open setup (acts.Override on) s passing h = passes (actions.Override on) s h tt
perform_open setup (acts.Dwell value) s passing h = passes (actions.Dwell (unsigned_abs value)) s h tt
perform_open setup (acts.ToolLength number) s passing h = set_length_open setup.tools number s h
perform_open setup (acts.GoHome home words) s passing h = go_home_open setup.machine home words s h
perform_open setup (acts.SetOrigin system words) s passing h = set_origin_open system words s h
perform_open setup (acts.SetOffset words) s passing h = set_offset_open words s h
perform_open setup (acts.Motion code) s passing h = with_motion_open code s h
perform_open setup (acts.Traverse is_machine_place words) s passing h = traverse_open is_machine_place words s h
perform_open setup (acts.Straight is_machine_place words f) s passing h = straight_open is_machine_place words f s h
perform_open setup (acts.Arc turn axes words f) s passing h = arc_open turn axes words f s h
perform_open setup (acts.Cycle hole axes words) s passing h = cycle_open hole axes words s h
perform_open setup (acts.Stopping code) s passing h = absurd passing
perform_open setup _ s passing h = h

stop_left : (code : Stopping) (s : State) → Open s → IfOk (stop code s) Left
stop_left stops.Stop s h = IfOk-weaker (emit actions.Stop s) Open Left left_open (passes actions.Stop s h tt)
stop_left stops.OptionalStop s h = IfOk-weaker (emit actions.OptionalStop s) Open Left left_open (passes actions.OptionalStop s h tt)
stop_left stops.End s h =
    onward (λ t. IsEndOnly t.commands) Left (emit actions.End s) (λ t. Ok (record t { ended = true }))
    (emitted (λ t. IsEndOnly t.commands) actions.End s (λ room. ended_by s.commands s.line h.no_end))
    (λ t only. record { last = only.0; no_end = λ e. absurd (cc e); has_end = λ e. only.1 })

-- a stop is performed last, and another effect leaves the program open
step_left : (setup : Setup) (effect : Effect) (later : List Effect) (s : State) → IsLastIfStop effect later → Open s →
    ((t : State) → Open t → IfOk (run setup later t) Left)
    → IfOk (run setup (effect ∷ later) s) Left
step_left setup (acts.Stopping code) [] s last h rest = onward Left Left (stop code s) (run setup []) (stop_left code s h) (λ t h_t. h_t)
step_left setup (acts.Stopping code) (next ∷ later) s last h rest = absurd (cc last)
step_left setup effect later s last h rest = onward Open Left (perform setup effect s) (run setup later) (perform_open setup effect s tt h) rest

pub run_left : (setup : Setup) (effects : List Effect) (s : State) → StopIsLast effects → Open s → IfOk (run setup effects s) Left
run_left setup [] s last h = left_open s h
run_left setup (effect ∷ effects) s last h = step_left setup effect effects s last.0 h (λ t h_t. run_left setup effects t last.1 h_t)
