-- Each effect continues the motions from where the axes are, with even radii, and the number of
-- commands stays in range.
use Rattle.std.proofs.Common.{◌≡◌, ℕ, zero, suc, List, [], ◌∷◌, Option, Some, None, Bool, true, false, Result, Ok, Err, refl}
use Rattle.std.specs.Prelude.{ℤ, IfOk, unsigned_abs, not, if◌then◌else◌}
use Rattle.ngc_fixed_length.specs.declared.modes.Turn.{Turn}
use Rattle.ngc_fixed_length.specs.declared.modes.System.{System}
use Rattle.ngc_fixed_length.specs.declared.points.Point3.{Point3}
use Rattle.ngc_fixed_length.specs.declared.units.Units.{Units}
use Rattle.ngc_machine_files.specs.Machine.{MachineFile}
use Rattle.ngc_machine_files.specs.declared.tools.Tool.{Tool}
use Rattle.ngc_machine_files.specs.Tools.{tool_at}
use Rattle.ngc_offsets.specs.Offsets.{Offsets}
use Rattle.ngc_offsets.specs.declared.fault.FrameFault.{FrameFault}
use Rattle.ngc_offsets.specs.Frames as frame
use Rattle.ngc_offsets.specs.Frames.{to_machine}
use Rattle.ngc_arc_geometry.specs.Centre.{centre_format, radius_format}
use Rattle.ngc_arc_geometry.specs.Radii.{HasEvenRadii}
use Rattle.ngc_arc_geometry.specs.Shape.{ArcShape}
use Rattle.ngc_arc_geometry.specs.declared.fault.ArcFault.{ArcFault}
use Rattle.ngc_arc_geometry.specs.declared.given.Ends.{Ends}
use Rattle.ngc_arc_geometry.specs.declared.given.Offsets.{Offsets as CentreOffsets}
use Rattle.ngc_arc_geometry.specs.declared.fault.ArcFault.TheVariants.{NoAxisWord}
use Rattle.ngc_arc_geometry.proofs.FormatRadii.{radii_of_centre, radii_of_radius}
use Rattle.ngc_canned_cycles.specs.declared.cycle.CycleMove.{CycleMove}
use Rattle.ngc_canned_cycles.specs.declared.cycle.CycleMove.TheVariants as cycle_moves
use Rattle.ngc_modal_state.specs.declared.block.AxisWords.{AxisWords}
use Rattle.ngc_modal_state.specs.declared.code.CycleCode.{CycleCode}
use Rattle.ngc_modal_state.specs.declared.code.MotionMode.{MotionMode}
use Rattle.ngc_modal_state.specs.declared.code.MotionMode.TheVariants as motions
use Rattle.ngc_modal_state.specs.declared.code.Stopping.{Stopping}
use Rattle.ngc_modal_state.specs.declared.code.Stopping.TheVariants as stops
use Rattle.ngc_modal_state.specs.declared.effect.ArcWords.{ArcWords}
use Rattle.ngc_modal_state.specs.declared.effect.CycleWords.{CycleWords}
use Rattle.ngc_modal_state.specs.declared.effect.Effect.{Effect}
use Rattle.ngc_modal_state.specs.declared.effect.Effect.TheVariants as acts
use Rattle.ngc_modal_state.specs.declared.effect.Home.{Home}
use Rattle.ngc_commands.specs.declared.command.Action.TheVariants as actions
use Rattle.ngc_commands.specs.declared.command.SpindleState.TheVariants as turning
use Rattle.ngc_canonical.specs.declared.fault.Fault.{Fault}
use Rattle.ngc_canonical.specs.declared.fault.Fault.TheVariants as faults
use Rattle.ngc_commands.specs.declared.movement.Feed.{Feed}
use Rattle.ngc_commands.specs.declared.movement.Feed.TheVariants.{PerMinute}
use Rattle.ngc_commands.specs.declared.movement.Pace.TheVariants as paces
use Rattle.ngc_commands.specs.declared.movement.Way.TheVariants as ways
use Rattle.ngc_canonical.specs.Steps.{faulted, refuse_if}
use Rattle.ngc_canonical.specs.State.{Setup, State, emit, go, traverse_to, unseries}
use Rattle.ngc_canonical.specs.Spindle.{spindle_state, emit_speed, turn_of, mount, mount_found, change_tool, with_coolant}
use Rattle.ngc_canonical.specs.Places.{word_length, axis_lengths, end_of, with_frames, set_origin, set_offset, tool_length, set_length, home_of, stands, go_home}
use Rattle.ngc_canonical.specs.Motions.{traverse, feed_in, straight}
use Rattle.ngc_canonical.specs.Arcs.{has_plane_word, along_u, along_v, ends_of, arc_by, arc_of, arc}
use Rattle.ngc_canonical.specs.Cycles.{kept_after, cycle_of, series_of, start_of, make_move, make_moves, all_moves, refusal, cycle}
use Rattle.ngc_canonical.specs.Perform.{with_motion, stop, perform, run}
use Rattle.ngc_canonical.proofs.JoinedMotions.{Holds, onward, after, stays, moves}
use Rattle.ngc_canonical.proofs.ArcLaws.{start_of_centre, start_of_radius}

-- ---- spindle, coolant and tools

tell_speed_holds : (p : Point3) (turn : Option Turn) (s : State) → Holds p s → IfOk (emit_speed turn s) (Holds p)
tell_speed_holds p None s h = h
tell_speed_holds p (Some turn) s h = stays p (actions.Spindle (turning.Turning turn s.speed)) s h tt

mount_holds : (p : Point3) (tool : Option Tool) (s : State) → Holds p s → IfOk (mount tool s) (Holds p)
mount_holds p tool s h = stays p (actions.Mount tool) (record s { spindle = None }) h tt

mount_found_holds : (p : Point3) (n : ℕ) (tool : Option Tool) (s : State) → Holds p s → IfOk (mount_found n tool s) (Holds p)
mount_found_holds p n None s h = tt
mount_found_holds p n (Some tool) s h = mount_holds p (Some tool) s h

change_tool_holds : (p : Point3) (tools : List Tool) (n : ℕ) (s : State) → Holds p s → IfOk (change_tool tools n s) (Holds p)
change_tool_holds p tools zero s h = mount_holds p None s h
change_tool_holds p tools (suc n) s h = mount_found_holds p (suc n) (tool_at tools (suc n)) s h

-- ---- points and frames

traverse_to_holds : (p end : Point3) (s : State) → Holds p s → IfOk (traverse_to end s) (Holds p)
traverse_to_holds p end s h = moves p (ways.Line s.place end) paces.Rapid s h refl tt

with_frames_holds : (p : Point3) (s : State) (changed : Result Offsets FrameFault) → Holds p s → IfOk (with_frames s changed) (Holds p)
with_frames_holds p s changed h = after (Holds p) (faulted faults.Frame changed) (λ f. Ok (unseries (record s { frames = f }))) (λ f. h)

set_origin_holds : (p : Point3) (system : System) (words : AxisWords) (s : State) → Holds p s → IfOk (set_origin system words s) (Holds p)
set_origin_holds p system words s h =
    after (Holds p) (axis_lengths s.modes.units words) (λ given. with_frames s (frame.set_origin s.frames system given))
    (λ given. with_frames_holds p s (frame.set_origin s.frames system given) h)

set_offset_holds : (p : Point3) (words : AxisWords) (s : State) → Holds p s → IfOk (set_offset words s) (Holds p)
set_offset_holds p words s h =
    after (Holds p) (axis_lengths s.modes.units words) (λ given. with_frames s (frame.set_axis s.frames s.place given))
    (λ given. with_frames_holds p s (frame.set_axis s.frames s.place given) h)

set_length_holds : (p : Point3) (tools : List Tool) (number : Option ℕ) (s : State) → Holds p s → IfOk (set_length tools number s) (Holds p)
set_length_holds p tools number s h =
    after (Holds p) (tool_length tools number) (λ length. with_frames s (frame.set_length s.frames (Some length)))
    (λ length. with_frames_holds p s (frame.set_length s.frames (Some length)) h)

through_holds : (p through : Point3) (b : Bool) (s : State) → Holds p s →
    (let stay : Result State Fault = Ok s in IfOk (if b then traverse_to through s else stay) (Holds p))
through_holds p through true s h = traverse_to_holds p through s h
through_holds p through false s h = h

go_home_holds : (p : Point3) (machine : MachineFile) (home : Home) (words : AxisWords) (s : State) → Holds p s → IfOk (go_home machine home words s) (Holds p)
go_home_holds p machine home words s h =
    after (Holds p) (end_of false s words) _ (λ through.
    onward (Holds p) (Holds p) _ _ (through_holds p through (stands words) s h) (λ t h_t.
    onward (Holds p) (Holds p) (traverse_to (home_of machine home) t) (λ u. Ok (unseries u)) (traverse_to_holds p (home_of machine home) t h_t) (λ u h_u. h_u)))

-- ---- motions

traverse_holds : (p : Point3) (is_machine_place : Bool) (words : AxisWords) (s : State) → Holds p s → IfOk (traverse is_machine_place words s) (Holds p)
traverse_holds p is_machine_place words s h = after (Holds p) (end_of is_machine_place s words) (λ end. traverse_to end s) (λ end. traverse_to_holds p end s h)

feed_holds : (p end : Point3) (feed : Feed) (s : State) → Holds p s → IfOk (go (ways.Line s.place end) (paces.Feed feed) s) (Holds p)
feed_holds p end feed s h = moves p (ways.Line s.place end) (paces.Feed feed) s h refl tt

straight_holds : (p : Point3) (is_machine_place : Bool) (words : AxisWords) (f : Option ℤ) (s : State) → Holds p s →
    IfOk (straight is_machine_place words f s) (Holds p)
straight_holds p is_machine_place words f s h =
    after (Holds p) (feed_in s.modes.feed_mode s.feed f) _ (λ feed.
    after (Holds p) (end_of is_machine_place s words) (λ end. go (ways.Line s.place end) (paces.Feed feed) s)
    (λ end. feed_holds p end feed s h))

-- ---- arcs, which begin where the axes are, with even radii

record IsArcFrom (p : Point3) (a : ArcShape) : Type 0 where
  begins : a.start ≡ p
  even : HasEvenRadii a

-- a property of each arc that was made
made : (P : ArcShape → Type 0) (r : Result ArcShape ArcFault) → ((a : ArcShape) → r ≡ Ok a → P a) → IfOk (faulted faults.Arc r) P
made P (Ok a) known = known a refl
made P (Err e) known = tt

by_centre : (units : Units) (e : Ends) (o : CentreOffsets) (a : ArcShape) → centre_format units e o ≡ Ok a → IsArcFrom e.start a
by_centre units e o a is = record { begins = start_of_centre units e o a is; even = radii_of_centre units e o a is }

by_radius : (units : Units) (e : Ends) (r : ℤ) (a : ArcShape) → radius_format units e r ≡ Ok a → IsArcFrom e.start a
by_radius units e r a is = record { begins = start_of_radius units e r a is; even = radii_of_radius units e r a is }

arc_by_begins : (r : Option ℤ) (s : State) (words : ArcWords) (e : Ends) → IfOk (arc_by r s words e) (IsArcFrom e.start)
arc_by_begins (Some r) s words e = made (IsArcFrom e.start) (radius_format s.modes.units e r) (by_radius s.modes.units e r)
arc_by_begins None s words e =
    after (IsArcFrom e.start) (word_length s.modes.units (along_u s.modes.plane words)) _ (λ u.
    after (IsArcFrom e.start) (word_length s.modes.units (along_v s.modes.plane words))
    (λ v. faulted faults.Arc (centre_format s.modes.units e (record { u = u; v = v })))
    (λ v. made (IsArcFrom e.start) (centre_format s.modes.units e (record { u = u; v = v })) (by_centre s.modes.units e (record { u = u; v = v }))))

arc_of_begins : (turn : Turn) (axes : AxisWords) (words : ArcWords) (s : State) → IfOk (arc_of turn axes words s) (IsArcFrom s.place)
arc_of_begins turn axes words s =
    after (IsArcFrom s.place) (end_of false s axes) _ (λ end.
    after (IsArcFrom s.place) (word_length s.modes.units words.r) (λ r. arc_by r s words (ends_of turn s axes end))
    (λ r. arc_by_begins r s words (ends_of turn s axes end)))

arc_holds : (p : Point3) (turn : Turn) (axes : AxisWords) (words : ArcWords) (f : Option ℤ) (s : State) → Holds p s → IfOk (arc turn axes words f s) (Holds p)
arc_holds p turn axes words f s h =
    after (Holds p) (refuse_if (not (has_plane_word s.modes.plane axes)) (faults.Arc NoAxisWord)) _ (λ worded.
    after (Holds p) (feed_in s.modes.feed_mode s.feed f) _ (λ feed.
    onward (IsArcFrom s.place) (Holds p) (arc_of turn axes words s) (λ a. go (ways.Arc a) (paces.Feed feed) s)
    (arc_of_begins turn axes words s)
    (λ a from. moves p (ways.Arc a) (paces.Feed feed) s h from.begins from.even)))

-- ---- cycles

make_move_holds : (p : Point3) (move : CycleMove) (s : State) → Holds p s → IfOk (make_move move s) (Holds p)
make_move_holds p (cycle_moves.Traverse q) s h = traverse_to_holds p (to_machine s.frames q) s h
make_move_holds p (cycle_moves.Feed q) s h = feed_holds p (to_machine s.frames q) (PerMinute s.feed) s h
make_move_holds p (cycle_moves.Dwell v) s h = stays p (actions.Dwell (unsigned_abs v)) s h tt
make_move_holds p cycle_moves.StopSpindle s h = stays p (actions.Spindle turning.Off) s h tt
make_move_holds p cycle_moves.StartSpindle s h = stays p (actions.Spindle (spindle_state s.spindle s.speed)) s h tt

make_moves_holds : (p : Point3) (moves : List CycleMove) (s : State) → Holds p s → IfOk (make_moves moves s) (Holds p)
unfolding make_moves
make_moves_holds p [] s h = h
make_moves_holds p (move ∷ rest) s h = onward (Holds p) (Holds p) (make_move move s) (make_moves rest) (make_move_holds p move s h) (make_moves_holds p rest)

cycle_holds : (p : Point3) (hole : CycleCode) (axes : AxisWords) (words : CycleWords) (s : State) → Holds p s → IfOk (cycle hole axes words s) (Holds p)
cycle_holds p hole axes words s h =
    after (Holds p) (kept_after s axes words) _ (λ kept.
    after (Holds p) (cycle_of hole s axes words kept) _ (λ c.
    after (Holds p) (refusal c (start_of s) s.feed) _
    (λ checked. make_moves_holds p (all_moves c (start_of s)) (record s { kept = kept; series = Some (series_of s) }) h)))

-- ---- all effects

with_motion_holds : (p : Point3) (code : MotionMode) (s : State) → Holds p s → Holds p (with_motion code s)
with_motion_holds p (motions.Cycle hole) s h = h
with_motion_holds p code s h = h

stop_holds : (p : Point3) (code : Stopping) (s : State) → Holds p s → IfOk (stop code s) (Holds p)
stop_holds p stops.Stop s h = stays p actions.Stop s h tt
stop_holds p stops.OptionalStop s h = stays p actions.OptionalStop s h tt
stop_holds p stops.End s h =
    onward (Holds p) (Holds p) (emit actions.End s) (λ t. Ok (record t { ended = true }))
    (stays p actions.End s h tt)
    (λ t h_t. h_t)

perform_holds : (p : Point3) (setup : Setup) (effect : Effect) (s : State) → Holds p s → IfOk (perform setup effect s) (Holds p)
perform_holds p setup (acts.Speed value) s h = tell_speed_holds p s.spindle (record s { speed = unsigned_abs value }) h
perform_holds p setup acts.ChangeTool s h = change_tool_holds p setup.tools s.selected s h
perform_holds p setup (acts.Spindle code) s h =
    stays p (actions.Spindle (spindle_state (turn_of code) s.speed)) (record s { spindle = turn_of code }) h tt
perform_holds p setup (acts.Coolant code) s h =
    stays p (actions.Coolant (with_coolant code s.coolant)) (record s { coolant = with_coolant code s.coolant }) h tt
perform_holds p setup (acts.Override on) s h = stays p (actions.Override on) s h tt
perform_holds p setup (acts.Dwell value) s h = stays p (actions.Dwell (unsigned_abs value)) s h tt
perform_holds p setup (acts.ToolLength number) s h = set_length_holds p setup.tools number s h
perform_holds p setup (acts.GoHome home words) s h = go_home_holds p setup.machine home words s h
perform_holds p setup (acts.SetOrigin system words) s h = set_origin_holds p system words s h
perform_holds p setup (acts.SetOffset words) s h = set_offset_holds p words s h
perform_holds p setup (acts.Motion code) s h = with_motion_holds p code s h
perform_holds p setup (acts.Traverse is_machine_place words) s h = traverse_holds p is_machine_place words s h
perform_holds p setup (acts.Straight is_machine_place words f) s h = straight_holds p is_machine_place words f s h
perform_holds p setup (acts.Arc turn axes words f) s h = arc_holds p turn axes words f s h
perform_holds p setup (acts.Cycle hole axes words) s h = cycle_holds p hole axes words s h
perform_holds p setup (acts.Stopping code) s h = stop_holds p code s h
perform_holds p setup _ s h = h

pub run_holds : (p : Point3) (setup : Setup) (effects : List Effect) (s : State) → Holds p s → IfOk (run setup effects s) (Holds p)
run_holds p setup [] s h = h
run_holds p setup (effect ∷ effects) s h =
    onward (Holds p) (Holds p) (perform setup effect s) (run setup effects) (perform_holds p setup effect s h) (run_holds p setup effects)
