-- What words do doesn't depend on the line numbers of the line or of the commands before it.
use Rattle.std.proofs.Common.{◌≡◌, ℕ, zero, suc, List, [], ◌∷◌, length, map, Option, Some, None, Bool, true, false, Result, Ok, Err, refl, ap, sym, ◌∙◌}
use Rattle.std.proofs.lemmas.List.{map-append}
use Rattle.std.specs.Prelude.{ℤ, nat_lt, unsigned_abs, not, if◌then◌else◌}
use Rattle.ngc_fixed_length.specs.declared.modes.Turn.{Turn}
use Rattle.ngc_fixed_length.specs.declared.modes.System.{System}
use Rattle.ngc_fixed_length.specs.declared.points.Point3.{Point3}
use Rattle.ngc_line_reader.specs.declared.letter.Letter.{Letter}
use Rattle.ngc_machine_files.specs.Machine.{MachineFile}
use Rattle.ngc_machine_files.specs.declared.tools.Tool.{Tool}
use Rattle.ngc_machine_files.specs.Tools.{tool_at}
use Rattle.ngc_offsets.specs.Offsets.{Offsets}
use Rattle.ngc_offsets.specs.declared.fault.FrameFault.{FrameFault}
use Rattle.ngc_offsets.specs.Frames as frame
use Rattle.ngc_offsets.specs.Frames.{to_machine}
use Rattle.ngc_arc_geometry.specs.declared.fault.ArcFault.TheVariants.{NoAxisWord}
use Rattle.ngc_canned_cycles.specs.declared.cycle.CycleMove.{CycleMove}
use Rattle.ngc_canned_cycles.specs.declared.cycle.CycleMove.TheVariants as cycle_moves
use Rattle.ngc_modal_state.specs.declared.block.AxisWords.{AxisWords}
use Rattle.ngc_modal_state.specs.declared.code.CycleCode.{CycleCode}
use Rattle.ngc_modal_state.specs.declared.code.MotionMode.{MotionMode}
use Rattle.ngc_modal_state.specs.declared.code.MotionMode.TheVariants as motions
use Rattle.ngc_modal_state.specs.declared.code.Stopping.{Stopping}
use Rattle.ngc_modal_state.specs.declared.code.Stopping.TheVariants as stops
use Rattle.ngc_modal_state.specs.declared.effect.ArcWords.{ArcWords}
use Rattle.ngc_modal_state.specs.declared.effect.CycleWords.{CycleWords}
use Rattle.ngc_modal_state.specs.declared.effect.Effect.{Effect}
use Rattle.ngc_modal_state.specs.declared.effect.Effect.TheVariants as acts
use Rattle.ngc_modal_state.specs.declared.effect.Home.{Home}
use Rattle.ngc_commands.specs.declared.command.Action.{Action}
use Rattle.ngc_commands.specs.declared.command.Action.TheVariants as actions
use Rattle.ngc_commands.specs.declared.command.Command.{Command}
use Rattle.ngc_commands.specs.declared.command.SpindleState.TheVariants as turning
use Rattle.ngc_commands.specs.declared.movement.Feed.TheVariants.{PerMinute}
use Rattle.ngc_commands.specs.declared.movement.Pace.{Pace}
use Rattle.ngc_commands.specs.declared.movement.Pace.TheVariants as paces
use Rattle.ngc_commands.specs.declared.movement.Way.{Way}
use Rattle.ngc_commands.specs.declared.movement.Way.TheVariants as ways
use Rattle.ngc_commands.specs.Movement.{end_of as moved_to, actions_of}
use Rattle.ngc_commands.specs.Sequence.{COMMAND_LIMIT}
use Rattle.ngc_canonical.specs.declared.fault.Fault.{Fault}
use Rattle.ngc_canonical.specs.declared.fault.Fault.TheVariants as faults
use Rattle.ngc_canonical.specs.Steps.{◌>>=◌, faulted, refuse_if}
use Rattle.ngc_canonical.specs.State.{Setup, State, with_command, emit, at_place, motion_in, go, traverse_to, unseries}
use Rattle.ngc_canonical.specs.Spindle.{spindle_state, emit_speed, turn_of, mount, mount_found, change_tool, with_coolant}
use Rattle.ngc_canonical.specs.Places.{word_length, axis_lengths, end_of, with_frames, set_origin, set_offset, tool_length, set_length, home_of, stands, go_home}
use Rattle.ngc_canonical.specs.Motions.{traverse, feed_in, straight}
use Rattle.ngc_canonical.specs.Arcs.{has_plane_word, ends_of, arc_by, arc_of, arc}
use Rattle.ngc_arc_geometry.specs.declared.given.Ends.{Ends}
use Rattle.ngc_canonical.specs.Cycles.{kept_after, cycle_of, series_of, start_of, make_move, make_moves, all_moves, refusal, cycle}
use Rattle.ngc_canonical.specs.Perform.{with_motion, stop, perform, run}
use Rattle.ngc_canonical.specs.Meaning.{effects_of, execute_words}

-- ---- states without line numbers

abbrev pub unnumbered : Command → Command
unnumbered c = record { line = 0; action = c.action }

-- a state without the numbers of its line and of its commands
abbrev pub bare : State → State
bare s = record s { line = 0; commands = map unnumbered s.commands }

abbrev pub bared : Result State Fault → Result State Fault
bared (Ok s) = Ok (bare s)
bared (Err e) = Err e

pub same_actions : (cs : List Command) → actions_of (map unnumbered cs) ≡ actions_of cs
same_actions [] = refl
same_actions (c ∷ cs) = ap (λ (rest : List Action). c.action ∷ rest) (same_actions cs)

as_many : (cs : List Command) → length (map unnumbered cs) ≡ length cs
as_many [] = refl
as_many (c ∷ cs) = ap suc (as_many cs)

then_same : (x y : Result State Fault) (f g : State → Result State Fault) → y ≡ bared x → ((t : State) → g (bare t) ≡ bared (f t)) →
    (y >>= g) ≡ bared (x >>= f)
then_same (Ok t) y f g e on = ap (λ (r : Result State Fault). r >>= g) e ∙ on t
then_same (Err fault) y f g e on = ap (λ (r : Result State Fault). r >>= g) e

after_same : {A : Type 0} (x : Result A Fault) (f g : A → Result State Fault) → ((a : A) → g a ≡ bared (f a)) → (x >>= g) ≡ bared (x >>= f)
after_same (Ok a) f g on = on a
after_same (Err fault) f g on = refl

from_same : {A : Type 0} (x y : Result A Fault) (f g : A → Result State Fault) → y ≡ x → ((a : A) → g a ≡ bared (f a)) → (y >>= g) ≡ bared (x >>= f)
from_same x y f g e on = ap (λ (r : Result _ Fault). r >>= g) e ∙ after_same x f g on

bound_same : {A B : Type 0} (x : Result A Fault) (f g : A → Result B Fault) → ((a : A) → g a ≡ f a) → (x >>= g) ≡ (x >>= f)
bound_same (Ok a) f g on = on a
bound_same (Err fault) f g on = refl

-- ---- commands

emit_by : (room : Bool) (a : Action) (s : State) →
    (let full : Result State Fault = Err faults.TooManyCommands in
    (if room then Ok (with_command a (bare s)) else full) ≡ bared (if room then Ok (with_command a s) else full))
emit_by true a s =
    ap (λ (cs : List Command). let t : Result State Fault = Ok (record s { line = 0; commands = cs }) in t)
    (sym (map-append unnumbered s.commands (record { line = s.line; action = a } ∷ [])))
emit_by false a s = refl

emit_same : (a : Action) (s : State) → emit a (bare s) ≡ bared (emit a s)
emit_same a s =
    let full : Result State Fault = Err faults.TooManyCommands in
    ap (λ (n : ℕ). if nat_lt n COMMAND_LIMIT then Ok (with_command a (bare s)) else full) (as_many s.commands)
    ∙ emit_by (nat_lt (length s.commands) COMMAND_LIMIT) a s

go_same : (w : Way) (pace : Pace) (s : State) → go w pace (bare s) ≡ bared (go w pace s)
go_same w pace s =
    let a : Action = actions.Move (motion_in s.modes.path w pace) in
    then_same (emit a s) (emit a (bare s)) (λ t. Ok (at_place (moved_to w) t)) (λ t. Ok (at_place (moved_to w) t)) (emit_same a s) (λ t. refl)

-- ---- spindle and tools

speed_same : (turn : Option Turn) (s : State) → emit_speed turn (bare s) ≡ bared (emit_speed turn s)
speed_same None s = refl
speed_same (Some turn) s = emit_same (actions.Spindle (turning.Turning turn s.speed)) s

mount_same : (tool : Option Tool) (s : State) → mount tool (bare s) ≡ bared (mount tool s)
mount_same tool s = emit_same (actions.Mount tool) (record s { spindle = None })

mount_found_same : (n : ℕ) (tool : Option Tool) (s : State) → mount_found n tool (bare s) ≡ bared (mount_found n tool s)
mount_found_same n None s = refl
mount_found_same n (Some tool) s = mount_same (Some tool) s

change_tool_same : (tools : List Tool) (n : ℕ) (s : State) → change_tool tools n (bare s) ≡ bared (change_tool tools n s)
change_tool_same tools zero s = mount_same None s
change_tool_same tools (suc n) s = mount_found_same (suc n) (tool_at tools (suc n)) s

-- ---- points and frames

traverse_to_same : (end : Point3) (s : State) → traverse_to end (bare s) ≡ bared (traverse_to end s)
traverse_to_same end s = go_same (ways.Line s.place end) paces.Rapid s

with_frames_same : (s : State) (changed : Result Offsets FrameFault) → with_frames (bare s) changed ≡ bared (with_frames s changed)
with_frames_same s changed =
    after_same (faulted faults.Frame changed) (λ f. Ok (unseries (record s { frames = f }))) (λ f. Ok (unseries (record (bare s) { frames = f }))) (λ f. refl)

set_origin_same : (system : System) (words : AxisWords) (s : State) → set_origin system words (bare s) ≡ bared (set_origin system words s)
set_origin_same system words s =
    after_same (axis_lengths s.modes.units words) (λ given. with_frames s (frame.set_origin s.frames system given))
    (λ given. with_frames (bare s) (frame.set_origin s.frames system given)) (λ given. with_frames_same s (frame.set_origin s.frames system given))

set_offset_same : (words : AxisWords) (s : State) → set_offset words (bare s) ≡ bared (set_offset words s)
set_offset_same words s =
    after_same (axis_lengths s.modes.units words) (λ given. with_frames s (frame.set_axis s.frames s.place given))
    (λ given. with_frames (bare s) (frame.set_axis s.frames s.place given)) (λ given. with_frames_same s (frame.set_axis s.frames s.place given))

set_length_same : (tools : List Tool) (number : Option ℕ) (s : State) → set_length tools number (bare s) ≡ bared (set_length tools number s)
set_length_same tools number s =
    after_same (tool_length tools number) (λ length. with_frames s (frame.set_length s.frames (Some length)))
    (λ length. with_frames (bare s) (frame.set_length s.frames (Some length))) (λ length. with_frames_same s (frame.set_length s.frames (Some length)))

through_same : (through : Point3) (b : Bool) (s : State) →
    (let there : Result State Fault = Ok (bare s) in let here : Result State Fault = Ok s in
    (if b then traverse_to through (bare s) else there) ≡ bared (if b then traverse_to through s else here))
through_same through true s = traverse_to_same through s
through_same through false s = refl

go_home_same : (machine : MachineFile) (home : Home) (words : AxisWords) (s : State) → go_home machine home words (bare s) ≡ bared (go_home machine home words s)
go_home_same machine home words s =
    after_same (end_of false s words) _ _ (λ through.
    then_same _ _ _ _ (through_same through (stands words) s) (λ t.
    then_same (traverse_to (home_of machine home) t) (traverse_to (home_of machine home) (bare t)) (λ u. Ok (unseries u)) (λ u. Ok (unseries u))
    (traverse_to_same (home_of machine home) t) (λ u. refl)))

-- ---- motions

end_of_same : (is_machine_place : Bool) (words : AxisWords) (s : State) → end_of is_machine_place (bare s) words ≡ end_of is_machine_place s words
end_of_same true words s = refl
end_of_same false words s = refl

traverse_same : (is_machine_place : Bool) (words : AxisWords) (s : State) → traverse is_machine_place words (bare s) ≡ bared (traverse is_machine_place words s)
traverse_same is_machine_place words s =
    from_same (end_of is_machine_place s words) (end_of is_machine_place (bare s) words) (λ end. traverse_to end s) (λ end. traverse_to end (bare s))
    (end_of_same is_machine_place words s) (λ end. traverse_to_same end s)

straight_same : (is_machine_place : Bool) (words : AxisWords) (f : Option ℤ) (s : State) →
    straight is_machine_place words f (bare s) ≡ bared (straight is_machine_place words f s)
straight_same is_machine_place words f s =
    after_same (feed_in s.modes.feed_mode s.feed f) _ _ (λ feed.
    from_same (end_of is_machine_place s words) (end_of is_machine_place (bare s) words) (λ end. go (ways.Line s.place end) (paces.Feed feed) s)
    (λ end. go (ways.Line s.place end) (paces.Feed feed) (bare s)) (end_of_same is_machine_place words s)
    (λ end. go_same (ways.Line s.place end) (paces.Feed feed) s))

arc_by_same : (r : Option ℤ) (s : State) (words : ArcWords) (e : Ends) → arc_by r (bare s) words e ≡ arc_by r s words e
arc_by_same (Some r) s words e = refl
arc_by_same None s words e = refl

arc_of_same : (turn : Turn) (axes : AxisWords) (words : ArcWords) (s : State) → arc_of turn axes words (bare s) ≡ arc_of turn axes words s
arc_of_same turn axes words s =
    bound_same (end_of false s axes) _ _ (λ end.
    bound_same (word_length s.modes.units words.r) (λ r. arc_by r s words (ends_of turn s axes end)) (λ r. arc_by r (bare s) words (ends_of turn s axes end))
    (λ r. arc_by_same r s words (ends_of turn s axes end)))

arc_same : (turn : Turn) (axes : AxisWords) (words : ArcWords) (f : Option ℤ) (s : State) → arc turn axes words f (bare s) ≡ bared (arc turn axes words f s)
arc_same turn axes words f s =
    after_same (refuse_if (not (has_plane_word s.modes.plane axes)) (faults.Arc NoAxisWord)) _ _ (λ worded.
    after_same (feed_in s.modes.feed_mode s.feed f) _ _ (λ feed.
    from_same (arc_of turn axes words s) (arc_of turn axes words (bare s)) (λ a. go (ways.Arc a) (paces.Feed feed) s)
    (λ a. go (ways.Arc a) (paces.Feed feed) (bare s)) (arc_of_same turn axes words s) (λ a. go_same (ways.Arc a) (paces.Feed feed) s)))

-- ---- cycles

make_move_same : (move : CycleMove) (s : State) → make_move move (bare s) ≡ bared (make_move move s)
make_move_same (cycle_moves.Traverse q) s = traverse_to_same (to_machine s.frames q) s
make_move_same (cycle_moves.Feed q) s = go_same (ways.Line s.place (to_machine s.frames q)) (paces.Feed (PerMinute s.feed)) s
make_move_same (cycle_moves.Dwell v) s = emit_same (actions.Dwell (unsigned_abs v)) s
make_move_same cycle_moves.StopSpindle s = emit_same (actions.Spindle turning.Off) s
make_move_same cycle_moves.StartSpindle s = emit_same (actions.Spindle (spindle_state s.spindle s.speed)) s

make_moves_same : (moves : List CycleMove) (s : State) → make_moves moves (bare s) ≡ bared (make_moves moves s)
unfolding make_moves
make_moves_same [] s = refl
make_moves_same (move ∷ rest) s =
    then_same (make_move move s) (make_move move (bare s)) (make_moves rest) (make_moves rest) (make_move_same move s) (λ t. make_moves_same rest t)

cycle_same : (hole : CycleCode) (axes : AxisWords) (words : CycleWords) (s : State) → cycle hole axes words (bare s) ≡ bared (cycle hole axes words s)
cycle_same hole axes words s =
    after_same (kept_after s axes words) _ _ (λ kept.
    after_same (cycle_of hole s axes words kept) _ _ (λ c.
    after_same (refusal c (start_of s) s.feed) _ _ (λ checked.
    make_moves_same (all_moves c (start_of s)) (record s { kept = kept; series = Some (series_of s) }))))

-- ---- all effects

motion_same : (code : MotionMode) (s : State) → with_motion code (bare s) ≡ bare (with_motion code s)
motion_same (motions.Cycle hole) s = refl
motion_same code s = refl

stop_same : (code : Stopping) (s : State) → stop code (bare s) ≡ bared (stop code s)
stop_same stops.Stop s = emit_same actions.Stop s
stop_same stops.OptionalStop s = emit_same actions.OptionalStop s
stop_same stops.End s =
    then_same (emit actions.End s) (emit actions.End (bare s)) (λ t. Ok (record t { ended = true })) (λ t. Ok (record t { ended = true }))
    (emit_same actions.End s) (λ t. refl)

perform_same : (setup : Setup) (effect : Effect) (s : State) → perform setup effect (bare s) ≡ bared (perform setup effect s)
perform_same setup (acts.Speed value) s = speed_same s.spindle (record s { speed = unsigned_abs value })
perform_same setup acts.ChangeTool s = change_tool_same setup.tools s.selected s
perform_same setup (acts.Spindle code) s = emit_same (actions.Spindle (spindle_state (turn_of code) s.speed)) (record s { spindle = turn_of code })
perform_same setup (acts.Coolant code) s = emit_same (actions.Coolant (with_coolant code s.coolant)) (record s { coolant = with_coolant code s.coolant })
perform_same setup (acts.Override on) s = emit_same (actions.Override on) s
perform_same setup (acts.Dwell value) s = emit_same (actions.Dwell (unsigned_abs value)) s
perform_same setup (acts.ToolLength number) s = set_length_same setup.tools number s
perform_same setup (acts.GoHome home words) s = go_home_same setup.machine home words s
perform_same setup (acts.SetOrigin system words) s = set_origin_same system words s
perform_same setup (acts.SetOffset words) s = set_offset_same words s
perform_same setup (acts.Motion code) s = ap (λ (t : State). let r : Result State Fault = Ok t in r) (motion_same code s)
perform_same setup (acts.Traverse is_machine_place words) s = traverse_same is_machine_place words s
perform_same setup (acts.Straight is_machine_place words f) s = straight_same is_machine_place words f s
perform_same setup (acts.Arc turn axes words f) s = arc_same turn axes words f s
perform_same setup (acts.Cycle hole axes words) s = cycle_same hole axes words s
perform_same setup (acts.Stopping code) s = stop_same code s
perform_same setup _ s = refl

run_same : (setup : Setup) (effects : List Effect) (s : State) → run setup effects (bare s) ≡ bared (run setup effects s)
run_same setup [] s = refl
run_same setup (effect ∷ effects) s =
    then_same (perform setup effect s) (perform setup effect (bare s)) (run setup effects) (run setup effects) (perform_same setup effect s)
    (λ t. run_same setup effects t)

-- words do the same without line numbers
pub words_same : (setup : Setup) (words : List (Letter × ℤ)) (s : State) → execute_words setup words (bare s) ≡ bared (execute_words setup words s)
words_same setup words s = after_same (effects_of s.modes words) (λ what. run setup what s) (λ what. run setup what (bare s)) (λ what. run_same setup what s)
