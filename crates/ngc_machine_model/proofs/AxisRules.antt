-- The pulses of a run keep their rules: those of each axis, and those of path steps.
use Rattle.std.proofs.Common.{ℕ, ◌+◌, ◌*◌, ◌≤◌, refl, List, length}
use Rattle.ngc_fixed_length.specs.declared.points.StepPos.{StepPos}
use Rattle.ngc_fixed_length.specs.Grid.{grid}
use Rattle.ngc_machine_files.specs.MachineRanges.{IsMachine}
use Rattle.ngc_commands.specs.Movement.{actions_of, ways_of, AreJoined}
use Rattle.ngc_fixed_length.specs.Limits.{MILLION}
use Rattle.ngc_planner.specs.Pulses.{is_path_step, count_in, KeepsPulseRules}
use Rattle.ngc_events.specs.declared.event.Event.{Event}
use Rattle.ngc_machine_model.specs.State.{Job, State, opening}
use Rattle.ngc_machine_model.specs.Step.{Outcome}
use Rattle.ngc_machine_model.specs.Run.{Run, pulses}
use Rattle.ngc_machine_model.proofs.Windows.{AreClose, two_windows}
use Rattle.ngc_machine_model.proofs.RatesOfRun.{rates_of_run}
use Rattle.ngc_machine_model.proofs.PulseRules.{Goes, run_goes, opening_walks}
use Rattle.ngc_machine_model.proofs.StillAxes.{Axis, X, Y, Z}
use Rattle.ngc_machine_model.proofs.AxisPulses.{axis_window}

-- two successive windows of path steps
path_windows : (job : Job) (ticks : List StepPos) → Goes job 0 (opening job.machine) ticks → (i n : ℕ) → i + n + n ≤ length ticks →
    AreClose (n * n * job.machine.change) (count_in is_path_step (i + n) n ticks) (count_in is_path_step i n ticks)
path_windows job ticks g = two_windows is_path_step job.machine.change (0 * MILLION + 0) 0 g.0 ticks g.1

run_windows : (job : Job) → IsMachine job.machine → AreJoined job.machine.start (ways_of (actions_of job.commands)) →
    (es : List Event) (os : List Outcome) (states : List State) →
    Run job (opening job.machine) es os states → Goes job 0 (opening job.machine) (pulses (grid job.machine.step job.machine.start) es states)
run_windows job machine joined es os states r =
    run_goes job 0 (opening job.machine) es os states machine.max_rate.greatest refl (opening_walks job joined) (rates_of_run job machine es os states r) r

pub pulse_rules : (job : Job) → IsMachine job.machine → AreJoined job.machine.start (ways_of (actions_of job.commands)) →
    (es : List Event) (os : List Outcome) (states : List State) →
    Run job (opening job.machine) es os states → KeepsPulseRules job.machine (pulses (grid job.machine.step job.machine.start) es states)
pulse_rules job machine joined es os states r =
    let ticks : List StepPos = pulses (grid job.machine.step job.machine.start) es states in
    let two = path_windows job ticks (run_windows job machine joined es os states r) in
    let one = λ (axis : Axis). axis_window job machine joined axis es os states r in
    record {
      x = λ i n l. one X i n;
      y = λ i n l. one Y i n;
      z = λ i n l. one Z i n;
      faster = λ i n l. (two i n l).0;
      slower = λ i n l. (two i n l).1;
    }
