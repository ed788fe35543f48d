-- Every run of an accepted program is safe.
use Rattle.std.proofs.Common.{List, true, false}
use Rattle.ngc_machine_files.specs.Machine.{MachineFile}
use Rattle.ngc_machine_files.specs.MachineRanges.{IsMachine}
use Rattle.ngc_commands.specs.declared.command.Command.{Command}
use Rattle.ngc_commands.specs.Sequence.{HaveEvenRadii, EndIsLast}
use Rattle.ngc_commands.specs.Movement.{actions_of, ways_of, AreJoined}
use Rattle.ngc_canonical.proofs.EndingLines.{ends_last}
use Rattle.ngc_certificate_text.specs.Certificate.{Entry}
use Rattle.ngc_certificate.specs.Valid.{IsValid}
use Rattle.ngc_machine_model.specs.Headline.{job_of, RunsSafely, Headline, AcceptedRunsSafely}
use Rattle.ngc_machine_model.proofs.Arcs.{are_arcs}
use Rattle.ngc_machine_model.proofs.SafePositions.{positions_safe}
use Rattle.ngc_machine_model.proofs.RatesOfRun.{rates_of_run}
use Rattle.ngc_machine_model.proofs.AxisRules.{pulse_rules}
use Rattle.ngc_machine_model.proofs.ProgramPathLaws.{way_begins, way_ended}
use Rattle.ngc_machine_model.proofs.Settings.{entries_at, setting_is_valid, setting_is_joined, setting_is_even}

runs_safely : (machine : MachineFile) (commands : List Command) (entries : List Entry) → IsMachine machine → IsValid machine commands entries →
    AreJoined machine.start (ways_of (actions_of commands)) → HaveEvenRadii (ways_of (actions_of commands)) → EndIsLast commands →
    RunsSafely (job_of machine commands)
runs_safely machine commands entries m v j even e events outcomes states r = record {
  safe = positions_safe machine commands entries m v j even events outcomes states r;
  rates = rates_of_run (job_of machine commands) m events outcomes states r;
  pulse_rules = pulse_rules (job_of machine commands) m j events outcomes states r;
  way = way_begins machine commands m (are_arcs machine commands entries m v even) j events outcomes states r;
  ended = way_ended machine commands m j e events outcomes states r;
}

pub accepted_runs_safely : AcceptedRunsSafely
accepted_runs_safely a ok false =
    runs_safely a.machine a.off ok.certificate.off ok.machine ok.off_valid ok.off_commands.joined ok.off_commands.radii ok.off_commands.ended
accepted_runs_safely a ok true =
    runs_safely a.machine a.on ok.certificate.on ok.machine ok.on_valid ok.on_commands.joined ok.on_commands.radii ok.on_commands.ended

pub headline : Headline
headline program setup c m none block_delete commands means =
    runs_safely setup.machine commands (entries_at block_delete c) m (setting_is_valid program setup c none block_delete commands means)
    (setting_is_joined program setup block_delete commands means) (setting_is_even program setup block_delete commands means)
    (ends_last program setup block_delete commands means)
