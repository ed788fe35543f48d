-- The result of a run whose events arrive from a source. Our own.
use Rattle.std.specs.Prelude.{◌≡◌, ℕ, List, Option, Some, None, Result, Ok, Err, Bool, codes}
use Rattle.std.specs.Prelude.{MatchBool, if◌then◌else◌}
use Rattle.std.specs.Io.KnownBytes.{IsAtEnd, Keeps}
use Rattle.std.specs.Str.{bytes_eq}
use Rattle.ngc_canonical.specs.State.{Setup}
use Rattle.ngc_line_reader.specs.ProgramText.{program_of}
use Rattle.ngc_line_reader.specs.ProgramView.{FaultIs}
use Rattle.ngc_machine_model.specs.State.{Job}
use Rattle.ngc_run_log.specs.declared.live_fault.LiveFault.{LiveFault}
use Rattle.ngc_run_log.specs.declared.live_fault.LiveFault.TheVariants as live
use Rattle.ngc_run_log.specs.declared.live_form.LiveForm.{LiveForm}
use Rattle.ngc_run_log.specs.declared.live_form.LiveForm.TheVariants as forms
use Rattle.ngc_run_log.specs.Living.{LiveData, LivesOn, LivesToRest}
use Rattle.ngc_inputs.specs.declared.fault.AnswerFault.{AnswerFault}
use Rattle.ngc_inputs.specs.declared.fault.AnswerFault.TheVariants as answers
use Rattle.ngc_inputs.specs.Jobs.{IsNoCertificate}
use Rattle.ngc_simulator.specs.declared.live_request.LiveRequest.{LiveRequest}
use Rattle.ngc_simulator.specs.Running.{IsAcceptedJob, IsRefusedWhole}

-- the form that has this name, if one has; the log where none is named
abbrev pub live_named : Option (List ℕ) → ℕ → Option LiveForm
live_named None inverted = Some forms.Log
live_named (Some name) inverted =
    if bytes_eq name (codes "samples") then Some (forms.Samples inverted) else
    if bytes_eq name (codes "log") then Some forms.Log else
    if bytes_eq name (codes "times") then Some forms.Times else None

-- The job of a program's file and a certificate's file was run over the events of a source.
-- `source` are its bytes at the beginning, and `rest` those that remain now. If the ring is fed,
-- loads come before ticks. Unless the run is aborted at the end of the source, the machine is stopped
-- there.
pub record LivesAt (request : LiveRequest) (setup : Setup) (bytes text : List ℕ) (block_delete : Bool)
    (source rest old new : Option (List ℕ)) (result : Result (Unit {0}) LiveFault) : Type 0 where
  pub job : Job
  pub accepted : IsAcceptedJob setup bytes text block_delete job
  pub live : LiveData
  pub is_job : live.job ≡ job
  pub is_fed : live.feeds ≡ request.feeds_ring
  pub lives : MatchBool request.aborts (LivesOn request.form live source rest old new result)
      (LivesToRest request.form live source rest old new result)

-- Of a program's file, a certificate's file, a source of events and a sink: the run over the events
-- of all lines that arrived was written, to the end of the source or up to a fault, and then how the
-- machine was stopped; where there is no run, the output is unchanged.
abbrev pub Lives : LiveRequest → Setup → List ℕ → List ℕ → Bool → Option (List ℕ) →
    Option (List ℕ) → Option (List ℕ) → Option (List ℕ) → Result (Unit {0}) AnswerFault → Type 0
Lives request setup bytes text block_delete source rest old new (Ok done) =
    LivesAt request setup bytes text block_delete source rest old new (Ok done) × IsAtEnd rest
Lives request setup bytes text block_delete source rest old new (Err (answers.Read fault)) =
    FaultIs fault (program_of bytes) × Keeps old new
Lives request setup bytes text block_delete source rest old new (Err (answers.Certificate fault)) =
    IsNoCertificate text fault × Keeps old new
Lives request setup bytes text block_delete source rest old new (Err (answers.Check fault)) =
    IsRefusedWhole setup bytes text fault × Keeps old new
Lives request setup bytes text block_delete source rest old new (Err answers.Memory) =
    ((job : Job) × IsAcceptedJob setup bytes text block_delete job) × Keeps old new
Lives request setup bytes text block_delete source rest old new (Err (answers.Events fault)) =
    LivesAt request setup bytes text block_delete source rest old new (Err (live.Events fault))
Lives request setup bytes text block_delete source rest old new (Err (answers.Input fault)) =
    LivesAt request setup bytes text block_delete source rest old new (Err live.Read)
Lives request setup bytes text block_delete source rest old new (Err (answers.Write fault)) =
    LivesAt request setup bytes text block_delete source rest old new (Err (live.Write fault))
Lives request setup bytes text block_delete source rest old new (Err _) = ⊥
