-- What is accepted of a program for another control runs safely.
use Rattle.std.proofs.Common.{◌≡◌, ℕ, List, None, Result, Ok, Bool, true, false, subst, sym, refl}
use Rattle.ngc_machine_files.specs.MachineRanges.{IsMachine}
use Rattle.ngc_machine_files.specs.Machine.{MachineFile}
use Rattle.ngc_commands.specs.declared.command.Command.{Command}
use Rattle.ngc_canonical.specs.State.{Setup}
use Rattle.ngc_certificate_text.specs.Certificate.{CertificateData}
use Rattle.ngc_checker.specs.Accepted.{IsAccepted}
use Rattle.ngc_checker.specs.FirstRefusal.{job_refusal}
use Rattle.ngc_checker.specs.Held.{accepted_of}
use Rattle.ngc_checker.proofs.Acceptance.{accepted}
use Rattle.ngc_dialect_names.specs.declared.dialect.Dialect.{Dialect}
use Rattle.ngc_dialect_execution.specs.Program.{meaning_in}
use Rattle.ngc_dialect_execution.specs.declared.fault.DialectFault.{DialectFault}
use Rattle.ngc_dialect_execution.proofs.Reaching.{lawfully, meaning_executed}
use Rattle.ngc_job.specs.Job.{JobData, AreCommands, commands_in}
use Rattle.ngc_machine_model.specs.Headline.{RunsSafely, job_of}
use Rattle.ngc_machine_model.proofs.Headline.{accepted_runs_safely}
use Rattle.ngc_dialect_job.specs.Headline.{DialectHeadline}
use Rattle.ngc_dialect_job.specs.Job.{IsDialectJob}

-- the commands that a program means are lawful
are_commands : (d : Dialect) (setup : Setup) (block_delete : Bool) (text : List ℕ) (commands : List Command) →
    meaning_in d setup block_delete text ≡ Ok commands → AreCommands setup.machine.start commands
are_commands d setup block_delete text commands means =
    lawfully {X = List Command} (λ x. x) (AreCommands setup.machine.start) setup (Ok commands)
    (λ s ended law. record { count = law.count; joined = law.joined; radii = law.radii; ended = law.ended; has_end = law.has_end ended })
    (meaning_executed d setup block_delete text commands means)

of_accepted : (j : JobData) → IsAccepted (accepted_of j) → (block_delete : Bool) → RunsSafely (job_of j.machine (commands_in block_delete j))
of_accepted j ok false = accepted_runs_safely (accepted_of j) ok false
of_accepted j ok true = accepted_runs_safely (accepted_of j) ok true

means_at : (d : Dialect) (text : List ℕ) (setup : Setup) (j : JobData) → IsDialectJob d text setup j → (block_delete : Bool) →
    meaning_in d setup block_delete text ≡ Ok (commands_in block_delete j)
means_at d text setup j is false = is.off
means_at d text setup j is true = is.on

same_commands : (r : Result (List Command) DialectFault) (a b : List Command) → r ≡ Ok a → r ≡ Ok b → a ≡ b
same_commands r a b one other = cc

pub dialect_headline : DialectHeadline
dialect_headline d text setup j c machine is none block_delete commands means =
    let off : AreCommands j.machine.start j.off =
    subst (λ (m : MachineFile). AreCommands m.start j.off) (sym is.machine) (are_commands d setup false text j.off is.off) in
    let on : AreCommands j.machine.start (commands_in true j) =
    subst (λ (m : MachineFile). AreCommands m.start (commands_in true j)) (sym is.machine) (are_commands d setup true text (commands_in true j) is.on) in
    let good : IsMachine j.machine = subst IsMachine (sym is.machine) machine in
    let ok : IsAccepted (accepted_of j) = accepted j.machine j.machine j.tools j.off (commands_in true j) c refl good none off on in
    let runs : RunsSafely (job_of setup.machine (commands_in block_delete j)) =
    subst (λ (m : MachineFile). RunsSafely (job_of m (commands_in block_delete j))) is.machine (of_accepted j ok block_delete) in
    subst (λ (cs : List Command). RunsSafely (job_of setup.machine cs))
    (same_commands (meaning_in d setup block_delete text) (commands_in block_delete j) commands (means_at d text setup j is block_delete) means) runs
