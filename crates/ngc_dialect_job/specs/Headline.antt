-- The headline for programs for other controls: what the checker accepts runs safely. Our own.
use Rattle.std.specs.Prelude.{◌≡◌, ℕ, List, None, Ok, Bool, true, false}
use Rattle.ngc_machine_files.specs.MachineRanges.{IsMachine}
use Rattle.ngc_commands.specs.declared.command.Command.{Command}
use Rattle.ngc_canonical.specs.State.{Setup}
use Rattle.ngc_certificate_text.specs.Certificate.{CertificateData}
use Rattle.ngc_checker.specs.FirstRefusal.{job_refusal}
use Rattle.ngc_dialect_names.specs.declared.dialect.Dialect.{Dialect}
use Rattle.ngc_dialect_execution.specs.Program.{meaning_in}
use Rattle.ngc_job.specs.Job.{JobData}
use Rattle.ngc_machine_model.specs.Headline.{RunsSafely, job_of}
use Rattle.ngc_dialect_job.specs.Job.{IsDialectJob}

-- If a program for another control has a job, and the checker refuses nothing of a certificate for
-- it, then at either setting of block delete, for every list of events, every run of the machine is
-- safe.
abbrev pub DialectHeadline : Type 0
DialectHeadline = (d : Dialect) (text : List ℕ) (setup : Setup) (j : JobData) (c : CertificateData) →
    IsMachine setup.machine → IsDialectJob d text setup j → job_refusal j c ≡ None →
    (block_delete : Bool) (commands : List Command) →
    meaning_in d setup block_delete text ≡ Ok commands →
    RunsSafely (job_of setup.machine commands)
