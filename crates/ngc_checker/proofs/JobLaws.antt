-- The check of a job is that of the program whose job it is.
use Rattle.std.proofs.Common.{◌≡◌, List, sym, ◌∙◌, ap, ap₂, subst, Option, Some, None, Result, Ok, Err, true}
use Rattle.std.specs.Prelude.{MatchResult}
use Rattle.ngc_machine_files.specs.Machine.{MachineFile}
use Rattle.ngc_commands.specs.declared.command.Command.{Command}
use Rattle.ngc_canonical.specs.declared.fault.ProgramFault.{ProgramFault}
use Rattle.ngc_canonical.specs.declared.fault.ProgramFault.TheVariants as programs
use Rattle.ngc_canonical.specs.Meaning.{Program, meaning}
use Rattle.ngc_canonical.specs.State.{Setup}
use Rattle.ngc_certificate_text.specs.declared.piece.Setting.{Setting}
use Rattle.ngc_certificate_text.specs.declared.piece.Setting.TheVariants.{Off, On}
use Rattle.ngc_certificate_text.specs.Certificate.{Entry, CertificateData}
use Rattle.ngc_job.specs.Job.{JobData, IsJobOf, IsRefusedAt, commands_in}
use Rattle.ngc_checker.specs.declared.fault.CheckFault.{CheckFault}
use Rattle.ngc_checker.specs.Accepted.{AcceptedData, Answers, IsFirst, Keeps}
use Rattle.ngc_checker.specs.FirstRefusal.{first_refusal, job_refusal, settings_fault}
use Rattle.ngc_checker.specs.Held.{accepted_of, program_fault}
use Rattle.ngc_checker.proofs.AnswerLaw.{first_is}

pub first_of_job : (program : Program) (setup : Setup) (j : JobData) (c : CertificateData) → IsJobOf program setup j →
    first_refusal program setup c ≡ job_refusal j c
first_of_job program setup j c h =
    ap₂ (λ (off on : Result (List Command) ProgramFault). settings_fault setup.machine off on c) h.off h.on
    ∙ ap (λ (m : MachineFile). settings_fault m (Ok j.off) (Ok (commands_in true j)) c) (sym h.machine)

pub keeps_job : (program : Program) (setup : Setup) (j : JobData) → IsJobOf program setup j → Keeps program setup (accepted_of j)
keeps_job program setup j h = record { machine = h.machine; tools = h.tools; off = h.off; on = h.on }

pub job_answered : (program : Program) (setup : Setup) (j : JobData) (c : CertificateData) (answer : Result AcceptedData CheckFault) →
    IsJobOf program setup j
    → MatchResult answer (λ a. (job_refusal j c ≡ None) × (a ≡ accepted_of j)) (λ fault. job_refusal j c ≡ Some fault)
    → Answers (λ a. a) program setup c answer
job_answered program setup j c (Ok a) h said =
    (first_of_job program setup j c h ∙ said.0, subst (λ (x : AcceptedData). Keeps program setup x) (sym said.1) (keeps_job program setup j h))
job_answered program setup j c (Err fault) h said = first_is fault (first_refusal program setup c) (first_of_job program setup j c h ∙ said)

-- ---- a program that has no job

pub refused_at_line : (program : Program) (setup : Setup) (s : Setting) (fault : ProgramFault) (c : CertificateData) → IsRefusedAt program setup s fault →
    IsFirst (program_fault s fault) (first_refusal program setup c)
refused_at_line program setup s programs.Memory c h = tt
refused_at_line program setup Off (programs.At line e) c h =
    ap (λ (off : Result (List Command) ProgramFault). settings_fault setup.machine off (meaning program setup true) c) h
refused_at_line program setup On (programs.At line e) c h =
    ap₂ (λ (off on : Result (List Command) ProgramFault). settings_fault setup.machine off on c) h.1 h.2

-- the faults of the motions of both settings, for equal machines, commands and motions
pub same_settings : (machine own : MachineFile) (off on own_off own_on : List Command) (off_entries on_entries : List Entry) (c : CertificateData) →
    own ≡ machine → own_off ≡ off → own_on ≡ on → off_entries ≡ c.off → on_entries ≡ c.on →
    settings_fault machine (Ok off) (Ok on) c ≡ settings_fault own (Ok own_off) (Ok own_on) (record { off = off_entries; on = on_entries })
same_settings machine own off on own_off own_on off_entries on_entries c m a b d e =
    ap (λ (x : MachineFile). settings_fault x (Ok off) (Ok on) c) (sym m)
    ∙ ap₂ (λ (x y : List Command). settings_fault own (Ok x) (Ok y) c) (sym a) (sym b)
    ∙ ap₂ (λ (x y : List Entry). settings_fault own (Ok own_off) (Ok own_on) (record { off = x; on = y })) (sym d) (sym e)
