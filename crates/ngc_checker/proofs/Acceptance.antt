-- If nothing is refused, the program that the checker returns has the promised properties.
use Rattle.std.proofs.Common.{◌≡◌, sym, subst, List, None}
use Rattle.std.specs.Prelude.{Ok}
use Rattle.ngc_machine_files.specs.Machine.{MachineFile}
use Rattle.ngc_machine_files.specs.MachineRanges.{IsMachine}
use Rattle.ngc_machine_files.specs.declared.tools.Tool.{Tool}
use Rattle.ngc_commands.specs.declared.command.Command.{Command}
use Rattle.ngc_certificate_text.specs.declared.piece.Setting.TheVariants.{Off, On}
use Rattle.ngc_certificate_text.specs.Certificate.{CertificateData}
use Rattle.ngc_certificate.specs.Valid.{IsValid}
use Rattle.ngc_certificate.proofs.NoFault.{neither}
use Rattle.ngc_checker.specs.FirstRefusal.{setting_fault, settings_fault}
use Rattle.ngc_job.specs.Job.{AreCommands}
use Rattle.ngc_checker.specs.Accepted.{IsAccepted}
use Rattle.ngc_checker.specs.Held.{held}
use Rattle.ngc_checker.proofs.NoRefusal.{setting_valid}

valid_settings : (machine : MachineFile) (off on : List Command) (c : CertificateData) → settings_fault machine (Ok off) (Ok on) c ≡ None
    → IsValid machine off c.off × IsValid machine on c.on
valid_settings machine off on c h =
    let n = neither (setting_fault machine Off off c.off) (setting_fault machine On on c.on) h in
    (setting_valid machine Off off c.off n.0, setting_valid machine On on c.on n.1)

accepted_here : (machine : MachineFile) (tools : List Tool) (off on : List Command) (c : CertificateData) → IsMachine machine
    → settings_fault machine (Ok off) (Ok on) c ≡ None → AreCommands machine.start off → AreCommands machine.start on → IsAccepted (held machine tools off on)
accepted_here machine tools off on c good h a b =
    let valid = valid_settings machine off on c h in
    record { machine = good; certificate = c; off_valid = valid.0; on_valid = valid.1; off_commands = a; on_commands = b }

pub accepted : (machine own : MachineFile) (tools : List Tool) (off on : List Command) (c : CertificateData) → own ≡ machine → IsMachine machine
    → settings_fault machine (Ok off) (Ok on) c ≡ None → AreCommands machine.start off → AreCommands machine.start on → IsAccepted (held own tools off on)
accepted machine own tools off on c same good h a b =
    let P : MachineFile → Type 0 = λ m. IsAccepted (held m tools off on) in
    subst P (sym same) (accepted_here machine tools off on c good h a b)
