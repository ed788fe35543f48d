-- The validity of a certificate for a program: the meaning of the checker's acceptance. Our own.
use Rattle.std.specs.Prelude.{◌≡◌, List, None, Ok, true, false, ◌↔◌}
use Rattle.ngc_commands.specs.declared.command.Command.{Command}
use Rattle.ngc_canonical.specs.Meaning.{Program, meaning}
use Rattle.ngc_canonical.specs.State.{Setup}
use Rattle.ngc_certificate_text.specs.Certificate.{CertificateData}
use Rattle.ngc_certificate.specs.Valid.{IsValid}
use Rattle.ngc_checker.specs.FirstRefusal.{first_refusal}

-- the program has a meaning at both settings of block delete, and the certificate is valid for both
pub record IsValidFor (program : Program) (setup : Setup) (c : CertificateData) : Type 0 where
  pub off : List Command
  pub on : List Command
  pub off_means : meaning program setup false ≡ Ok off
  pub on_means : meaning program setup true ≡ Ok on
  pub off_valid : IsValid setup.machine off c.off
  pub on_valid : IsValid setup.machine on c.on

-- nothing is refused if and only if the certificate is valid for the program
abbrev pub NoneRefusedIsValid : Type 0
NoneRefusedIsValid = (program : Program) (setup : Setup) (c : CertificateData) →
    (first_refusal program setup c ≡ None) ↔ IsValidFor program setup c
