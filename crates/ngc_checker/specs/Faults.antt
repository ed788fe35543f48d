-- The numbers of refusals. Our own.
use Rattle.std.specs.Prelude.{ℕ}
use Rattle.ngc_certificate.specs.Faults.{piece_number}
use Rattle.ngc_certificate_text.specs.Faults.{number_of as text_number}
use Rattle.ngc_checker.specs.declared.check_fault.CheckReadFault.{CheckReadFault}
use Rattle.ngc_checker.specs.declared.check_fault.CheckReadFault.TheVariants.{Certificate, Check}
use Rattle.ngc_checker.specs.declared.fault.CheckFault.{CheckFault}
use Rattle.ngc_checker.specs.declared.fault.CheckFault.TheVariants.{Program, MotionsDiffer, Start}
use Rattle.ngc_checker.specs.declared.fault.CheckFault.TheVariants.{Piece, Divided, ToolChange, Memory}

abbrev pub number_of : CheckFault → ℕ
number_of (Program setting fault) = 311
number_of (MotionsDiffer setting command) = 312
number_of (Start fixture) = 318
number_of (Piece setting command piece fault) = piece_number fault
number_of (Divided setting command) = 319
number_of (ToolChange setting command fixture) = 317
number_of Memory = 900

abbrev pub read_number : CheckReadFault → ℕ
read_number (Certificate fault) = text_number fault
read_number (Check fault) = number_of fault
