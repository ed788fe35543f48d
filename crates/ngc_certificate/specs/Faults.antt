-- The numbers of refusals. Our own.
use Rattle.std.specs.Prelude.{ℕ}
use Rattle.ngc_certificate.specs.declared.fault.MakeFault.{MakeFault}
use Rattle.ngc_certificate.specs.declared.fault.MakeFault.TheVariants.{NotCleared, Memory}
use Rattle.ngc_certificate.specs.declared.fault.PieceFault.{PieceFault}
use Rattle.ngc_certificate.specs.declared.fault.PieceFault.TheVariants.{Chain, NotCovered}
use Rattle.ngc_certificate.specs.declared.fault.PieceFault.TheVariants.{OutsideTravel, MeetsFixture}

abbrev pub piece_number : PieceFault → ℕ
piece_number Chain = 313
piece_number NotCovered = 314
piece_number OutsideTravel = 315
piece_number (MeetsFixture fixture) = 316

abbrev pub make_number : MakeFault → ℕ
make_number (NotCleared setting command) = 304
make_number Memory = 900
