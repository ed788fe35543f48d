-- In a file with rates each travel ends within 1,000 mm of zero. Our own.
use Rattle.std.specs.Prelude.{◌≡◌, Ok, false}
use Rattle.ngc_machine_maker.specs.declared.figures.Figures.{Figures}
use Rattle.ngc_machine_maker.specs.declared.numbers.MachineNumbers.{MachineNumbers}
use Rattle.ngc_machine_maker.specs.InFile.{AreNear}
use Rattle.ngc_machine_maker.specs.Numbers.{numbers_of}

abbrev pub NearNumbers : Type 0
NearNumbers = (f : Figures) (n : MachineNumbers) → f.far ≡ false → numbers_of f ≡ Ok n → AreNear n
