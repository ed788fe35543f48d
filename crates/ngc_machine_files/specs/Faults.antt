-- The numbers of the faults. Our own.
use Rattle.std.specs.Prelude.{ℕ}
use Rattle.ngc_machine_files.specs.declared.fault.FileFault.{FileFault}
use Rattle.ngc_machine_files.specs.declared.fault.FileFault.TheVariants.{Version, Step, TicksPerSecond}
use Rattle.ngc_machine_files.specs.declared.fault.FileFault.TheVariants.{Rates, Travel, Places, Fixtures}
use Rattle.ngc_machine_files.specs.declared.fault.FileFault.TheVariants.{Stock, Tools, Document, Memory}

abbrev pub number_of : FileFault → ℕ
number_of Version = 261
number_of Step = 262
number_of TicksPerSecond = 263
number_of Rates = 264
number_of Travel = 265
number_of Places = 266
number_of Fixtures = 267
number_of Stock = 267
number_of Tools = 268
number_of Document = 269
number_of Memory = 900
