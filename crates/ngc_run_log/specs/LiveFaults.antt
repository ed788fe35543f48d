-- The numbers of the faults of a live run. Our own.
use Rattle.std.specs.Prelude.{ℕ}
use Rattle.ngc_events.specs.Faults.{number_of}
use Rattle.ngc_run_log.specs.declared.live_fault.LiveFault.{LiveFault}
use Rattle.ngc_run_log.specs.declared.live_fault.LiveFault.TheVariants.{Events, Read, Write}

abbrev pub live_number : LiveFault → ℕ
live_number (Events fault) = number_of fault
live_number Read = 901
live_number (Write fault) = 902
