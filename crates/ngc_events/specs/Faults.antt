-- The numbers of refused events and of the faults of an events file. Our own.
use Rattle.std.specs.Prelude.{ℕ}
use Rattle.ngc_events.specs.declared.event_fault.EventFault.{EventFault}
use Rattle.ngc_events.specs.declared.event_fault.EventFault.TheVariants.{OverrideTooLarge, RingFull}
use Rattle.ngc_events.specs.declared.event_fault.EventFault.TheVariants.{AllLoaded}
use Rattle.ngc_events.specs.declared.fault.EventsFault.{EventsFault}
use Rattle.ngc_events.specs.declared.fault.EventsFault.TheVariants.{BadLine, TooManyLines, Memory}

abbrev pub number_of : EventsFault → ℕ
number_of (BadLine _) = 711
number_of TooManyLines = 712
number_of Memory = 900

abbrev pub event_fault_number : EventFault → ℕ
event_fault_number OverrideTooLarge = 701
event_fault_number RingFull = 702
event_fault_number AllLoaded = 703
