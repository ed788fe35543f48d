-- The effect of reading a file on its source, and the numbers of its faults. Our own.
use Rattle.std.specs.Prelude.{◌≡◌, ◌≤◌, ℕ, List, length, Option, Result, Ok, Err}
use Rattle.std.specs.Io.KnownBytes.{Consumes}
use Rattle.ngc_text.specs.Failures.{Rises}
use Rattle.ngc_text.specs.declared.input_fault.InputFault.{InputFault}
use Rattle.ngc_text.specs.declared.input_fault.InputFault.TheVariants.{Memory, Device, TooLong}

-- known bytes lose a prefix of at most `most` bytes
abbrev pub ConsumesAtMost : Option (List ℕ) → Option (List ℕ) → ℕ → Type 0
ConsumesAtMost old new most = (bs : List ℕ) × Consumes old new bs × (length bs ≤ most)

-- the count of failures rises if the result is that the device failed, and stays the same otherwise
abbrev pub FailsByDevice : {T : Type 0} → ℕ → ℕ → Result T InputFault → Type 0
FailsByDevice old new (Ok value) = new ≡ old
FailsByDevice old new (Err Memory) = new ≡ old
FailsByDevice old new (Err Device) = Rises old new
FailsByDevice old new (Err TooLong) = new ≡ old

-- the table of numbers
abbrev pub number_of : InputFault → ℕ
number_of Memory = 900
number_of Device = 901
number_of TooLong = 901
