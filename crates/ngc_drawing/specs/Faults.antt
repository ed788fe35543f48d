-- The faults of drawing. Our own.
use Rattle.std.specs.Prelude.{◌≡◌, ℕ, Result, Ok, Err}
use Rattle.ngc_text.specs.Failures.{Rises}
use Rattle.ngc_drawing.specs.declared.fault.DrawFault.{DrawFault}
use Rattle.ngc_drawing.specs.declared.fault.DrawFault.TheVariants.{Memory, Write}

abbrev pub number_of : DrawFault → ℕ
number_of Memory = 900
number_of Write = 902

-- the sink's count increases with a failed write, and is unchanged otherwise
abbrev pub CountsUnlessMemory : ℕ → ℕ → Result (Unit {0}) DrawFault → Type 0
CountsUnlessMemory old new (Ok u) = new ≡ old
CountsUnlessMemory old new (Err Memory) = new ≡ old
CountsUnlessMemory old new (Err Write) = Rises old new
