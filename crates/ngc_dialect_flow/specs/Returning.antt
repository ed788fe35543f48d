-- What the parameters become when a call ends that returns a value, or none (LinuxCNC, "O codes",
-- "Subroutine Called Return Values").
use Rattle.std.specs.Prelude.{ℤ, Option, Result, Ok, codes}
use Rattle.std.specs.Option.{is_some}
use Rattle.ngc_line_reader.specs.Scan.{◌>>=◌}
use Rattle.ngc_dialect_numbers.specs.Numbers.{truth}
use Rattle.ngc_dialect_parameters.specs.declared.fault.StoreFault.{StoreFault}
use Rattle.ngc_dialect_parameters.specs.Stored.{Stored}
use Rattle.ngc_dialect_parameters.specs.Storing.{with_name, left}
use Rattle.ngc_dialect_flow.specs.Words.{or_zero}

-- `_VALUE` and `_VALUE_RETURNED` are set, and the caller's parameters are as they were
abbrev pub returned : Option ℤ → Stored → Result Stored StoreFault
returned value k =
    with_name (codes "_VALUE") (or_zero value) k >>= λ l.
    with_name (codes "_VALUE_RETURNED") (truth (is_some value)) l >>= λ m. Ok (left m)
