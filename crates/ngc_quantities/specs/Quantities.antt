-- Texts of one quantity. Lengths are in nanometres, speeds in nanometres per minute, accelerations in
-- nanometres per second squared, turning is in millionths of a turn per minute. Our own.
use Rattle.std.specs.Prelude.{ℕ, ℤ, pos, unsigned_abs, nat_lt, int_lt, List, length, Option, None, Result, Ok}
use Rattle.std.specs.Prelude.{if◌then◌else◌}
use Rattle.ngc_quantities.specs.declared.fault.Cause.TheVariants as causes
use Rattle.ngc_quantities.specs.declared.fault.Fault.{Fault}
use Rattle.ngc_quantities.specs.declared.unit.Ending.{Ending}
use Rattle.ngc_quantities.specs.declared.unit.Ending.TheVariants as endings
use Rattle.ngc_quantities.specs.declared.unit.Kind.{Kind}
use Rattle.ngc_quantities.specs.declared.unit.Kind.TheVariants as kinds
use Rattle.ngc_quantities.specs.declared.unit.Unit.{Unit}
use Rattle.ngc_quantities.specs.declared.written.Wanted.{Wanted}
use Rattle.ngc_quantities.specs.declared.written.Whole.{Whole}
use Rattle.ngc_quantities.specs.Numbers.{and_then}
use Rattle.ngc_quantities.specs.Sums.{sum_in}
use Rattle.ngc_quantities.specs.Written.{fault, whole_in}

-- a text has at most 256 bytes
abbrev pub short_length : List ℕ → Result ℕ Fault
short_length text =
    if nat_lt 256 (length text) then fault 257 causes.LongText else Ok (length text)

-- a kind, the unit that counts if there is none, and what is to follow the unit
abbrev pub wanted_of : Kind → Option Unit → Ending → Wanted
wanted_of kind otherwise ending = record { kind = kind; otherwise = otherwise; ending = ending }

abbrev pub not_negative : Whole → Result Whole Fault
not_negative w = if int_lt w.amount (pos 0) then fault w.column causes.Negative else Ok w

-- the amount of a kind of which there is none below zero
abbrev pub unsigned_in : Kind → Option Unit → ℕ → List ℕ → Result Whole Fault
unsigned_in kind otherwise at text =
    and_then (whole_in (wanted_of kind otherwise endings.Nothing) at text) not_negative

-- the amount of a kind that a text says, whose first byte is in column at + 1. If it names no unit,
-- the other unit counts. A length may be a sum, and below zero
abbrev pub amount_in : Kind → Option Unit → ℕ → List ℕ → Result Whole Fault
amount_in kinds.Length otherwise at text = sum_in otherwise at text
amount_in kind otherwise at text = unsigned_in kind otherwise at text

-- the amount of a kind that a whole text says
abbrev pub amount_of : Kind → List ℕ → Result ℤ Fault
amount_of kind text =
    and_then (short_length text) (λ _.
    and_then (amount_in kind None 0 text) (λ w.
    Ok w.amount))

-- that of a kind of which there is none below zero
abbrev pub one_size : Kind → List ℕ → Result ℕ Fault
one_size kind text = and_then (amount_of kind text) (λ amount. Ok (unsigned_abs amount))

abbrev pub length_of : List ℕ → Result ℤ Fault
length_of text = amount_of kinds.Length text

abbrev pub speed_of : List ℕ → Result ℕ Fault
speed_of text = one_size kinds.Speed text

abbrev pub acceleration_of : List ℕ → Result ℕ Fault
acceleration_of text = one_size kinds.Acceleration text

abbrev pub turning_of : List ℕ → Result ℕ Fault
turning_of text = one_size kinds.Turning text
