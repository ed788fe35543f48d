use Rattle.std.proofs.Common.{◌≡◌, arith}
use Rattle.std.proofs.lemmas.Bool.Decides.{nat_tests}
use Rattle.ngc_line_reader.specs.Numbers.{digits_value}
use Rattle.ngc_line_reader.specs.ScanLine.{line_number_at}
use Rattle.ngc_line_reader.proofs.Rounded.{few_units}
use Rattle.ngc_line_reader.proofs.line.reading.line_number_at.Goals as goal

pub overflow_cast-result : goal.overflow_cast-result
overflow_cast-result c =
    let few = few_units c.split_digits.result.0.bytes.now c.split_digits.result.0.units c.split_digits.ensures.digits
    (omega arith) c.split_digits.ensures.units in
    omega (arith, few.1)

pub returns-clause-reads : goal.returns-clause-reads
unfolding line_number_at
returns-clause-reads c =
    let few = few_units c.split_digits.result.0.bytes.now c.split_digits.result.0.units c.split_digits.ensures.digits
    (omega arith) c.split_digits.ensures.units in
    let value : c.split_digits.result.0.units ≡ digits_value c.split_digits.result.0.bytes.now = few.0 in
    grind (arith, nat_tests)
