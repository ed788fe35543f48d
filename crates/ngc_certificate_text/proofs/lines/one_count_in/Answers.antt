use Rattle.ngc_certificate_text.specs.Lines.{numbers_in as numbers_said, one_count}
use Rattle.ngc_certificate_text.specs.Clamped.{all_fields}
use Rattle.ngc_certificate_text.proofs.NumbersOutOfRange.{one_clamped, numbers_say, no_numbers_say}
use Rattle.ngc_certificate_text.proofs.lines.one_count_in.Goals as goal

pub returns-in-Some : goal.returns-in-Some
returns-in-Some c = numbers_say one_count one_clamped (numbers_said (all_fields c.args.fields)) c.in-Some.numbers.items c.as_slice.result.now c.one_count.result
    c.in-Some.ensures c.as_slice.ensures.value c.one_count.ensures

pub returns-in-None : goal.returns-in-None
returns-in-None c = no_numbers_say one_count one_clamped (numbers_said (all_fields c.args.fields)) c.in-None.ensures
