use Rattle.ngc_certificate_text.specs.Clamped.{all_fields}
use Rattle.ngc_certificate_text.specs.EntryLines.{three_counts}
use Rattle.ngc_certificate_text.specs.Lines.{numbers_in as numbers_said}
use Rattle.ngc_certificate_text.proofs.NumbersOutOfRange.{numbers_say, no_numbers_say}
use Rattle.ngc_certificate_text.proofs.EntryWords.{three_clamped}
use Rattle.ngc_certificate_text.proofs.lines.three_counts_in.Goals as goal

pub returns-in-Some : goal.returns-in-Some
returns-in-Some c = numbers_say three_counts three_clamped (numbers_said (all_fields c.args.fields)) c.in-Some.numbers.items c.as_slice.result.now
    c.three_counts.result c.in-Some.ensures c.as_slice.ensures.value c.three_counts.ensures

pub returns-in-None : goal.returns-in-None
returns-in-None c = no_numbers_say three_counts three_clamped (numbers_said (all_fields c.args.fields)) c.in-None.ensures
