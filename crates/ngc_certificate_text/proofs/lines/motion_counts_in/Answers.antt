use Rattle.ngc_certificate_text.specs.Clamped.{all_fields}
use Rattle.ngc_certificate_text.specs.EntryLines.{motion_counts}
use Rattle.ngc_certificate_text.specs.Lines.{numbers_in as numbers_said}
use Rattle.ngc_certificate_text.proofs.NumbersOutOfRange.{numbers_say, no_numbers_say}
use Rattle.ngc_certificate_text.proofs.EntryWords.{counts_clamped}
use Rattle.ngc_certificate_text.proofs.lines.motion_counts_in.Goals as goal

pub returns-in-Some : goal.returns-in-Some
returns-in-Some c = numbers_say motion_counts counts_clamped (numbers_said (all_fields c.args.fields)) c.in-Some.numbers.items c.as_slice.result.now
    c.motion_counts.result c.in-Some.ensures c.as_slice.ensures.value c.motion_counts.ensures

pub returns-in-None : goal.returns-in-None
returns-in-None c = no_numbers_say motion_counts counts_clamped (numbers_said (all_fields c.args.fields)) c.in-None.ensures
