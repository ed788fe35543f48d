use Rattle.ngc_certificate_text.specs.Lines.{numbers_in as numbers_said, arc_piece}
use Rattle.ngc_certificate_text.specs.Clamped.{all_fields}
use Rattle.ngc_certificate_text.proofs.NumbersOutOfRange.{arc_clamped, numbers_say, no_numbers_say}
use Rattle.ngc_certificate_text.proofs.lines.arc_piece_in.Goals as goal

pub returns-in-Some : goal.returns-in-Some
returns-in-Some c = numbers_say arc_piece arc_clamped (numbers_said (all_fields c.args.fields)) c.in-Some.numbers.items c.as_slice.result.now c.arc_piece.result
    c.in-Some.ensures c.as_slice.ensures.value c.arc_piece.ensures

pub returns-in-None : goal.returns-in-None
returns-in-None c = no_numbers_say arc_piece arc_clamped (numbers_said (all_fields c.args.fields)) c.in-None.ensures
