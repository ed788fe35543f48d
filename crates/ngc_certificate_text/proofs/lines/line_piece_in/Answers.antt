use Rattle.ngc_certificate_text.specs.Lines.{numbers_in as numbers_said, line_piece}
use Rattle.ngc_certificate_text.specs.Clamped.{all_fields}
use Rattle.ngc_certificate_text.proofs.NumbersOutOfRange.{line_clamped, numbers_say, no_numbers_say}
use Rattle.ngc_certificate_text.proofs.lines.line_piece_in.Goals as goal

pub returns-in-Some : goal.returns-in-Some
returns-in-Some c = numbers_say line_piece line_clamped (numbers_said (all_fields c.args.fields)) c.in-Some.numbers.items c.as_slice.result.now
    c.line_piece.result c.in-Some.ensures c.as_slice.ensures.value c.line_piece.ensures

pub returns-in-None : goal.returns-in-None
returns-in-None c = no_numbers_say line_piece line_clamped (numbers_said (all_fields c.args.fields)) c.in-None.ensures
