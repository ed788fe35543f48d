use Rattle.ngc_certificate_text.specs.Clamped.{all_fields}
use Rattle.ngc_certificate_text.proofs.WordLemmas.{piece_line_word, piece_arc_word, piece_no_word}
use Rattle.ngc_certificate_text.proofs.lines.piece_line.Goals as goal

pub returns-then-is_text : goal.returns-then-is_text
returns-then-is_text c = piece_line_word c.args.line.now c.split_field.result.0.now
    (all_fields c.split_field.result.1) c.is_text.result c.line_piece_in.result c.split_field.ensures.fields c.is_text.ensures c.if-is_text.true
    c.line_piece_in.ensures

pub returns-then-is_text-2 : goal.returns-then-is_text-2
returns-then-is_text-2 c =
    piece_arc_word c.args.line.now c.split_field.result.0.now (all_fields c.split_field.result.1) c.is_text.result c.is_text-else-is_text.result
    c.arc_piece_in.result
    c.split_field.ensures.fields c.is_text.ensures c.if-is_text.false c.is_text-else-is_text.ensures c.if-is_text-2.true c.arc_piece_in.ensures

pub returns-else-is_text-2 : goal.returns-else-is_text-2
returns-else-is_text-2 c =
    piece_no_word c.args.line.now c.split_field.result.0.now (all_fields c.split_field.result.1) c.is_text.result c.is_text-else-is_text.result
    c.split_field.ensures.fields c.is_text.ensures c.if-is_text.false c.is_text-else-is_text.ensures c.if-is_text-2.false
