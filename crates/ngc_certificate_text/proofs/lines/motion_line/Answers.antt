use Rattle.ngc_certificate_text.specs.Clamped.{all_fields}
use Rattle.ngc_certificate_text.proofs.WordLemmas.{motion_word, motion_not_word}
use Rattle.ngc_certificate_text.proofs.lines.motion_line.Goals as goal

pub returns-then-is_text : goal.returns-then-is_text
returns-then-is_text c = motion_word c.args.line.now c.split_field.result.0.now
    (all_fields c.split_field.result.1) c.is_text.result c.two_counts_in.result c.split_field.ensures.fields c.is_text.ensures c.if-is_text.true
    c.two_counts_in.ensures

pub returns-else-is_text : goal.returns-else-is_text
returns-else-is_text c = motion_not_word c.args.line.now c.split_field.result.0.now
    (all_fields c.split_field.result.1) c.is_text.result c.split_field.ensures.fields c.is_text.ensures c.if-is_text.false
