use Rattle.ngc_certificate_text.specs.Clamped.{all_fields}
use Rattle.ngc_certificate_text.proofs.EntryWords.{counts_word, counts_not_word}
use Rattle.ngc_certificate_text.proofs.lines.counts_line.Goals as goal

pub returns-then-is_text : goal.returns-then-is_text
returns-then-is_text c = counts_word c.args.line.now c.split_field.result.0.now
    (all_fields c.split_field.result.1) c.is_text.result c.motion_counts_in.result c.split_field.ensures.fields c.is_text.ensures c.if-is_text.true
    c.motion_counts_in.ensures

pub returns-else-is_text : goal.returns-else-is_text
returns-else-is_text c = counts_not_word c.args.line.now c.split_field.result.0.now
    (all_fields c.split_field.result.1) c.is_text.result c.split_field.ensures.fields c.is_text.ensures c.if-is_text.false
