use Rattle.ngc_certificate_text.specs.Clamped.{all_fields}
use Rattle.ngc_certificate_text.proofs.EntryWords.{entry_both, entry_off, entry_on, entry_no_word}
use Rattle.ngc_certificate_text.proofs.lines.entry_line.Goals as goal

pub returns-then-is_entry : goal.returns-then-is_entry
returns-then-is_entry c =
    entry_both c.args.left.now c.args.line.now c.split_field.result.0.now (all_fields c.split_field.result.1) c.split_field.ensures.fields
    c.may_be_both.result c.is_entry.result c.may_be_both.ensures c.is_entry.ensures c.three_counts_in.result c.if-is_entry.true c.three_counts_in.ensures

pub returns-then-is_entry-2 : goal.returns-then-is_entry-2
returns-then-is_entry-2 c =
    entry_off c.args.left.now c.args.line.now c.split_field.result.0.now (all_fields c.split_field.result.1) c.split_field.ensures.fields
    c.may_be_both.result c.is_entry.result c.may_be_both.ensures c.is_entry.ensures c.may_be_off.result c.is_entry-else-is_entry.result c.may_be_off.ensures
    c.is_entry-else-is_entry.ensures
    c.two_counts_in.result c.off_entry.result c.if-is_entry.false c.if-is_entry-2.true c.two_counts_in.ensures c.off_entry.ensures

pub returns-then-is_entry-3 : goal.returns-then-is_entry-3
returns-then-is_entry-3 c =
    entry_on c.args.left.now c.args.line.now c.split_field.result.0.now (all_fields c.split_field.result.1) c.split_field.ensures.fields
    c.may_be_both.result c.is_entry.result c.may_be_both.ensures c.is_entry.ensures c.may_be_off.result c.is_entry-else-is_entry.result c.may_be_off.ensures
    c.is_entry-else-is_entry.ensures
    c.may_be_on.result c.is_entry-else-is_entry-2.result c.may_be_on.ensures c.is_entry-else-is_entry-2.ensures
    c.two_counts_in-then-is_entry-3.result c.on_entry.result c.if-is_entry.false c.if-is_entry-2.false c.if-is_entry-3.true
    c.two_counts_in-then-is_entry-3.ensures c.on_entry.ensures

pub returns-else-is_entry-3 : goal.returns-else-is_entry-3
returns-else-is_entry-3 c =
    entry_no_word c.args.left.now c.args.line.now c.split_field.result.0.now (all_fields c.split_field.result.1) c.split_field.ensures.fields
    c.may_be_both.result c.is_entry.result c.may_be_both.ensures c.is_entry.ensures c.may_be_off.result c.is_entry-else-is_entry.result c.may_be_off.ensures
    c.is_entry-else-is_entry.ensures
    c.may_be_on.result c.is_entry-else-is_entry-2.result c.may_be_on.ensures c.is_entry-else-is_entry-2.ensures c.if-is_entry.false c.if-is_entry-2.false
    c.if-is_entry-3.false
