use Rattle.std.proofs.Common.{ap, ◌∙◌}
use Rattle.ngc_certificate_text.specs.Clamped.{all_fields}
use Rattle.ngc_certificate_text.proofs.WordLemmas.{setting_words, setting_no_word, setting_no_name, setting_short}
use Rattle.ngc_certificate_text.proofs.lines.setting_line.Goals as goal

pub returns-in-None : goal.returns-in-None
returns-in-None c = setting_short c.args.name.now c.args.line.now c.split_field.result.0.now (all_fields c.split_field.result.1) c.split_field.ensures.fields
    (ap all_fields c.in-None.is)

pub returns-then-not-is_text : goal.returns-then-not-is_text
returns-then-not-is_text c =
    setting_no_word c.args.name.now c.args.line.now c.split_field.result.0.now
    (all_fields c.split_field.result.1) c.is_text.result c.split_field.ensures.fields c.is_text.ensures c.if-not-is_text.true

pub returns-then-not-is_text-2 : goal.returns-then-not-is_text-2
returns-then-not-is_text-2 c =
    setting_no_name c.args.name.now c.args.line.now c.split_field.result.0.now c.split_field-2.result.0.now (all_fields c.split_field.result.1)
    (all_fields c.split_field-2.result.1) c.is_text-2.result
    c.split_field.ensures.fields (ap all_fields c.in-Some.is ∙ c.split_field-2.ensures.fields) c.is_text-2.ensures c.if-not-is_text-2.true

pub returns : goal.returns
returns c =
    setting_words c.args.name.now c.args.line.now c.split_field.result.0.now c.split_field-2.result.0.now (all_fields c.split_field.result.1)
    (all_fields c.split_field-2.result.1)
    c.is_text.result c.is_text-2.result c.one_count_in.result
    c.split_field.ensures.fields (ap all_fields c.in-Some.is ∙ c.split_field-2.ensures.fields) c.is_text.ensures c.if-not-is_text.false c.is_text-2.ensures
    c.if-not-is_text-2.false c.one_count_in.ensures
