use Rattle.std.proofs.Common.{[], ◌∙◌, Bool, ap, cond, sym}
use Rattle.ngc_sentences.proofs.Said.{no_text, says_as}
use Rattle.ngc_report.specs.Marks.{content_by, sentence}
use Rattle.ngc_report.proofs.marks.say_sentence.Goals as goal

pub returns-then-has_phrase : goal.returns-then-has_phrase
unfolding sentence
returns-then-has_phrase g c =
    says_as c.say_content.ensures
    (sym (ap (λ (b : Bool). cond b (content_by c.args.form c.args.fault.now c.args.word.now) []) (sym c.has_phrase.ensures ∙ c.if-has_phrase.true)))

pub returns-else-has_phrase : goal.returns-else-has_phrase
unfolding sentence
returns-else-has_phrase g c =
    says_as (no_text _ _ _)
    (sym (ap (λ (b : Bool). cond b (content_by c.args.form c.args.fault.now c.args.word.now) []) (sym c.has_phrase.ensures ∙ c.if-has_phrase.false)))
