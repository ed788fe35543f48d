use Rattle.std.proofs.Common.{Bool, cond, ap, sym, ◌∙◌}
use Rattle.std.specs.Prelude.{codes}
use Rattle.ngc_sentences.proofs.Said.{says_as}
use Rattle.ngc_tool_figures.specs.Texts.{speeds_words}
use Rattle.ngc_tool_figures.proofs.spelling.say_spindle.Goals as goal

pub returns-then-is_off : goal.returns-then-is_off
returns-then-is_off g c =
    says_as c.say.ensures
    (sym (ap (λ (b : Bool). cond b (codes " spindle off,") (speeds_words c.args.feeding.now)) (sym c.is_off.ensures ∙ c.if-is_off.true)))
