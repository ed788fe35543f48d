use Rattle.std.proofs.Common.{ap, sym, ◌∙◌}
use Rattle.ngc_dialect_rules.specs.declared.front.Known.{Known}
use Rattle.ngc_dialect_rules.specs.Rules.{plain_lines}
use Rattle.ngc_dialect_execution.proofs.Passing.{words_go_on}
use Rattle.ngc_dialect_execution.proofs.words.WordInterpreter.take_planned_words.Goals as goal

pub returns-else-is_some : goal.returns-else-is_some
returns-else-is_some g c =
    words_go_on _ _ _ _ _ _ _ _ (ap (λ (k : Known). plain_lines k c.args.words.now) (sym c.known-known.ensures) ∙ c.in-Ok.ensures)
    c.is_some.ensures c.if-is_some.false c.take_made.ensures
