use Rattle.std.proofs.Common.{refl, sym, ◌∙◌}
use Rattle.ngc_certificate_text.specs.Lines.{parsed_end}
use Rattle.ngc_certificate_text.proofs.lines.end_line.Goals as goal

pub returns-then-is_text : goal.returns-then-is_text
unfolding parsed_end
returns-then-is_text c = rw (sym c.is_text.ensures ∙ c.if-is_text.true) refl

pub returns-else-is_text : goal.returns-else-is_text
unfolding parsed_end
returns-else-is_text c = rw (sym c.is_text.ensures ∙ c.if-is_text.false) refl
