use Rattle.std.proofs.Common.{ℕ, take, ap, ◌∙◌}
use Rattle.ngc_line_reader.proofs.ValueTexts.{digits_are}
use Rattle.ngc_dialect_reader.proofs.number.split_digits.Goals as goal

pub returns-clause-digits : goal.returns-clause-digits
returns-clause-digits c = digits_are _ c.args.s.now (c.split_at.ensures.front ∙ ap (λ (n : ℕ). take n c.args.s.now) c.count_digits-count.ensures.count)
