use Rattle.std.proofs.Common.{ap, ◌∙◌, sym}
use Rattle.std.specs.Prelude.{pos}
use Rattle.std.specs.Option.{option_map}
use Rattle.ngc_certificate_text.specs.Number.{negated}
use Rattle.ngc_certificate_text.proofs.BoundedNumbers.{minus_number, plain_number}
use Rattle.ngc_certificate_text.proofs.number.number_in.Goals as goal

pub returns-in-Some : goal.returns-in-Some
returns-in-Some c = c.negative.ensures ∙ ap negated c.decimal_in.ensures.value ∙ minus_number c.args.field.now c.in-Some.digits.now (sym c.in-Some.ensures)

pub returns-in-None : goal.returns-in-None
returns-in-None c = c.positive.ensures ∙ ap (option_map pos) c.decimal_in-in-None.ensures.value ∙ plain_number c.args.field.now (sym c.in-None.ensures)
