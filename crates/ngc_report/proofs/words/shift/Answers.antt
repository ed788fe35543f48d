use Rattle.std.proofs.Common.{◌≡◌, ◌*◌, ◌/◌, ◌%◌, ap, ◌∙◌, arith}
use Rattle.ngc_text.specs.Millimetres.{number_text}
use Rattle.ngc_report.specs.Words.{shift_text, thousandths_text}
use Rattle.ngc_report.proofs.words.shift.Goals as goal

pub returns : goal.returns
unfolding shift_text
returns c =
    let n = c.div_ceil.result in
    let e : 1000 * (n % 1000) ≡ n % 1000 * 1000 = omega arith in
    ap (number_text (n / 1000)) e ∙ ap thousandths_text c.div_ceil.ensures
