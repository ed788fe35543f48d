use Rattle.ngc_plain_text.proofs.Lengths.{value_counted}
use Rattle.ngc_plain_text.proofs.length.value_length.Goals as goal

pub returns-clause-value : goal.returns-clause-value
returns-clause-value c =
    value_counted c.args.value c.millionths_of-size.result c.sign_length.result c.digits_length.result c.decimals_length.result
    c.millionths_of-size.ensures.size c.sign_length.ensures.value
    c.digits_length.ensures.value c.decimals_length.ensures.value c.decimals_length.ensures.few
