use Rattle.std.proofs.Common.{refl, ◌∙◌}
use Rattle.ngc_line_reader.proofs.Rounded.{sized}
use Rattle.ngc_line_reader.proofs.number.value_of.Goals as goal

pub returns : goal.returns
returns c = c.signed_value.ensures ∙ sized c.args.negative c.args.whole.bytes.now c.args.decimals.bytes.now c.args.whole.units c.millionths_of.result _
    c.requires.units (record { value = c.millionths_of.ensures.value; bound = c.millionths_of.ensures.bound }) refl
