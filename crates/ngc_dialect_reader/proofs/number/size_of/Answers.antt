use Rattle.std.proofs.Common.{◌∙◌, arith}
use Rattle.ngc_dialect_reader.proofs.Rounded.{sized}
use Rattle.ngc_dialect_reader.proofs.number.size_of.Goals as goal

pub returns : goal.returns
returns c = c.limited.ensures ∙ sized c.args.whole.bytes.now c.args.decimals.bytes.now c.args.whole.units c.fraction_of.result _
    c.requires.units (record { value = c.fraction_of.ensures.value; bound = c.fraction_of.ensures.bound }) (omega arith)
