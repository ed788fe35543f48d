use Rattle.std.proofs.Common.{[], refl, ◌∙◌, arith}
use Rattle.ngc_line_reader.proofs.Rounded.{sized}
use Rattle.ngc_line_reader.proofs.number.whole_value.Goals as goal

pub returns : goal.returns
returns c = c.signed_value.ensures ∙ sized c.args.negative c.args.whole.bytes.now [] c.args.whole.units 0 _
    c.requires (record { value = refl; bound = omega arith }) (omega arith)
