use Rattle.std.proofs.Common.{ap, sym, ◌∙◌}
use Rattle.std.proofs.Math.ListN.{drop_of_length-le}
use Rattle.ngc_line_reader.proofs.KeptSymbols.{numbers_after, all_numbers}
use Rattle.ngc_line_reader.proofs.program.parts.keep_numbers.Goals as goal

pub returns : goal.returns
returns g c =
    ap (λ ts. numbers_after c.loop-token.numbers.items ts) (sym (drop_of_length-le c.args.tokens.now c.loop-token-test.false))
    ∙ c.loop-token.invariant.numbers
    ∙ all_numbers c.args.numbers.now.items c.args.tokens.now
