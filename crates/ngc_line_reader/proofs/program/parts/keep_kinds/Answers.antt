use Rattle.std.proofs.Common.{ap, sym, ◌∙◌}
use Rattle.std.proofs.Math.ListN.{drop_of_length-le}
use Rattle.ngc_line_reader.proofs.KeptSymbols.{kinds_after, all_kinds}
use Rattle.ngc_line_reader.proofs.program.parts.keep_kinds.Goals as goal

pub returns : goal.returns
returns g c =
    ap (λ ts. kinds_after c.loop-token.kinds.items ts) (sym (drop_of_length-le c.args.tokens.now c.loop-token-test.false))
    ∙ c.loop-token.invariant.kinds
    ∙ all_kinds c.args.kinds.now.items c.args.tokens.now
