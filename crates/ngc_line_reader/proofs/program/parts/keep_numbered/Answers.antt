use Rattle.std.proofs.Common.{ap, sym, ◌∙◌, drop}
use Rattle.std.proofs.Math.ListN.{drop_of_length-le}
use Rattle.ngc_line_reader.proofs.NumberWords.{numbered_after, all_numbered}
use Rattle.ngc_line_reader.proofs.program.parts.keep_numbered.Goals as goal

pub returns : goal.returns
returns g c =
    ap (λ ws. numbered_after c.loop-index.numbered.items ws (drop c.loop-index.index c.args.tokens.now)) (sym (drop_of_length-le c.args.words.now c.loop-index-test.false))
    ∙ c.loop-index.invariant.numbered
    ∙ all_numbered c.args.numbered.now.items c.args.words.now c.args.tokens.now
