use Rattle.std.proofs.Common.{ap, sym, ◌∙◌, []}
use Rattle.std.proofs.Math.ListN.{drop_of_length-le}
use Rattle.ngc_line_reader.specs.Tokens.{symbols}
use Rattle.ngc_line_reader.proofs.KeptSymbols.{loaded_after, all_loaded}
use Rattle.ngc_line_reader.proofs.program.parts.load_tokens.Goals as goal

pub returns : goal.returns
returns c =
    ap (λ ks. loaded_after (symbols c.loop-kind.tokens.items) ks c.loop-kind.rest.now) (sym (drop_of_length-le c.args.kinds.now c.loop-kind-test.false))
    ∙ c.loop-kind.invariant.symbols
    ∙ all_loaded [] c.args.kinds.now c.args.numbers.now
