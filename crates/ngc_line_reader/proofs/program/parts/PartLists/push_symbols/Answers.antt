use Rattle.std.proofs.lemmas.Grind.{common_steps}
use Rattle.std.proofs.lemmas.Int.{ints}
use Rattle.std.proofs.Common.{ap, length, length-append, arith}
use Rattle.ngc_line_reader.specs.Tokens.{symbols}
use Rattle.ngc_line_reader.specs.Symbols.{numbers_of}
use Rattle.ngc_line_reader.proofs.KeptSymbols.{few_numbers}
use Rattle.ngc_line_reader.proofs.program.parts.PartLists.push_symbols.Goals as goal

pub overflow_cast-result-3 : goal.overflow_cast-result-3
overflow_cast-result-3 g c =
    let ts = c.view-view.result.tokens.now in
    let size = ap length c.in_ok-keep_numbers.ensures in
    omega (
      arith,
      size,
      few_numbers ts,
      length-append c.args.self.now.numbers.items (numbers_of (symbols ts)),
      c.view-view.result.few_tokens,
      c.len-5.ensures,
      c.len-4.ensures,
      c.in_ok-numbers.ensures,
    )

pub returns : goal.returns
returns g c = grind (arith, ints, common_steps)
