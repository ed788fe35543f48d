-- The remaining numbers have the same result as all of them.
use Rattle.std.proofs.Common.{◌≡◌, drop}
use Rattle.ngc_line_reader.proofs.KeptSymbols.{numbers_after}
use Rattle.ngc_line_reader.proofs.program.parts.keep_numbers.Given as goal

abbrev pub invariant-loop-token : goal.invariant-loop-token
invariant-loop-token g l = record {
  numbers : numbers_after l.numbers.items (drop l.token-index l.tokens) ≡ numbers_after l.initial.numbers.items l.tokens;
}
