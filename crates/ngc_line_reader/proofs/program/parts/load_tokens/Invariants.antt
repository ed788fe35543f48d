-- The remaining symbols have the same result as all of them.
use Rattle.std.proofs.Common.{◌≡◌, ◌≤◌, [], drop, length}
use Rattle.ngc_line_reader.specs.Tokens.{symbols}
use Rattle.ngc_line_reader.proofs.KeptSymbols.{loaded_after}
use Rattle.ngc_line_reader.proofs.program.parts.load_tokens.Given as goal

abbrev pub invariant-loop-kind : goal.invariant-loop-kind
invariant-loop-kind l = record {
  symbols : loaded_after (symbols l.tokens.items) (drop l.kind-index l.kinds) l.rest ≡ loaded_after [] l.kinds l.numbers;
  count : length l.tokens.items ≤ l.kind-index;
}
