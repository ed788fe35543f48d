-- The remaining kinds have the same result as all of them.
use Rattle.std.proofs.Common.{◌≡◌, drop}
use Rattle.ngc_line_reader.proofs.KeptSymbols.{kinds_after}
use Rattle.ngc_line_reader.proofs.program.parts.keep_kinds.Given as goal

abbrev pub invariant-loop-token : goal.invariant-loop-token
invariant-loop-token g l = record {
  kinds : kinds_after l.kinds.items (drop l.token-index l.tokens) ≡ kinds_after l.initial.kinds.items l.tokens;
}
