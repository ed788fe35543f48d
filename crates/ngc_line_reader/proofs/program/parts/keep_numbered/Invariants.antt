-- The remaining words have the same result as all of them.
use Rattle.std.proofs.Common.{◌≡◌, drop}
use Rattle.ngc_line_reader.proofs.NumberWords.{numbered_after}
use Rattle.ngc_line_reader.proofs.program.parts.keep_numbered.Given as goal

abbrev pub invariant-loop-index : goal.invariant-loop-index
invariant-loop-index g l = record {
  numbered : numbered_after l.numbered.items (drop l.index l.words) (drop l.index l.tokens) ≡ numbered_after l.initial.numbered.items l.words l.tokens;
}
