-- What is said so far and what is left make the whole text.
use Rattle.std.proofs.Common.{◌≡◌, drop, length}
use Rattle.ngc_sentences.proofs.Said.{IsLeft}
use Rattle.ngc_origins.specs.Lines.{lines_from, origin_fact}
use Rattle.ngc_origins.proofs.report_lines.say_origin_facts.Given as goal

abbrev pub invariant-loop-i : goal.invariant-loop-i
invariant-loop-i g l = record {
  left : IsLeft (g.W.Sink.written l.initial.output) (g.W.Sink.written l.output) (g.W.Sink.failures l.initial.output) (g.W.Sink.failures l.output)
      l.initial.page l.page (lines_from origin_fact l.i (drop l.i l.origin-items)) (lines_from origin_fact 0 l.origin-items);
  nine : length l.origin-items ≡ 9;
}
