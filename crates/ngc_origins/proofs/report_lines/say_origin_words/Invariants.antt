-- What is said so far and what is left make the whole text.
use Rattle.std.proofs.Common.{◌≡◌, drop, length}
use Rattle.ngc_sentences.proofs.Said.{IsLeft}
use Rattle.ngc_origins.specs.Lines.{lines_from, origin_words}
use Rattle.ngc_origins.proofs.report_lines.say_origin_words.Given as goal

abbrev pub invariant-loop-i : goal.invariant-loop-i
invariant-loop-i g l = record {
  left : IsLeft (g.W.Sink.written l.initial.output) (g.W.Sink.written l.output) (g.W.Sink.failures l.initial.output) (g.W.Sink.failures l.output)
      l.initial.page l.page (lines_from origin_words l.i (drop l.i l.origin-items)) (lines_from origin_words 0 l.origin-items);
  nine : length l.origin-items ≡ 9;
}
