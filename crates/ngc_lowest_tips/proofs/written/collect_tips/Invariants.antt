-- What is collected so far, with the texts of the other heights, is the whole.
use Rattle.std.proofs.Common.{◌≡◌, ◌++◌, drop}
use Rattle.ngc_text.specs.Collected.{WritesPrefix}
use Rattle.ngc_lowest_tips.specs.Texts.{tips_text}
use Rattle.ngc_lowest_tips.proofs.written.collect_tips.Given as goal

abbrev pub invariant-loop-tip : goal.invariant-loop-tip
invariant-loop-tip g l = record {
  front : WritesPrefix (g.W.Sink.written l.initial.sink) (g.W.Sink.written l.sink) (l.initial.chunk ++ tips_text l.form l.tips)
      (l.chunk ++ tips_text l.form (drop l.tip-index l.tips));
  failures : g.W.Sink.failures l.sink ≡ g.W.Sink.failures l.initial.sink;
}
