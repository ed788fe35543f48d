use Rattle.std.proofs.Common.{◌≡◌, drop}
use Rattle.ngc_fault_texts.specs.Explanations.{all_of}
use Rattle.ngc_fault_texts.proofs.WrittenProgress.{Reached}
use Rattle.ngc_fault_texts.proofs.explaining.write_texts.Given as goal

abbrev pub invariant-loop-text : goal.invariant-loop-text
invariant-loop-text g l = record {
  reached : Reached (g.W.Sink.written l.initial.output) (g.W.Sink.written l.output) (all_of (drop l.text-index l.texts)) (all_of l.texts);
  failures : g.W.Sink.failures l.output ≡ g.W.Sink.failures l.initial.output;
}
