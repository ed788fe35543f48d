use Rattle.std.proofs.Common.{◌≡◌, drop}
use Rattle.ngc_fault_texts.specs.Explanations.{told}
use Rattle.ngc_fault_texts.proofs.WrittenProgress.{Reached}
use Rattle.ngc_fault_texts.proofs.explaining.write_parts.Given as goal

abbrev pub invariant-loop-part : goal.invariant-loop-part
invariant-loop-part g l = record {
  reached : Reached (g.W.Sink.written l.initial.output) (g.W.Sink.written l.output) (told l.number (drop l.part-index l.parts)) (told l.number l.parts);
  failures : g.W.Sink.failures l.output ≡ g.W.Sink.failures l.initial.output;
}
