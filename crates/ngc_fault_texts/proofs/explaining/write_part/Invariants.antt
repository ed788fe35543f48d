use Rattle.std.proofs.Common.{◌≡◌, drop}
use Rattle.ngc_fault_texts.specs.Explanations.{told_in}
use Rattle.ngc_fault_texts.proofs.WrittenProgress.{Reached}
use Rattle.ngc_fault_texts.proofs.explaining.write_part.Given as goal

abbrev pub invariant-loop-row : goal.invariant-loop-row
invariant-loop-row g l = record {
  reached : Reached (g.W.Sink.written l.initial.output) (g.W.Sink.written l.output) (told_in l.number l.part (drop l.row-index l.part.rows.now))
      (told_in l.number l.part l.part.rows.now);
  failures : g.W.Sink.failures l.output ≡ g.W.Sink.failures l.initial.output;
}
