use Rattle.std.proofs.Common.{◌≡◌, length, false}
use Rattle.ngc_program_report.specs.FaultTexts.{list_text}
use Rattle.ngc_program_report.proofs.UseTimeLaws.{IsLeft}
use Rattle.ngc_program_report.proofs.fault_writer.write_list.Given as goal

abbrev pub invariant-loop-one : goal.invariant-loop-one
invariant-loop-one g l = record {
  goes : IsLeft (g.W.Sink.written l.initial.output) (g.W.Sink.written l.output) (list_text l.form l.text l.only_on l.others l.earlier l.left)
      (list_text l.form l.text l.only_on l.others false l.initial.left);
  failures : g.W.Sink.failures l.output ≡ g.W.Sink.failures l.initial.output;
}

abbrev pub decreases-loop-one : goal.decreases-loop-one
decreases-loop-one g l = length l.left
