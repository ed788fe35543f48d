use Rattle.std.proofs.Common.{◌-◌, ◌≤◌, length, flat_map}
use Rattle.ngc_sentences.proofs.Said.{IsLeft}
use Rattle.ngc_stock.specs.Changes.{changes}
use Rattle.ngc_material_report.specs.Sentences.{change_text, changes_text}
use Rattle.ngc_material_report.proofs.changes.say_changes.Given as goal

abbrev pub invariant-loop-command : goal.invariant-loop-command
invariant-loop-command g l = record {
  few : length l.left ≤ length l.commands;
  text : IsLeft (g.W.Sink.written l.initial.output) (g.W.Sink.written l.output) (g.W.Sink.failures l.initial.output) (g.W.Sink.failures l.output)
      l.initial.page l.page (flat_map (change_text l.form l.origin) (changes l.stock l.reached (length l.commands - length l.left) l.left))
      (changes_text l.form l.origin l.stock l.start l.commands);
}

abbrev pub decreases-loop-command : goal.decreases-loop-command
decreases-loop-command g l = length l.left
