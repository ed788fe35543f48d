use Rattle.std.proofs.Common.{◌-◌, length, flat_map, arith}
use Rattle.ngc_sentences.proofs.Said.{all_left, less_left, none_left}
use Rattle.ngc_stock.specs.Changes.{changes}
use Rattle.ngc_material_report.specs.Sentences.{change_text, change_line}
use Rattle.ngc_material_report.proofs.Remaining.{first_index, next_text, last_text}
use Rattle.ngc_material_report.proofs.changes.say_changes.Goals as goal

pub loop-command-init : goal.loop-command-init
loop-command-init g c =
    let a = c.args in record {
      few = omega arith;
      text = all_left _ _ _ (first_index a.form a.origin.now a.stock.now a.start.now a.commands.now);
    }

pub loop-command-preserved : goal.loop-command-preserved
loop-command-preserved g c =
    let a = c.args in
    let v = c.loop-command.invariant in
    let e = c.in-Some.ensures.cases.0 in record {
      few = omega (arith, v.few, c.in-Some.ensures.cases.1);
      text = less_left (change_line a.form a.origin.now c.change_at-change.result)
          (flat_map (change_text a.form a.origin.now) (changes a.stock.now c.after-reached.result (length a.commands.now - length c.in-Some.later.now) c.in-Some.later.now))
          (next_text a.form a.origin.now a.stock.now c.loop-command.reached c.after-reached.result a.commands.now c.loop-command.left.now c.in-Some.later.now c.in-Some.command.now
          c.change_at-change.result e v.few c.after-reached.ensures c.change_at-change.ensures)
          v.text c.say_line.ensures;
    }

pub returns : goal.returns
returns g c =
    let a = c.args in
    none_left (last_text a.form a.origin.now a.stock.now c.loop-command.reached (length a.commands.now - length c.loop-command.left.now) c.loop-command.left.now
    c.in_default.ensures.cases) c.loop-command.invariant.text
