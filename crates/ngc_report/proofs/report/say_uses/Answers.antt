use Rattle.std.proofs.Common.{◌+◌, [], ◌∷◌, List, drop, take, ap, ◌∙◌, refl, arith}
use Rattle.std.proofs.lemmas.List.Concat.{flat_map-append}
use Rattle.ngc_machine_files.specs.Machine.{file_of}
use Rattle.ngc_sentences.proofs.Said.{all_left, less_left}
use Rattle.ngc_report.specs.Forms.{report_text, spelled}
use Rattle.ngc_findings.specs.Nearing.{nearest}
use Rattle.ngc_report.specs.Reports.{near_line, use_lines}
use Rattle.ngc_findings.specs.Uses.{uses_left}
use Rattle.ngc_findings.specs.declared.line.Line.{Line}
use Rattle.ngc_findings.specs.declared.line.Line.TheVariants as lines
use Rattle.ngc_report.proofs.Cuts.{next_use}
use Rattle.ngc_report.proofs.report.say_uses.Goals as goal

pub loop-one-init : goal.loop-one-init
loop-one-init g c = record {
  left = all_left _ _ _ (ap (λ us. report_text c.args.form (use_lines (file_of c.args.machine.now) us (g.M.MotionList.entries c.args.motions.now))) c.new-uses.ensures);
  inside = omega arith;
}

pub loop-one-preserved : goal.loop-one-preserved
loop-one-preserved g c =
    let m = file_of c.args.machine.now in
    let ms = g.M.MotionList.entries c.args.motions.now in
    let end = c.loop-one.first + c.motions_up_to.result in
    let one : List Line = lines.Use c.in-Some.one ∷ near_line m (nearest m c.in-Some.one.tool (drop c.loop-one.first (take end ms))) ∷ [] in
    let later : List Line = use_lines m (uses_left c.next_use.new.self) (drop end ms) in
    let step =
    next_use m (uses_left c.loop-one.uses) c.in-Some.one (uses_left c.next_use.new.self) ms c.loop-one.first c.motions_up_to.result end
    c.in-Some.ensures c.loop-one.invariant.inside (rw c.count.ensures.value at c.motions_up_to.ensures) refl in
    record {
      left =
          less_left (report_text c.args.form one) (report_text c.args.form later)
          (ap (report_text c.args.form) step ∙ flat_map-append (spelled c.args.form) one later)
          c.loop-one.invariant.left (rw (c.near_line.ensures, c.over-nearest.ensures) at c.say_lines.ensures);
      inside = omega (arith, c.motions_up_to.ensures, c.count.ensures.value);
    }
