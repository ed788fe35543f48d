use Rattle.std.proofs.Common.{ℕ, subst, ap, None}
use Rattle.ngc_certificate_text.proofs.CollectedTexts.{longer}
use Rattle.ngc_sentences.proofs.Said.{says_as, through, whole}
use Rattle.ngc_text.specs.Failures.{CountsFailure}
use Rattle.ngc_machine_files.specs.Machine.{file_of}
use Rattle.ngc_report.specs.Forms.{report_text}
use Rattle.ngc_report.specs.Reports.{scene_lines}
use Rattle.ngc_report.proofs.refusals.collect_refused_command.Goals as goal

pub returns-in-Err-clause-told : goal.returns-in-Err-clause-told
returns-in-Err-clause-told g c = longer _ _ _ _ c.in-Err.ensures.fault

pub returns-clause-told : goal.returns-clause-told
returns-clause-told g c =
    let all = whole c.new-page.ensures (says_as c.say_scene.ensures (ap (λ s. report_text c.args.form (scene_lines (file_of c.args.machine.now) c.args.command None s)) c.scene-scene.ensures.scene)) c.finish.ensures in
    through c.finish.result _ _ _ _ _ _ c.in-Ok.ensures.ok c.in-Ok.ensures.empty all.ok all.fault

pub returns-clause-counts : goal.returns-clause-counts
returns-clause-counts g c =
    let all = whole c.new-page.ensures (says_as c.say_scene.ensures (ap (λ s. report_text c.args.form (scene_lines (file_of c.args.machine.now) c.args.command None s)) c.scene-scene.ensures.scene)) c.finish.ensures in
    subst (λ (n : ℕ). CountsFailure n (g.W.Sink.failures c.finish.new.sink) c.finish.result) c.in-Ok.ensures.counts all.counts
