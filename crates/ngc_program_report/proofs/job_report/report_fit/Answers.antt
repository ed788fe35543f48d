use Rattle.std.proofs.Common.{◌≡◌, true, false, sym, subst, ◌∙◌}
use Rattle.std.specs.Prelude.{is_some}
use Rattle.ngc_certificate.specs.PlannedBy.{planned_by}
use Rattle.ngc_certificate.specs.Plans.{both_planned, plan_at}
use Rattle.ngc_certificate_text.specs.Certificate.{AreEntries}
use Rattle.ngc_certificate_text.specs.declared.piece.Setting.TheVariants.{Off, On}
use Rattle.ngc_job.specs.Job.{commands_in}
use Rattle.ngc_program_report.specs.Framed.{framed_in}
use Rattle.ngc_program_report.specs.JobReports.{FailsByWriting, IsFitText, Prints}
use Rattle.ngc_report.specs.declared.report_fault.ReportFault.TheVariants as faults
use Rattle.ngc_program_report.specs.Reported.{reported}
use Rattle.ngc_program_report.specs.Texts.{findings}
use Rattle.ngc_program_report.proofs.JobTexts.{fit_both, fit_once, walked_as, found_off, found_on, planned_as}
use Rattle.ngc_program_report.proofs.MemoryLaws.{memory_counts, memory_tells}
use Rattle.ngc_report.proofs.Converted.{turned}
use Rattle.ngc_program_report.proofs.job_report.report_fit.Goals as goal

pub motions_at-motions-requires : goal.motions_at-motions-requires
motions_at-motions-requires g c =
    record {
      are = subst AreEntries (sym (planned_as c.args.framed.job c.in_ok-off_time.accepted false (plan_at Off c.args.plans.now)
          (c.in_ok-off_time.ensures.back ∙ c.accept-accepted.ensures))) c.requires.off_are;
    }

pub motions_at-off_motions-requires : goal.motions_at-off_motions-requires
motions_at-off_motions-requires g c =
    record {
      are = subst AreEntries (sym (planned_as c.args.framed.job c.in_ok-on_time.accepted false (plan_at Off c.args.plans.now)
          (c.in_ok-on_time.ensures.back ∙ c.in_ok-off_time.ensures.back ∙ c.accept-accepted.ensures))) c.requires.off_are;
    }

pub motions_at-on_motions-requires : goal.motions_at-on_motions-requires
motions_at-on_motions-requires g c =
    record {
      are = subst AreEntries (sym (planned_as c.args.framed.job c.in_ok-on_time.accepted true (plan_at On c.args.plans.now)
          (c.in_ok-on_time.ensures.back ∙ c.in_ok-off_time.ensures.back ∙ c.accept-accepted.ensures))) c.requires.on_are;
    }

pub returns-then-not-apart-clause-tells : goal.returns-then-not-apart-clause-tells
returns-then-not-apart-clause-tells g c =
    let f = c.args.framed in
    let j = f.job in
    let said = both_planned j.machine.step j.off (commands_in true j) c.args.plans.now in
    let none : is_some j.on ≡ false = sym c.has_deleted_lines-apart.ensures ∙ c.if-not-apart.true in
    let is = c.in_ok-off_time.ensures.back ∙ c.accept-accepted.ensures in (
      _,
      fit_once f said c.args.request.now.form c.args.request.now.origins c.args.request.now.cells c.in_ok-off_time.accepted (planned_by c.motions_at-motions.result) (findings c.in_ok-off_time.off_time c.in_ok-material.material)
          (reported c.args.text.now) none is
          (c.motions_at-motions.ensures ∙ planned_as j c.in_ok-off_time.accepted false (plan_at Off c.args.plans.now) is)
          (found_off c.args.request.now.cells (reported c.args.text.now).figures.tools c.accept-accepted.result j (findings c.in_ok-off_time.off_time c.in_ok-material.material) c.accept-accepted.ensures (record {
            lasts = c.in_ok-off_time.ensures.lasts;
            walked = walked_as _ _ _ _ _ false c.in_ok-off_time.ensures.back (rw c.limits_in-table.ensures at c.in_ok-material.ensures.walked);
          })),
      c.in_ok-write_once.ensures.ok,
    )

pub returns-in_err-write_once-clause-tells : goal.returns-in_err-write_once-clause-tells
returns-in_err-write_once-clause-tells g c =
    let f = c.args.framed in
    let j = f.job in
    let said = both_planned j.machine.step j.off (commands_in true j) c.args.plans.now in
    let none : is_some j.on ≡ false = sym c.has_deleted_lines-apart.ensures ∙ c.if-not-apart.true in
    let is = c.in_ok-off_time.ensures.back ∙ c.accept-accepted.ensures in
    turned _ (faults.Write c.in_err-write_once.field-0.0)
    (λ r. Prints (IsFitText (framed_in c.args.framed) said c.args.request.now.form c.args.request.now.origins c.args.request.now.cells (reported c.args.text.now)) (g.W.Sink.written c.args.output.now)
    (g.W.Sink.written c.write_once.new.output) r)
    c.from_residual-in_err-write_once.ensures.1 (
      _,
      fit_once f said c.args.request.now.form c.args.request.now.origins c.args.request.now.cells c.in_ok-off_time.accepted (planned_by c.motions_at-motions.result) (findings c.in_ok-off_time.off_time c.in_ok-material.material)
          (reported c.args.text.now) none is
          (c.motions_at-motions.ensures ∙ planned_as j c.in_ok-off_time.accepted false (plan_at Off c.args.plans.now) is)
          (found_off c.args.request.now.cells (reported c.args.text.now).figures.tools c.accept-accepted.result j (findings c.in_ok-off_time.off_time c.in_ok-material.material) c.accept-accepted.ensures (record {
            lasts = c.in_ok-off_time.ensures.lasts;
            walked = walked_as _ _ _ _ _ false c.in_ok-off_time.ensures.back (rw c.limits_in-table.ensures at c.in_ok-material.ensures.walked);
          })),
      c.in_err-write_once.ensures.fault,
    )

pub returns-clause-tells : goal.returns-clause-tells
returns-clause-tells g c =
    let f = c.args.framed in
    let j = f.job in
    let said = both_planned j.machine.step j.off (commands_in true j) c.args.plans.now in
    let some : true ≡ is_some j.on = sym c.if-not-apart.false ∙ c.has_deleted_lines-apart.ensures in
    let before = c.in_ok-off_time.ensures.back ∙ c.accept-accepted.ensures in
    let is = c.in_ok-on_time.ensures.back ∙ before in (
      _,
      fit_both f c.frames_or-on_history.result.now said c.args.request.now.form c.args.request.now.origins c.args.request.now.cells c.in_ok-on_time.accepted
          (planned_by c.motions_at-off_motions.result) (planned_by c.motions_at-on_motions.result) (findings c.in_ok-off_time.off_time c.in_ok-off_material.off_material)
          (findings c.in_ok-on_time.on_time c.in_ok-on_material.on_material)
          (reported c.args.text.now) some is
          (c.motions_at-off_motions.ensures ∙ planned_as j c.in_ok-on_time.accepted false (plan_at Off c.args.plans.now) is)
          (c.motions_at-on_motions.ensures ∙ planned_as j c.in_ok-on_time.accepted true (plan_at On c.args.plans.now) is)
          (found_off c.args.request.now.cells (reported c.args.text.now).figures.tools c.accept-accepted.result j (findings c.in_ok-off_time.off_time c.in_ok-off_material.off_material) c.accept-accepted.ensures (record {
            lasts = c.in_ok-off_time.ensures.lasts;
            walked = walked_as _ _ _ _ _ false (c.in_ok-on_time.ensures.back ∙ c.in_ok-off_time.ensures.back) (rw c.limits_in-table.ensures at c.in_ok-off_material.ensures.walked);
          }))
          (found_on c.args.request.now.cells (reported c.args.text.now).figures.tools c.in_ok-off_time.accepted j (findings c.in_ok-on_time.on_time c.in_ok-on_material.on_material) before (record {
            lasts = c.in_ok-on_time.ensures.lasts;
            walked = walked_as _ _ _ _ _ true c.in_ok-on_time.ensures.back (rw c.limits_in-table.ensures at c.in_ok-on_material.ensures.walked);
          }))
          c.frames_or-on_history.ensures,
      c.in_ok-write_both.ensures.ok,
    )

pub returns-in_err-write_both-clause-tells : goal.returns-in_err-write_both-clause-tells
returns-in_err-write_both-clause-tells g c =
    let f = c.args.framed in
    let j = f.job in
    let said = both_planned j.machine.step j.off (commands_in true j) c.args.plans.now in
    let some : true ≡ is_some j.on = sym c.if-not-apart.false ∙ c.has_deleted_lines-apart.ensures in
    let before = c.in_ok-off_time.ensures.back ∙ c.accept-accepted.ensures in
    let is = c.in_ok-on_time.ensures.back ∙ before in
    turned _ (faults.Write c.in_err-write_both.field-0.0)
    (λ r. Prints (IsFitText (framed_in c.args.framed) said c.args.request.now.form c.args.request.now.origins c.args.request.now.cells (reported c.args.text.now)) (g.W.Sink.written c.args.output.now)
    (g.W.Sink.written c.write_both.new.output) r)
    c.from_residual-in_err-write_both.ensures.1 (
      _,
      fit_both f c.frames_or-on_history.result.now said c.args.request.now.form c.args.request.now.origins c.args.request.now.cells c.in_ok-on_time.accepted
          (planned_by c.motions_at-off_motions.result) (planned_by c.motions_at-on_motions.result) (findings c.in_ok-off_time.off_time c.in_ok-off_material.off_material)
          (findings c.in_ok-on_time.on_time c.in_ok-on_material.on_material)
          (reported c.args.text.now) some is
          (c.motions_at-off_motions.ensures ∙ planned_as j c.in_ok-on_time.accepted false (plan_at Off c.args.plans.now) is)
          (c.motions_at-on_motions.ensures ∙ planned_as j c.in_ok-on_time.accepted true (plan_at On c.args.plans.now) is)
          (found_off c.args.request.now.cells (reported c.args.text.now).figures.tools c.accept-accepted.result j (findings c.in_ok-off_time.off_time c.in_ok-off_material.off_material) c.accept-accepted.ensures (record {
            lasts = c.in_ok-off_time.ensures.lasts;
            walked = walked_as _ _ _ _ _ false (c.in_ok-on_time.ensures.back ∙ c.in_ok-off_time.ensures.back) (rw c.limits_in-table.ensures at c.in_ok-off_material.ensures.walked);
          }))
          (found_on c.args.request.now.cells (reported c.args.text.now).figures.tools c.in_ok-off_time.accepted j (findings c.in_ok-on_time.on_time c.in_ok-on_material.on_material) before (record {
            lasts = c.in_ok-on_time.ensures.lasts;
            walked = walked_as _ _ _ _ _ true c.in_ok-on_time.ensures.back (rw c.limits_in-table.ensures at c.in_ok-on_material.ensures.walked);
          }))
          c.frames_or-on_history.ensures,
      c.in_err-write_both.ensures.fault,
    )

pub returns-in_err-on_time-clause-tells : goal.returns-in_err-on_time-clause-tells
returns-in_err-on_time-clause-tells g c =
    let j = c.args.framed.job in
    let said = both_planned j.machine.step j.off (commands_in true j) c.args.plans.now in
    memory_tells (IsFitText (framed_in c.args.framed) said c.args.request.now.form c.args.request.now.origins c.args.request.now.cells (reported c.args.text.now)) (g.W.Sink.written c.args.output.now) _
    c.in_err-on_time.field-0.0 c.from_residual-in_err-on_time.ensures.1 c.in_err-on_time.ensures.memory

pub returns-in_err-write_both-clause-counts : goal.returns-in_err-write_both-clause-counts
returns-in_err-write_both-clause-counts g c =
    turned _ (faults.Write c.in_err-write_both.field-0.0)
    (λ r. FailsByWriting r (g.W.Sink.failures c.args.output.now) (g.W.Sink.failures c.write_both.new.output))
    c.from_residual-in_err-write_both.ensures.1 c.in_err-write_both.ensures.counts

pub returns-in_err-tips-clause-tells : goal.returns-in_err-tips-clause-tells
returns-in_err-tips-clause-tells g c =
    let j = c.args.framed.job in
    let said = both_planned j.machine.step j.off (commands_in true j) c.args.plans.now in
    memory_tells (IsFitText (framed_in c.args.framed) said c.args.request.now.form c.args.request.now.origins c.args.request.now.cells (reported c.args.text.now)) (g.W.Sink.written c.args.output.now) _
    c.in_err-tips.field-0.0 c.from_residual-in_err-tips.ensures.1 c.in_err-tips.ensures.memory

pub returns-in_err-off_tips-clause-tells : goal.returns-in_err-off_tips-clause-tells
returns-in_err-off_tips-clause-tells g c =
    let j = c.args.framed.job in
    let said = both_planned j.machine.step j.off (commands_in true j) c.args.plans.now in
    memory_tells (IsFitText (framed_in c.args.framed) said c.args.request.now.form c.args.request.now.origins c.args.request.now.cells (reported c.args.text.now)) (g.W.Sink.written c.args.output.now) _
    c.in_err-off_tips.field-0.0 c.from_residual-in_err-off_tips.ensures.1 c.in_err-off_tips.ensures.memory

pub returns-in_err-on_tips-clause-tells : goal.returns-in_err-on_tips-clause-tells
returns-in_err-on_tips-clause-tells g c =
    let j = c.args.framed.job in
    let said = both_planned j.machine.step j.off (commands_in true j) c.args.plans.now in
    memory_tells (IsFitText (framed_in c.args.framed) said c.args.request.now.form c.args.request.now.origins c.args.request.now.cells (reported c.args.text.now)) (g.W.Sink.written c.args.output.now) _
    c.in_err-on_tips.field-0.0 c.from_residual-in_err-on_tips.ensures.1 c.in_err-on_tips.ensures.memory

pub returns-in_err-write_once-clause-counts : goal.returns-in_err-write_once-clause-counts
returns-in_err-write_once-clause-counts g c =
    turned _ (faults.Write c.in_err-write_once.field-0.0)
    (λ r. FailsByWriting r (g.W.Sink.failures c.args.output.now) (g.W.Sink.failures c.write_once.new.output))
    c.from_residual-in_err-write_once.ensures.1 c.in_err-write_once.ensures.counts

pub returns-in_err-material-clause-tells : goal.returns-in_err-material-clause-tells
returns-in_err-material-clause-tells g c =
    let j = c.args.framed.job in
    let said = both_planned j.machine.step j.off (commands_in true j) c.args.plans.now in
    memory_tells (IsFitText (framed_in c.args.framed) said c.args.request.now.form c.args.request.now.origins c.args.request.now.cells (reported c.args.text.now)) (g.W.Sink.written c.args.output.now) _
    c.in_err-material.field-0.0 c.from_residual-in_err-material.ensures.1 c.in_err-material.ensures.memory

pub returns-in_err-off_material-clause-tells : goal.returns-in_err-off_material-clause-tells
returns-in_err-off_material-clause-tells g c =
    let j = c.args.framed.job in
    let said = both_planned j.machine.step j.off (commands_in true j) c.args.plans.now in
    memory_tells (IsFitText (framed_in c.args.framed) said c.args.request.now.form c.args.request.now.origins c.args.request.now.cells (reported c.args.text.now)) (g.W.Sink.written c.args.output.now) _
    c.in_err-off_material.field-0.0 c.from_residual-in_err-off_material.ensures.1 c.in_err-off_material.ensures.memory

pub returns-in_err-on_material-clause-tells : goal.returns-in_err-on_material-clause-tells
returns-in_err-on_material-clause-tells g c =
    let j = c.args.framed.job in
    let said = both_planned j.machine.step j.off (commands_in true j) c.args.plans.now in
    memory_tells (IsFitText (framed_in c.args.framed) said c.args.request.now.form c.args.request.now.origins c.args.request.now.cells (reported c.args.text.now)) (g.W.Sink.written c.args.output.now) _
    c.in_err-on_material.field-0.0 c.from_residual-in_err-on_material.ensures.1 c.in_err-on_material.ensures.memory

pub returns-in_err-off_material-clause-counts : goal.returns-in_err-off_material-clause-counts
returns-in_err-off_material-clause-counts g c =
    memory_counts (g.W.Sink.failures c.args.output.now) _ c.in_err-off_material.field-0.0 c.from_residual-in_err-off_material.ensures.1 c.in_err-off_material.ensures.memory

pub returns-in_err-on_material-clause-counts : goal.returns-in_err-on_material-clause-counts
returns-in_err-on_material-clause-counts g c =
    memory_counts (g.W.Sink.failures c.args.output.now) _ c.in_err-on_material.field-0.0 c.from_residual-in_err-on_material.ensures.1 c.in_err-on_material.ensures.memory
