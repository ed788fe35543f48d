use Rattle.std.proofs.Common.{Bool, Err, Ok, ap, subst, sym}
use Rattle.ngc_program_report.specs.JobReports.{IsRefusalText, Prints, first_text}
use Rattle.ngc_report.specs.declared.report_fault.ReportFault.TheVariants as faults
use Rattle.ngc_report.proofs.Converted.{turned}
use Rattle.ngc_program_report.specs.Framed.{framed_in, history_in}
use Rattle.ngc_program_report.specs.Reported.{reported}
use Rattle.ngc_program_report.proofs.JobTexts.{frames_as}
use Rattle.ngc_program_report.proofs.job_report.report_refusal.Goals as goal

pub returns-in_err-report_first-clause-tells : goal.returns-in_err-report_first-clause-tells
returns-in_err-report_first-clause-tells g c =
    let j = c.args.framed.now.job in
    let lines = reported c.args.text.now in
    let fault = c.in_err-report_first.field-0.0 in
    let old = g.W.Sink.written c.args.output.now in
    let new = g.W.Sink.written c.report_first.new.output in
    turned _ (faults.Write fault)
    (λ r. Prints (IsRefusalText c.args.request.now.all (framed_in c.args.framed.now) c.args.request.now c.args.setting c.args.command lines) old new r)
    c.from_residual.ensures.1
    (subst (λ (all : Bool). Prints (IsRefusalText all (framed_in c.args.framed.now) c.args.request.now c.args.setting c.args.command lines) old new (Err (faults.Write fault)))
    (sym c.if-request.false) (
      first_text j c.args.request.now.form c.args.request.now.origins c.args.setting c.args.command lines (history_in c.frames.result.now),
      ap (first_text j c.args.request.now.form c.args.request.now.origins c.args.setting c.args.command lines)
          (frames_as c.args.framed.now c.args.setting c.frames.result.now c.frames.ensures),
      c.in_err-report_first.ensures.fault,
    ))

pub returns-then-request-clause-tells : goal.returns-then-request-clause-tells
returns-then-request-clause-tells g c =
    let j = c.args.framed.now.job in
    let lines = reported c.args.text.now in
    subst (λ (all : Bool). Prints (IsRefusalText all (framed_in c.args.framed.now) c.args.request.now c.args.setting c.args.command lines) (g.W.Sink.written c.args.output.now)
    (g.W.Sink.written c.report_all.new.output) c.report_all.result) (sym c.if-request.true)
    c.report_all.ensures.tells

pub returns-clause-tells : goal.returns-clause-tells
returns-clause-tells g c =
    let j = c.args.framed.now.job in
    let lines = reported c.args.text.now in
    subst (λ (all : Bool). Prints (IsRefusalText all (framed_in c.args.framed.now) c.args.request.now c.args.setting c.args.command lines) (g.W.Sink.written c.args.output.now)
    (g.W.Sink.written c.report_first.new.output) (Ok tt)) (sym c.if-request.false) (
      first_text j c.args.request.now.form c.args.request.now.origins c.args.setting c.args.command lines (history_in c.frames.result.now),
      ap (first_text j c.args.request.now.form c.args.request.now.origins c.args.setting c.args.command lines)
          (frames_as c.args.framed.now c.args.setting c.frames.result.now c.frames.ensures),
      c.in_ok-report_first.ensures.ok,
    )
