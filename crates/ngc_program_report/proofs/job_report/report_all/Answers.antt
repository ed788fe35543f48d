use Rattle.std.proofs.Common.{◌≡◌, ℕ, List, true, false, ap, refl, subst, sym, ◌∙◌}
use Rattle.std.specs.Prelude.{is_some}
use Rattle.ngc_certificate.specs.Uncleared.{AreUncleared}
use Rattle.ngc_job.specs.Job.{commands_in}
use Rattle.ngc_certificate_text.specs.declared.piece.Setting.TheVariants.{On}
use Rattle.ngc_machine_files.specs.Machine.{file_of}
use Rattle.ngc_machine_files.specs.Tools.{tools_of}
use Rattle.ngc_program_report.specs.Framed.{framed_in, frames_at, history_in}
use Rattle.ngc_program_report.specs.JobReports.{IsRefusalsText, IsStartClear, OffBegins, OnBegins, Prints}
use Rattle.ngc_program_report.specs.Texts.{refusals_text}
use Rattle.ngc_report.specs.declared.report_fault.ReportFault.TheVariants as faults
use Rattle.ngc_program_report.specs.Reported.{reported}
use Rattle.ngc_program_report.proofs.JobTexts.{alike, all_text, are_alike, once_begins}
use Rattle.ngc_report.proofs.Converted.{turned}
use Rattle.ngc_program_report.proofs.job_report.report_all.Goals as goal

pub returns-in_err-write_all_once-clause-tells : goal.returns-in_err-write_all_once-clause-tells
returns-in_err-write_all_once-clause-tells g c =
    let lines = reported c.args.text.now in
    let f = c.args.framed.now in
    let j = f.job in
    let cuts = c.args.request.now.cuts in
    let file = file_of c.machine.result.now in
    let table = tools_of c.tools.result.now in
    let off = c.commands.result.now in
    let ks = c.as_slice.result.now in
    let h = history_in f.off in
    let on_h = history_in (frames_at On f) in
    let none : is_some j.on ≡ false = sym c.has_deleted_lines.ensures ∙ c.if-not-has_deleted_lines.true in
    let are = subst (λ (l : List ℕ). AreUncleared j.machine cuts j.off l) (sym c.as_slice.ensures.value) c.in-Ok.ensures.are in
    let begins = subst (λ (l : List ℕ). IsStartClear j.machine → OffBegins (is_some j.on) c.args.setting c.args.command l)
    (sym c.as_slice.ensures.value) c.in-Ok.ensures.begins in
    turned _ (faults.Write c.in_err-write_all_once.field-0.0)
    (λ r. Prints (IsRefusalsText (framed_in f) cuts c.args.setting c.args.command c.args.request.now.form c.args.request.now.origins lines) (g.W.Sink.written c.args.output.now)
    (g.W.Sink.written c.write_all_once.new.output) r)
    c.from_residual.ensures.1 (
      refusals_text c.args.request.now.form c.args.request.now.origins false (record { machine = file; tools = table }) off off h on_h ks ks lines,
      all_text (framed_in f) cuts c.args.setting c.args.command c.args.request.now.form c.args.request.now.origins lines false file table off off h on_h ks ks (sym none) c.machine.ensures.value c.tools.ensures
          c.commands.ensures (c.commands.ensures ∙ sym (alike j.off j.on none)) are begins (are_alike j cuts ks none are)
          (λ start. once_begins (is_some j.on) c.args.setting c.args.command ks none (begins start)) refl refl,
      c.in_err-write_all_once.ensures.fault,
    )

pub returns-then-not-has_deleted_lines-clause-tells : goal.returns-then-not-has_deleted_lines-clause-tells
returns-then-not-has_deleted_lines-clause-tells g c =
    let lines = reported c.args.text.now in
    let f = c.args.framed.now in
    let j = f.job in
    let cuts = c.args.request.now.cuts in
    let file = file_of c.machine.result.now in
    let table = tools_of c.tools.result.now in
    let off = c.commands.result.now in
    let ks = c.as_slice.result.now in
    let h = history_in f.off in
    let on_h = history_in (frames_at On f) in
    let none : is_some j.on ≡ false = sym c.has_deleted_lines.ensures ∙ c.if-not-has_deleted_lines.true in
    let are = subst (λ (l : List ℕ). AreUncleared j.machine cuts j.off l) (sym c.as_slice.ensures.value) c.in-Ok.ensures.are in
    let begins = subst (λ (l : List ℕ). IsStartClear j.machine → OffBegins (is_some j.on) c.args.setting c.args.command l)
    (sym c.as_slice.ensures.value) c.in-Ok.ensures.begins in (
      refusals_text c.args.request.now.form c.args.request.now.origins false (record { machine = file; tools = table }) off off h on_h ks ks lines,
      all_text (framed_in f) cuts c.args.setting c.args.command c.args.request.now.form c.args.request.now.origins lines false file table off off h on_h ks ks (sym none) c.machine.ensures.value c.tools.ensures
          c.commands.ensures (c.commands.ensures ∙ sym (alike j.off j.on none)) are begins (are_alike j cuts ks none are)
          (λ start. once_begins (is_some j.on) c.args.setting c.args.command ks none (begins start)) refl refl,
      c.in_ok-write_all_once.ensures.ok,
    )

pub returns-in_err-write_all_both-clause-tells : goal.returns-in_err-write_all_both-clause-tells
returns-in_err-write_all_both-clause-tells g c =
    let lines = reported c.args.text.now in
    let f = c.args.framed.now in
    let j = f.job in
    let cuts = c.args.request.now.cuts in
    let file = file_of c.machine.result.now in
    let table = tools_of c.tools.result.now in
    let off = c.commands.result.now in
    let on = c.commands-2.result.now in
    let off_ks = c.as_slice-off_indices.result.now in
    let on_ks = c.as_slice-on_indices.result.now in
    let off_h = history_in f.off in
    let on_h = history_in c.frames.result.now in
    let on_is = ap history_in c.frames.ensures in
    let some : true ≡ is_some j.on = sym c.if-not-has_deleted_lines.false ∙ c.has_deleted_lines.ensures in
    let off_are = subst (λ (l : List ℕ). AreUncleared j.machine cuts j.off l) (sym c.as_slice-off_indices.ensures.value) c.in-Ok.ensures.are in
    let off_begins = subst (λ (l : List ℕ). IsStartClear j.machine → OffBegins (is_some j.on) c.args.setting c.args.command l)
    (sym c.as_slice-off_indices.ensures.value) c.in-Ok.ensures.begins in
    let on_are = subst (λ (l : List ℕ). AreUncleared j.machine cuts (commands_in true j) l) (sym c.as_slice-on_indices.ensures.value)
    c.in-Ok-on_uncleared.ensures.are in
    let on_begins = subst (λ (l : List ℕ). IsStartClear j.machine → OnBegins c.args.setting c.args.command l) (sym c.as_slice-on_indices.ensures.value)
    c.in-Ok-on_uncleared.ensures.begins in
    turned _ (faults.Write c.in_err-write_all_both.field-0.0)
    (λ r. Prints (IsRefusalsText (framed_in f) cuts c.args.setting c.args.command c.args.request.now.form c.args.request.now.origins lines) (g.W.Sink.written c.args.output.now)
    (g.W.Sink.written c.write_all_both.new.output) r)
    c.from_residual-in_err-write_all_both.ensures.1 (
      refusals_text c.args.request.now.form c.args.request.now.origins true (record { machine = file; tools = table }) off on off_h on_h off_ks on_ks lines,
      all_text (framed_in f) cuts c.args.setting c.args.command c.args.request.now.form c.args.request.now.origins lines true file table off on off_h on_h off_ks on_ks some c.machine.ensures.value c.tools.ensures
          c.commands.ensures c.commands-2.ensures off_are off_begins on_are on_begins refl on_is,
      c.in_err-write_all_both.ensures.fault,
    )

pub returns-clause-tells : goal.returns-clause-tells
returns-clause-tells g c =
    let lines = reported c.args.text.now in
    let f = c.args.framed.now in
    let j = f.job in
    let cuts = c.args.request.now.cuts in
    let file = file_of c.machine.result.now in
    let table = tools_of c.tools.result.now in
    let off = c.commands.result.now in
    let on = c.commands-2.result.now in
    let off_ks = c.as_slice-off_indices.result.now in
    let on_ks = c.as_slice-on_indices.result.now in
    let off_h = history_in f.off in
    let on_h = history_in c.frames.result.now in
    let on_is = ap history_in c.frames.ensures in
    let some : true ≡ is_some j.on = sym c.if-not-has_deleted_lines.false ∙ c.has_deleted_lines.ensures in
    let off_are = subst (λ (l : List ℕ). AreUncleared j.machine cuts j.off l) (sym c.as_slice-off_indices.ensures.value) c.in-Ok.ensures.are in
    let off_begins = subst (λ (l : List ℕ). IsStartClear j.machine → OffBegins (is_some j.on) c.args.setting c.args.command l)
    (sym c.as_slice-off_indices.ensures.value) c.in-Ok.ensures.begins in
    let on_are = subst (λ (l : List ℕ). AreUncleared j.machine cuts (commands_in true j) l) (sym c.as_slice-on_indices.ensures.value)
    c.in-Ok-on_uncleared.ensures.are in
    let on_begins = subst (λ (l : List ℕ). IsStartClear j.machine → OnBegins c.args.setting c.args.command l) (sym c.as_slice-on_indices.ensures.value)
    c.in-Ok-on_uncleared.ensures.begins in (
      refusals_text c.args.request.now.form c.args.request.now.origins true (record { machine = file; tools = table }) off on off_h on_h off_ks on_ks lines,
      all_text (framed_in f) cuts c.args.setting c.args.command c.args.request.now.form c.args.request.now.origins lines true file table off on off_h on_h off_ks on_ks some c.machine.ensures.value c.tools.ensures
          c.commands.ensures c.commands-2.ensures off_are off_begins on_are on_begins refl on_is,
      c.in_ok-write_all_both.ensures.ok,
    )
