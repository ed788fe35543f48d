use Rattle.std.proofs.Common.{List, Bool, Option, ap}
use Rattle.ngc_file_figures.specs.declared.figures.AxisFigures.{AxisFigures}
use Rattle.ngc_file_figures.specs.declared.limits.ToolLimits.{ToolLimits}
use Rattle.ngc_machine_files.specs.Machine.{file_of}
use Rattle.ngc_limit_warnings.specs.Spelling.{limit_warnings}
use Rattle.ngc_report.specs.Forms.{report_text}
use Rattle.ngc_findings.specs.Warnings.{warning_lines}
use Rattle.ngc_canonical.specs.Interpreter.{setup_of}
use Rattle.ngc_program_report.specs.Coordinates.{history_of}
use Rattle.ngc_program_report.specs.Texts.{language_warnings}
use Rattle.ngc_program_report.specs.Reported.{reported}
use Rattle.ngc_program_report.proofs.WritingLaws.{stops, then}
use Rattle.ngc_program_report.proofs.WrittenLaws.{appends_as, begins_as}
use Rattle.ngc_program_report.proofs.fit_writer.write_setting_warnings.Goals as goal

pub returns-in_err-write_warnings : goal.returns-in_err-write_warnings
returns-in_err-write_warnings g c =
    let m = file_of c.args.subject.now.machine.now in
    let cs = c.args.execution.now.commands.now in
    let fast = ap (λ (s : Option AxisFigures). report_text c.args.subject.now.form (warning_lines m s cs)) c.speeds_in-speeds.ensures in
    stops _ _ c.from_residual.ensures.0 (begins_as _ _ _ _ fast c.in_err-write_warnings.ensures.fault) c.in_err-write_warnings.ensures.counts

pub returns-in_err-write_tool_warnings : goal.returns-in_err-write_tool_warnings
returns-in_err-write_tool_warnings g c =
    let m = file_of c.args.subject.now.machine.now in
    let cs = c.args.execution.now.commands.now in
    let fast = ap (λ (s : Option AxisFigures). report_text c.args.subject.now.form (warning_lines m s cs)) c.speeds_in-speeds.ensures in
    then _ _ (appends_as _ _ _ _ fast c.in_ok-write_warnings.ensures.ok) c.in_ok-write_warnings.ensures.counts
    (stops _ _ c.from_residual-in_err-write_tool_warnings.ensures.0 c.in_err-write_tool_warnings.ensures.fault c.in_err-write_tool_warnings.ensures.counts)

pub returns-in_err-write_limit_warnings : goal.returns-in_err-write_limit_warnings
returns-in_err-write_limit_warnings g c =
    let m = file_of c.args.subject.now.machine.now in
    let cs = c.args.execution.now.commands.now in
    let fast = ap (λ (s : Option AxisFigures). report_text c.args.subject.now.form (warning_lines m s cs)) c.speeds_in-speeds.ensures in
    let limits = ap (λ (t : List ToolLimits). limit_warnings c.args.subject.now.form t cs) c.limits_in-limits.ensures in
    then _ _ (appends_as _ _ _ _ fast c.in_ok-write_warnings.ensures.ok) c.in_ok-write_warnings.ensures.counts
    (then _ _ c.in_ok-write_tool_warnings.ensures.ok c.in_ok-write_tool_warnings.ensures.counts
    (stops _ _ c.from_residual-in_err-write_limit_warnings.ensures.0 (begins_as _ _ _ _ limits c.in_err-write_limit_warnings.ensures.fault)
    c.in_err-write_limit_warnings.ensures.counts))

pub returns-in_err-write_words : goal.returns-in_err-write_words
returns-in_err-write_words g c =
    let m = file_of c.args.subject.now.machine.now in
    let cs = c.args.execution.now.commands.now in
    let h = c.args.execution.now.history.now in
    let lines = reported c.args.subject.now.text.now in
    let setup = setup_of c.args.subject.now.machine.now c.args.subject.now.tools.now in
    let changes = history_of h.start h.changes.items in
    let fast = ap (λ (s : Option AxisFigures). report_text c.args.subject.now.form (warning_lines m s cs)) c.speeds_in-speeds.ensures in
    let limits = ap (λ (t : List ToolLimits). limit_warnings c.args.subject.now.form t cs) c.limits_in-limits.ensures in
    let words = ap (λ (deletes : Bool). language_warnings c.args.subject.now.form deletes setup changes cs lines.examined lines.notes) c.is_on.ensures in
    then _ _ (appends_as _ _ _ _ fast c.in_ok-write_warnings.ensures.ok) c.in_ok-write_warnings.ensures.counts
    (then _ _ c.in_ok-write_tool_warnings.ensures.ok c.in_ok-write_tool_warnings.ensures.counts
    (then _ _ (appends_as _ _ _ _ limits c.in_ok-write_limit_warnings.ensures.ok) c.in_ok-write_limit_warnings.ensures.counts
    (stops _ _ c.from_residual-in_err-write_words.ensures.0 (begins_as _ _ _ _ words c.in_err-write_words.ensures.fault) c.in_err-write_words.ensures.counts)))

pub returns : goal.returns
returns g c =
    let m = file_of c.args.subject.now.machine.now in
    let cs = c.args.execution.now.commands.now in
    let h = c.args.execution.now.history.now in
    let lines = reported c.args.subject.now.text.now in
    let setup = setup_of c.args.subject.now.machine.now c.args.subject.now.tools.now in
    let changes = history_of h.start h.changes.items in
    let fast = ap (λ (s : Option AxisFigures). report_text c.args.subject.now.form (warning_lines m s cs)) c.speeds_in-speeds.ensures in
    let limits = ap (λ (t : List ToolLimits). limit_warnings c.args.subject.now.form t cs) c.limits_in-limits.ensures in
    let words = ap (λ (deletes : Bool). language_warnings c.args.subject.now.form deletes setup changes cs lines.examined lines.notes) c.is_on.ensures in
    then _ _ (appends_as _ _ _ _ fast c.in_ok-write_warnings.ensures.ok) c.in_ok-write_warnings.ensures.counts
    (then _ _ c.in_ok-write_tool_warnings.ensures.ok c.in_ok-write_tool_warnings.ensures.counts
    (then _ _ (appends_as _ _ _ _ limits c.in_ok-write_limit_warnings.ensures.ok) c.in_ok-write_limit_warnings.ensures.counts
    (then _ _ (appends_as _ _ _ _ words c.in_ok-write_words.ensures.ok) c.in_ok-write_words.ensures.counts
    c.write_system_warnings.ensures)))
