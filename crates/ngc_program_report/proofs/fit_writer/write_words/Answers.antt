use Rattle.std.proofs.Common.{List, ap, sym, ◌∙◌}
use Rattle.ngc_canonical.specs.Interpreter.{setup_of}
use Rattle.ngc_machine_files.specs.Machine.{file_of}
use Rattle.ngc_machine_files.specs.declared.tools.Tool.{Tool}
use Rattle.ngc_word_warnings.specs.Spelling.{word_warnings}
use Rattle.ngc_line_reader.specs.ProgramView.{text_in}
use Rattle.ngc_program_report.specs.Coordinates.{history_of}
use Rattle.ngc_program_report.specs.Reported.{ReportedLines, reported}
use Rattle.ngc_program_report.specs.Texts.{language_warnings}
use Rattle.ngc_program_report.proofs.WritingLaws.{writes_as, writes_text}
use Rattle.ngc_program_report.proofs.fit_writer.write_words.Goals as goal

pub returns-in-Own : goal.returns-in-Own
returns-in-Own g c =
    let s = c.args.subject.now in
    let m = file_of s.machine.now in
    let e = c.args.execution.now in
    let h = history_of e.history.now.start e.history.now.changes.items in
    let lines = (text_in c.in-Own.program.now).lines in
    writes_text _ _
    (ap (λ (ts : List Tool). word_warnings s.form c.args.deletes m ts e.commands.now lines) c.tools-table.ensures.tools
    ∙ ap (λ (r : ReportedLines). language_warnings s.form c.args.deletes (setup_of s.machine.now s.tools.now) h e.commands.now r.examined r.notes)
    (ap reported (sym c.in-Own.is)))
    c.write_word_warnings.ensures.ok c.write_word_warnings.ensures.fault c.write_word_warnings.ensures.counts

pub returns-in-Other : goal.returns-in-Other
returns-in-Other g c =
    let s = c.args.subject.now in
    let e = c.args.execution.now in
    let h = history_of e.history.now.start e.history.now.changes.items in
    writes_as c.write_other_words.ensures
    (ap (λ (r : ReportedLines). language_warnings s.form c.args.deletes (setup_of s.machine.now s.tools.now) h e.commands.now r.examined r.notes)
    (ap reported (sym c.in-Other.is)))
