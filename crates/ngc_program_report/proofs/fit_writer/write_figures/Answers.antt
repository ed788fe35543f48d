use Rattle.std.proofs.Common.{List, ℕ, ap, ap₂, ◌∙◌}
use Rattle.ngc_machine_files.specs.Tools.{tools_of}
use Rattle.ngc_machine_files.specs.declared.tools.Tool.{Tool}
use Rattle.ngc_tool_figures.specs.Texts.{figures_text}
use Rattle.ngc_program_report.specs.Times.{ProgramTimeData}
use Rattle.ngc_program_report.proofs.WritingLaws.{writes_text}
use Rattle.ngc_program_report.proofs.fit_writer.write_figures.Goals as goal

pub returns : goal.returns
returns g c =
    let form = c.args.form in
    let cs = c.args.commands.now in
    let parts = c.as_slice-parts.ensures.value ∙ ap (λ (t : ProgramTimeData). t.parts) c.time.view_is in
    let per_second = ap (λ (t : ProgramTimeData). t.whole.ticks_per_second) c.time.view_is in
    let same = ap₂ (λ (ts : List Tool) (ns : List ℕ). figures_text form c.time.inside.whole.ticks_per_second ts cs ns) c.tools.ensures.tools parts
    ∙ ap (λ (n : ℕ). figures_text form n (tools_of c.args.tools.now) cs c.args.time.now.parts) per_second in
    writes_text _ _ same c.write_tool_figures.ensures.ok c.write_tool_figures.ensures.fault c.write_tool_figures.ensures.counts
