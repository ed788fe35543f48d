use Rattle.std.proofs.Common.{List, ℕ, ◌++◌}
use Rattle.std.proofs.lemmas.List.{append_assoc}
use Rattle.ngc_machine_files.specs.Tools.{tools_of}
use Rattle.ngc_program_report.specs.Texts.{takes_line, tool_figures}
use Rattle.ngc_program_report.specs.Times.{uses_text}
use Rattle.ngc_program_report.proofs.WritingLaws.{stops, then, writes_as}
use Rattle.ngc_program_report.proofs.fit_writer.write_duration.Goals as goal

pub returns-in_err-write_times : goal.returns-in_err-write_times
returns-in_err-write_times g c =
    let takes : List ℕ = takes_line c.args.form c.args.time.now.whole in
    let uses : List ℕ = uses_text c.args.form c.args.commands.now c.args.time.now in
    let figures : List ℕ = tool_figures c.args.form (tools_of c.args.tools.now) c.args.commands.now c.args.time.now in
    writes_as (stops (takes ++ uses) figures c.from_residual.ensures.0 c.in_err-write_times.ensures.fault c.in_err-write_times.ensures.counts) (append_assoc takes uses figures)

pub returns : goal.returns
returns g c =
    let takes : List ℕ = takes_line c.args.form c.args.time.now.whole in
    let uses : List ℕ = uses_text c.args.form c.args.commands.now c.args.time.now in
    let figures : List ℕ = tool_figures c.args.form (tools_of c.args.tools.now) c.args.commands.now c.args.time.now in
    writes_as (then (takes ++ uses) figures c.in_ok-write_times.ensures.ok c.in_ok-write_times.ensures.counts c.write_figures.ensures) (append_assoc takes uses figures)
