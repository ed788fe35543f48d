use Rattle.std.proofs.Common.{◌∙◌, ℕ, List, Option, Some, ap, sym}
use Rattle.ngc_commands.specs.declared.movement.Way.{Way}
use Rattle.ngc_frames.specs.declared.in_force.FrameInForce.{FrameInForce}
use Rattle.ngc_machine_files.specs.Machine.{file_of}
use Rattle.ngc_program_report.specs.Coordinates.{history_of, refused_path}
use Rattle.ngc_program_report.specs.Met.{met_at}
use Rattle.ngc_program_report.specs.Texts.{missing_at, missing_if}
use Rattle.ngc_program_report.proofs.WritingLaws.{writes_as}
use Rattle.ngc_program_report.proofs.refusal_writer.write_missing.Goals as goal

pub returns-in-Some : goal.returns-in-Some
returns-in-Some g c =
    let form = c.args.subject.now.form in
    let origins = c.args.subject.now.origins.now in
    let m = file_of c.args.subject.now.machine.now in
    let cs = c.args.execution.now.commands.now in
    let h = c.args.execution.now.history.now in
    let k = c.in-Some.command in
    let missing : Option ℕ → Option Way → FrameInForce → List ℕ = λ fixture way frame. missing_if form origins m fixture way frame in
    let is = ap (λ fixture. missing fixture c.refused_path-path.result c.in_force-frame.result) c.met_at-fixture.ensures
    ∙ ap (λ way. missing (met_at m cs k) way c.in_force-frame.result) c.refused_path-path.ensures
    ∙ ap (missing (met_at m cs k) (refused_path cs (Some k))) c.in_force-frame.ensures
    ∙ ap (missing_at form origins m cs (history_of h.start h.changes.items)) (sym c.in-Some.is) in
    writes_as c.write_missing_if.ensures is
