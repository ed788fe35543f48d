use Rattle.std.proofs.Common.{◌∙◌, ℕ, List, Option, ap}
use Rattle.ngc_frames.specs.declared.in_force.FrameInForce.{FrameInForce}
use Rattle.ngc_machine_files.specs.Machine.{file_of}
use Rattle.ngc_program_report.specs.Coordinates.{history_of}
use Rattle.ngc_program_report.specs.Met.{met_at}
use Rattle.ngc_program_report.specs.Reported.{reported}
use Rattle.ngc_program_report.specs.Texts.{cause_text, missing_at, told_at}
use Rattle.ngc_program_report.proofs.WritingLaws.{stops, then}
use Rattle.ngc_program_report.proofs.WrittenLaws.{appends_as, begins_as}
use Rattle.ngc_program_report.proofs.refusal_writer.write_refused.Goals as goal

pub returns-in_err-write_heading : goal.returns-in_err-write_heading
returns-in_err-write_heading g c = stops _ _ c.from_residual.ensures.0 c.in_err-write_heading.ensures.fault c.in_err-write_heading.ensures.counts

pub returns-in_err-write_missing : goal.returns-in_err-write_missing
returns-in_err-write_missing g c =
    let form = c.args.subject.now.form in
    let origins = c.args.subject.now.origins.now in
    let m = file_of c.args.subject.now.machine.now in
    let cs = c.args.execution.now.commands.now in
    let h = c.args.execution.now.history.now in
    let missing = ap (missing_at form origins m cs (history_of h.start h.changes.items)) c.refused_command-told.ensures in
    then _ _ c.in_ok-write_heading.ensures.ok c.in_ok-write_heading.ensures.counts
    (stops _ _ c.from_residual-in_err-write_missing.ensures.0 (begins_as _ _ _ _ missing c.in_err-write_missing.ensures.fault) c.in_err-write_missing.ensures.counts)

pub returns-in_err-write_cause : goal.returns-in_err-write_cause
returns-in_err-write_cause g c =
    let form = c.args.subject.now.form in
    let origins = c.args.subject.now.origins.now in
    let m = file_of c.args.subject.now.machine.now in
    let cs = c.args.execution.now.commands.now in
    let h = c.args.execution.now.history.now in
    let missing = ap (missing_at form origins m cs (history_of h.start h.changes.items)) c.refused_command-told.ensures in
    let k = c.args.command in
    let cause : Option ℕ → Option ℕ → FrameInForce →
    List ℕ = λ told fixture frame. cause_text form origins m cs told fixture (reported c.args.subject.now.text.now) frame in
    let is = ap (λ told. cause told c.met_at-fixture.result c.in_force-frame.result) c.refused_command-told.ensures
    ∙ ap (λ fixture. cause (told_at m k) fixture c.in_force-frame.result) c.met_at-fixture.ensures
    ∙ ap (cause (told_at m k) (met_at m cs k)) c.in_force-frame.ensures in
    then _ _ c.in_ok-write_heading.ensures.ok c.in_ok-write_heading.ensures.counts
    (then _ _ (appends_as _ _ _ _ missing c.in_ok-write_missing.ensures.ok) c.in_ok-write_missing.ensures.counts
    (stops _ _ c.from_residual-in_err-write_cause.ensures.0 (begins_as _ _ _ _ is c.in_err-write_cause.ensures.fault) c.in_err-write_cause.ensures.counts))

pub returns : goal.returns
returns g c =
    let form = c.args.subject.now.form in
    let origins = c.args.subject.now.origins.now in
    let m = file_of c.args.subject.now.machine.now in
    let cs = c.args.execution.now.commands.now in
    let h = c.args.execution.now.history.now in
    let missing = ap (missing_at form origins m cs (history_of h.start h.changes.items)) c.refused_command-told.ensures in
    let k = c.args.command in
    let cause : Option ℕ → Option ℕ → FrameInForce →
    List ℕ = λ told fixture frame. cause_text form origins m cs told fixture (reported c.args.subject.now.text.now) frame in
    let is = ap (λ told. cause told c.met_at-fixture.result c.in_force-frame.result) c.refused_command-told.ensures
    ∙ ap (λ fixture. cause (told_at m k) fixture c.in_force-frame.result) c.met_at-fixture.ensures
    ∙ ap (cause (told_at m k) (met_at m cs k)) c.in_force-frame.ensures in
    then _ _ c.in_ok-write_heading.ensures.ok c.in_ok-write_heading.ensures.counts
    (then _ _ (appends_as _ _ _ _ missing c.in_ok-write_missing.ensures.ok) c.in_ok-write_missing.ensures.counts
    (then _ _ (appends_as _ _ _ _ is c.in_ok-write_cause.ensures.ok) c.in_ok-write_cause.ensures.counts c.write_refusal_end.ensures))
