use Rattle.std.proofs.Common.{subst, sym, ◌∙◌}
use Rattle.ngc_canonical.specs.Interpreter.{setup_of}
use Rattle.ngc_dialect_job.specs.Job.{IsDialectJob}
use Rattle.ngc_dialect_job.proofs.DialectJobLaws.{alike, apart}
use Rattle.ngc_dialect_job.proofs.job.dialect_job.Goals as goal

pub returns-then-not-has_deleted_lines : goal.returns-then-not-has_deleted_lines
returns-then-not-has_deleted_lines g c =
    let setup = setup_of c.args.machine c.args.tools in
    subst (IsDialectJob c.args.dialect c.args.text.now setup) (sym c.from_commands-job.ensures)
    (alike c.args.dialect c.args.text.now setup c.in-Ok.commands.items c.in-Ok.ensures.commands
    (sym c.has_deleted_lines.ensures ∙ c.if-not-has_deleted_lines.true))

pub returns : goal.returns
returns g c =
    let setup = setup_of c.args.machine c.args.tools in
    subst (IsDialectJob c.args.dialect c.args.text.now setup) (sym c.from_commands.ensures)
    (apart c.args.dialect c.args.text.now setup c.in-Ok.commands.items c.in-Ok-interpret_dialect.commands.items c.in-Ok.ensures.commands
    c.in-Ok-interpret_dialect.ensures.commands (sym c.has_deleted_lines.ensures ∙ c.if-not-has_deleted_lines.false))
