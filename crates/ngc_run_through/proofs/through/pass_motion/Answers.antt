use Rattle.std.proofs.Common.{◌+◌, ap, ◌∙◌}
use Rattle.ngc_fixed_length.specs.declared.points.StepPos.{StepPos}
use Rattle.ngc_run_through.proofs.PassedMotions.{passed}
use Rattle.ngc_run_through.proofs.through.pass_motion.Goals as goal

pub returns-in-Some : goal.returns-in-Some
returns-in-Some g c = λ written.
    let a = c.args.recorder.now in
    let p = c.in-Some.passed in
    passed p.ticks p.path_steps _ _ a _ written c.requires.untouched c.requires.runs c.requires.some c.requires.next c.finish_motion.ensures.job c.finish_motion.ensures.accepted
    c.in-Some.ensures.finishes (c.is_silent.ensures.0 c.if-is_silent.true)
    (c.pass.ensures ∙ ap (λ (q : StepPos). record a {
      report = record a.report {
        ticks = a.report.ticks + p.ticks;
        path_steps = a.report.path_steps + p.path_steps;
        position = q;
      };
    }) c.position.ensures)
