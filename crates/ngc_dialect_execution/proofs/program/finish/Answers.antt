use Rattle.std.proofs.Common.{ℕ, Result, Err, ap, refl}
use Rattle.ngc_canonical.specs.State.{Setup}
use Rattle.ngc_canonical.specs.Interpreter.{setup_of}
use Rattle.ngc_dialect_execution.specs.declared.fault.Cause.{Cause}
use Rattle.ngc_dialect_execution.specs.declared.fault.Refusal.{Refusal}
use Rattle.ngc_dialect_execution.specs.declared.fault.Refusal.TheVariants.{Because, Memory}
use Rattle.ngc_dialect_execution.specs.Ending.{at, ended_only, finished}
use Rattle.ngc_dialect_execution.specs.Faults.{◌>>=◌, FailsBy, Says, at_line}
use Rattle.ngc_dialect_execution.specs.Taken.{Between, Progress, ended_at}
use Rattle.ngc_dialect_execution.specs.Views.{progress_in}
use Rattle.ngc_dialect_execution.proofs.TextSteps.{refused_as}
use Rattle.ngc_dialect_execution.proofs.program.finish.Goals as goal

-- a program that can't end fails in this line
fails_there : (setup : Setup) (line : ℕ) (p : Progress) (refusal : Refusal) (view : Unit {0} → Between) →
    Says view (Err refusal) (ended_at setup line p.between) → FailsBy (at_line line refusal) (finished setup line p)
unfolding finished
fails_there setup line p (Because cause) view e = ap (λ (r : Result Between Cause). at line (r >>= λ b. ended_only b)) e
fails_there setup line p Memory view e = tt

pub returns-in-Err : goal.returns-in-Err
returns-in-Err g c =
    refused_as c.at_line.result (at_line c.args.line c.in-Err.refusal) _ _ c.at_line.ensures refl
    (fails_there (setup_of c.args.machine.now c.args.tools.now) c.args.line (progress_in c.args.interpreter) c.in-Err.refusal
    (λ (x : Unit {0}). (progress_in c.end_at.new.self).between) c.in-Err.ensures)
