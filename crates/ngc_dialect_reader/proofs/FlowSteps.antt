-- One argument, if the bound allows it.
use Rattle.std.proofs.Common.{◌≡◌, ℕ, zero, suc, ◌+◌, ◌-◌, ◌<◌, List, length, Ok, Err, refl, arith}
use Rattle.ngc_dialect_reader.specs.declared.fault.Cause.TheVariants as causes
use Rattle.ngc_dialect_reader.specs.Number.{refusal}
use Rattle.std.specs.Prelude.{if◌then◌else◌}
use Rattle.ngc_line_reader.specs.Scan.{◌>>=◌, begins}
use Rattle.ngc_dialect_reader.specs.declared.switches.Switches.{Switches}
use Rattle.ngc_dialect_reader.specs.declared.part.Part.{Part}
use Rattle.ngc_dialect_reader.specs.Steps.{after_comments}
use Rattle.ngc_dialect_reader.specs.Value.{bracket_with}
use Rattle.ngc_dialect_reader.specs.Item.{top}
use Rattle.ngc_dialect_reader.specs.Flow.{arguments_at}

pub arguments_step : (d : Switches) (room count : ℕ) (found : List Part) (s : List ℕ) → 0 < room → arguments_at d room count found s ≡
    (if begins 91 (after_comments s)
    then (bracket_with d (top d) found (after_comments s) >>= λ x. arguments_at d (room - 1) (count + 1) x.0 x.1) else Ok ((found, s), count))
unfolding arguments_at
arguments_step d zero count found s h = absurd (omega arith)
arguments_step d (suc room) count found s h = let e : suc room - 1 ≡ room = omega arith in rw e refl

pub arguments_end : (d : Switches) (room count : ℕ) (found : List Part) (s : List ℕ) → room ≡ 0 →
    arguments_at d room count found s ≡ Err (refusal causes.WrongArguments (length s))
unfolding arguments_at
arguments_end d zero count found s h = refl
arguments_end d (suc room) count found s h = absurd (omega arith)

pub ruleset arguments_steps = (arguments_step, arguments_end)
