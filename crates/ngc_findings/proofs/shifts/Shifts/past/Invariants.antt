use Rattle.std.proofs.Common.{◌≡◌, drop}
use Rattle.std.specs.Prelude.{fold, map}
use Rattle.ngc_collision.specs.Inside.{solid_of}
use Rattle.ngc_findings.specs.Shifts.{longest, shifts_of}
use Rattle.ngc_findings.proofs.shifts.Shifts.past.Given as goal

abbrev pub invariant-loop-solid : goal.invariant-loop-solid
invariant-loop-solid l =
    fold longest l.most (map (λ s. shifts_of l.step l.fixture (solid_of s)) (drop l.solid-index l.solid-items))
    ≡ fold longest l.initial.most (map (λ s. shifts_of l.step l.fixture (solid_of s)) l.solid-items)
