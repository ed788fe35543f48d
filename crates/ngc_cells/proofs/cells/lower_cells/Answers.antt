use Rattle.std.proofs.Common.{inl, inr, arith}
use Rattle.std.proofs.lemmas.Bool.{cases_lt}
use Rattle.ngc_cells.proofs.cells.lower_cells.Goals as goal

pub returns-clause-after : goal.returns-clause-after
returns-clause-after c = λ k past.
    elim (cases_lt k c.args.first) [
      | inl less ↦ c.loop-k.invariant.before k less
      | inr more ↦ elim (cases_lt k c.loop-k.k) [
        | inl inner ↦ absurd (omega (arith, c.loop-k.invariant.end))
        | inr outer ↦ c.loop-k.invariant.after k outer
      ]
    ]
