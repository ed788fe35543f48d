use Rattle.std.proofs.Common.{◌≤◌, ℕ, List, length, subst, sym}
use Rattle.ngc_dialect_flow.proofs.Room.{named}
use Rattle.ngc_dialect_flow.proofs.key.name_bytes.Goals as goal

pub returns-clause-bound : goal.returns-clause-bound
returns-clause-bound c = subst (λ (xs : List ℕ). length xs ≤ 256) (sym c.name.ensures)
    (named c.args.line.now.text.items c.args.name 256 (subst (λ (xs : List ℕ). length xs ≤ 256) c.as_slice-text.ensures.value c.as_slice-text.ensures.fits))
