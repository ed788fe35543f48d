use Rattle.std.proofs.Common.{◌≡◌, ℕ, max}
use Rattle.ngc_circle_walk.specs.declared.column.Column.{Column}
use Rattle.ngc_circle_walk.specs.Turning.{IsColumn}
use Rattle.ngc_circle_walk.proofs.Columns.{column_has}
use Rattle.ngc_circle_walk.proofs.column.Column.has.Goals as goal
use Rattle.ngc_circle_walk.proofs.column.Column.has.Goals.{then-self-greater, else-self-greater}

same_column : (limit m g : ℕ) (s r : Column) → s ≡ r → r.at ≡ g → g ≡ m → IsColumn limit r.at r.reach → IsColumn limit m s.reach
same_column limit m g s r e a b h = rw e (rw (a, b) at h)

pub returns-clause-value : goal.returns-clause-value
returns-clause-value c =
    let column : IsColumn c.args.limit (max c.args.x c.args.y) c.if-self-greater.self.reach = elim c.if-self-greater.branch [
      | then-self-greater w ↦ same_column _ _ _ _ _ w.self-is w.of.ensures.at c.max-greater.ensures w.of.ensures.column
      | else-self-greater w ↦ same_column _ _ _ _ _ w.self-is w.if-self-greater.false c.max-greater.ensures c.requires.column
    ] in
    rw c.min-lesser.ensures (column_has c.args.limit c.args.x c.args.y c.if-self-greater.self.reach column)
