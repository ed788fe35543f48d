-- The value of a parameter after settings, from left to right: the last one counts.
use Rattle.std.specs.Prelude.{ℕ, ◌==◌, ◌&&◌, nat_lt, ℤ, List, [], ◌∷◌, Option}
use Rattle.std.specs.Prelude.{if◌then◌else◌}
use Rattle.ngc_dialect_parameters.specs.declared.statement.Statement.{Statement}
use Rattle.ngc_dialect_parameters.specs.declared.statement.Statement.TheVariants as statements
use Rattle.ngc_dialect_parameters.specs.Rules.{COUNT}

-- the value of parameter n after a statement, by its value before it
abbrev pub after : Statement → ℕ → Option ℤ → Option ℤ
after (statements.Set changed value) n before = if (n == changed) && nat_lt changed COUNT then value else before
after _ n before = before

abbrev pub after_all : List Statement → ℕ → Option ℤ → Option ℤ
after_all [] n before = before
after_all (s ∷ rest) n before = after_all rest n (after s n before)
