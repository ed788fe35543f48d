-- Motions in the ramp's units. Our own.
use Rattle.std.specs.Prelude.{◌≡◌, ℕ, ◌+◌, ◌-◌, ◌*◌, ◌/◌, ◌≤◌, min, ◌==◌, nat_lt, Bool}
use Rattle.std.specs.Prelude.{if◌then◌else◌}
use Rattle.ngc_fixed_length.specs.Limits.{MILLION}
use Rattle.ngc_braking.specs.declared.leg.Leg.{Leg}

-- a whole number of path steps, at least one, with a change and bounds of at least 1
pub record IsLeg (l : Leg) : Type 0 where
  pub whole : (l.millionths / MILLION) * MILLION ≡ l.millionths
  pub some : MILLION ≤ l.millionths
  pub change : 1 ≤ l.change
  pub change_greatest : l.change ≤ MILLION
  pub bound : 1 ≤ l.bound
  pub bound_greatest : l.bound ≤ MILLION
  pub entry : 1 ≤ l.entry
  pub exit : 1 ≤ l.exit

-- the greatest rate that may pass from a leg with this exit into the next one
abbrev pub passes : ℕ → Leg → ℕ
passes exit l = min exit (min l.entry l.bound)

-- the first tick on a leg is also bound by its entry
abbrev pub tick_bound : Leg → ℕ → ℕ
tick_bound l rest = if rest == l.millionths then min l.bound l.entry else l.bound

abbrev pub travelled : Leg → ℕ → ℕ
travelled l rest = l.millionths - rest

-- whether the next v millionths, with rest remaining, reach the end of a path step
abbrev pub is_due : Leg → ℕ → ℕ → Bool
is_due l rest v =
    nat_lt (travelled l rest / MILLION) (min (travelled l rest + v) l.millionths / MILLION)
