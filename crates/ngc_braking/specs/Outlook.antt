-- How much work beyond the end of the second of some legs braking may use, updated from load to
-- load. Our own.
use Rattle.std.specs.Prelude.{◌≡◌, ℕ, zero, suc, ◌+◌, min, List, [], ◌∷◌, drop, if◌then◌else◌}
use Rattle.ngc_braking.specs.declared.leg.Leg.{Leg}
use Rattle.ngc_braking.specs.declared.outlook.Allowance.{Allowance}
use Rattle.ngc_braking.specs.Leg.{passes}
use Rattle.ngc_braking.specs.Work.{GREATEST, leg_work, slack}

-- for no legs: no joint limits anything, and there is no work
abbrev pub none : Allowance
none = record { least = GREATEST; total = 0 }

-- how much work beyond the joint before a leg braking may use, after a leg with the change a and
-- this exit
abbrev pub joint_slack : ℕ → ℕ → Leg → ℕ
joint_slack a exit l = if l.joined then slack (passes exit l) a else 0

-- with one more leg in front, after a leg with the change a and this exit
abbrev pub with_leg : ℕ → ℕ → Leg → Allowance → Allowance
with_leg a exit l t = record {
  least = min GREATEST (min (joint_slack a exit l) (leg_work a exit l + t.least));
  total = min GREATEST (leg_work a exit l + t.total);
}

-- for legs after one with the change a and this exit: the least over their joints, and their work
abbrev pub allowed : ℕ → ℕ → List Leg → Allowance
allowed a exit [] = none
allowed a exit (l ∷ ls) = with_leg a exit l (allowed l.change l.exit ls)

-- for some legs followed by others
abbrev pub followed : Allowance → Allowance → Allowance
followed near far = record {
  least = min near.least (min GREATEST (near.total + far.least));
  total = min GREATEST (near.total + far.total);
}

-- the summary of some legs: for each nearer one the allowance up to the last nearer one, the first
-- one first, and for the others one allowance
abbrev pub Foresees : ℕ → ℕ → List Leg → Allowance → List Allowance → Allowance → Type 0
Foresees a exit ls near [] far = (near ≡ none) × (far ≡ allowed a exit ls)
Foresees a exit [] near (next ∷ later) far = ⊥
Foresees a exit (l ∷ ls) near (next ∷ later) far =
    (near ≡ with_leg a exit l next) × Foresees l.change l.exit ls next later far

-- the change and the exit of the leg at an index, or 0 if there is none
abbrev pub change_at : ℕ → List Leg → ℕ
change_at n [] = 0
change_at zero (l ∷ ls) = l.change
change_at (suc n) (l ∷ ls) = change_at n ls

abbrev pub exit_at : ℕ → List Leg → ℕ
exit_at n [] = 0
exit_at zero (l ∷ ls) = l.exit
exit_at (suc n) (l ∷ ls) = exit_at n ls

-- the same for the legs after the second
abbrev pub IsOutlook : List Leg → Allowance → List Allowance → Allowance → Type 0
IsOutlook legs near later far =
    Foresees (change_at 1 legs) (exit_at 1 legs) (drop 2 legs) near later far
