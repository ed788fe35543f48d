-- How far the path is free.
use Rattle.std.proofs.Common.{◌≡◌, ℕ, ◌+◌, ◌≤◌, nat_le, true, false, cond, ◌&&◌, List, ◌∷◌}
use Rattle.std.proofs.Common.{ap}
use Rattle.std.proofs.lemmas.Bool.{leb-true, and_parts}
use Rattle.ngc_braking.specs.declared.leg.Leg.{Leg}
use Rattle.ngc_braking.specs.Reach.{may_enter, free_ahead}

-- ---- one more leg

pub free_none : (w : ℕ) (e : ℕ) (l : Leg) (ls : List Leg) → may_enter w e l ≡ false → free_ahead w e (l ∷ ls) ≡ 0
free_none w e l ls shut = ap (λ b. cond b (l.millionths + free_ahead w l.exit ls) 0) shut

pub free_more : (w : ℕ) (e : ℕ) (l : Leg) (ls : List Leg) → may_enter w e l ≡ true → free_ahead w e (l ∷ ls) ≡ l.millionths + free_ahead w l.exit ls
free_more w e l ls open' = ap (λ b. cond b (l.millionths + free_ahead w l.exit ls) 0) open'

-- ---- the rates that pass into a leg

pub entered : (w e : ℕ) (l : Leg) → may_enter w e l ≡ true → (l.joined ≡ true) × (w ≤ e) × (w ≤ l.entry) × (w ≤ l.bound)
entered w e l h =
    let a = and_parts (l.joined && nat_le w e && nat_le w l.entry) (nat_le w l.bound) h in
    let b = and_parts (l.joined && nat_le w e) (nat_le w l.entry) a.0 in
    let c = and_parts l.joined (nat_le w e) b.0 in
    (c.0, leb-true w e c.1, leb-true w l.entry b.1, leb-true w l.bound a.1)
