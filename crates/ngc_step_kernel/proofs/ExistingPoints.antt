-- What always exists: a spoke for a vector, an entry, the last point before an end, a moved grid
-- point, a root.
use Rattle.std.proofs.Common.{◌≡◌, ◌⊎◌, ℕ, zero, suc, ◌+◌, ◌-◌, ◌*◌, ◌<◌, ◌≤◌, ℤ, pos, negsuc, ◌+ℤ◌, ◌*ℤ◌, unsigned_abs, inl, inr, refl, ap, arith}
use Rattle.std.specs.Prelude.{Bool, true, false}
use Rattle.std.proofs.lemmas.Bool.{cases_lt}
use Rattle.std.proofs.lemmas.Int.{ints, unsigned_abs-mul}
use Rattle.std.proofs.lemmas.Nat.{mul-le}
use Rattle.ngc_fixed_length.specs.declared.points.Point2.{Point2}
use Rattle.ngc_fixed_length.specs.Rounding.{nearest}
use Rattle.ngc_fixed_length.proofs.Nearest.{nearest_near}
use Rattle.ngc_fixed_length.proofs.RootLaws.{above_root}
use Rattle.ngc_circle_walk.specs.declared.spoke.Quadrant.{Quadrant}
use Rattle.ngc_circle_walk.specs.declared.spoke.Quadrant.TheVariants.{First, Second, Third, Fourth}
use Rattle.ngc_circle_walk.specs.declared.spoke.Roll.{Roll}
use Rattle.ngc_circle_walk.specs.declared.spoke.Roll.TheVariants.{Outward, Diagonal, Inward, Over}
use Rattle.ngc_circle_walk.specs.declared.spoke.Spoke.{Spoke}
use Rattle.ngc_circle_walk.specs.Around.{around}
use Rattle.ngc_circle_walk.specs.Entering.{IsEntry}
use Rattle.ngc_circle_walk.specs.Rolling.{spoke_at, quadrant_at}
use Rattle.ngc_circle_walk.specs.Wheel.{square, IsSmall}
use Rattle.ngc_circle_laws.specs.ArcWalk.{IsBeforeEnd}
use Rattle.ngc_step_kernel.specs.View.{IsMoved}
use Rattle.ngc_step_kernel.proofs.ViewLemmas.{IsMovedSum, moved_sum, moved_small}

-- ---- the spoke of a vector

abbrev spoke_of : Quadrant → ℕ → ℕ → Spoke
spoke_of q x y = record { quadrant = q; x = x; y = y }

pub some_spoke : (u v : ℤ) → (s : Spoke) × (around s.quadrant s.x s.y ≡ record { u = u; v = v }) × (0 < unsigned_abs u + unsigned_abs v → 0 < s.x)
some_spoke (pos zero) (pos zero) = (spoke_of Fourth 0 0, refl, λ out. omega (arith, out))
some_spoke (pos zero) (pos (suc b)) = (spoke_of Second (suc b) 0, refl, λ _. omega arith)
some_spoke (pos (suc a)) (pos b) = (spoke_of First (suc a) b, refl, λ _. omega arith)
some_spoke (pos a) (negsuc b) = (spoke_of Fourth (suc b) a, refl, λ _. omega arith)
some_spoke (negsuc a) (pos zero) = (spoke_of Third (suc a) 0, refl, λ _. omega arith)
some_spoke (negsuc a) (pos (suc b)) = (spoke_of Second (suc b) (suc a), refl, λ _. omega arith)
some_spoke (negsuc a) (negsuc b) = (spoke_of Third (suc a) (suc b), refl, λ _. omega arith)

-- its coordinates are at most the vector's
sizes_of : (q : Quadrant) (x y : ℕ) (u v : ℤ) (n : ℕ) → around q x y ≡ record { u = u; v = v } →
    unsigned_abs u ≤ n → unsigned_abs v ≤ n → (x ≤ n) × (y ≤ n)
sizes_of First x y u v n h hu hv =
    let eu : pos x ≡ u = ap (λ (p : Point2). p.u) h in
    let ev : pos y ≡ v = ap (λ (p : Point2). p.v) h in
    (omega (arith, ints, eu, hu), omega (arith, ints, ev, hv))
sizes_of Second x y u v n h hu hv =
    let eu : (around Second x y).u ≡ u = ap (λ (p : Point2). p.u) h in
    let ev : pos x ≡ v = ap (λ (p : Point2). p.v) h in
    (omega (arith, ints, ev, hv), omega (arith, ints, eu, hu))
sizes_of Third x y u v n h hu hv =
    let eu : (around Third x y).u ≡ u = ap (λ (p : Point2). p.u) h in
    let ev : (around Third x y).v ≡ v = ap (λ (p : Point2). p.v) h in
    (omega (arith, ints, eu, hu), omega (arith, ints, ev, hv))
sizes_of Fourth x y u v n h hu hv =
    let eu : pos y ≡ u = ap (λ (p : Point2). p.u) h in
    let ev : (around Fourth x y).v ≡ v = ap (λ (p : Point2). p.v) h in
    (omega (arith, ints, ev, hv), omega (arith, ints, eu, hu))

pub spoke_small : (u v : ℤ) (s : Spoke) → around s.quadrant s.x s.y ≡ record { u = u; v = v } →
    unsigned_abs u ≤ 3000000000 → unsigned_abs v ≤ 3000000000 → IsSmall s
spoke_small u v s h hu hv =
    let sizes = sizes_of s.quadrant s.x s.y u v 3000000000 h hu hv in
    record { x = sizes.0; y = sizes.1 }

-- ---- the move that a wheel begins with

pub some_entry : (g limit : ℕ) (steep : Bool) (first : Spoke) → (roll : Roll) × IsEntry g limit steep first roll
some_entry g limit true first =
    elim (cases_lt first.x g) [
      | inl near ↦ (Over, near)
      | inr far ↦ elim (cases_lt limit (square (first.x - g) (first.y + g))) [
        | inl beyond ↦ (Inward, (refl, far, beyond))
        | inr fits ↦ (Diagonal, (far, inl (refl, fits)))
      ]
    ]
some_entry g limit false first =
    elim (cases_lt first.x g) [
      | inl near ↦ (Over, near)
      | inr far ↦ elim (cases_lt limit (square first.x (first.y + g))) [
        | inl beyond ↦ (Diagonal, (far, inr (refl, beyond)))
        | inr fits ↦ (Outward, (refl, far, fits))
      ]
    ]

-- ---- the last point before the end

not_before : (here last : ℕ) (s e : Spoke) → (last < here) ⊎ ((here ≡ last) × (s.x * e.y ≤ s.y * e.x)) → IsBeforeEnd here last s e → ⊥
not_before here last s e (inl past) (inl less) = omega (arith, past, less)
not_before here last s e (inl past) (inr same) = omega (arith, past, same.0)
not_before here last s e (inr there) (inl less) = omega (arith, there.0, less)
not_before here last s e (inr there) (inr same) = omega (arith, there.1, same.1)

before_or_not : (here last : ℕ) (s e : Spoke) → IsBeforeEnd here last s e ⊎ (IsBeforeEnd here last s e → ⊥)
before_or_not here last s e =
    elim (cases_lt here last) [
      | inl less ↦ inl (inl less)
      | inr least ↦ elim (cases_lt last here) [
        | inl past ↦ inr (not_before here last s e (inl past))
        | inr most ↦ elim (cases_lt (s.y * e.x) (s.x * e.y)) [
          | inl before ↦ inl (inr (omega (arith, least, most), before))
          | inr reached ↦ inr (not_before here last s e (inr (omega (arith, least, most), reached)))
        ]
      ]
    ]

abbrev IsBeforeAt : ℕ → ℕ → ℕ → Spoke → Spoke → ℕ → Type 0
IsBeforeAt g limit quadrants first e k = IsBeforeEnd (quadrant_at g limit first k) quadrants (spoke_at g limit first k) e

-- among the points 0 to n of a walk, the last one, or the last one before a point that is not
-- before the end
record IsLastBefore (g limit quadrants : ℕ) (first e : Spoke) (n m : ℕ) : Type 0 where
  within : m ≤ n
  before : IsBeforeAt g limit quadrants first e m
  after : m < n → IsBeforeAt g limit quadrants first e (m + 1) → ⊥

one_more : (g limit quadrants : ℕ) (first e : Spoke) (n m : ℕ) → IsLastBefore g limit quadrants first e n m →
    (k : ℕ) × IsLastBefore g limit quadrants first e (suc n) k
one_more g limit quadrants first e n m found =
    elim (cases_lt m n) [
      | inl less ↦ (m, record { within = omega (arith, less); before = found.before; after = λ _. found.after less })
      | inr most ↦ elim (before_or_not (quadrant_at g limit first (m + 1)) quadrants (spoke_at g limit first (m + 1)) e) [
        | inl before ↦ (m + 1, record { within = omega (arith, found.within); before = before; after = λ less. absurd (omega (arith, most, less)) })
        | inr reached ↦ (m, record { within = omega (arith, found.within); before = found.before; after = λ _. reached })
      ]
    ]

last_before : (g limit quadrants : ℕ) (first e : Spoke) → IsBeforeAt g limit quadrants first e 0 → (n : ℕ) →
    (m : ℕ) × IsLastBefore g limit quadrants first e n m
last_before g limit quadrants first e begins zero =
    (0, record { within = omega arith; before = begins; after = λ less. absurd (omega (arith, less)) })
last_before g limit quadrants first e begins (suc n) =
    let found = last_before g limit quadrants first e begins n in
    one_more g limit quadrants first e n found.0 found.1

pub some_rolls : (g limit quadrants : ℕ) (first e : Spoke) → IsBeforeEnd (quadrant_at g limit first 0) quadrants (spoke_at g limit first 0) e →
    (n : ℕ) → (m : ℕ) × (m ≤ n) × IsBeforeEnd (quadrant_at g limit first m) quadrants (spoke_at g limit first m) e ×
    (m < n → IsBeforeEnd (quadrant_at g limit first (m + 1)) quadrants (spoke_at g limit first (m + 1)) e → ⊥)
some_rolls g limit quadrants first e begins n =
    let found = last_before g limit quadrants first e begins n in
    (found.0, found.1.within, found.1.before, found.1.after)

-- ---- the grid point nearest to the end of a vector

pub some_moved : (g r o : ℕ) (c w : ℤ) → unsigned_abs c ≤ 93000000000 → unsigned_abs w ≤ r → 0 < r →
    r ≤ 2000020000 → o ≤ 2000020000 → 500 ≤ g → g ≤ 50000 → (p : ℤ) × IsMoved g r o c w p × (unsigned_abs p ≤ 200000000)
some_moved g r o c w centre way some radius other least most =
    let x = (c *ℤ pos r) +ℤ (w *ℤ pos o) in
    let a : unsigned_abs (c *ℤ pos r) ≤ unsigned_abs c * r = omega (arith, unsigned_abs-mul c (pos r)) in
    let b : unsigned_abs (w *ℤ pos o) ≤ unsigned_abs w * o = omega (arith, unsigned_abs-mul w (pos o)) in
    let told = moved_sum c w (c *ℤ pos r) (w *ℤ pos o) r o refl a refl b centre way radius other in
    let sum : IsMovedSum c w r o x = record { is = refl; bound = rw told.is at told.bound; small = rw told.is at told.small } in
    let p = nearest x (pos (r * g)) in
    let whole : 1 * 1 ≤ r * g = mul-le 1 1 r g some (omega (arith, least)) in
    let near : IsMoved g r o c w p = nearest_near x (r * g) (omega (arith, whole)) in
    (p, near, moved_small g r o c w x p some least most sum near)

-- ---- the least number whose square is at least another number

root_on : (x r : ℕ) → x ≤ r * r → ((s : ℕ) → x ≤ s * s → r ≤ s) → (q : ℕ) × (suc x ≤ q * q) × ((s : ℕ) → suc x ≤ s * s → q ≤ s)
root_on x r above least =
    elim (cases_lt x (r * r)) [
      | inl less ↦ (r, omega (arith, less), λ s big. least s (omega (arith, big)))
      | inr same ↦ (r + 1, omega (arith, above, same), λ s big. above_root (suc x) r s (omega (arith, same)) big)
    ]

pub some_root : (x : ℕ) → (r : ℕ) × (x ≤ r * r) × ((s : ℕ) → x ≤ s * s → r ≤ s)
some_root zero = (0, omega arith, λ s _. omega arith)
some_root (suc x) = let root = some_root x in root_on x root.0 root.1 root.2
