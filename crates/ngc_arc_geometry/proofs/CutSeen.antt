-- A cut arc in the direction of its turning: a clockwise one is mirrored.
use Rattle.std.proofs.Common.{◌≡◌, ℕ, ◌+◌, ◌-◌, ◌*◌, ◌^◌, ◌<◌, ◌≤◌, arith, refl, ℤ, pos, ◌+ℤ◌, ◌-ℤ◌, ◌*ℤ◌, ◌≤ℤ◌, unsigned_abs, Bool, true, false}
use Rattle.std.specs.Prelude.{IsTrue, ◌&&◌, nat_le}
use Rattle.std.specs.Int.{int_min, int_max}
use Rattle.std.proofs.lemmas.Int.{ints, clamps}
use Rattle.std.proofs.lemmas.Bool.Decides.{nat_tests}
use Rattle.std.proofs.lemmas.Nat.{mul-le}
use Rattle.ngc_fixed_length.specs.Places.{from, cross, dot}
use Rattle.ngc_fixed_length.proofs.RootLaws.{whole_root-greatest, whole_root_above-least}
use Rattle.ngc_fixed_length.specs.declared.modes.Turn.{Turn}
use Rattle.ngc_fixed_length.specs.declared.modes.Turn.TheVariants.{Clockwise, Counterclockwise}
use Rattle.ngc_fixed_length.specs.declared.points.Point2.{Point2}
use Rattle.ngc_arc_geometry.specs.Shape.{ArcShape, start_of, end_of}
use Rattle.ngc_arc_geometry.specs.Radii.{squared_distance, lo, hi, inner_radius, outer_radius, HasEvenRadii}
use Rattle.ngc_arc_geometry.specs.Sector.{turning, turn_from}
use Rattle.ngc_arc_geometry.specs.ArcBand.{IsInBand}
use Rattle.ngc_arc_geometry.specs.CutArc.{is_in_band}
use Rattle.ngc_arc_geometry.proofs.Squares.{square_sum, from_squares}
use Rattle.ngc_arc_geometry.proofs.CutSigns.{mirrored}
use Rattle.ngc_arc_geometry.proofs.CutBetween.{IsAmong, AreAmong, IsBanded}

pub faced_by : Turn → Point2 → Point2
faced_by Counterclockwise d = d
faced_by Clockwise d = mirrored d

pub faced : ArcShape → Point2 → Point2
faced a p = faced_by a.turn (from a.centre p)

turn_by : (t : Turn) (d e : Point2) → turning t (cross d e) ≡ cross (faced_by t d) (faced_by t e)
unfolding faced_by
turn_by Counterclockwise d e = refl
turn_by Clockwise d e = omega (arith, ints)

pub turn_faced : (a : ArcShape) (p q : Point2) → turn_from a p q ≡ cross (faced a p) (faced a q)
unfolding faced
turn_faced a p q = turn_by a.turn (from a.centre p) (from a.centre q)

dot_faced : (t : Turn) (d e : Point2) → dot d e ≡ dot (faced_by t d) (faced_by t e)
unfolding faced_by
dot_faced Counterclockwise d e = refl
dot_faced Clockwise d e = omega (arith, ints)

pub dot_by : (a : ArcShape) (p q : Point2) → dot (from a.centre p) (from a.centre q) ≡ dot (faced a p) (faced a q)
unfolding faced
dot_by a p q = dot_faced a.turn (from a.centre p) (from a.centre q)

-- ---- the band

nat_of : (m n : ℕ) → IsTrue (nat_le m n) → m ≤ n
nat_of m n h = grind (arith, nat_tests)

no_truth : IsTrue false → ⊥
no_truth h = cc

pub both : (a b : Bool) → IsTrue (a && b) → IsTrue a × IsTrue b
both true b h = (refl, h)
both false b h = absurd (no_truth h)

pub reached : (a : ArcShape) (w : ℕ) (p : Point2) → IsTrue (is_in_band a w p) → IsInBand a w p
reached a w p h =
    let e = both (nat_le ((inner_radius a - w) * (inner_radius a - w)) (squared_distance a.centre p))
    (nat_le (squared_distance a.centre p) ((outer_radius a + w) * (outer_radius a + w))) h in
    record { inner = nat_of _ _ e.0; outer = nat_of _ _ e.1 }

banded_by : (t : Turn) (i m : ℕ) (d : Point2) → i * i ≤ unsigned_abs (dot d d) → unsigned_abs (dot d d) ≤ (i + m) * (i + m) →
    IsBanded i m (faced_by t d).u (faced_by t d).v
unfolding faced_by
banded_by Counterclockwise i m d h k = let e = square_sum d.u d.v in record { inner = omega (arith, e, h); outer = omega (arith, e, k) }
banded_by Clockwise i m d h k = let e = square_sum d.u d.v in record { inner = omega (arith, e, h); outer = omega (arith, e, k) }

-- properties of the radii: the inner one is at most the lesser distance, the outer one at least the
-- greater
pub record AreRadii (a : ArcShape) : Type 0 where
  pub inner : inner_radius a * inner_radius a ≤ lo a
  pub outer : hi a ≤ outer_radius a * outer_radius a
  pub ordered : inner_radius a ≤ outer_radius a

pub radii : (a : ArcShape) → HasEvenRadii a → AreRadii a
radii a arc =
    let small : lo a < 4 ^ 64 = omega (arith, arc.radius) in
    let root = whole_root-greatest (lo a) small in
    let over = whole_root_above-least (hi a) (omega (arith, arc.radius)) in
    record { inner = root.square; outer = over.square; ordered = from_squares (inner_radius a) (outer_radius a) (omega (arith, root.square, over.square)) }

pub banded : (a : ArcShape) (w : ℕ) (p : Point2) → HasEvenRadii a → w ≤ inner_radius a → IsInBand a w p →
    IsBanded (inner_radius a - w) (2 * w + (outer_radius a - inner_radius a)) (faced a p).u (faced a p).v
unfolding faced
banded a w p arc small h =
    let r = radii a arc in
    let e : inner_radius a - w + (2 * w + (outer_radius a - inner_radius a)) ≡ outer_radius a + w = omega (arith, small, r.ordered) in
    banded_by a.turn (inner_radius a - w) (2 * w + (outer_radius a - inner_radius a)) (from a.centre p) h.inner (rw e h.outer)

wider : (q w : ℕ) → (q - w) * (q - w) ≤ q * q
wider q w = mul-le (q - w) (q - w) q q (omega arith) (omega arith)

wider_out : (q w : ℕ) → q * q ≤ (q + w) * (q + w)
wider_out q w = mul-le q q (q + w) (q + w) (omega arith) (omega arith)

pub start_reached : (a : ArcShape) (w : ℕ) → HasEvenRadii a → IsInBand a w (start_of a)
start_reached a w arc =
    let r = radii a arc in let i = wider (inner_radius a) w in let o = wider_out (outer_radius a) w in
    record { inner = omega (arith, r.inner, i); outer = omega (arith, r.outer, o) }

pub end_reached : (a : ArcShape) (w : ℕ) → HasEvenRadii a → IsInBand a w (end_of a)
end_reached a w arc =
    let r = radii a arc in let i = wider (inner_radius a) w in let o = wider_out (outer_radius a) w in
    record { inner = omega (arith, r.inner, i); outer = omega (arith, r.outer, o) }

-- ---- from the direction back to the plane's axes

shifted_low : (c q r p : ℤ) (m : ℕ) → (int_min (q -ℤ c) (r -ℤ c) -ℤ pos m) ≤ℤ (p -ℤ c) → (int_min q r -ℤ pos m) ≤ℤ p
shifted_low c q r p m h = omega (arith, ints, clamps, h)

shifted_high : (c q r p : ℤ) (m : ℕ) → (p -ℤ c) ≤ℤ (int_max (q -ℤ c) (r -ℤ c) +ℤ pos m) → p ≤ℤ (int_max q r +ℤ pos m)
shifted_high c q r p m h = omega (arith, ints, clamps, h)

shifted : (c q r p : ℤ) (m : ℕ) → IsAmong m (q -ℤ c) (r -ℤ c) (p -ℤ c) → IsAmong m q r p
shifted c q r p m h = record { low = shifted_low c q r p m h.low; high = shifted_high c q r p m h.high }

among_by : (t : Turn) (c q r p : Point2) (m : ℕ) → AreAmong m (faced_by t (from c q)) (faced_by t (from c r)) (faced_by t (from c p)) → AreAmong m q r p
unfolding faced_by
among_by Counterclockwise c q r p m h = record { u = shifted c.u q.u r.u p.u m h.u; v = shifted c.v q.v r.v p.v m h.v }
among_by Clockwise c q r p m h = record { u = shifted c.u q.u r.u p.u m h.v; v = shifted c.v q.v r.v p.v m h.u }

pub among_faced : (a : ArcShape) (q r p : Point2) (m : ℕ) → AreAmong m (faced a q) (faced a r) (faced a p) → AreAmong m q r p
unfolding faced
among_faced a q r p m h = among_by a.turn a.centre q r p m h

-- both coordinates have the same sign
pub record AreAlike (d e : Point2) : Type 0 where
  pub u : pos 0 ≤ℤ (d.u *ℤ e.u)
  pub v : pos 0 ≤ℤ (d.v *ℤ e.v)

alike_by : (t : Turn) (d e : Point2) → AreAlike d e → AreAlike (faced_by t d) (faced_by t e)
unfolding faced_by
alike_by Counterclockwise d e h = h
alike_by Clockwise d e h = record { u = h.v; v = h.u }

pub alike_faced : (a : ArcShape) (q r : Point2) → AreAlike (from a.centre q) (from a.centre r) → AreAlike (faced a q) (faced a r)
unfolding faced
alike_faced a q r h = alike_by a.turn (from a.centre q) (from a.centre r) h
