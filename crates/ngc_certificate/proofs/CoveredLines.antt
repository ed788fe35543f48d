-- Each point of a line's path is in the derived box of one of its pieces.
use Rattle.std.proofs.Common.{◌≡◌, ℕ, zero, suc, ◌+◌, ◌*◌, ◌<◌, ◌≤◌, inl, inr, ap, subst, arith, refl, List, [], ◌∷◌, Bool, false, ℤ, pos, ◌-ℤ◌, ◌*ℤ◌, ◌≤ℤ◌}
use Rattle.std.proofs.Common.{unsigned_abs}
use Rattle.std.specs.Prelude.{Any, IsTrue, nat_lt, ◌==◌, ◌&&◌}
use Rattle.std.proofs.lemmas.Int.{ints}
use Rattle.std.proofs.lemmas.Bool.{cases_lt}
use Rattle.std.proofs.lemmas.Bool.Decides.{nat_tests}
use Rattle.ngc_fixed_length.specs.declared.points.StepPos.{StepPos}
use Rattle.ngc_fixed_length.specs.declared.points.Point3.{Point3}
use Rattle.ngc_fixed_length.specs.declared.points.GridBox.{GridBox}
use Rattle.ngc_fixed_length.specs.Rounding.{nearest}
use Rattle.ngc_fixed_length.proofs.Nearest.{nearest_near}
use Rattle.std.specs.Int.{int_min, int_max}
use Rattle.ngc_fixed_length.specs.Boxes.{IsIn}
use Rattle.ngc_fixed_length.specs.Grid.{distance}
use Rattle.ngc_fixed_length.specs.LinePath.{point, FollowsLine, IsLineOf}
use Rattle.ngc_commands.specs.declared.movement.Way.TheVariants.{Line}
use Rattle.ngc_certificate_text.specs.declared.piece.Cut.{Cut}
use Rattle.ngc_certificate_text.specs.declared.piece.Cut.TheVariants.{Part, Place}
use Rattle.ngc_certificate.specs.Chain.{ChainFrom}
use Rattle.ngc_certificate.specs.DerivedBox.{line_box, boxes_from, low_between, high_between}
use Rattle.ngc_certificate.proofs.AxisBetween.{above_low, below_high}

-- the rounding error on the grid is at most a step
near_close : (b : ℤ) (g : ℕ) → 0 < g → unsigned_abs ((nearest b (pos g) *ℤ pos g) -ℤ b) ≤ g
near_close b g h = omega (arith, ints, nearest_near b g h)

greatest_below : (x y p : ℤ) → x ≤ℤ p → y ≤ℤ p → int_max x y ≤ℤ p
greatest_below x y p h i = grind (arith, ints)

least_above : (x y p : ℤ) → p ≤ℤ x → p ≤ℤ y → p ≤ℤ int_min x y
least_above x y p h i = grind (arith, ints)

-- a point that is no detour between two others lies between them
between_low : (a b p : ℤ) → distance a p + distance p b ≡ distance a b → int_min a b ≤ℤ p
between_low a b p h = grind (arith, ints)

between_high : (a b p : ℤ) → distance a p + distance p b ≡ distance a b → p ≤ℤ int_max a b
between_high a b p h = grind (arith, ints)

-- one axis of a point after k of n moves from b to e
record OnAxis (g n k : ℕ) (b e p : ℤ) : Type 0 where
  close : distance (pos k *ℤ (e -ℤ b)) (pos n *ℤ ((p *ℤ pos g) -ℤ b)) ≤ n * g
  between : distance (nearest b (pos g)) p + distance p (nearest e (pos g)) ≡ distance (nearest b (pos g)) (nearest e (pos g))

record OnLine (g n k : ℕ) (b e : Point3) (p : StepPos) : Type 0 where
  x : OnAxis g n k b.x e.x p.x
  y : OnAxis g n k b.y e.y p.y
  z : OnAxis g n k b.z e.z p.z

axis_low : (g n k s t : ℕ) (b e p : ℤ) → 0 < n → 0 < g → s * n ≤ 65536 * k → 65536 * k ≤ t * n → OnAxis g n k b e p →
    int_max (low_between (pos g) b e s t) (int_min (nearest b (pos g)) (nearest e (pos g))) ≤ℤ p
axis_low g n k s t b e p zn zg c f h =
    greatest_below _ _ p (above_low n k s t g b e p zn zg c f h.close) (between_low (nearest b (pos g)) (nearest e (pos g)) p h.between)

axis_high : (g n k s t : ℕ) (b e p : ℤ) → 0 < n → 0 < g → s * n ≤ 65536 * k → 65536 * k ≤ t * n → OnAxis g n k b e p →
    p ≤ℤ int_min (high_between (pos g) b e s t) (int_max (nearest b (pos g)) (nearest e (pos g)))
axis_high g n k s t b e p zn zg c f h =
    least_above _ _ p (below_high n k s t g b e p zn zg c f h.close) (between_high (nearest b (pos g)) (nearest e (pos g)) p h.between)

in_piece : (g n k s t : ℕ) (b e : Point3) (p : StepPos) → 0 < n → 0 < g → s * n ≤ 65536 * k → 65536 * k ≤ t * n → OnLine g n k b e p →
    IsIn (line_box (pos g) b e s t) p
in_piece g n k s t b e p zn zg c f h = record {
  x_low = axis_low g n k s t b.x e.x p.x zn zg c f h.x;
  x_high = axis_high g n k s t b.x e.x p.x zn zg c f h.x;
  y_low = axis_low g n k s t b.y e.y p.y zn zg c f h.y;
  y_high = axis_high g n k s t b.y e.y p.y zn zg c f h.y;
  z_low = axis_low g n k s t b.z e.z p.z zn zg c f h.z;
  z_high = axis_high g n k s t b.z e.z p.z zn zg c f h.z;
}

pub any_here : (P : GridBox → Type 0) (b : GridBox) (bs : List GridBox) → P b → Any P (b ∷ bs)
any_here P b bs h = (0, b, omega arith, refl, h)

any_there : (P : GridBox → Type 0) (b : GridBox) (bs : List GridBox) → Any P bs → Any P (b ∷ bs)
any_there P b bs h = (suc h.0, h.1, omega (arith, h.2), h.3, h.4)

whole_at_last : (s t : ℕ) → IsTrue (nat_lt s t && (t == 65536)) → t ≡ 65536
whole_at_last s t h = grind (arith, nat_tests)

not_true : IsTrue false → ⊥
not_true h = cc

-- the pieces from a cut on contain each point that isn't earlier
from_cut : (g n k : ℕ) (b e : Point3) (p : StepPos) → 0 < n → k ≤ n → 0 < g → OnLine g n k b e p →
    (several : Bool) (s : ℕ) (cuts : List Cut) → s * n ≤ 65536 * k → ChainFrom (pos g) (Line b e) several (Part s) cuts →
    Any (λ bounds. IsIn bounds p) (boxes_from (pos g) (Line b e) several (Part s) cuts)
from_cut g n k b e p zn kn zg h several s [] c chain = absurd chain
from_cut g n k b e p zn kn zg h several s (Part t ∷ []) c chain =
    let w = whole_at_last s t chain in
    any_here (λ bounds. IsIn bounds p) (line_box (pos g) b e s t) []
    (in_piece g n k s t b e p zn zg c (rw w (omega (arith, kn))) h)
from_cut g n k b e p zn kn zg h several s (Place q ∷ []) c chain = absurd (not_true chain)
from_cut g n k b e p zn kn zg h several s (Part t ∷ next ∷ cuts) c chain =
    elim (cases_lt (t * n) (65536 * k)) [
      | inl later ↦ any_there (λ bounds. IsIn bounds p) (line_box (pos g) b e s t) (boxes_from (pos g) (Line b e) several (Part t) (next ∷ cuts))
          (from_cut g n k b e p zn kn zg h several t (next ∷ cuts) (omega (arith, later)) chain.1)
      | inr here ↦ any_here (λ bounds. IsIn bounds p) (line_box (pos g) b e s t) (boxes_from (pos g) (Line b e) several (Part t) (next ∷ cuts))
          (in_piece g n k s t b e p zn zg c here h)
    ]
from_cut g n k b e p zn kn zg h several s (Place q ∷ next ∷ cuts) c chain = absurd (not_true chain.0)

-- the axes of a path's point
axis_of : (g n k : ℕ) (b e : ℤ) (place : ℕ → ℤ) → k ≤ n → place 0 ≡ nearest b (pos g) → place n ≡ nearest e (pos g) →
    FollowsLine (pos g) n b e place → OnAxis g n k b e (place k)
axis_of g n k b e place kn first last f = record {
  close = f.close k kn;
  between = subst (λ q. distance q (place k) + distance (place k) (nearest e (pos g)) ≡ distance q (nearest e (pos g))) first
      (subst (λ q. distance (place 0) (place k) + distance (place k) q ≡ distance (place 0) q) last (f.straight 0 k n (omega arith) kn (omega arith)));
}

line_at : (g n k : ℕ) (b e : Point3) (path : List StepPos) → k ≤ n → IsLineOf (pos g) b e n path → OnLine g n k b e (point path k)
line_at g n k b e path kn l = record {
  x = axis_of g n k b.x e.x (λ i. (point path i).x) kn (ap (λ (q : StepPos). q.x) l.starts) (ap (λ (q : StepPos). q.x) l.ends) l.x;
  y = axis_of g n k b.y e.y (λ i. (point path i).y) kn (ap (λ (q : StepPos). q.y) l.starts) (ap (λ (q : StepPos). q.y) l.ends) l.y;
  z = axis_of g n k b.z e.z (λ i. (point path i).z) kn (ap (λ (q : StepPos). q.z) l.starts) (ap (λ (q : StepPos). q.z) l.ends) l.z;
}

-- a line without a move: its one point is near its start
axis_still : (g : ℕ) (b e p : ℤ) → 0 < g → p ≡ nearest b (pos g) → p ≡ nearest e (pos g) → OnAxis g 1 0 b e p
axis_still g b e p zg first last = record {
  close = let i = near_close b g zg in rw first (omega (arith, ints, i));
  between = rw (← first, ← last) (omega (arith, ints));
}

line_still : (g : ℕ) (b e : Point3) (path : List StepPos) → 0 < g → IsLineOf (pos g) b e 0 path → OnLine g 1 0 b e (point path 0)
line_still g b e path zg l = record {
  x = axis_still g b.x e.x (point path 0).x zg (ap (λ (q : StepPos). q.x) l.starts) (ap (λ (q : StepPos). q.x) l.ends);
  y = axis_still g b.y e.y (point path 0).y zg (ap (λ (q : StepPos). q.y) l.starts) (ap (λ (q : StepPos). q.y) l.ends);
  z = axis_still g b.z e.z (point path 0).z zg (ap (λ (q : StepPos). q.z) l.starts) (ap (λ (q : StepPos). q.z) l.ends);
}

-- the law, for a line of n moves
pub covered_line : (g n k : ℕ) (b e : Point3) (several : Bool) (cuts : List Cut) (path : List StepPos) → 0 < g → k ≤ n →
    IsLineOf (pos g) b e n path → ChainFrom (pos g) (Line b e) several (Part 0) cuts →
    Any (λ bounds. IsIn bounds (point path k)) (boxes_from (pos g) (Line b e) several (Part 0) cuts)
covered_line g zero zero b e several cuts path zg kn l chain =
    from_cut g 1 0 b e (point path 0) (omega arith) (omega arith) zg (line_still g b e path zg l) several 0 cuts (omega arith) chain
covered_line g zero (suc k) b e several cuts path zg kn l chain = absurd (omega arith)
covered_line g (suc n) k b e several cuts path zg kn l chain =
    from_cut g (suc n) k b e (point path k) (omega arith) kn zg (line_at g (suc n) k b e path kn l) several 0 cuts (omega arith) chain
