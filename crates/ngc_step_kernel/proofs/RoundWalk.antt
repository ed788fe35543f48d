-- The wheel's part of an arc's course is a walk from the start's ray to the end's.
use Rattle.std.proofs.Common.{◌≡◌, ℕ, zero, suc, ◌+◌, ◌*◌, ◌<◌, ◌≤◌, ℤ, pos, ◌≤ℤ◌, inl, inr, refl, sym, ◌∙◌, ap, subst, arith}
use Rattle.std.specs.Prelude.{Bool, true, false, Option, Some, None, int_lt}
use Rattle.std.proofs.lemmas.Int.{ints}
use Rattle.ngc_fixed_length.specs.Places.{cross, from}
use Rattle.ngc_fixed_length.specs.declared.modes.Turn.{Turn}
use Rattle.ngc_fixed_length.specs.declared.modes.Turn.TheVariants.{Clockwise, Counterclockwise}
use Rattle.ngc_fixed_length.specs.declared.points.Point2.{Point2}
use Rattle.ngc_circle_walk.specs.declared.spoke.Quadrant.{Quadrant}
use Rattle.ngc_circle_walk.specs.declared.spoke.Spoke.{Spoke}
use Rattle.ngc_circle_walk.specs.Around.{way_to}
use Rattle.ngc_circle_walk.specs.Directions.{IsNoLater}
use Rattle.ngc_circle_walk.specs.Quadrants.{quadrants_to}
use Rattle.ngc_circle_walk.specs.Rolling.{spoke_at, quadrant_at}
use Rattle.ngc_circle_walk.specs.Wheel.{is_before}
use Rattle.ngc_circle_walk.proofs.Wheeling.{first_spoke, wheel_rolls}
use Rattle.ngc_arc_geometry.specs.Shape.{ArcShape, start_of, end_of}
use Rattle.ngc_circle_laws.specs.ArcWalk.{IsWalk, IsBeforeEnd}
use Rattle.ngc_circle_laws.specs.Placed.{mirrored, placed, turned_by}
use Rattle.ngc_circle_laws.proofs.FirstPoints.{Begins}
use Rattle.ngc_circle_laws.proofs.QuadrantCounts.{IsCounted, placed_at, quadrants_counted, counted_turn}
use Rattle.ngc_circle_laws.proofs.CrossProducts.{four_on}
use Rattle.ngc_step_kernel.specs.Entered.{way_cross}
use Rattle.ngc_step_kernel.specs.View.{view_of, way_between, place_of, quadrants_left}
use Rattle.ngc_step_kernel.proofs.AroundLemmas.{amount}
use Rattle.ngc_step_kernel.proofs.Settings.{cross_told}

-- ---- the end's position from the number that the code computes

pub told_ahead : (z : ℤ) → true ≡ int_lt (pos 0) z → pos 1 ≤ℤ z
told_ahead z h = grind (arith, ints, h)

told_not : (z : ℤ) → false ≡ int_lt (pos 0) z → z ≤ℤ pos 0
told_not z h = grind (arith, ints, h)

pub amount_of : (x y : Option ℕ) → x ≡ y → amount x ≡ amount y
amount_of x y h = ap amount h

pub counted_of : (n : ℕ) (short before : Bool) (left : ℕ) (area : ℤ) → n ≤ 3 → short ≡ int_lt (pos 0) area → quadrants_left n short before ≡ Some left →
    IsCounted n left area
counted_of zero true true left area few told h = inl (told_ahead area told, omega (arith, amount_of (Some 0) (Some left) h))
counted_of zero true false left area few told h = absurd (omega (arith, amount_of None (Some left) h))
counted_of zero false before left area few told h = inr (told_not area told, omega (arith, amount_of (Some 4) (Some left) h))
counted_of (suc zero) true before left area few told h = omega (arith, amount_of (Some 1) (Some left) h)
counted_of (suc zero) false before left area few told h = omega (arith, amount_of (Some 1) (Some left) h)
counted_of (suc (suc zero)) true before left area few told h = omega (arith, amount_of (Some 2) (Some left) h)
counted_of (suc (suc zero)) false before left area few told h = omega (arith, amount_of (Some 2) (Some left) h)
counted_of (suc (suc (suc zero))) true before left area few told h = absurd (omega (arith, amount_of None (Some left) h))
counted_of (suc (suc (suc zero))) false before left area few told h = (omega (arith, amount_of (Some 3) (Some left) h), told_not area told)
counted_of (suc (suc (suc (suc n)))) short before left area few told h = absurd (omega (arith, few))

pub few_quadrants : (p q : Quadrant) → quadrants_to p q ≤ 3
few_quadrants p q = omega arith

turned_left : (n left : ℕ) (area : ℤ) (q : Quadrant) → IsCounted n left area → turned_by n q ≡ turned_by left q
turned_left zero left area q (inl h) = ap (λ m. turned_by m q) (sym h.1)
turned_left zero left area q (inr h) = sym (ap (λ m. turned_by m q) h.1 ∙ four_on q)
turned_left (suc zero) left area q h = ap (λ m. turned_by m q) (sym h)
turned_left (suc (suc zero)) left area q h = ap (λ m. turned_by m q) (sym h)
turned_left (suc (suc (suc zero))) left area q h = ap (λ m. turned_by m q) (sym h.0)
turned_left (suc (suc (suc (suc n)))) left area q h = absurd h

-- ---- ends as spokes

seen_way : (t : Turn) (c p : Point2) → place_of (way_between t c p) ≡ mirrored t (from c p)
seen_way Counterclockwise c p = refl
seen_way Clockwise c p = refl

pub start_placed : (a : ArcShape) (b : Spoke) → way_to b ≡ place_of (view_of a).start → start_of a ≡ placed a b
start_placed a b h = placed_at a (start_of a) b (h ∙ seen_way a.turn a.centre (start_of a))

pub end_placed : (a : ArcShape) (e : Spoke) → way_to e ≡ place_of (view_of a).end → end_of a ≡ placed a e
end_placed a e h = placed_at a (end_of a) e (h ∙ seen_way a.turn a.centre (end_of a))

-- ---- the walk

pub walks : (a : ArcShape) (g limit m begun left : ℕ) (b first last : Spoke) → 0 < g → g * g ≤ limit → way_to b ≡ place_of (view_of a).start → 0 < b.x →
    way_to last ≡ place_of (view_of a).end → 0 < last.x →
    Begins g b first begun → begun ≤ 1 →
    quadrants_left (quadrants_to first.quadrant last.quadrant) (int_lt (pos 0) (way_cross (view_of a).start (view_of a).end)) (is_before first last)
    ≡ Some left →
    IsBeforeEnd (quadrant_at g limit first m) left (spoke_at g limit first m) last →
    IsWalk a g limit m (spoke_at g limit first) (quadrant_at g limit first) b last begun left
walks a g limit m begun left b first last some room start start_out end end_out at few told before =
    let n = quadrants_to first.quadrant last.quadrant in
    let area = way_cross (view_of a).start (view_of a).end in
    let c : cross (way_to b) (way_to last) ≡ area = cross_told b last (view_of a).start (view_of a).end start end in
    let count = counted_of n (int_lt (pos 0) area) (is_before first last) left area (few_quadrants first.quadrant last.quadrant) refl told in
    let there = quadrants_counted first.quadrant last.quadrant in
    let zeroth = first_spoke g limit first in
    let q : last.quadrant ≡ turned_by n (turned_by begun b.quadrant) = there ∙ ap (turned_by n) at.begins in
    record {
      start = start_placed a b start;
      end = end_placed a last end;
      start_out = start_out;
      end_out = end_out;
      some_step = some;
      room = room;
      rolling = wheel_rolls g limit first m;
      some_place = subst (λ (s : Spoke). 0 < s.x + s.y) (sym zeroth) at.some_place;
      begins = ap (λ (s : Spoke). s.quadrant) zeroth ∙ at.begins;
      past_start = subst (λ (s : Spoke). IsNoLater begun b.x b.y s.x s.y) (sym zeroth) at.past_start;
      to_end = there ∙ turned_left n left area first.quadrant count ∙ ap (λ (s : Spoke). turned_by left s.quadrant) (sym zeroth);
      turn = counted_turn b last begun n left few start_out end_out q (subst (λ z. IsCounted n left z) (sym c) count);
      before_end = before;
    }
