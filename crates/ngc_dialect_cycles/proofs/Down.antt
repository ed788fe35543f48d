-- Where a hole is drilled, no feed goes up.
use Rattle.std.proofs.Common.{◌≡◌, ℕ, zero, suc, ◌+◌, ℤ, pos, negsuc, ◌+ℤ◌, ◌-ℤ◌, ◌*ℤ◌, ◌≤ℤ◌, ◌<ℤ◌, Bool, true, false, List, [], ◌∷◌, ◌++◌, refl, arith}
use Rattle.std.specs.List.{flat_map}
use Rattle.std.proofs.lemmas.Int.{ints}
use Rattle.ngc_fixed_length.specs.Places.{height, at_height}
use Rattle.ngc_fixed_length.specs.Signed.{greater}
use Rattle.ngc_fixed_length.specs.declared.points.Point3.{Point3}
use Rattle.ngc_canned_cycles.specs.declared.cycle.Site.{Site}
use Rattle.ngc_canned_cycles.specs.Holes.{counting, peck_depth}
use Rattle.ngc_dialect_cycles.specs.declared.line.HoleKind.{HoleKind}
use Rattle.ngc_dialect_cycles.specs.declared.line.HoleKind.TheVariants.{Drill, DrillWithDwell, Peck, BreakChips, Bore, BoreWithStop, BoreWithDwell}
use Rattle.ngc_dialect_cycles.specs.declared.line.Pecks.{Pecks}
use Rattle.ngc_dialect_cycles.specs.declared.line.Series.{Series}
use Rattle.ngc_dialect_cycles.specs.declared.line.CycleLine.{CycleLine}
use Rattle.ngc_dialect_cycles.specs.Levels.{site_of}
use Rattle.ngc_dialect_cycles.specs.Holes.{pecks_above, peck_moves, ending, hole_moves}
use Rattle.ngc_dialect_cycles.specs.Moves.{rises, hole, all_moves}
use Rattle.ngc_dialect_cycles.specs.Refusals.{bad_peck}
use Rattle.ngc_dialect_cycles.specs.Laws.{EachFrom, ends_at, GoesDown, drills, FeedsGoDown}
use Rattle.ngc_dialect_cycles.proofs.Sound.{IsSound, sound, ArePecks, pecks as pecks_of}
use Rattle.ngc_dialect_cycles.proofs.Safe.{height_at, not_below, within, each-append, each_acting}

-- a peck is at most as high as the one before it
lower : (r q : ℤ) (i : ℕ) → pos 0 <ℤ q → (r -ℤ (pos (i + 1) *ℤ q)) ≤ℤ (r -ℤ (pos i *ℤ q))
lower r (pos a) i h = omega (arith, ints)
lower r (negsuc a) i h = absurd (omega (arith, ints))

greater_rises : (b x y : ℤ) → x ≤ℤ y → greater b x ≤ℤ greater b y
greater_rises b x y h = grind (arith, ints)

below_retract : (r q : ℤ) → pos 0 <ℤ q → (r -ℤ (pos 1 *ℤ q)) ≤ℤ r
below_retract r q h = omega (arith, ints)

at_most : (b x r : ℤ) → b ≤ℤ r → x ≤ℤ r → greater b x ≤ℤ r
at_most b x r h k = grind (arith, ints)

added : (d e back : ℤ) → d ≤ℤ e → pos 0 ≤ℤ back → d ≤ℤ (e +ℤ back)
added d e back h k = omega (arith, ints)

module _ (s : Site) where
  abbrev at : ℤ → Point3
  at w = at_height s.plane s.place w

  down : (a b : ℤ) → b ≤ℤ a → height s.plane (at b) ≤ℤ height s.plane (at a)
  down a b h = rw (height_at s.plane s.place a, height_at s.plane s.place b) h

  module _ (p : Pecks) (good : ArePecks p) where
    next_below : (i : ℕ) → peck_depth s p.depth (i + 1) ≤ℤ (peck_depth s p.depth i +ℤ p.back)
    next_below i = added _ _ p.back (greater_rises s.bottom _ _ (lower s.retract p.depth i good.depth)) good.back

    last_below : (i : ℕ) (a : ℤ) → peck_depth s p.depth i ≤ℤ a → s.bottom ≤ℤ a
    last_below i a h = within _ _ _ (not_below s.bottom _) h

    out_down : (n i : ℕ) (a : ℤ) → peck_depth s p.depth i ≤ℤ a →
        EachFrom (GoesDown s.plane) (at a) (flat_map (peck_moves (Peck p) s) (counting i n) ++ ending (Peck p) s)
    out_down zero i a h = (down a s.bottom (last_below i a h), (tt, tt))
    out_down (suc n) i a h = (down a (peck_depth s p.depth i) h, (tt, (tt, out_down n (i + 1) (peck_depth s p.depth i +ℤ p.back) (next_below i))))

    back_down : (n i : ℕ) (a : ℤ) → peck_depth s p.depth i ≤ℤ a →
        EachFrom (GoesDown s.plane) (at a) (flat_map (peck_moves (BreakChips p) s) (counting i n) ++ ending (BreakChips p) s)
    back_down zero i a h = (down a s.bottom (last_below i a h), (tt, tt))
    back_down (suc n) i a h = (down a (peck_depth s p.depth i) h, (tt, back_down n (i + 1) (peck_depth s p.depth i +ℤ p.back) (next_below i)))

    first_below : s.bottom ≤ℤ s.retract → peck_depth s p.depth 1 ≤ℤ s.retract
    first_below h = at_most s.bottom _ s.retract h (below_retract s.retract p.depth good.depth)

  hole_down : (kind : HoleKind) → drills kind ≡ true → bad_peck kind ≡ false → s.bottom ≤ℤ s.retract → EachFrom (GoesDown s.plane) (at s.retract) (hole_moves kind s)
  hole_down (Peck p) d good h = out_down p (pecks_of p good) (pecks_above s p.depth) 1 s.retract (first_below p (pecks_of p good) h)
  hole_down (BreakChips p) d good h = back_down p (pecks_of p good) (pecks_above s p.depth) 1 s.retract (first_below p (pecks_of p good) h)
  hole_down Drill d good h = (down s.retract s.bottom h, (tt, tt))
  hole_down (DrillWithDwell t) d good h = (down s.retract s.bottom h, (tt, (tt, tt)))
  hole_down Bore d good h = absurd (cc)
  hole_down (BoreWithStop t) d good h = absurd (cc)
  hole_down (BoreWithDwell t) d good h = absurd (cc)

module _ (s : Series) (l : CycleLine) (h : IsSound s l) (d : drills s.kind ≡ true) where
  first_down : (b : Bool) → rises s l ≡ b → (p : Point3) → EachFrom (GoesDown l.plane) p (hole s l 0)
  first_down true e p = rw e (tt, (tt, (tt, hole_down (site_of s l 0) s.kind d h.peck h.order)))
  first_down false e p = rw e (tt, (tt, hole_down (site_of s l 0) s.kind d h.peck h.order))

  one_down : (k : ℕ) (p : Point3) → EachFrom (GoesDown l.plane) p (hole s l k)
  one_down zero p = first_down (rises s l) refl p
  one_down (suc k) p = (tt, (tt, hole_down (site_of s l (suc k)) s.kind d h.peck h.order))

  holes_down : (ks : List ℕ) (p : Point3) → EachFrom (GoesDown l.plane) p (flat_map (hole s l) ks)
  holes_down [] p = tt
  holes_down (k ∷ ks) p = each-append (GoesDown l.plane) p (hole s l k) (flat_map (hole s l) ks) (one_down k p) (holes_down ks (ends_at p (hole s l k)))

pub feeds_go_down : FeedsGoDown
feeds_go_down s l ok d = each_acting (GoesDown l.plane) l.place (all_moves s l) (holes_down s l (sound s l ok) d (counting 0 l.repeats) l.place)
