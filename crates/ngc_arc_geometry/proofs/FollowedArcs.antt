-- Worked paths along arcs, by evaluating the definitions; and paths that follow no arc.
use Rattle.std.proofs.Common.{◌≡◌, ℕ, zero, suc, ◌+◌, ◌-◌, ◌*◌, ◌/◌, ◌≤◌, ℤ, pos, negsuc, refl, arith, List, [], ◌∷◌, length}
use Rattle.std.specs.Prelude.{Bool, true, false, ◌&&◌, ◌||◌, if◌then◌else◌, nat_le, nat_lt, int_le, neg_ℤ, ◌+ℤ◌, ◌-ℤ◌, ◌*ℤ◌, unsigned_abs, not}
use Rattle.ngc_fixed_length.specs.Roots.{whole_root, whole_root_above}
use Rattle.ngc_fixed_length.specs.Grid.{distance, grid}
use Rattle.ngc_fixed_length.specs.Boxes.{is_below}
use Rattle.ngc_fixed_length.specs.LinePath.{point}
use Rattle.ngc_fixed_length.specs.Places.{height}
use Rattle.ngc_fixed_length.specs.declared.modes.Plane.TheVariants.{XY}
use Rattle.ngc_fixed_length.specs.declared.modes.Turn.{Turn}
use Rattle.ngc_fixed_length.specs.declared.modes.Turn.TheVariants.{Clockwise, Counterclockwise}
use Rattle.ngc_fixed_length.specs.declared.points.Point2.{Point2}
use Rattle.ngc_fixed_length.specs.declared.points.GridBox.{GridBox}
use Rattle.ngc_fixed_length.specs.declared.points.StepPos.{StepPos}
use Rattle.ngc_arc_geometry.specs.Shape.{ArcShape, start_of, end_of}
use Rattle.ngc_arc_geometry.specs.Radii.{squared_distance, inner_radius, outer_radius}
use Rattle.ngc_arc_geometry.specs.Sector.{in_sector, turn_from, extremes}
use Rattle.ngc_arc_geometry.specs.Swept.{swept_box, start_height, end_height}
use Rattle.ngc_arc_geometry.specs.GridPlaces.{seen, height_of}
use Rattle.ngc_arc_geometry.specs.ArcBand.{leeway, spread}
use Rattle.ngc_arc_geometry.specs.ArcPath.{IsArcOf}

-- ---- the clauses as tests: a height whose distance from its end never grows does not turn back

abbrev is_within : ℕ → Point2 → Point2 → Bool
is_within d p q = nat_le (squared_distance p q) (d * d)

-- radii, leeway and the like, computed once
record Sizes : Type 0 where
  s : ℕ
  w : ℕ
  d : ℕ
  least : ℕ
  most : ℕ
  box : GridBox
  top : ℤ

abbrev sizes : ℤ → ArcShape → Sizes
sizes step a = record {
  s = unsigned_abs step;
  w = leeway step a;
  d = spread a;
  least = (inner_radius a - leeway step a) * (inner_radius a - leeway step a);
  most = (outer_radius a + leeway step a) * (outer_radius a + leeway step a);
  box = swept_box step a;
  top = end_height step a;
}

abbrev by_an_end : ArcShape → ℕ → Point2 → Bool
by_an_end a d p = is_within d (start_of a) p || is_within d (end_of a) p

abbrev point_is_good : Sizes → ArcShape → StepPos → Point2 → Bool
point_is_good z a g p =
    is_below z.box.low g && is_below g z.box.high &&
    nat_le z.least (squared_distance a.centre p) && nat_le (squared_distance a.centre p) z.most &&
    (in_sector a p || by_an_end a (z.w + z.d) p)

abbrev same_pos : StepPos → StepPos → Bool
same_pos p q = nat_le (distance p.x q.x + distance p.y q.y + distance p.z q.z) 0

abbrev move_is_good : Sizes → ArcShape → StepPos → StepPos → Point2 → Point2 → Bool
move_is_good z a g h p q =
    nat_le (distance g.x h.x) 1 && nat_le (distance g.y h.y) 1 && nat_le (distance g.z h.z) 1 && not (same_pos g h) &&
    nat_le (distance (height_of a h) z.top) (distance (height_of a g) z.top) &&
    (int_le (pos 0) (turn_from a p q) || by_an_end a (4 * z.s + z.d) p || by_an_end a (4 * z.s + z.d) q)

-- at point k of n the height is at most a step from its value at k/n of the line
abbrev height_is_good : ℤ → ArcShape → ℕ → ℕ → ℤ → Bool
height_is_good step a n k at =
    nat_le (distance (pos k *ℤ (height a.plane a.end -ℤ height a.plane a.start)) (pos n *ℤ ((at *ℤ step) -ℤ height a.plane a.start))) (n * unsigned_abs step)

abbrev drop_near : ℕ → List Point2 → Point2 → List Point2
drop_near d [] p = []
drop_near d (q ∷ qs) p = if is_within d p q then qs else q ∷ qs

abbrev no_more : List Point2 → Bool
no_more [] = true
no_more (q ∷ qs) = false

-- all points, moves and heights from point k on; the quadrant points are met in order
all_good : Sizes → ℤ → ArcShape → ℕ → ℕ → List Point2 → List StepPos → Bool
all_good z step a n k qs [] = false
all_good z step a n k qs (g ∷ []) =
    point_is_good z a g (seen step a g) && height_is_good step a n k (height_of a g) && no_more (drop_near (z.w + z.s + z.d) qs (seen step a g))
    && same_pos g (grid step a.end)
all_good z step a n k qs (g ∷ h ∷ gs) =
    (point_is_good z a g (seen step a g) && height_is_good step a n k (height_of a g) && move_is_good z a g h (seen step a g) (seen step a h))
    && all_good z step a n (suc k) (drop_near (z.w + z.s + z.d) qs (seen step a g)) (h ∷ gs)

abbrev is_short : ℤ → ArcShape → ℕ → Bool
is_short step a n = nat_le (n * unsigned_abs step)
    (distance (start_height step a) (end_height step a) * unsigned_abs step + 8 * outer_radius a + 32 * spread a + 64 * unsigned_abs step)

follows : ℤ → ArcShape → List StepPos → Bool
unfolding all_good
follows step a [] = false
follows step a (g ∷ gs) = same_pos g (grid step a.start) && all_good (sizes step a) step a (length gs) 0 (extremes a) (g ∷ gs) && is_short step a (length gs)

-- ---- paths to judge: from point to point on the grid round a centre; each point has a quadrant
-- and coordinates along the quadrant's axes

record Spot : Type 0 where
  q : ℕ
  x : ℕ
  y : ℕ

abbrev next : ℕ → ℕ → Spot → Spot
next g limit s =
    if nat_lt s.x g then record { q = suc s.q; x = s.y; y = g - s.x }
    else (if nat_le (s.x * s.x + (s.y + g) * (s.y + g)) limit then record { q = s.q; x = s.x; y = s.y + g }
    else (if nat_le ((s.x - g) * (s.x - g) + (s.y + g) * (s.y + g)) limit then record { q = s.q; x = s.x - g; y = s.y + g }
    else record { q = s.q; x = s.x - g; y = s.y }))

abbrev turned : Turn → ℤ → ℤ
turned Counterclockwise z = z
turned Clockwise z = neg_ℤ z

abbrev about : ℕ → Turn → ℤ → ℤ → ℤ → ℕ → ℕ → ℕ → StepPos
about g turn cu cv w zero x y = record { x = cu +ℤ pos (x / g); y = cv +ℤ turned turn (pos (y / g)); z = w }
about g turn cu cv w (suc zero) x y = record { x = cu -ℤ pos (y / g); y = cv +ℤ turned turn (pos (x / g)); z = w }
about g turn cu cv w (suc (suc zero)) x y = record { x = cu -ℤ pos (x / g); y = cv -ℤ turned turn (pos (y / g)); z = w }
about g turn cu cv w (suc (suc (suc zero))) x y = record { x = cu +ℤ pos (y / g); y = cv -ℤ turned turn (pos (x / g)); z = w }
about g turn cu cv w (suc (suc (suc (suc q)))) x y = about g turn cu cv w q x y

-- n points from s on, and the end; point k has the height h k
round_path : ℕ → ℕ → Turn → ℤ → ℤ → (ℕ → ℤ) → StepPos → ℕ → ℕ → Spot → List StepPos
round_path g limit turn cu cv h end zero k s = end ∷ []
round_path g limit turn cu cv h end (suc n) k s = about g turn cu cv (h k) s.q s.x s.y ∷ round_path g limit turn cu cv h end n (suc k) (next g limit s)

abbrev at : ℤ → ℤ → ℤ → StepPos
at x y z = record { x = x; y = y; z = z }

abbrev flat : ℕ → ℤ
flat k = pos 0

-- a full circle of radius five steps, clockwise from its west
abbrev small_circle : ArcShape
small_circle = record {
  plane = XY;
  turn = Clockwise;
  start = record { x = pos 0; y = pos 0; z = pos 0 };
  end = record { x = pos 0; y = pos 0; z = pos 0 };
  centre = record { u = pos 50000; v = pos 0 };
}

abbrev small_path : List StepPos
small_path = round_path 10000 (54000 * 54000) Clockwise (pos 5) (pos 0) flat (at (pos 0) (pos 0) (pos 0)) 28 0 (record { q = 2; x = 50000; y = 0 })

small_follows : follows (pos 10000) small_circle small_path ≡ true
unfolding whole_root whole_root_above all_good follows round_path
small_follows = refl

small_count : length small_path ≡ 29
unfolding round_path
small_count = refl

-- the half circle of radius 5 mm, clockwise, from west to east
abbrev half_circle : ArcShape
half_circle = record {
  plane = XY;
  turn = Clockwise;
  start = record { x = pos 0; y = pos 0; z = pos 0 };
  end = record { x = pos 10000000; y = pos 0; z = pos 0 };
  centre = record { u = pos 5000000; v = pos 0 };
}

abbrev half_path : List StepPos
half_path = round_path 10000 (5004000 * 5004000) Clockwise (pos 500) (pos 0) flat (at (pos 1000) (pos 0) (pos 0)) 1414 0 (record { q = 2; x = 5000000; y = 0 })

half_follows : follows (pos 10000) half_circle half_path ≡ true
unfolding whole_root whole_root_above all_good follows round_path
half_follows = refl

-- a helix: counterclockwise all round, down by three steps
abbrev helix : ArcShape
helix = record {
  plane = XY;
  turn = Counterclockwise;
  start = record { x = pos 0; y = pos 0; z = pos 0 };
  end = record { x = pos 0; y = pos 0; z = negsuc 29999 };
  centre = record { u = pos 50000; v = pos 0 };
}

abbrev down : ℕ → ℤ
down k = neg_ℤ (pos ((2 * (k * 3) + 28) / (2 * 28)))

abbrev helix_path : (ℕ → ℤ) → List StepPos
helix_path h = round_path 10000 (54000 * 54000) Counterclockwise (pos 5) (pos 0) h (at (pos 0) (pos 0) (negsuc 2)) 28 0 (record { q = 2; x = 50000; y = 0 })

helix_follows : follows (pos 10000) helix (helix_path down) ≡ true
unfolding whole_root whole_root_above all_good follows round_path
helix_follows = refl

-- ---- paths that do not follow the arc

-- in the wrong direction
abbrev wrong_way : List StepPos
wrong_way =
    round_path 10000 (5004000 * 5004000) Counterclockwise (pos 500) (pos 0) flat (at (pos 1000) (pos 0) (pos 0)) 1414 0 (record { q = 2; x = 5000000; y = 0 })

wrong_way_fails : follows (pos 10000) half_circle wrong_way ≡ false
unfolding whole_root whole_root_above all_good follows round_path
wrong_way_fails = refl

wrong_circle : List StepPos
wrong_circle = round_path 10000 (54000 * 54000) Counterclockwise (pos 5) (pos 0) flat (at (pos 0) (pos 0) (pos 0)) 28 0 (record { q = 2; x = 50000; y = 0 })

wrong_circle_fails : follows (pos 10000) small_circle wrong_circle ≡ false
unfolding whole_root whole_root_above all_good follows round_path wrong_circle
wrong_circle_fails = refl

-- the chord
chord : ℕ → ℕ → List StepPos
chord zero k = at (pos k) (pos 0) (pos 0) ∷ []
chord (suc n) k = at (pos k) (pos 0) (pos 0) ∷ chord n (suc k)

chord_fails : follows (pos 10000) half_circle (chord 1000 0) ≡ false
unfolding whole_root whole_root_above all_good follows chord
chord_fails = refl

-- no path of any number of moves with the chord's middle follows the half circle
no_middle : (n k : ℕ) (path : List StepPos) → k ≤ n → point path k ≡ at (pos 500) (pos 0) (pos 0) → IsArcOf (pos 10000) half_circle n path → ⊥
unfolding whole_root whole_root_above
no_middle n k path le here follows =
    let low : 24900100000000 ≤ 0 = rw here at (follows.band k le).inner in
    absurd (omega arith)

-- a jump of two steps
jump : List StepPos → List StepPos
jump [] = []
jump (p ∷ []) = p ∷ []
jump (p ∷ q ∷ ps) = p ∷ ps

jump_fails : follows (pos 10000) small_circle (jump small_path) ≡ false
unfolding whole_root whole_root_above all_good follows round_path jump
jump_fails = refl

-- back and forth at the start
to_and_fro : ℕ → List StepPos → List StepPos
to_and_fro zero ps = ps
to_and_fro (suc n) ps = at (pos 0) (pos 0) (pos 0) ∷ at (pos 0) (pos 1) (pos 0) ∷ to_and_fro n ps

to_and_fro_fails : follows (pos 10000) small_circle (to_and_fro 40 small_path) ≡ false
unfolding whole_root whole_root_above all_good follows round_path to_and_fro
to_and_fro_fails = refl

-- a height that rises again at one point, by so little that it stays near its line
abbrev up_again : ℕ → ℤ
up_again k = if nat_le k 9 && nat_le 9 k then pos 0 else down k

up_again_fails : follows (pos 10000) helix (helix_path up_again) ≡ false
unfolding whole_root whole_root_above all_good follows round_path
up_again_fails = refl

-- no move at all, for a full circle
nothing_fails : follows (pos 10000) small_circle (at (pos 0) (pos 0) (pos 0) ∷ []) ≡ false
unfolding whole_root whole_root_above all_good follows
nothing_fails = refl
