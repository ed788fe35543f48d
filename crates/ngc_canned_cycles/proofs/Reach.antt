-- The moves of a cycle stay within the machine's reach.
use Rattle.std.proofs.Common.{◌≡◌, ℕ, ◌≤◌, ℤ, pos, ◌+ℤ◌, ◌-ℤ◌, ◌*ℤ◌, ◌<ℤ◌, ◌≤ℤ◌, Bool, true, false, List, [], ◌∷◌, ◌++◌, inl, inr, refl, arith}
use Rattle.std.specs.Prelude.{unsigned_abs, int_lt, nat_lt, ◌==◌, ◌&&◌, All, if◌then◌else◌}
use Rattle.std.specs.List.{flat_map}
use Rattle.std.proofs.lemmas.Int.{ints}
use Rattle.std.proofs.lemmas.List.Elements.{All-append, All-cons}
use Rattle.ngc_fixed_length.specs.Places.{in_plane, height, at_height}
use Rattle.ngc_fixed_length.specs.Signed.{greater, same}
use Rattle.ngc_fixed_length.specs.declared.modes.Plane.{Plane}
use Rattle.ngc_fixed_length.specs.declared.modes.Plane.TheVariants.{XY, ZX, YZ}
use Rattle.ngc_fixed_length.specs.declared.modes.RetractMode.{RetractMode}
use Rattle.ngc_fixed_length.specs.declared.modes.RetractMode.TheVariants.{Series, Retract}
use Rattle.ngc_fixed_length.specs.declared.points.Point2.{Point2}
use Rattle.ngc_fixed_length.specs.declared.points.Point3.{Point3}
use Rattle.ngc_offsets.specs.Offsets.{Offsets}
use Rattle.ngc_offsets.specs.Ranges.{MACHINE_LIMIT, SHIFT_LIMIT, AreInRange, IsCoordinate, IsPresentOrNamed}
use Rattle.ngc_offsets.specs.Frames.{shift_of, IsReachable}
use Rattle.ngc_offsets.proofs.Reach.{IsWithin-shift_of}
use Rattle.ngc_canned_cycles.specs.declared.cycle.Cycle.{Cycle}
use Rattle.ngc_canned_cycles.specs.declared.cycle.CycleMove.TheVariants.{Traverse, Dwell, StopSpindle, StartSpindle}
use Rattle.ngc_canned_cycles.specs.declared.cycle.Hole.{Hole}
use Rattle.ngc_canned_cycles.specs.declared.cycle.Hole.TheVariants.{Drill, DrillWithDwell, Peck, Bore, BoreWithStop, BoreWithDwell}
use Rattle.ngc_canned_cycles.specs.declared.cycle.Site.{Site}
use Rattle.ngc_canned_cycles.specs.declared.cycle.Start.{Start}
use Rattle.ngc_canned_cycles.specs.Heights.{height_before, place_before, retract_of, bottom_of, top_of, clear_at, clear_of, repeat_place, repeats_of, site_of}
use Rattle.ngc_canned_cycles.specs.Holes.{traverse_to, feed_to, counting, peck_depth, back_down, peck, pecks, peck_count, hole_moves}
use Rattle.ngc_canned_cycles.specs.Refusals.{bad_peck}
use Rattle.ngc_canned_cycles.specs.Moves.{first_rise, arrival, approach, repeat_moves}
use Rattle.ngc_canned_cycles.specs.Reach.{IsMoveReachable, IsHeightReachable, BeginsInReach, StaysInReach}
use Rattle.ngc_canned_cycles.proofs.Range.{coordinates}
use Rattle.ngc_canned_cycles.proofs.Pecks.{below}

-- a coordinate whose machine coordinate, s away from it, is within reach
abbrev Near : ℤ → ℤ → Type 0
Near s c = unsigned_abs (c +ℤ s) ≤ MACHINE_LIMIT

near_coordinate : (s c : ℤ) → unsigned_abs s ≤ SHIFT_LIMIT → IsCoordinate c → Near s c
near_coordinate s c p q = omega (arith, ints)

near_kept : (s before c : ℤ) → unsigned_abs s ≤ SHIFT_LIMIT → Near s before → IsPresentOrNamed before c → Near s c
near_kept s before c p near kept = elim kept [ inl e ↦ rw e near | inr given ↦ near_coordinate s c p given ]

near_if : (s a b : ℤ) (test : Bool) → Near s a → Near s b → Near s (if test then a else b)
near_if s a b true p q = p
near_if s a b false p q = q

-- a place in a plane and heights above it that are within reach
record IsNear (f : Offsets) (plane : Plane) (p : Point2) : Type 0 where
  u : Near (in_plane plane (shift_of f)).u p.u
  v : Near (in_plane plane (shift_of f)).v p.v

above : (f : Offsets) (plane : Plane) (p : Point2) (w : ℤ) → IsNear f plane p → IsHeightReachable f plane w → IsReachable f (at_height plane p w)
above f XY p w near high = record { x = near.u; y = near.v; z = high }
above f ZX p w near high = record { x = near.v; y = high; z = near.u }
above f YZ p w near high = record { x = high; y = near.u; z = near.v }

in_plane_near : (f : Offsets) (plane : Plane) (p : Point3) → IsReachable f p → IsNear f plane (in_plane plane p)
in_plane_near f XY p h = record { u = h.x; v = h.y }
in_plane_near f ZX p h = record { u = h.z; v = h.x }
in_plane_near f YZ p h = record { u = h.y; v = h.z }

-- the height of a place within reach
pub height_near : (f : Offsets) (plane : Plane) (p : Point3) → IsReachable f p → IsHeightReachable f plane (height plane p)
height_near f XY p h = h.z
height_near f ZX p h = h.y
height_near f YZ p h = h.x

record IsShiftBounded (f : Offsets) (plane : Plane) : Type 0 where
  u : unsigned_abs (in_plane plane (shift_of f)).u ≤ SHIFT_LIMIT
  v : unsigned_abs (in_plane plane (shift_of f)).v ≤ SHIFT_LIMIT
  w : unsigned_abs (height plane (shift_of f)) ≤ SHIFT_LIMIT

bounded : (f : Offsets) (plane : Plane) → AreInRange f → IsShiftBounded f plane
bounded f XY h = let s = IsWithin-shift_of f h in record { u = s.x; v = s.y; w = s.z }
bounded f ZX h = let s = IsWithin-shift_of f h in record { u = s.z; v = s.x; w = s.y }
bounded f YZ h = let s = IsWithin-shift_of f h in record { u = s.y; v = s.z; w = s.x }

-- the heights of a site, and its place
record IsNearSite (f : Offsets) (s : Site) : Type 0 where
  place : IsNear f s.plane s.place
  shift : unsigned_abs (height s.plane (shift_of f)) ≤ SHIFT_LIMIT
  retract : IsCoordinate s.retract
  bottom : IsCoordinate s.bottom
  clear : IsHeightReachable f s.plane s.clear

none : {X : Type 0} (P : X → Type 0) → All P []
none P k d h = absurd (omega arith)

one : {X : Type 0} (P : X → Type 0) (x : X) → P x → All P (x ∷ [])
one P x h = All-cons P x [] h (none P)

all_if : {X : Type 0} (P : X → Type 0) (test : Bool) (xs : List X) → (test ≡ true → All P xs) → All P (if test then xs else [])
all_if P true xs h = h refl
all_if P false xs h = none P

all_unless : {X : Type 0} (P : X → Type 0) (test : Bool) (xs : List X) → All P xs → All P (if test then [] else xs)
all_unless P true xs h = none P
all_unless P false xs h = h

greater_coordinate : (b r x : ℤ) → IsCoordinate b → IsCoordinate r → x ≤ℤ r → IsCoordinate (greater b x)
greater_coordinate b r x p q h = grind (arith, ints)

back_coordinate : (depth r : ℤ) → IsCoordinate depth → IsCoordinate r → int_lt (depth +ℤ pos 254000) r ≡ true → IsCoordinate (depth +ℤ pos 254000)
back_coordinate depth r p q h = grind (arith, ints)

positive_peck : (q : ℤ) (way : ℤ) → bad_peck (Peck q) way ≡ false → pos 0 <ℤ q
positive_peck q way h = grind (arith, ints)

-- the moves of a hole
module _ (f : Offsets) (s : Site) (near : IsNearSite f s) where
  to_height : (w : ℤ) → IsHeightReachable f s.plane w → IsReachable f (at_height s.plane s.place w)
  to_height w high = above f s.plane s.place w near.place high

  to_coordinate : (w : ℤ) → IsCoordinate w → IsReachable f (at_height s.plane s.place w)
  to_coordinate w given = to_height w (near_coordinate (height s.plane (shift_of f)) w near.shift given)

  back_near : (depth : ℤ) → IsCoordinate depth → All (IsMoveReachable f) (back_down s depth)
  back_near depth given = all_if (IsMoveReachable f) (int_lt (depth +ℤ pos 254000) s.retract) (traverse_to s (depth +ℤ pos 254000) ∷ [])
      (λ under. one (IsMoveReachable f) (traverse_to s (depth +ℤ pos 254000)) (to_coordinate _ (back_coordinate depth s.retract given near.retract under)))

  peck_near : (q : ℤ) (m i : ℕ) → pos 0 <ℤ q → All (IsMoveReachable f) (peck s q m i)
  peck_near q m i positive =
      let depth : IsCoordinate (peck_depth s q i) = greater_coordinate s.bottom s.retract (s.retract -ℤ (pos i *ℤ q)) near.bottom near.retract
      (below s.retract q i positive) in
      All-cons (IsMoveReachable f) (feed_to s (peck_depth s q i)) _ (to_coordinate _ depth)
      (all_if (IsMoveReachable f) (nat_lt i m) (traverse_to s s.retract ∷ back_down s (peck_depth s q i))
      (λ more. All-cons (IsMoveReachable f) (traverse_to s s.retract) (back_down s (peck_depth s q i)) (to_coordinate _ near.retract)
      (back_near (peck_depth s q i) depth)))

  pecks_near : (q : ℤ) (m : ℕ) (xs : List ℕ) → pos 0 <ℤ q → All (IsMoveReachable f) (flat_map (peck s q m) xs)
  pecks_near q m [] positive = none (IsMoveReachable f)
  pecks_near q m (x ∷ xs) positive =
      All-append (IsMoveReachable f) (peck s q m x) (flat_map (peck s q m) xs) (peck_near q m x positive) (pecks_near q m xs positive)

  down : All (IsMoveReachable f) (feed_to s s.bottom ∷ [])
  down = one (IsMoveReachable f) (feed_to s s.bottom) (to_coordinate s.bottom near.bottom)

  hole_near : (hole : Hole) → bad_peck hole (s.retract -ℤ s.bottom) ≡ false → All (IsMoveReachable f) (hole_moves hole s)
  hole_near Drill good = All-append (IsMoveReachable f) (feed_to s s.bottom ∷ []) (traverse_to s s.clear ∷ []) down
      (one (IsMoveReachable f) (traverse_to s s.clear) (to_height s.clear near.clear))
  hole_near (DrillWithDwell dwell) good = All-append (IsMoveReachable f) (feed_to s s.bottom ∷ []) (Dwell dwell ∷ traverse_to s s.clear ∷ []) down
      (All-cons (IsMoveReachable f) (Dwell dwell) (traverse_to s s.clear ∷ []) tt
      (one (IsMoveReachable f) (traverse_to s s.clear) (to_height s.clear near.clear)))
  hole_near (Peck q) good = All-append (IsMoveReachable f) (pecks s q (peck_count (s.retract -ℤ s.bottom) (unsigned_abs q))) (traverse_to s s.clear ∷ [])
      (pecks_near q (peck_count (s.retract -ℤ s.bottom) (unsigned_abs q)) (counting 1 (peck_count (s.retract -ℤ s.bottom) (unsigned_abs q)))
      (positive_peck q (s.retract -ℤ s.bottom) good))
      (one (IsMoveReachable f) (traverse_to s s.clear) (to_height s.clear near.clear))
  hole_near Bore good = All-append (IsMoveReachable f) (feed_to s s.bottom ∷ []) (feed_to s s.clear ∷ []) down
      (one (IsMoveReachable f) (feed_to s s.clear) (to_height s.clear near.clear))
  hole_near (BoreWithStop dwell) good =
      All-append (IsMoveReachable f) (feed_to s s.bottom ∷ []) (Dwell dwell ∷ StopSpindle ∷ traverse_to s s.clear ∷ StartSpindle ∷ []) down
      (All-cons (IsMoveReachable f) (Dwell dwell) (StopSpindle ∷ traverse_to s s.clear ∷ StartSpindle ∷ []) tt
      (All-cons (IsMoveReachable f) StopSpindle (traverse_to s s.clear ∷ StartSpindle ∷ []) tt
      (All-cons (IsMoveReachable f) (traverse_to s s.clear) (StartSpindle ∷ []) (to_height s.clear near.clear) (one (IsMoveReachable f) StartSpindle tt))))
  hole_near (BoreWithDwell dwell) good = All-append (IsMoveReachable f) (feed_to s s.bottom ∷ []) (Dwell dwell ∷ feed_to s s.clear ∷ []) down
      (All-cons (IsMoveReachable f) (Dwell dwell) (feed_to s s.clear ∷ []) tt (one (IsMoveReachable f) (feed_to s s.clear) (to_height s.clear near.clear)))

  approach_near : (w : ℤ) → IsHeightReachable f s.plane w → All (IsMoveReachable f) (approach s w)
  approach_near w high = All-cons (IsMoveReachable f) (traverse_to s w) _ (to_height w high)
      (all_unless (IsMoveReachable f) (same w s.retract) (traverse_to s s.retract ∷ [])
      (one (IsMoveReachable f) (traverse_to s s.retract) (to_coordinate s.retract near.retract)))

-- the heights of a cycle
near_clear : (t : ℤ) (mode : RetractMode) (series retract : ℤ) → Near t series → Near t retract → Near t (clear_at mode series retract)
near_clear t Series series retract p q = near_if t retract series (int_lt series retract) q p
near_clear t Retract series retract p q = q

module _ (f : Offsets) (c : Cycle) (s : Start) (begins : BeginsInReach f c s) where
  retract_near : IsHeightReachable f c.plane (retract_of c s)
  retract_near = near_coordinate (height c.plane (shift_of f)) (retract_of c s) (bounded f c.plane begins.offsets).w (coordinates c s begins.words).retract

  clear_near : IsHeightReachable f c.plane (clear_of c s)
  clear_near = near_clear (height c.plane (shift_of f)) c.clear s.series (retract_of c s) begins.series retract_near

  top_near : IsHeightReachable f c.plane (top_of c s)
  top_near = near_if (height c.plane (shift_of f)) (retract_of c s) (height_before c s) (int_lt (height_before c s) (retract_of c s)) retract_near
      (height_near f c.plane s.place begins.place)

  arrival_near : (j : ℕ) → IsHeightReachable f c.plane (arrival c s j)
  arrival_near j = near_if (height c.plane (shift_of f)) (top_of c s) (clear_of c s) (j == 1) top_near clear_near

  site_near : (j : ℕ) → 1 ≤ j → j ≤ repeats_of c.repeats → IsNearSite f (site_of c s j)
  site_near j least most =
      let a = coordinates c s begins.words in
      let b = bounded f c.plane begins.offsets in
      let p = in_plane_near f c.plane s.place begins.place in
      record {
        place = record {
          u = near_kept (in_plane c.plane (shift_of f)).u (place_before c s).u (repeat_place c s j).u b.u p.u (a.u j least most);
          v = near_kept (in_plane c.plane (shift_of f)).v (place_before c s).v (repeat_place c s j).v b.v p.v (a.v j least most);
        };
        shift = b.w;
        retract = a.retract;
        bottom = a.bottom;
        clear = clear_near;
      }

  rise_near : (j : ℕ) → All (IsMoveReachable f) (first_rise c s j)
  rise_near j = all_if (IsMoveReachable f) ((j == 1) && int_lt (height_before c s) (retract_of c s))
      (Traverse (at_height c.plane (place_before c s) (retract_of c s)) ∷ [])
      (λ first. one (IsMoveReachable f) (Traverse (at_height c.plane (place_before c s) (retract_of c s)))
      (above f c.plane (place_before c s) (retract_of c s) (in_plane_near f c.plane s.place begins.place) retract_near))

pub stays : (c : Cycle) (s : Start) (j : ℕ) → bad_peck c.hole (retract_of c s -ℤ bottom_of c s) ≡ false → StaysInReach c s j (repeat_moves c s j)
stays c s j good f begins least most =
    let site = site_near f c s begins j least most in
    All-append (IsMoveReachable f) (first_rise c s j ++ approach (site_of c s j) (arrival c s j)) (hole_moves c.hole (site_of c s j))
    (All-append (IsMoveReachable f) (first_rise c s j) (approach (site_of c s j) (arrival c s j)) (rise_near f c s begins j)
    (approach_near f (site_of c s j) site (arrival c s j) (arrival_near f c s begins j)))
    (hole_near f (site_of c s j) site c.hole good)
