-- No move of a cycle is dangerous, and a line ends over its last hole.
use Rattle.std.proofs.Common.{◌≡◌, ℕ, zero, suc, ◌+◌, ◌-◌, ℤ, pos, ◌+ℤ◌, ◌-ℤ◌, ◌≤ℤ◌, ◌<ℤ◌, Bool, true, false, List, [], ◌∷◌, ◌++◌, inl, inr, refl, ap, sym, ◌∙◌, subst, arith}
use Rattle.std.specs.Prelude.{unsigned_abs, ◌&&◌, not, int_lt, if◌then◌else◌}
use Rattle.std.specs.List.{flat_map, AllByRecursion}
use Rattle.std.proofs.lemmas.Bool.{eqb-true}
use Rattle.std.proofs.lemmas.Int.{ints}
use Rattle.ngc_fixed_length.specs.Places.{in_plane, height, at_height}
use Rattle.ngc_fixed_length.specs.Signed.{greater, same}
use Rattle.ngc_fixed_length.specs.declared.modes.Plane.{Plane}
use Rattle.ngc_fixed_length.specs.declared.modes.Plane.TheVariants.{XY, ZX, YZ}
use Rattle.ngc_fixed_length.specs.declared.modes.RetractMode.{RetractMode}
use Rattle.ngc_fixed_length.specs.declared.modes.RetractMode.TheVariants as retracts
use Rattle.ngc_fixed_length.specs.declared.points.Point2.{Point2}
use Rattle.ngc_fixed_length.specs.declared.points.Point3.{Point3}
use Rattle.ngc_canned_cycles.specs.declared.cycle.CycleMove.{CycleMove}
use Rattle.ngc_canned_cycles.specs.declared.cycle.CycleMove.TheVariants.{Traverse, Feed, Dwell, StopSpindle, StartSpindle}
use Rattle.ngc_canned_cycles.specs.declared.cycle.Site.{Site}
use Rattle.ngc_canned_cycles.specs.Heights.{clear_at}
use Rattle.ngc_canned_cycles.specs.Holes.{traverse_to, counting, peck_depth}
use Rattle.ngc_dialect_cycles.specs.declared.line.HoleKind.{HoleKind}
use Rattle.ngc_dialect_cycles.specs.declared.line.HoleKind.TheVariants.{Drill, DrillWithDwell, Peck, BreakChips, Bore, BoreWithStop, BoreWithDwell}
use Rattle.ngc_dialect_cycles.specs.declared.line.Levels.{Levels}
use Rattle.ngc_dialect_cycles.specs.declared.line.Series.{Series}
use Rattle.ngc_dialect_cycles.specs.declared.line.CycleLine.{CycleLine}
use Rattle.ngc_dialect_cycles.specs.Levels.{retract_of, bottom_of, clear_of, levels, hole_place, site_of}
use Rattle.ngc_dialect_cycles.specs.Holes.{peck_count, peck_moves, pecks, ending, hole_moves}
use Rattle.ngc_dialect_cycles.specs.Moves.{rises, arrival, hole, end_of, differ, acts, acting, all_moves}
use Rattle.ngc_dialect_cycles.specs.Refusals.{bad_peck}
use Rattle.ngc_dialect_cycles.specs.Laws.{EachFrom, ends_at, IsUpright, IsOver, IsLevel, IsSafe, MovesAreSafe, EndsAtClear}
use Rattle.ngc_dialect_cycles.proofs.Sound.{IsSound, sound, pecks as pecks_of}

-- points over a plane
pub height_at : (plane : Plane) (p : Point2) (w : ℤ) → height plane (at_height plane p w) ≡ w
height_at XY p w = refl
height_at ZX p w = refl
height_at YZ p w = refl

place_at : (plane : Plane) (p : Point2) (w : ℤ) → in_plane plane (at_height plane p w) ≡ p
place_at XY p w = refl
place_at ZX p w = refl
place_at YZ p w = refl

-- a motion that goes nowhere ends where it begins
is_same : (x y : ℤ) → same x y ≡ true → x ≡ y
is_same x y h = let none : unsigned_abs (x -ℤ y) ≡ 0 = eqb-true _ _ h in omega (arith, ints)

and_left : (a b : Bool) → (a && b) ≡ true → a ≡ true
and_left true b h = refl
and_left false b h = absurd (cc)

and_right : (a b : Bool) → (a && b) ≡ true → b ≡ true
and_right true b h = h
and_right false b h = absurd (cc)

not_false : (b : Bool) → not b ≡ false → b ≡ true
not_false true h = refl
not_false false h = absurd (cc)

is_here : (p q : Point3) → differ p q ≡ false → q ≡ p
is_here p q h =
    let all : ((same p.x q.x && same p.y q.y) && same p.z q.z) ≡ true = not_false _ h in
    let xy = and_left _ _ all in
    let x : p.x ≡ q.x = is_same p.x q.x (and_left _ _ xy) in
    let y : p.y ≡ q.y = is_same p.y q.y (and_right _ _ xy) in
    let z : p.z ≡ q.z = is_same p.z q.z (and_right _ _ all) in
    let at : ℤ → ℤ → ℤ → Point3 = λ x y z. record { x = x; y = y; z = z } in
    sym (ap (λ a. at a p.y p.z) x ∙ ap (λ a. at q.x a p.z) y ∙ ap (at q.x q.y) z)

idle : (p : Point3) (m : CycleMove) → acts p m ≡ false → end_of p m ≡ p
idle p (Traverse q) h = is_here p q h
idle p (Feed q) h = is_here p q h
idle p (Dwell t) h = refl
idle p StopSpindle h = refl
idle p StartSpindle h = refl

-- what holds of all moves holds of those that go somewhere
acting_if : (P : Point3 → CycleMove → Type 0) (p : Point3) (m : CycleMove) (ms : List CycleMove) (b : Bool) → acts p m ≡ b → P p m →
    EachFrom P (end_of p m) (acting (end_of p m) ms) → EachFrom P p (if b then m ∷ acting (end_of p m) ms else acting p ms)
acting_if P p m ms true h first rest = (first, rest)
acting_if P p m ms false h first rest = subst (λ q. EachFrom P q (acting q ms)) (idle p m h) rest

pub each_acting : (P : Point3 → CycleMove → Type 0) (p : Point3) (ms : List CycleMove) → EachFrom P p ms → EachFrom P p (acting p ms)
each_acting P p [] h = tt
each_acting P p (m ∷ ms) h = acting_if P p m ms (acts p m) refl h.0 (each_acting P (end_of p m) ms h.1)

ends_if : (p : Point3) (m : CycleMove) (ms : List CycleMove) (b : Bool) → acts p m ≡ b →
    ends_at p (if b then m ∷ acting (end_of p m) ms else acting p ms) ≡ ends_at (end_of p m) (acting (end_of p m) ms)
ends_if p m ms true h = refl
ends_if p m ms false h = ap (λ q. ends_at q (acting q ms)) (sym (idle p m h))

ends_acting : (p : Point3) (ms : List CycleMove) → ends_at p (acting p ms) ≡ ends_at p ms
ends_acting p [] = refl
ends_acting p (m ∷ ms) = ends_if p m ms (acts p m) refl ∙ ends_acting (end_of p m) ms

-- moves that are joined
pub each-append : (P : Point3 → CycleMove → Type 0) (p : Point3) (xs ys : List CycleMove) → EachFrom P p xs → EachFrom P (ends_at p xs) ys → EachFrom P p (xs ++ ys)
each-append P p [] ys h k = k
each-append P p (m ∷ xs) ys h k = (h.0, each-append P (end_of p m) xs ys h.1 k)

ends-append : (p : Point3) (xs ys : List CycleMove) → ends_at p (xs ++ ys) ≡ ends_at (ends_at p xs) ys
ends-append p [] ys = refl
ends-append p (m ∷ xs) ys = ends-append (end_of p m) xs ys

-- a motion ends over a place, at the bottom or above it
abbrev IsAt : Plane → Point2 → ℤ → Point3 → Type 0
IsAt plane uv bottom q = (w : ℤ) × (bottom ≤ℤ w) × (q ≡ at_height plane uv w)

abbrev IsOnSite : Site → CycleMove → Type 0
IsOnSite s (Traverse q) = IsAt s.plane s.place s.bottom q
IsOnSite s (Feed q) = IsAt s.plane s.place s.bottom q
IsOnSite s (Dwell t) = Unit {0}
IsOnSite s StopSpindle = Unit {0}
IsOnSite s StartSpindle = Unit {0}

on-append : (s : Site) (xs ys : List CycleMove) → AllByRecursion (IsOnSite s) xs → AllByRecursion (IsOnSite s) ys → AllByRecursion (IsOnSite s) (xs ++ ys)
on-append s [] ys h k = k
on-append s (m ∷ xs) ys h k = (h.0, on-append s xs ys h.1 k)

on-flat_map : (s : Site) (f : ℕ → List CycleMove) (ns : List ℕ) → ((i : ℕ) → AllByRecursion (IsOnSite s) (f i)) → AllByRecursion (IsOnSite s) (flat_map f ns)
on-flat_map s f [] h = tt
on-flat_map s f (i ∷ ns) h = on-append s (f i) (flat_map f ns) (h i) (on-flat_map s f ns h)

-- moves on a site are safe, wherever above it they begin
module _ (s : Site) (v : Levels) (same_bottom : v.bottom ≡ s.bottom) where
  deep : (q : Point3) → IsAt s.plane s.place s.bottom q → v.bottom ≤ℤ height s.plane q
  deep q h = let e : height s.plane q ≡ h.0 = ap (height s.plane) h.2 ∙ height_at s.plane s.place h.0 in rw (same_bottom, e) h.1

  upright : (p q : Point3) → in_plane s.plane p ≡ s.place → IsAt s.plane s.place s.bottom q → IsUpright s.plane p q
  upright p q here h = here ∙ sym (ap (in_plane s.plane) h.2 ∙ place_at s.plane s.place h.0)

  on : (q : Point3) → IsAt s.plane s.place s.bottom q → in_plane s.plane q ≡ s.place
  on q h = ap (in_plane s.plane) h.2 ∙ place_at s.plane s.place h.0

  safe_on : (p : Point3) (ms : List CycleMove) → in_plane s.plane p ≡ s.place → AllByRecursion (IsOnSite s) ms → EachFrom (IsSafe s.plane v) p ms
  safe_on p [] here h = tt
  safe_on p (Traverse q ∷ ms) here h = ((deep q h.0, inl (upright p q here h.0)), safe_on q ms (on q h.0) h.1)
  safe_on p (Feed q ∷ ms) here h = ((deep q h.0, upright p q here h.0), safe_on q ms (on q h.0) h.1)
  safe_on p (Dwell t ∷ ms) here h = (tt, safe_on p ms here h.1)
  safe_on p (StopSpindle ∷ ms) here h = (tt, safe_on p ms here h.1)
  safe_on p (StartSpindle ∷ ms) here h = (tt, safe_on p ms here h.1)

-- a hole's moves below R are on its site
pub record IsOrdered (s : Site) : Type 0 where
  pub retract : s.bottom ≤ℤ s.retract
  pub clear : s.bottom ≤ℤ s.clear

at_bottom : (s : Site) → IsAt s.plane s.place s.bottom (at_height s.plane s.place s.bottom)
at_bottom s = (s.bottom, omega (arith, ints), refl)

pub not_below : (b x : ℤ) → b ≤ℤ greater b x
not_below b x = grind (arith, ints)

pub raised : (b d back : ℤ) → b ≤ℤ d → pos 0 ≤ℤ back → b ≤ℤ (d +ℤ back)
raised b d back h k = omega (arith, ints)

module _ (s : Site) (h : IsOrdered s) where
  at_retract : IsAt s.plane s.place s.bottom (at_height s.plane s.place s.retract)
  at_retract = (s.retract, h.retract, refl)

  at_clear : IsAt s.plane s.place s.bottom (at_height s.plane s.place s.clear)
  at_clear = (s.clear, h.clear, refl)

  at_depth : (q : ℤ) (i : ℕ) → IsAt s.plane s.place s.bottom (at_height s.plane s.place (peck_depth s q i))
  at_depth q i = (peck_depth s q i, not_below _ _, refl)

  at_back : (q back : ℤ) (i : ℕ) → pos 0 ≤ℤ back → IsAt s.plane s.place s.bottom (at_height s.plane s.place (peck_depth s q i +ℤ back))
  at_back q back i good = (peck_depth s q i +ℤ back, raised s.bottom (peck_depth s q i) back (not_below _ _) good, refl)

  on_peck : (kind : HoleKind) (i : ℕ) → bad_peck kind ≡ false → AllByRecursion (IsOnSite s) (peck_moves kind s i)
  on_peck (Peck p) i good = (at_depth p.depth i, (at_retract, (at_back p.depth p.back i (pecks_of p good).back, tt)))
  on_peck (BreakChips p) i good = (at_depth p.depth i, (at_back p.depth p.back i (pecks_of p good).back, tt))
  on_peck Drill i good = tt
  on_peck (DrillWithDwell t) i good = tt
  on_peck Bore i good = tt
  on_peck (BoreWithStop t) i good = tt
  on_peck (BoreWithDwell t) i good = tt

  on_ending : (kind : HoleKind) → AllByRecursion (IsOnSite s) (ending kind s)
  on_ending (Peck p) = (at_bottom s, (at_clear, tt))
  on_ending (BreakChips p) = (at_bottom s, (at_clear, tt))
  on_ending Drill = (at_bottom s, (at_clear, tt))
  on_ending (DrillWithDwell t) = (at_bottom s, (tt, (at_clear, tt)))
  on_ending Bore = (at_bottom s, (at_retract, (at_clear, tt)))
  on_ending (BoreWithStop t) = (at_bottom s, (tt, (tt, (at_clear, (tt, tt)))))
  on_ending (BoreWithDwell t) = (at_bottom s, (tt, (at_clear, tt)))

  on_hole : (kind : HoleKind) → bad_peck kind ≡ false → AllByRecursion (IsOnSite s) (hole_moves kind s)
  on_hole kind good = on-append s (pecks kind s) (ending kind s) (on-flat_map s (peck_moves kind s) (counting 1 (peck_count kind s)) (λ i. on_peck kind i good)) (on_ending kind)

ending_ends : (kind : HoleKind) (s : Site) (p : Point3) → ends_at p (ending kind s) ≡ at_height s.plane s.place s.clear
ending_ends (Peck d) s p = refl
ending_ends (BreakChips d) s p = refl
ending_ends Drill s p = refl
ending_ends (DrillWithDwell t) s p = refl
ending_ends Bore s p = refl
ending_ends (BoreWithStop t) s p = refl
ending_ends (BoreWithDwell t) s p = refl

clears : (mode : RetractMode) (level r : ℤ) → r ≤ℤ clear_at mode level r
clears retracts.Series level r = grind (arith, ints)
clears retracts.Retract level r = omega (arith, ints)

level_with : (x : ℤ) → x ≤ℤ x
level_with x = omega (arith, ints)

pub within : (a b c : ℤ) → a ≤ℤ b → b ≤ℤ c → a ≤ℤ c
within a b c h k = omega (arith, ints)

lower : (a b c : ℤ) → a ≤ℤ b → b <ℤ c → a ≤ℤ c
lower a b c h k = omega (arith, ints)

less : (a b : ℤ) → int_lt a b ≡ true → a <ℤ b
less a b h = omega (arith, ints)

not_less : (a b : ℤ) → int_lt a b ≡ false → b ≤ℤ a
not_less a b h = omega (arith, ints)

-- where hole k may begin
abbrev Begins : Series → CycleLine → ℕ → Point3 → Type 0
Begins s l zero p = p ≡ l.place
Begins s l (suc k) p = height l.plane p ≡ clear_of s l

hole_ends : (s : Series) (l : CycleLine) (k : ℕ) (p : Point3) → ends_at p (hole s l k) ≡ at_height l.plane (hole_place l k) (clear_of s l)
hole_ends s l k p =
    ends-append p (arrival s l k) (hole_moves s.kind (site_of s l k))
    ∙ ends-append (ends_at p (arrival s l k)) (pecks s.kind (site_of s l k)) (ending s.kind (site_of s l k))
    ∙ ending_ends s.kind (site_of s l k) _

module _ (s : Series) (l : CycleLine) (h : IsSound s l) where
  abbrev Safe : Point3 → CycleMove → Type 0
  Safe = IsSafe l.plane (levels s l)

  ordered : (k : ℕ) → IsOrdered (site_of s l k)
  ordered k = record { retract = h.order; clear = within _ _ _ h.order (clears l.clear s.level (retract_of s l)) }

  -- from a height that is not above w, the tool goes over to hole k at w
  go_over : (k : ℕ) (p : Point3) (w : ℤ) → height l.plane p ≤ℤ w → clear_of s l ≤ℤ w →
      EachFrom Safe p (traverse_to (site_of s l k) w ∷ traverse_to (site_of s l k) (retract_of s l) ∷ hole_moves s.kind (site_of s l k))
  go_over k p w up over =
      let uv = hole_place l k in
      let e : height l.plane (at_height l.plane uv w) ≡ w = height_at l.plane uv w in
      let bottom : bottom_of s l ≤ℤ w = within _ _ _ (ordered k).clear over in
      let first : IsOver l.plane (clear_of s l) p (at_height l.plane uv w) = record { high = rw e over; up = rw e up } in (
        (rw e bottom, inr (inl first)),
        safe_on (site_of s l k) (levels s l) refl (at_height l.plane uv w) (traverse_to (site_of s l k) (retract_of s l) ∷ hole_moves s.kind (site_of s l k)) (place_at l.plane uv w)
            (at_retract (site_of s l k) (ordered k), on_hole (site_of s l k) (ordered k) s.kind h.peck),
      )

  -- from above R, the tool goes level to the first hole
  go_level : (p : Point3) → retract_of s l <ℤ height l.plane p →
      EachFrom Safe p (traverse_to (site_of s l 0) (height l.plane p) ∷ traverse_to (site_of s l 0) (retract_of s l) ∷ hole_moves s.kind (site_of s l 0))
  go_level p above =
      let uv = hole_place l 0 in
      let w = height l.plane p in
      let e : height l.plane (at_height l.plane uv w) ≡ w = height_at l.plane uv w in
      let bottom : bottom_of s l ≤ℤ w = lower _ _ _ h.order above in
      let first : IsLevel l.plane (retract_of s l) p (at_height l.plane uv w) = record { high = rw e above; level = sym e } in (
        (rw e bottom, inr (inr first)),
        safe_on (site_of s l 0) (levels s l) refl (at_height l.plane uv w) (traverse_to (site_of s l 0) (retract_of s l) ∷ hole_moves s.kind (site_of s l 0)) (place_at l.plane uv w)
            (at_retract (site_of s l 0) (ordered 0), on_hole (site_of s l 0) (ordered 0) s.kind h.peck),
      )

  over_clear : retract_of s l ≤ℤ clear_of s l
  over_clear = clears l.clear s.level (retract_of s l)

  first_go : (b : Bool) → int_lt (retract_of s l) (height l.plane l.place) ≡ b →
      EachFrom Safe l.place (traverse_to (site_of s l 0) (if b then height l.plane l.place else clear_of s l) ∷ traverse_to (site_of s l 0) (retract_of s l) ∷ hole_moves s.kind (site_of s l 0))
  first_go true e = go_level l.place (less _ _ e)
  first_go false e = go_over 0 l.place (clear_of s l) (within _ _ _ (not_less _ _ e) over_clear) (level_with (clear_of s l))

  first_hole : (b : Bool) → rises s l ≡ b → EachFrom Safe l.place (hole s l 0)
  first_hole true e =
      let uv = in_plane l.plane l.place in
      let r = retract_of s l in
      let at : height l.plane (at_height l.plane uv r) ≡ r = height_at l.plane uv r in
      let bottom : bottom_of s l ≤ℤ height l.plane (at_height l.plane uv r) = rw at h.order in
      let up : height l.plane (at_height l.plane uv r) ≤ℤ clear_of s l = rw at over_clear in
      rw e ((bottom, inl (sym (place_at l.plane uv r))), go_over 0 (at_height l.plane uv r) (clear_of s l) up (level_with (clear_of s l)))
  first_hole false e = rw e (first_go (int_lt (retract_of s l) (height l.plane l.place)) refl)

  one_hole : (k : ℕ) (p : Point3) → Begins s l k p → EachFrom Safe p (hole s l k)
  one_hole zero p begins = subst (λ q. EachFrom Safe q (hole s l 0)) (sym begins) (first_hole (rises s l) refl)
  one_hole (suc k) p begins = go_over (suc k) p (clear_of s l) (rw begins (level_with (clear_of s l))) (level_with (clear_of s l))

  after_hole : (k : ℕ) (p : Point3) → Begins s l (k + 1) (ends_at p (hole s l k))
  after_hole k p =
      let e : k + 1 ≡ suc k = omega arith in
      rw e (ap (height l.plane) (hole_ends s l k p) ∙ height_at l.plane (hole_place l k) (clear_of s l))

  holes : (n k : ℕ) (p : Point3) → Begins s l k p → EachFrom Safe p (flat_map (hole s l) (counting k n))
  holes zero k p begins = tt
  holes (suc n) k p begins =
      each-append Safe p (hole s l k) (flat_map (hole s l) (counting (k + 1) n)) (one_hole k p begins) (holes n (k + 1) (ends_at p (hole s l k)) (after_hole k p))

pub moves_are_safe : MovesAreSafe
moves_are_safe s l ok = each_acting (IsSafe l.plane (levels s l)) l.place (all_moves s l) (holes s l (sound s l ok) l.repeats 0 l.place refl)

holes_end : (s : Series) (l : CycleLine) (n k : ℕ) (p : Point3) →
    ends_at p (flat_map (hole s l) (counting k (suc n))) ≡ at_height l.plane (hole_place l (k + n)) (clear_of s l)
holes_end s l zero k p =
    let e : k + 0 ≡ k = omega arith in
    ends-append p (hole s l k) [] ∙ hole_ends s l k p ∙ ap (λ n. at_height l.plane (hole_place l n) (clear_of s l)) (sym e)
holes_end s l (suc n) k p =
    let e : k + suc n ≡ (k + 1) + n = omega arith in
    ends-append p (hole s l k) (flat_map (hole s l) (counting (k + 1) (suc n))) ∙ holes_end s l n (k + 1) (ends_at p (hole s l k))
    ∙ ap (λ n. at_height l.plane (hole_place l n) (clear_of s l)) (sym e)

pub ends_at_clear : EndsAtClear
ends_at_clear s l some =
    let e : l.repeats ≡ suc (l.repeats - 1) = omega arith in
    let first : 0 + (l.repeats - 1) ≡ l.repeats - 1 = omega arith in
    let all : all_moves s l ≡ flat_map (hole s l) (counting 0 (suc (l.repeats - 1))) = ap (λ n. flat_map (hole s l) (counting 0 n)) e in
    ends_acting l.place (all_moves s l) ∙ ap (ends_at l.place) all ∙ holes_end s l (l.repeats - 1) 0 l.place ∙ ap (λ n. at_height l.plane (hole_place l n) (clear_of s l)) first
