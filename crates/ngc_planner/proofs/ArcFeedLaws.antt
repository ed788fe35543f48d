-- Targets that depend on the place on an arc.
use Rattle.std.proofs.Common.{◌≡◌, ℕ, ℤ, ◌-ℤ◌, zero, suc, ◌+◌, ◌-◌, ◌*◌, ◌/◌, ◌≤◌, ◌<◌, ◌⊎◌, ◌^◌, ◌==◌, min, max, unsigned_abs, Bool, true, false, cond, inl, inr, arith, refl, ap, ap₂, sym, subst, ◌∙◌}
use Rattle.std.specs.Prelude.{◌&&◌, ◌||◌}
use Rattle.std.proofs.lemmas.Bool.{cases_lt, true≢false}
use Rattle.std.proofs.lemmas.Bool.Decides.{nat_tests}
use Rattle.std.proofs.lemmas.Int.{ints}
use Rattle.std.proofs.lemmas.Nat.{mul-le}
use Rattle.std.proofs.Math.Nat.{div-mul-le_self}
use Rattle.ngc_fixed_length.specs.Grid.{distance}
use Rattle.ngc_fixed_length.specs.Limits.{MILLION}
use Rattle.ngc_fixed_length.specs.Places.{height}
use Rattle.ngc_fixed_length.specs.Signed.{same}
use Rattle.ngc_fixed_length.specs.declared.modes.Plane.{Plane}
use Rattle.ngc_fixed_length.specs.declared.modes.Plane.TheVariants.{XY, ZX, YZ}
use Rattle.ngc_fixed_length.specs.declared.points.Point3.{Point3}
use Rattle.ngc_fixed_length.specs.declared.points.StepPos.{StepPos}
use Rattle.ngc_fixed_length.proofs.RootLaws.{at_most, whole_root-greatest, whole_root_above-least}
use Rattle.ngc_arc_geometry.specs.Radii.{IsArc, inner_radius, outer_radius, lo, hi}
use Rattle.ngc_arc_geometry.specs.Shape.{ArcShape, IsNear}
use Rattle.ngc_machine_files.specs.Machine.{MachineFile}
use Rattle.ngc_machine_files.specs.MachineRanges.{IsMachine}
use Rattle.ngc_commands.specs.declared.command.Action.{Action}
use Rattle.ngc_commands.specs.declared.command.Action.TheVariants.{Move}
use Rattle.ngc_commands.specs.declared.movement.Feed.{Feed}
use Rattle.ngc_commands.specs.declared.movement.Feed.TheVariants.{PerMinute, Inverse}
use Rattle.ngc_commands.specs.declared.movement.Pace.{Pace}
use Rattle.ngc_commands.specs.declared.movement.Pace.TheVariants as paces
use Rattle.ngc_commands.specs.declared.movement.Way.{Way}
use Rattle.ngc_commands.specs.declared.movement.Way.TheVariants.{Line, Arc}
use Rattle.ngc_planner.specs.Headings.{is_level}
use Rattle.ngc_planner.specs.Caps.{STEPS_LIMIT, cap_of}
use Rattle.ngc_planner.specs.Bounds.{IsMotion, turn_rate, is_turn_by_place, diagonal_rate, steady_turn_on, steady_turn, aimed_at}
use Rattle.ngc_planner.specs.Turns.{arc_turn}
use Rattle.ngc_planner.proofs.BoundLaws.{target_some, step_within, turn_kept}
use Rattle.ngc_planner.specs.ArcFeed.{axis_distance, place_cap, rise, sloped_length, sloped_cap, feed_cap_at, arc_cap_at, way_cap_at, cap_at, target_on}
use Rattle.ngc_planner.specs.ArcFeed.{is_feed_by_place, place_turn, turn_radius, arc_turn_at, way_turn_at, turn_at}
use Rattle.ngc_planner.specs.ArcFeed.{is_minute_feed, has_minute_feed, is_arc, is_by_place}
use Rattle.ngc_planner.specs.ArcFeed.{PlacesKeepFeed, KeepsSlopedFeed, ArcsKeepFeed, KeepsTurn, ArcsKeepTurn, IsNoLessByPlace, IsSameElsewhere}

-- ---- the feed

pub places_keep_feed : PlacesKeepFeed
places_keep_feed hz step radius m f v low =
    let d = 60 * hz * step * radius in
    let x = f * MILLION in
    let out = min (m - step) radius in
    let most = mul-le v d (place_cap hz step radius m f) d low (omega arith) in
    let whole = div-mul-le_self (x * out) d in
    let arc = mul-le x out x (m - step) (omega arith) (omega arith) in
    let axis = mul-le x out x radius (omega arith) (omega arith) in
    record { along_arc = omega (arith, most, whole, arc); along_axis = omega (arith, most, whole, axis) }

-- ---- radii

above_zero : (r x : ℕ) → 1 ≤ x → x ≤ r * r → 1 ≤ r
above_zero zero x some square = absurd (omega (arith, some, square))
above_zero (suc r) x some square = omega arith

pub radius_some : (a : ArcShape) → IsArc a → 1 ≤ outer_radius a
radius_some a is =
    let root = whole_root_above-least (hi a) (omega (arith, is.radius)) in
    let some : 1 ≤ hi a = omega (arith, is.some_radius) in
    above_zero (outer_radius a) (hi a) some root.square

-- ---- widths

cancel : (x y k : ℕ) → 1 ≤ k → x * k ≤ y * k → x ≤ y
cancel x y k some h = elim (cases_lt y x) [
  | inl more ↦ (let p = mul-le (y + 1) k x k (omega arith) (omega arith) in absurd (omega (arith, h, p, some)))
  | inr less ↦ less
]

-- x and d are the product and the divisor of the cap of a plane
pub plane_small : (x d f hz step radius out : ℕ) → 1 ≤ hz → 1 ≤ step → 1 ≤ radius → out ≤ radius → f < 2 ^ 64 →
    x ≡ f * MILLION * out → d ≡ 60 * hz * step * radius → x / d < 2 ^ 79
plane_small x d f hz step radius out ticks some rounds in_reach few product divisor =
    let c = x / d in
    let whole = div-mul-le_self x d in
    let unit = mul-le 1 1 hz step ticks some in
    let wide = mul-le 1 (60 * radius) (hz * step) (60 * radius) unit (omega arith) in
    let less = mul-le c (60 * radius) c d (omega arith) (omega (arith, wide, divisor)) in
    let most = mul-le (f * MILLION) out (f * MILLION) radius (omega arith) in_reach in
    let short = cancel (c * 60) (f * MILLION) radius rounds (omega (arith, whole, less, most, product)) in
    omega (arith, short, few)

pub flat_below : (flat rise length : ℕ) → flat * flat + rise * rise ≤ length * length → flat ≤ length
flat_below flat rise length h = at_most (flat * flat) flat length (omega arith) (omega (arith, h))

-- ---- with a height

-- the share of the feed at a rate v up to the cap c of the plane, reduced by the share that the
-- height takes
sloped : (hz step radius out n length f v c : ℕ) → 1 ≤ step → c * (60 * hz * step * radius) ≤ f * MILLION * out → v * length ≤ c * (n * step) →
    v * (60 * hz) * length * radius ≤ f * MILLION * n * out
sloped hz step radius out n length f v c some plane slope =
    let d = 60 * hz * step * radius in
    let a = mul-le (v * length) d (c * (n * step)) d slope (omega arith) in
    let b = mul-le (c * d) (n * step) (f * MILLION * out) (n * step) plane (omega arith) in
    cancel (v * (60 * hz) * length * radius) (f * MILLION * n * out) step some (omega (arith, a, b))

-- k is a rate and q a feed; e is the square of the path steps in the plane
squares : (k q e rise length radius out : ℕ) → k * length * radius ≤ q * out → e + rise * rise ≤ length * length →
    k * k * (e + rise * rise) * (radius * radius) ≤ q * q * (out * out)
squares k q e rise length radius out h root =
    let p = mul-le (k * length * radius) (k * length * radius) (q * out) (q * out) h h in
    let less = mul-le (e + rise * rise) (k * k * (radius * radius)) (length * length) (k * k * (radius * radius)) root (omega arith) in
    omega (arith, p, less)

-- k and q are squares from here on
along_line : (k q e radius out : ℕ) → 1 ≤ radius → out ≤ radius → k * e * (radius * radius) ≤ q * (out * out) → k * e ≤ q
along_line k q e radius out some in_reach h =
    let square = mul-le out out radius radius in_reach in_reach in
    let more = mul-le q (out * out) q (radius * radius) (omega arith) square in
    let one = mul-le 1 1 radius radius some some in
    cancel (k * e) q (radius * radius) (omega (arith, one)) (omega (arith, h, more))

along_arc : (k q e rise radius out far : ℕ) → out ≤ far → k * (e + rise * rise) * (radius * radius) ≤ q * (out * out) → k * (e + rise * rise) ≤ q →
    k * (e * (radius * radius) + rise * far * (rise * far)) ≤ q * (far * far)
along_arc k q e rise radius out far less h line = elim (cases_lt radius far) [
  | inl more ↦ (
      let whole = mul-le (k * (e + rise * rise)) (far * far) q (far * far) line (omega arith) in
      let square = mul-le radius radius far far (omega arith) (omega arith) in
      let part = mul-le (k * e) (radius * radius) (k * e) (far * far) (omega arith) square in
      omega (arith, whole, part))
  | inr near ↦ (
      let square = mul-le far far radius radius near near in
      let part = mul-le (k * (rise * rise)) (far * far) (k * (rise * rise)) (radius * radius) (omega arith) square in
      let outs = mul-le out out far far less less in
      let below = mul-le q (out * out) q (far * far) (omega arith) outs in
      omega (arith, h, part, below))
]

keeps_slope : (hz step radius n rise length m f v : ℕ) → 1 ≤ step → 1 ≤ radius → n * step * (n * step) + rise * rise ≤ length * length →
    v ≤ place_cap hz step radius m f * (n * step) / length → KeepsSlopedFeed hz step radius n rise m f v
keeps_slope hz step radius n rise length m f v some rounds root low =
    let out = min (m - step) radius in
    let c = place_cap hz step radius m f in
    let plane = div-mul-le_self (f * MILLION * out) (60 * hz * step * radius) in
    let most = mul-le v length (c * (n * step) / length) length low (omega arith) in
    let whole = div-mul-le_self (c * (n * step)) length in
    let k = v * (60 * hz) in
    let q = f * MILLION * n in
    let e = n * step * (n * step) in
    let slope = sloped hz step radius out n length f v c some plane (omega (arith, most, whole)) in
    let all = squares k q e rise length radius out slope root in
    let line = along_line (k * k) (q * q) (e + rise * rise) radius out rounds (omega arith) all in
    let arc = along_arc (k * k) (q * q) e rise radius out (m - step) (omega arith) all line in
    record { along_arc = omega (arith, arc); along_line = omega (arith, line) }

keeps_level : (hz step radius n m f v : ℕ) → 1 ≤ radius → v ≤ place_cap hz step radius m f → KeepsSlopedFeed hz step radius n 0 m f v
keeps_level hz step radius n m f v rounds low =
    let keeps = places_keep_feed hz step radius m f v low in
    let far = m - step in
    let axis = cancel (v * (60 * hz) * step) (f * MILLION) radius rounds (omega (arith, keeps.along_axis)) in
    let a = mul-le (v * (60 * hz * step * radius)) n (f * MILLION * far) n keeps.along_arc (omega arith) in
    let aa = mul-le (v * (60 * hz * step * radius) * n) (v * (60 * hz * step * radius) * n) (f * MILLION * far * n) (f * MILLION * far * n) a a in
    let b = mul-le (v * (60 * hz) * step) n (f * MILLION) n axis (omega arith) in
    let bb = mul-le (v * (60 * hz) * step * n) (v * (60 * hz) * step * n) (f * MILLION * n) (f * MILLION * n) b b in
    record { along_arc = omega (arith, aa); along_line = omega (arith, bb) }

-- a helix has a height above 0, and so a length above 0
none_if : (n : ℕ) → (n == 0) ≡ true → n ≡ 0
none_if n h = grind (arith, nat_tests)

some_if : (n : ℕ) → (n == 0) ≡ false → 1 ≤ n
some_if n h = grind (arith, nat_tests)

level_rise : (x y : ℤ) → same x y ≡ true → distance x y ≡ 0
level_rise x y h = let none = none_if (unsigned_abs (x -ℤ y)) h in omega (arith, ints, none)

rising : (x y : ℤ) → same x y ≡ false → 1 ≤ distance x y
rising x y h = let some = some_if (unsigned_abs (x -ℤ y)) h in omega (arith, ints, some)

root_above : (n step rise : ℕ) → n ≤ STEPS_LIMIT → step ≤ 50000 → rise ≤ 200000000000 →
    n * step * (n * step) + rise * rise ≤ sloped_length (n * step) rise * sloped_length (n * step) rise
root_above n step rise few small low =
    let flat = mul-le n step STEPS_LIMIT 50000 few small in
    let a = mul-le (n * step) (n * step) (STEPS_LIMIT * 50000) (STEPS_LIMIT * 50000) flat flat in
    let b = mul-le rise rise 200000000000 200000000000 low low in
    let root = whole_root_above-least (n * step * (n * step) + rise * rise) (omega (arith, a, b)) in
    root.square

keeps_by : (level : Bool) (hz step radius n rise m f v : ℕ) → 1 ≤ step → step ≤ 50000 → 1 ≤ radius → n ≤ STEPS_LIMIT → rise ≤ 200000000000 →
    (level ≡ true → rise ≡ 0) → v ≤ cond level (place_cap hz step radius m f) (sloped_cap (n * step) (cond level 0 (sloped_length (n * step) rise)) (place_cap hz step radius m f)) →
    KeepsSlopedFeed hz step radius n rise m f v
keeps_by true hz step radius n rise m f v some small rounds few low level below =
    subst (λ r. KeepsSlopedFeed hz step radius n r m f v) (sym (level refl)) (keeps_level hz step radius n m f v rounds below)
keeps_by false hz step radius n rise m f v some small rounds few low level below =
    keeps_slope hz step radius n rise (sloped_length (n * step) rise) m f v some rounds (root_above n step rise few small low) below

near_height : (plane : Plane) (p : Point3) → IsNear p → unsigned_abs (height plane p) ≤ 90000000000
near_height XY p near = near.z
near_height ZX p near = near.y
near_height YZ p near = near.x

far_height : (x y : ℤ) → unsigned_abs x ≤ 90000000000 → unsigned_abs y ≤ 90000000000 → distance x y ≤ 200000000000
far_height x y low high = omega (arith, ints, low, high)

-- the length of a helix is above 0, and at least that of its path steps
pub length_some : (flat step n : ℕ) (a : ArcShape) → IsArc a → is_level a ≡ false → flat ≡ n * step → n ≤ STEPS_LIMIT → step ≤ 50000 →
    (1 ≤ sloped_length (n * step) (rise a)) × (flat ≤ sloped_length (n * step) (rise a))
length_some flat step n a is helix same few small =
    let far = far_height (height a.plane a.start) (height a.plane a.end) (near_height a.plane a.start is.start) (near_height a.plane a.end is.end) in
    let root = root_above n step (rise a) few small far in
    let some = rising (height a.plane a.start) (height a.plane a.end) helix in
    let square = mul-le 1 1 (rise a) (rise a) some some in (
      above_zero (sloped_length (n * step) (rise a)) (rise a * rise a) (omega (arith, square)) (omega (arith, root)),
      (let below = flat_below (n * step) (rise a) (sloped_length (n * step) (rise a)) root in omega (arith, same, below)),
    )

pub arcs_keep_feed : ArcsKeepFeed
arcs_keep_feed machine a n f v p ranges is few low =
    let step = step_within machine ranges in
    keeps_by (is_level a) machine.ticks_per_second (unsigned_abs machine.step) (outer_radius a) n (rise a) (axis_distance machine.step a p) f v
    step.0 step.1 (radius_some a is) few
    (far_height (height a.plane a.start) (height a.plane a.end) (near_height a.plane a.start is.start) (near_height a.plane a.end is.end))
    (level_rise (height a.plane a.start) (height a.plane a.end)) low

-- ---- the turn

-- r is the radius for the greatest rate, and `out` is at most the radius
turn_of_place : (turn step r radius out rate v : ℕ) → 1 ≤ radius → r ≤ radius → rate * rate * step ≤ turn * r → v * radius ≤ rate * out →
    v * v * step * radius ≤ turn * (out * out)
turn_of_place turn step r radius out rate v some less bound low =
    let a = mul-le (v * radius) (v * radius) (rate * out) (rate * out) low low in
    let b = mul-le (v * radius * (v * radius)) step (rate * out * (rate * out)) step a (omega arith) in
    let c = mul-le (rate * rate * step) (out * out) (turn * r) (out * out) bound (omega arith) in
    let d = mul-le r (turn * (out * out)) radius (turn * (out * out)) less (omega arith) in
    cancel (v * v * step * radius) (turn * (out * out)) radius some (omega (arith, b, c, d))

turn_of_diagonal : (turn step r radius rate v : ℕ) → r ≤ radius → rate * rate * step ≤ turn * r → v * 1415 ≤ rate * 1000 →
    2 * (v * v * step) ≤ turn * radius
turn_of_diagonal turn step r radius rate v less bound low =
    let a = mul-le (v * 1415) (v * 1415) (rate * 1000) (rate * 1000) low low in
    let b = mul-le (v * 1415 * (v * 1415)) step (rate * 1000 * (rate * 1000)) step a (omega arith) in
    let c = mul-le r turn radius turn less (omega arith) in
    omega (arith, bound, b, c)

below_diagonal : (v rate : ℕ) → 2 ≤ v → v ≤ diagonal_rate rate → v * 1415 ≤ rate * 1000
below_diagonal v rate some low = omega (arith, some, low)

below_place : (v rate out radius : ℕ) → v ≤ rate * out / radius → v * radius ≤ rate * out
below_place v rate out radius low =
    let a = mul-le v radius (rate * out / radius) radius low (omega arith) in
    let b = div-mul-le_self (rate * out) radius in
    omega (arith, a, b)

keeps_at_place : (turn step r radius m rate v : ℕ) → 1 ≤ radius → r ≤ radius → rate * rate * step ≤ turn * r → v ≤ place_turn rate step radius m →
    KeepsTurn turn step radius m v
keeps_at_place turn step r radius m rate v some less bound low =
    let out = min (m - step) radius in
    let far = m - step in
    let turned = turn_of_place turn step r radius out rate v some less bound (below_place v rate out radius low) in
    let outs = mul-le out out far far (omega arith) (omega arith) in
    let a = mul-le (out * out) turn (far * far) turn outs (omega arith) in
    let most = mul-le (2 * (far * far)) turn (max (2 * (far * far)) (radius * radius)) turn (omega arith) (omega arith) in
    let fars = mul-le far far m m (omega arith) (omega arith) in
    let b = mul-le (far * far) turn (m * m) turn fars (omega arith) in
    record { at_place = omega (arith, turned, a, most); on_circle = λ h. omega (arith, turned, a, b) }

keeps_at_diagonal : (turn step r radius m rate v : ℕ) → r ≤ radius → rate * rate * step ≤ turn * r → v * 1415 ≤ rate * 1000 →
    KeepsTurn turn step radius m v
keeps_at_diagonal turn step r radius m rate v less bound low =
    let far = m - step in
    let turned = turn_of_diagonal turn step r radius rate v less bound low in
    let a = mul-le (2 * (v * v * step)) radius (turn * radius) radius turned (omega arith) in
    let most = mul-le (radius * radius) turn (max (2 * (far * far)) (radius * radius)) turn (omega arith) (omega arith) in
    record {
      at_place = omega (arith, a, most);
      on_circle = λ h. (let b = mul-le (radius * radius) turn (2 * (m * m)) turn h (omega arith) in omega (arith, a, b));
    }

either : (v x y : ℕ) → v ≤ max x y → (v ≤ x) ⊎ (v ≤ y)
either v x y h = elim (cases_lt x v) [ inl more ↦ inr (omega arith) | inr less ↦ inl less ]

keeps_turn : (turn step r radius m rate v : ℕ) → 1 ≤ radius → r ≤ radius → rate * rate * step ≤ turn * r → 2 ≤ v →
    v ≤ max (diagonal_rate rate) (place_turn rate step radius m) → KeepsTurn turn step radius m v
keeps_turn turn step r radius m rate v some less bound two low =
    elim (either v (diagonal_rate rate) (place_turn rate step radius m) low) [
      | inl diagonal ↦ keeps_at_diagonal turn step r radius m rate v less bound (below_diagonal v rate two diagonal)
      | inr place ↦ keeps_at_place turn step r radius m rate v some less bound place
    ]

inner_within : (a : ArcShape) → IsArc a → inner_radius a ≤ outer_radius a
inner_within a is =
    let inner = whole_root-greatest (lo a) (omega (arith, is.radius)) in
    let outer = whole_root_above-least (hi a) (omega (arith, is.radius)) in
    at_most (hi a) (inner_radius a) (outer_radius a) (omega (arith, inner.square)) (omega (arith, outer.square))

pub arcs_keep_turn : ArcsKeepTurn
arcs_keep_turn machine motion a n percent p v ranges is way by_place two low =
    let step = unsigned_abs machine.step in
    let some = step_within machine ranges in
    let here : way_turn_at machine motion.way p ≡ arc_turn_at machine a p =
    ap (λ w. way_turn_at machine w p) way
    ∙ ap (λ f. cond (is_turn_by_place f) (arc_turn_at machine a p) (turn_rate machine (Arc a))) by_place in
    let most : v ≤ way_turn_at machine motion.way p = omega (arith, low) in
    let within = inner_within a is in
    keeps_turn (arc_turn machine a) step (max (inner_radius a) step) (turn_radius machine a) (axis_distance machine.step a p) (turn_rate machine (Arc a)) v
    (omega (arith, some.0)) (omega (arith, within)) (turn_kept machine a ranges) two (omega (arith, most, here))

-- ---- no less

more_by : (none : Bool) (cap more percent : ℕ) → cap ≤ more → cond none 0 (max 1 (cap * percent / 100)) ≤ cond none 0 (max 1 (more * percent / 100))
more_by true cap more percent h = omega arith
more_by false cap more percent h = let p = mul-le cap percent more percent h (omega arith) in omega (arith, p)

aimed_more : (m : MachineFile) (a : Action) (n cap more turn wide percent : ℕ) → cap ≤ more → turn ≤ wide →
    aimed_at m a n cap turn percent ≤ aimed_at m a n more wide percent
aimed_more m a n cap more turn wide percent h k = let p = more_by (percent == 0) cap more percent h in omega (arith, p, k)

wider_by : (by_place : Bool) (diagonal place rate : ℕ) → cond by_place diagonal rate ≤ cond by_place (max diagonal place) rate
wider_by true diagonal place rate = omega arith
wider_by false diagonal place rate = omega arith

wider_on : (m : MachineFile) (w : Way) (p : StepPos) → steady_turn_on m w ≤ way_turn_at m w p
wider_on m (Line b e) p = omega arith
wider_on m (Arc a) p =
    wider_by (is_turn_by_place m.arc_feed) (diagonal_rate (turn_rate m (Arc a)))
    (place_turn (turn_rate m (Arc a)) (unsigned_abs m.step) (turn_radius m a) (axis_distance m.step a p)) (turn_rate m (Arc a))

wider : (m : MachineFile) (a : Action) (p : StepPos) → steady_turn m a ≤ turn_at m a p
wider m (Move motion) p = wider_on m motion.way p
wider m _ p = omega arith

pub no_less_by_place : IsNoLessByPlace
no_less_by_place m a n percent p =
    aimed_more m a n (cap_of a n m) (max (cap_of a n m) (cap_at m a n p)) (steady_turn m a) (turn_at m a p) percent (omega arith) (wider m a p)

-- a target is at least 1 on a motion at each place, unless the override is 0
pub target_on_some : (a : Action) (n percent : ℕ) (p : StepPos) (m : MachineFile) → IsMachine m → IsMotion a → 1 ≤ percent →
    1 ≤ target_on m a n percent p
target_on_some a n percent p m ranges moves some =
    let least = target_some a n percent m ranges moves some in
    let more = no_less_by_place m a n percent p in
    omega (arith, least, more)

-- ---- the same if the place does not matter

none_at_feed : (m : MachineFile) (a : ArcShape) (n : ℕ) (f : Feed) (p : StepPos) → is_minute_feed f ≡ false → feed_cap_at m a n f p ≡ 0
none_at_feed m a n (PerMinute f) p h = cc
none_at_feed m a n (Inverse f) p h = refl

none_on_arc : (m : MachineFile) (a : ArcShape) (n : ℕ) (pace : Pace) (p : StepPos) → has_minute_feed pace ≡ false → arc_cap_at m a n pace p ≡ 0
none_on_arc m a n paces.Rapid p h = refl
none_on_arc m a n (paces.Feed f) p h = none_at_feed m a n f p h

none_by : (on both : Bool) (cap : ℕ) → (on && both) ≡ false → (both ≡ false → cap ≡ 0) → cond on cap 0 ≡ 0
none_by true true cap h none = cc
none_by true false cap h none = none refl
none_by false both cap h none = refl

none_anywhere : (on : Bool) → ◌≡◌ {A = ℕ} (cond on 0 0) 0
none_anywhere true = refl
none_anywhere false = refl

or_false : (x y : Bool) → (x || y) ≡ false → (x ≡ false) × (y ≡ false)
or_false true y h = absurd (true≢false h)
or_false false y h = (refl, h)

none_on_way : (m : MachineFile) (w : Way) (n : ℕ) (pace : Pace) (p : StepPos) →
    (is_arc w && (is_turn_by_place m.arc_feed || (is_feed_by_place m.arc_feed && has_minute_feed pace))) ≡ false →
    cond (is_feed_by_place m.arc_feed) (way_cap_at m w n pace p) 0 ≡ 0
none_on_way m (Line b e) n pace p h = none_anywhere (is_feed_by_place m.arc_feed)
none_on_way m (Arc a) n pace p h =
    let parts = or_false (is_turn_by_place m.arc_feed) (is_feed_by_place m.arc_feed && has_minute_feed pace) h in
    none_by (is_feed_by_place m.arc_feed) (has_minute_feed pace) (arc_cap_at m a n pace p) parts.1 (none_on_arc m a n pace p)

none_at : (m : MachineFile) (a : Action) (n : ℕ) (p : StepPos) → is_by_place m a ≡ false → cap_at m a n p ≡ 0
none_at m (Move motion) n p h = none_on_way m motion.way n motion.pace p h
none_at m _ n p h = refl

same_turn_on : (m : MachineFile) (w : Way) (other : Bool) (p : StepPos) → (is_arc w && (is_turn_by_place m.arc_feed || other)) ≡ false →
    way_turn_at m w p ≡ steady_turn_on m w
same_turn_on m (Line b e) other p h = refl
same_turn_on m (Arc a) other p h =
    let parts = or_false (is_turn_by_place m.arc_feed) other h in
    let rate = turn_rate m (Arc a) in
    ap (λ b. cond b (arc_turn_at m a p) rate) parts.0 ∙ sym (ap (λ b. cond b (diagonal_rate rate) rate) parts.0)

same_turn : (m : MachineFile) (a : Action) (p : StepPos) → is_by_place m a ≡ false → turn_at m a p ≡ steady_turn m a
same_turn m (Move motion) p h = same_turn_on m motion.way (is_feed_by_place m.arc_feed && has_minute_feed motion.pace) p h
same_turn m _ p h = refl

pub same_elsewhere : IsSameElsewhere
same_elsewhere m a n percent p h =
    let none = none_at m a n p h in
    let same : max (cap_of a n m) (cap_at m a n p) ≡ cap_of a n m = omega (arith, none) in
    ap₂ (λ cap turn. aimed_at m a n cap turn percent) same (same_turn m a p h)
