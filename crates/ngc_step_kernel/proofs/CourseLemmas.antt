-- The points of a course.
use Rattle.std.proofs.Common.{◌≡◌, ℕ, suc, ◌+◌, ◌-◌, ◌<◌, ◌≤◌, min, inl, inr, ◌∙◌, ap, sym, arith, ℤ, pos, ◌+ℤ◌, ◌-ℤ◌, unsigned_abs, refl, to_z, of_z, w32}
use Rattle.std.proofs.lemmas.Int.{ints, by_lt_z}
use Rattle.std.proofs.lemmas.Bool.{cases_lt}
use Rattle.ngc_fixed_length.specs.Grid.{distance}
use Rattle.ngc_circle_walk.specs.declared.spoke.Spoke.{Spoke}
use Rattle.ngc_step_kernel.specs.declared.moves.AxisMove.{AxisMove}
use Rattle.ngc_step_kernel.specs.declared.moves.AxisMove.TheVariants.{Back, Stay, Forward}
use Rattle.ngc_step_kernel.specs.declared.plan.Plan.{Plan}
use Rattle.ngc_step_kernel.specs.declared.spot.Spot.{Spot}
use Rattle.ngc_step_kernel.specs.Line.{toward}
use Rattle.ngc_step_kernel.specs.Move.{steps_of}
use Rattle.ngc_circle_walk.specs.declared.spoke.Roll.{Roll}
use Rattle.ngc_circle_walk.specs.Wheel.{rolled, IsRoll, IsSmall}
use Rattle.ngc_step_kernel.specs.declared.spot.PlaneMove.{PlaneMove}
use Rattle.ngc_step_kernel.proofs.WheelLemmas.{spoke_on}
use Rattle.ngc_circle_walk.proofs.OneRoll.{only_roll}
use Rattle.ngc_circle_walk.proofs.Wheeling.{first_spoke}
use Rattle.ngc_step_kernel.specs.Spots.{roll_move, IsSpot, axis_towards, spot_towards, spot_moved, straight_moves, straight_place, straight_at}
use Rattle.ngc_step_kernel.specs.Course.{wheel_move, round_at, rounded, last_of, course_at, IsPlan, IsCourseAt}
use Rattle.ngc_circle_walk.specs.Rolling.{spoke_at}
use Rattle.ngc_step_kernel.proofs.LineLemmas.{toward-zero, toward-all, toward_small}

-- ---- straight

abbrev spot_of : ℤ → ℤ → Spot
spot_of u v = record { u = u; v = v }

cc2 : {u v u' v' : ℤ} → u ≡ u' → v ≡ v' → spot_of u v ≡ spot_of u' v'
cc2 a b = cc

place_starts : (a b : ℤ) → straight_place a b 0 ≡ a
place_starts a b = ap (toward a b) (omega arith) ∙ toward-zero a b

place_ends : (a b : ℤ) (k : ℕ) → distance a b ≤ k → straight_place a b k ≡ b
place_ends a b k h = ap (toward a b) (omega arith) ∙ toward-all a b

farther : (a b : ℤ) (k : ℕ) → k < distance a b → toward a b (k + 1) ≡ toward a b k +ℤ steps_of (axis_towards (toward a b k) b)
farther a b k h = by_lt_z a b
    (λ up. let p : toward a b k ≡ a +ℤ pos k = grind (arith, ints) in
    let q : toward a b (k + 1) ≡ a +ℤ pos (k + 1) = grind (arith, ints) in
    let r : axis_towards (a +ℤ pos k) b ≡ Forward = grind (arith, ints) in
    rw (p, q, r) (omega (arith, ints)))
    (λ down. let p : toward a b k ≡ a -ℤ pos k = grind (arith, ints) in
    let q : toward a b (k + 1) ≡ a -ℤ pos (k + 1) = grind (arith, ints) in
    let r : axis_towards (a -ℤ pos k) b ≡ Back = grind (arith, ints) in
    rw (p, q, r) (omega (arith, ints)))

stays : (b : ℤ) → b ≡ b +ℤ steps_of (axis_towards b b)
stays b = let r : axis_towards b b ≡ Stay = grind (arith, ints) in rw r (omega (arith, ints))

pub place_on : (a b : ℤ) (k : ℕ) → straight_place a b (k + 1) ≡ straight_place a b k +ℤ steps_of (axis_towards (straight_place a b k) b)
place_on a b k = elim (cases_lt k (distance a b)) [
  | inl more ↦ (
      let now : min k (distance a b) ≡ k = omega arith in
      let after : min (k + 1) (distance a b) ≡ k + 1 = omega arith in
      rw (now, after) (farther a b k more))
  | inr all ↦ (
      let now : min k (distance a b) ≡ distance a b = omega arith in
      let after : min (k + 1) (distance a b) ≡ distance a b = omega arith in
      rw (now, after, toward-all a b) (stays b))
]

pub straight_starts : (p q : Spot) → straight_at p q 0 ≡ p
straight_starts p q = cc2 (place_starts p.u q.u) (place_starts p.v q.v)

pub straight_ends : (p q : Spot) (k : ℕ) → straight_moves p q ≤ k → straight_at p q k ≡ q
straight_ends p q k h = cc2 (place_ends p.u q.u k (omega arith)) (place_ends p.v q.v k (omega arith))

pub straight_on : (p q : Spot) (k : ℕ) → straight_at p q (k + 1) ≡ spot_moved (straight_at p q k) (spot_towards (straight_at p q k) q)
straight_on p q k = cc2 (place_on p.u q.u k) (place_on p.v q.v k)

pub straight_small : (p q : Spot) (k : ℕ) → IsSpot p → IsSpot q → IsSpot (straight_at p q k)
straight_small p q k a b = record {
  u = toward_small p.u q.u _ a.u b.u (omega arith);
  v = toward_small p.v q.v _ a.v b.v (omega arith);
}

-- ---- the wheel

pub round_on : (g limit : ℕ) (s : Spoke) (p : Spot) (k : ℕ) → round_at g limit s p (k + 1) ≡ spot_moved (round_at g limit s p k) (wheel_move g limit s k)
unfolding round_at
round_on g limit s p k = let e : k + 1 ≡ suc k = omega arith in rw e refl

-- ---- the four parts, each with both its ends

pub to_joint : (p : Plan) (k : ℕ) → k ≤ p.joined → course_at p k ≡ straight_at p.start p.joint k
unfolding course_at
to_joint p k h = grind arith

pub to_entry : (p : Plan) (k : ℕ) → IsPlan p → p.joined ≤ k → k ≤ p.entered → course_at p k ≡ straight_at p.joint p.entry (k - p.joined)
unfolding course_at
to_entry p k s from to = elim (cases_lt p.joined k) [
  | inl past ↦ grind arith
  | inr here ↦ (let e : k ≡ p.joined = omega arith in let z : k - p.joined ≡ 0 = omega arith in
      to_joint p k (omega arith) ∙ straight_ends p.start p.joint k (omega (arith, s.joined)) ∙ rw z (sym (straight_starts p.joint p.entry)))
]

pub to_last : (p : Plan) (k : ℕ) → IsPlan p → p.entered ≤ k → k ≤ p.rolled → course_at p k ≡ rounded p (k - p.entered)
unfolding course_at round_at
to_last p k s from to = elim (cases_lt p.entered k) [
  | inl past ↦ (let b : p.joined < k = omega (arith, s.entered) in grind arith)
  | inr here ↦ (let z : k - p.entered ≡ 0 = omega arith in
      to_entry p k s (omega (arith, s.entered)) (omega arith) ∙ straight_ends p.joint p.entry (k - p.joined) (omega (arith, s.entered)) ∙ rw z refl)
]

pub to_end : (p : Plan) (k : ℕ) → IsPlan p → p.rolled ≤ k → course_at p k ≡ straight_at (last_of p) p.end (k - p.rolled)
unfolding course_at
to_end p k s from = elim (cases_lt p.rolled k) [
  | inl past ↦ (let b : p.joined < k = omega (arith, s.entered, s.rolled) in let c : p.entered < k = omega (arith, s.rolled) in grind arith)
  | inr here ↦ (let e : k ≡ p.rolled = omega arith in let z : k - p.rolled ≡ 0 = omega arith in let w : k - p.entered ≡ p.rolled - p.entered = omega arith in
      to_last p k s (omega (arith, s.rolled)) (omega arith) ∙ rw w (rw z (sym (straight_starts (last_of p) p.end))))
]

-- ---- the first and the last point, and the range of all points

pub course_starts : (p : Plan) → course_at p 0 ≡ p.start
course_starts p = to_joint p 0 (omega arith) ∙ straight_starts p.start p.joint

pub course_ends : (p : Plan) → IsPlan p → course_at p p.moves ≡ p.end
course_ends p s = to_end p p.moves s (omega (arith, s.moves)) ∙ straight_ends (last_of p) p.end (p.moves - p.rolled) (omega (arith, s.moves))

entry_small : (p : Plan) → IsPlan p → IsSpot p.entry
unfolding round_at
entry_small p s = s.round 0 (omega arith)

pub course_small : (p : Plan) (k : ℕ) → IsPlan p → IsSpot (course_at p k)
course_small p k s = elim (cases_lt k p.joined) [
  | inl a ↦ rw (to_joint p k (omega arith)) (straight_small p.start p.joint k s.start s.joint)
  | inr a ↦ elim (cases_lt k p.entered) [
    | inl b ↦ rw (to_entry p k s a (omega arith)) (straight_small p.joint p.entry (k - p.joined) s.joint (entry_small p s))
    | inr b ↦ elim (cases_lt k p.rolled) [
      | inl c ↦ rw (to_last p k s b (omega arith)) (s.round (k - p.entered) (omega arith))
      | inr c ↦ rw (to_end p k s c) (straight_small (last_of p) p.end (k - p.rolled) (s.round (p.rolled - p.entered) (omega arith)) s.end)
    ]
  ]
]

-- ---- one more move

pub on_to_joint : (p : Plan) (k : ℕ) → k < p.joined → course_at p (k + 1) ≡ spot_moved (course_at p k) (spot_towards (course_at p k) p.joint)
on_to_joint p k h = rw (to_joint p k (omega arith), to_joint p (k + 1) (omega arith)) (straight_on p.start p.joint k)

pub on_to_entry : (p : Plan) (k : ℕ) → IsPlan p → p.joined ≤ k → k < p.entered →
    course_at p (k + 1) ≡ spot_moved (course_at p k) (spot_towards (course_at p k) p.entry)
on_to_entry p k s from to =
    let e : k + 1 - p.joined ≡ k - p.joined + 1 = omega arith in
    rw (to_entry p k s from (omega arith), to_entry p (k + 1) s (omega arith) (omega arith), e) (straight_on p.joint p.entry (k - p.joined))

pub on_to_last : (p : Plan) (k : ℕ) → IsPlan p → p.entered ≤ k → k < p.rolled →
    course_at p (k + 1) ≡ spot_moved (course_at p k) (wheel_move p.step p.limit p.first (k - p.entered))
on_to_last p k s from to =
    let e : k + 1 - p.entered ≡ k - p.entered + 1 = omega arith in
    rw (to_last p k s from (omega arith), to_last p (k + 1) s (omega arith) (omega arith), e) (round_on p.step p.limit p.first p.entry (k - p.entered))

pub on_to_end : (p : Plan) (k : ℕ) → IsPlan p → p.rolled ≤ k → course_at p (k + 1) ≡ spot_moved (course_at p k) (spot_towards (course_at p k) p.end)
on_to_end p k s from =
    let e : k + 1 - p.rolled ≡ k - p.rolled + 1 = omega arith in
    rw (to_end p k s from, to_end p (k + 1) s (omega arith), e) (straight_on (last_of p) p.end (k - p.rolled))

-- ---- the state of a course

pub course_begins : (p : Plan) (w : Spoke) (pace rim : ℕ) → IsPlan p → w ≡ p.first → pace ≡ p.step → rim ≡ p.limit → IsCourseAt p 0 p.start w pace rim
course_begins p w pace rim s first paces rims = record {
  plan = s;
  done = omega arith;
  here = sym (course_starts p);
  spoke = λ _. let z : 0 - p.entered ≡ 0 = omega arith in rw z (first ∙ sym (first_spoke p.step p.limit p.first));
  paces = paces;
  rims = rims;
}

pub here_small : (p : Plan) (k : ℕ) (at : Spot) (w : Spoke) (pace rim : ℕ) → IsCourseAt p k at w pace rim → IsSpot at
here_small p k at w pace rim s = rw s.here (course_small p k s.plan)

pub wheel_small : (p : Plan) (k : ℕ) (at : Spot) (w : Spoke) (pace rim : ℕ) → IsCourseAt p k at w pace rim → k < p.rolled → IsSmall w
wheel_small p k at w pace rim s h = rw (s.spoke (omega arith)) (s.plan.small (k - p.entered) (omega (arith, s.plan.rolled)))

pub joins_on : (p : Plan) (k : ℕ) (at : Spot) (w : Spoke) (pace rim : ℕ) → IsCourseAt p k at w pace rim → k < p.moves → k < p.joined →
    IsCourseAt p (k + 1) (spot_moved at (spot_towards at p.joint)) w pace rim
joins_on p k at w pace rim s h less = record {
  plan = s.plan;
  done = omega arith;
  here = rw s.here (sym (on_to_joint p k less));
  spoke = λ _. (let e : k + 1 - p.entered ≡ k - p.entered = omega (arith, s.plan.entered) in rw e (s.spoke (omega (arith, s.plan.entered, s.plan.rolled))));
  paces = s.paces;
  rims = s.rims;
}

pub enters_on : (p : Plan) (k : ℕ) (at : Spot) (w : Spoke) (pace rim : ℕ) → IsCourseAt p k at w pace rim → k < p.moves → p.joined ≤ k → k < p.entered →
    IsCourseAt p (k + 1) (spot_moved at (spot_towards at p.entry)) w pace rim
enters_on p k at w pace rim s h more less = record {
  plan = s.plan;
  done = omega arith;
  here = rw s.here (sym (on_to_entry p k s.plan more less));
  spoke = λ _. (let e : k + 1 - p.entered ≡ k - p.entered = omega arith in rw e (s.spoke (omega (arith, s.plan.rolled))));
  paces = s.paces;
  rims = s.rims;
}

pub ends_on : (p : Plan) (k : ℕ) (at : Spot) (w : Spoke) (pace rim : ℕ) → IsCourseAt p k at w pace rim → k < p.moves → p.rolled ≤ k →
    IsCourseAt p (k + 1) (spot_moved at (spot_towards at p.end)) w pace rim
ends_on p k at w pace rim s h more = record {
  plan = s.plan;
  done = omega arith;
  here = rw s.here (sym (on_to_end p k s.plan more));
  spoke = λ le. absurd (omega arith);
  paces = s.paces;
  rims = s.rims;
}

pub rolls_next : (p : Plan) (k : ℕ) (w v : Spoke) (r : Roll) → w ≡ spoke_at p.step p.limit p.first k → IsRoll p.step p.limit w r → v ≡ rolled p.step r w →
    (v ≡ spoke_at p.step p.limit p.first (k + 1)) × (roll_move r w.quadrant ≡ wheel_move p.step p.limit p.first k)
rolls_next p k w v r here roll on =
    let same = only_roll p.step p.limit w r roll in
    let next = spoke_on p.step p.limit p.first k in
    (on ∙ rw (same, here) (sym next), rw (same, here) refl)

pub rolls_on : (p : Plan) (k : ℕ) (at : Spot) (w v : Spoke) (r : Roll) (pace rim pace' rim' : ℕ) → IsCourseAt p k at w pace rim → k < p.moves → p.entered ≤ k →
    k < p.rolled →
    IsRoll pace rim w r → v ≡ rolled pace r w → pace' ≡ pace → rim' ≡ rim → IsCourseAt p (k + 1) (spot_moved at (roll_move r w.quadrant)) v pace' rim'
rolls_on p k at w v r pace rim pace' rim' s h more less roll on same_pace same_rim =
    let next = rolls_next p (k - p.entered) w v r (s.spoke (omega arith)) (rw (s.paces, s.rims) at roll) (rw s.paces at on) in
    let e : k + 1 - p.entered ≡ k - p.entered + 1 = omega arith in
    record {
      plan = s.plan;
      done = omega arith;
      here = rw (next.1, s.here) (sym (on_to_last p k s.plan more less));
      spoke = λ _. rw e next.0;
      paces = same_pace ∙ s.paces;
      rims = same_rim ∙ s.rims;
    }

-- ---- a move fits

pub steps_small : (m : AxisMove) → unsigned_abs (steps_of m) ≤ 1
steps_small Back = omega (arith, ints)
steps_small Stay = omega (arith, ints)
steps_small Forward = omega (arith, ints)

step_fits : (a s : ℤ) (m : AxisMove) → unsigned_abs a ≤ 200000000 → s ≡ steps_of m →
    to_z w32 (of_z w32 (to_z w32 (of_z w32 a) +ℤ to_z w32 (of_z w32 s))) ≡ a +ℤ steps_of m
step_fits a s m h e = let t = steps_small m in omega (arith, ints, e)

pub moved_is : (p : Spot) (m : PlaneMove) (s t : ℤ) → IsSpot p → s ≡ steps_of m.u → t ≡ steps_of m.v →
    spot_of (to_z w32 (of_z w32 (to_z w32 (of_z w32 p.u) +ℤ to_z w32 (of_z w32 s)))) (to_z w32 (of_z w32 (to_z w32 (of_z w32 p.v) +ℤ to_z w32 (of_z w32 t))))
    ≡ spot_moved p m
moved_is p m s t h a b = cc2 (step_fits p.u s m.u h.u a) (step_fits p.v t m.v h.v b)

-- ---- a course with no wheel

stays_small : (g limit : ℕ) (s : Spoke) (k : ℕ) → k ≡ 0 → IsSmall s → IsSmall (spoke_at g limit s k)
unfolding spoke_at
stays_small g limit s k e h = rw e h

stays_here : (g limit : ℕ) (s : Spoke) (p : Spot) (k : ℕ) → k ≡ 0 → round_at g limit s p k ≡ p
unfolding round_at
stays_here g limit s p k e = rw e refl

pub straight_plan : (p : Plan) → p.joint ≡ p.start → p.entry ≡ p.start → p.joined ≡ 0 → p.entered ≡ 0 → p.rolled ≡ 0 → p.moves ≡ straight_moves p.start p.end →
    p.moves ≤ 200000000 →
    0 < p.step → p.step ≤ 50000 → IsSpot p.start → IsSpot p.end → IsSmall p.first → IsPlan p
straight_plan p joint entry joined entered rolled moves few some short start end small =
    let none : p.rolled - p.entered ≡ 0 = omega arith in
    let last : last_of p ≡ p.start = stays_here p.step p.limit p.first p.entry (p.rolled - p.entered) none ∙ entry in
    let here : straight_moves p.start p.start ≡ 0 = omega (arith, ints) in
    let a : straight_moves p.start p.joint ≡ 0 = rw joint here in
    let b : straight_moves p.joint p.entry ≡ 0 = rw (joint, entry) here in
    let c : straight_moves (last_of p) p.end ≡ p.moves = rw last (sym moves) in
    record {
      some_step = some;
      short_step = short;
      joined = joined ∙ sym a;
      entered = omega (arith, joined, entered, b);
      rolled = omega arith;
      moves = omega (arith, rolled, c);
      few = few;
      start = start;
      joint = rw joint start;
      end = end;
      round = λ k le. rw (stays_here p.step p.limit p.first p.entry k (omega arith), entry) start;
      small = λ k le. stays_small p.step p.limit p.first k (omega arith) small;
    }

-- ---- a walk with the wheel

pub round_starts : (g limit : ℕ) (s : Spoke) (p : Spot) → round_at g limit s p 0 ≡ p
unfolding round_at
round_starts g limit s p = refl

pub walk_on : (g limit : ℕ) (first w v : Spoke) (entry last next : Spot) (r : Roll) (k pace rim : ℕ) → pace ≡ g → rim ≡ limit → w ≡ spoke_at g limit first k →
    last ≡ round_at g limit first entry k →
    IsRoll pace rim w r → v ≡ rolled pace r w → next ≡ spot_moved last (roll_move r w.quadrant) →
    (v ≡ spoke_at g limit first (k + 1)) × (next ≡ round_at g limit first entry (k + 1))
walk_on g limit first w v entry last next r k pace rim paces rims here at roll on goes =
    let same = only_roll g limit w r (rw (paces, rims) at roll) in
    let further = spoke_on g limit first k in
    let farther = round_on g limit first entry k in
    (rw paces at on ∙ rw (same, here) (sym further), goes ∙ rw (same, here, at) (sym farther))

pub round_plan : (p : Plan) → 0 < p.step → p.step ≤ 50000 → IsSpot p.start → IsSpot p.joint → IsSpot p.end →
    ((k : ℕ) → IsSmall (spoke_at p.step p.limit p.first k)) → ((k : ℕ) → IsSpot (round_at p.step p.limit p.first p.entry k)) →
    p.joined ≡ straight_moves p.start p.joint → p.entered ≡ p.joined + straight_moves p.joint p.entry → (m : ℕ) → p.rolled ≡ p.entered + m →
    (last : Spot) → last ≡ round_at p.step p.limit p.first p.entry m → p.moves ≡ p.rolled + straight_moves last p.end → p.moves ≤ 200000000 → IsPlan p
round_plan p some short start joint end small range joined entered m rolls last here moves few =
    let same : p.rolled - p.entered ≡ m = omega (arith, rolls) in
    record {
      some_step = some;
      short_step = short;
      joined = joined;
      entered = entered;
      rolled = omega (arith, rolls);
      moves = rw same (rw here at moves);
      few = few;
      start = start;
      joint = joint;
      end = end;
      round = λ k le. range k;
      small = λ k le. small k;
    }

pub bent_plan : (p : Plan) → p.entry ≡ p.joint → p.joined ≡ straight_moves p.start p.joint → p.entered ≡ p.joined → p.rolled ≡ p.joined →
    p.moves ≡ p.joined + straight_moves p.joint p.end → p.moves ≤ 200000000 →
    0 < p.step → p.step ≤ 50000 → IsSpot p.start → IsSpot p.joint → IsSpot p.end → IsSmall p.first → IsPlan p
bent_plan p entry joined entered rolled moves few some short start joint end small =
    let none : p.rolled - p.entered ≡ 0 = omega (arith, entered, rolled) in
    let last : last_of p ≡ p.joint = stays_here p.step p.limit p.first p.entry (p.rolled - p.entered) none ∙ entry in
    let here : straight_moves p.joint p.joint ≡ 0 = omega (arith, ints) in
    let b : straight_moves p.joint p.entry ≡ 0 = rw entry here in
    let c : p.moves ≡ p.joined + straight_moves (last_of p) p.end = rw last moves in
    record {
      some_step = some;
      short_step = short;
      joined = joined;
      entered = omega (arith, entered, b);
      rolled = omega (arith, entered, rolled);
      moves = omega (arith, rolled, c);
      few = few;
      start = start;
      joint = joint;
      end = end;
      round = λ k le. rw (stays_here p.step p.limit p.first p.entry k (omega (arith, le, none)), entry) joint;
      small = λ k le. stays_small p.step p.limit p.first k (omega (arith, le, none)) small;
    }
