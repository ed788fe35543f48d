-- The motions passed before a joint: what a block of them allows, and how a trail follows the
-- commands.
use Rattle.std.proofs.Common.{◌≡◌, inl, inr, ℕ, zero, suc, ◌+◌, ◌-◌, ◌*◌, ◌≤◌, ◌<◌, ◌==◌, min, max, cond, ℤ, ◌≤ℤ◌, unsigned_abs, Bool, true, false, Option, Some, None, List, [], ◌∷◌, length, take, drop, map, reverse, slice_get, get_or, unwrap_or, arith, refl, sym, subst, ap, ◌∙◌}
use Rattle.std.proofs.lemmas.Bool.{cases_lt}
use Rattle.std.proofs.lemmas.Int.{ints, int_min_is, int_max_is}
use Rattle.std.specs.Int.{int_min, int_max}
use Rattle.circular_buffer.specs.Buffer.{Buffer, buffer}
use Rattle.std.proofs.lemmas.List.{drop_all, take_all, take-map, take-take, drop-drop, reverse-append}
use Rattle.std.proofs.lemmas.Option.{slice_get_within, unwrap_or-slice_get}
use Rattle.std.proofs.lemmas.Grind.{take_at_read}
use Rattle.std.specs.List.{AllByRecursion}
use Rattle.std.proofs.lemmas.Nat.{mul-le}
use Rattle.std.proofs.Math.Numerals.{suc-eq-add-one}
use Rattle.ngc_fixed_length.specs.Limits.{MILLION}
use Rattle.ngc_fixed_length.specs.Grid.{distance}
use Rattle.ngc_fixed_length.specs.declared.points.Point3.{Point3}
use Rattle.ngc_machine_files.specs.Machine.{MachineFile}
use Rattle.ngc_commands.specs.declared.command.Command.{Command}
use Rattle.ngc_planner.specs.declared.trail.Block.{Block}
use Rattle.ngc_planner.specs.declared.trail.Look.{Look}
use Rattle.ngc_planner.specs.declared.trail.Mark.{Mark}
use Rattle.ngc_planner.specs.declared.displacement.AxisDifferences.{AxisDifferences}
use Rattle.ngc_planner.specs.Headings.{IsHeading, AreDifferences, differences, greater_differences}
use Rattle.ngc_planner.specs.Joints.{AxesMayHead, rate_from, rate_from_all, joint_at, joint_before}
use Rattle.ngc_planner.specs.Trail.{Passage, TrailData, JointsData, passage_with, passages, measured, trail_on, trail_before, joints_before, LiesBetween, length_along, IsBlock, Describes, passage_of, IsMark, IsTrail, IsSameRate, LONGEST}
use Rattle.ngc_planner.specs.Turns.{axis_turns}
use Rattle.ngc_planner.specs.Window.{window_length, passing_heading, way_on, passed_with, passed_on, earlier}
use Rattle.ngc_planner.proofs.TurnLaws.{differences_small, axes_may_less, axes_rate_law}

-- ---- the distances on a trail are those on the commands

measured_with : (h : Option Point3) (way l : ℕ) (ps : List Passage) → measured way (passage_with h l ps) ≡ passed_with h way (measured (way + l) ps)
measured_with (Some d) way l ps = refl
measured_with None way l ps = refl

pub measured_on : (m : MachineFile) (way : ℕ) (cs : List Command) → measured way (passages m cs) ≡ passed_on m way cs
measured_on m way [] = refl
measured_on m way (c ∷ cs) =
    measured_with (passing_heading m c.action) way (way_on m c.action) (passages m cs)
    ∙ ap (λ ps. passed_with (passing_heading m c.action) way ps) (measured_on m (way + way_on m c.action) cs)

-- ---- a trail follows the commands

take_with : (n : ℕ) (h : Option Point3) (l : ℕ) (ps : List Passage) → take (suc n) (passage_with h l ps) ≡ passage_with h l (take n ps)
take_with n (Some d) l ps = refl
take_with n None l ps = refl

-- the first passages are those of the first commands
pub passages_front : (m : MachineFile) (n : ℕ) (cs : List Command) → passages m (take n cs) ≡ take n (passages m cs)
passages_front m zero cs = refl
passages_front m (suc n) [] = refl
passages_front m (suc n) (c ∷ cs) =
    ap (λ ps. passage_with (passing_heading m c.action) (way_on m c.action) ps) (passages_front m n cs)
    ∙ sym (take_with n (passing_heading m c.action) (way_on m c.action) (passages m cs))

-- ---- what lies between two headings

between_x : (a b d e : ℤ) → a ≤ℤ d → d ≤ℤ b → distance d e ≤ max (distance a e) (distance b e)
between_x a b d e h k = omega (arith, ints, h, k)

-- the most by which a heading between two others differs from e
abbrev most_between : (least greatest e : Point3) → AxisDifferences
most_between a b e = greater_differences (differences a e) (differences b e)

-- ---- a block that lowers no rate

-- a heading between two others lowers no rate that may change by the most by which they differ
free_of : (m : MachineFile) (e a b d : Point3) (v way w : ℕ) → AreDifferences (most_between a b e) → v ≤ MILLION → way ≤ w →
    AxesMayHead m.jump (axis_turns m) (most_between a b e) way v → LiesBetween a b d → v ≤ rate_from m e (record { heading = d; way = w })
free_of m e a b d v way w few small more may h =
    let x = between_x a.x b.x d.x e.x h.x.0 h.x.1 in
    let y = between_x a.y b.y d.y e.y h.y.0 h.y.1 in
    let z = between_x a.z b.z d.z e.z h.z.0 h.z.1 in
    (axes_rate_law m.jump (axis_turns m) (differences d e) w v (record { x = omega (arith, x, few.x); y = omega (arith, y, few.y); z = omega (arith, z, few.z) })).1
    (small, axes_may_less m.jump (axis_turns m) (differences d e) (most_between a b e) way w v x y z more may)

passed_free : (v h x : ℕ) → v ≤ h → min v (min h x) ≡ min v x
passed_free v h x free = omega (arith, free)

-- so do n such headings, each passed at least way ago
free_front : (m : MachineFile) (e a b : Point3) (v way w n : ℕ) (ps : List Passage) → AreDifferences (most_between a b e) →
    v ≤ MILLION → way ≤ w → AxesMayHead m.jump (axis_turns m) (most_between a b e) way v → AllByRecursion (λ p. LiesBetween a b p.heading) (take n ps) →
    min v (rate_from_all m e (measured w ps)) ≡ min v (rate_from_all m e (measured (w + length_along (take n ps)) (drop n ps)))
free_front m e a b v way w zero ps few small more may all = ap (λ x. min v (rate_from_all m e (measured x ps))) (omega arith)
free_front m e a b v way w (suc n) [] few small more may all = refl
free_front m e a b v way w (suc n) (p ∷ ps) few small more may all =
    let here = free_of m e a b p.heading v way w few small more may all.0 in
    let afterwards = free_front m e a b v way (w + p.length) n ps few small (omega (arith, more)) may all.1 in
    let sum : w + p.length + length_along (take n ps) ≡ w + (p.length + length_along (take n ps)) = omega arith in
    passed_free v (rate_from m e (record { heading = p.heading; way = w })) (rate_from_all m e (measured (w + p.length) ps)) here
    ∙ (afterwards ∙ ap (λ x. min v (rate_from_all m e (measured x (drop n ps)))) sum)

pub block_small : (b : Block) (e : Point3) → IsBlock b → IsHeading e → AreDifferences (most_between b.least b.greatest e)
block_small b e is next =
    let least = differences_small b.least e is.least next in
    let greatest = differences_small b.greatest e is.greatest next in record {
      x = omega (arith, least.x, greatest.x);
      y = omega (arith, least.y, greatest.y);
      z = omega (arith, least.z, greatest.z);
    }

ended : (x y : ℕ) (ps : List Passage) → ps ≡ [] → measured x ps ≡ measured y ps
ended x y ps none = rw none refl

-- past a block from which no heading lowers the rate
pub past_block : (m : MachineFile) (e : Point3) (b : Block) (v way : ℕ) (most : AxisDifferences) (ps : List Passage) → IsBlock b → Describes b ps → IsHeading e →
    most ≡ most_between b.least b.greatest e → v ≤ MILLION → AxesMayHead m.jump (axis_turns m) most way v →
    min v (rate_from_all m e (measured way ps)) ≡ min v (rate_from_all m e (measured (way + b.length) (drop b.count ps)))
past_block m e b v way most ps is has next same small may =
    let all = subst (λ n. AxesMayHead m.jump (axis_turns m) n way v) same may in
    let free = free_front m e b.least b.greatest v way way b.count ps (block_small b e is next) small (omega arith) all has.each in
    elim (cases_lt (length ps) b.count) [
      | inl fewer ↦ (let none : drop b.count ps ≡ [] = drop_all b.count ps (omega (arith, fewer)) in
          free ∙ ap (λ xs. min v (rate_from_all m e xs)) (ended (way + length_along (take b.count ps)) (way + b.length) (drop b.count ps) none))
      | inr enough ↦ free ∙ ap (λ x. min v (rate_from_all m e (measured (way + x) (drop b.count ps)))) (sym (has.whole enough))
    ]

-- past one motion
pub past_motion : (m : MachineFile) (e : Point3) (p : Passage) (ps : List Passage) (v r way : ℕ) → r ≡ min v (rate_from m e (record { heading = p.heading; way = way })) →
    min v (rate_from_all m e (measured way (p ∷ ps))) ≡ min r (rate_from_all m e (measured (way + p.length) ps))
past_motion m e p ps v r way is = omega (arith, is)

pub same_past : (m : MachineFile) (e : Point3) (x r w n on k : ℕ) (ps : List Passage) → n ≡ on + k →
    x ≡ min r (rate_from_all m e (measured w (drop k ps))) → x ≡ min r (rate_from_all m e (measured w (drop (n - on) ps)))
same_past m e x r w n on k ps is h =
    let count : k ≡ n - on = omega (arith, is) in
    h ∙ ap (λ c. min r (rate_from_all m e (measured w (drop c ps)))) count

pub past_one_same : (m : MachineFile) (e : Point3) (p : Passage) (ps : List Passage) (v r way w n on : ℕ) → r ≡ min v (rate_from m e (record { heading = p.heading; way = way })) →
    w ≡ way + p.length → n ≡ on + 1 →
    min v (rate_from_all m e (measured way (p ∷ ps))) ≡ min r (rate_from_all m e (measured w (drop (n - on) (p ∷ ps))))
past_one_same m e p ps v r way w n on is far next =
    same_past m e (min v (rate_from_all m e (measured way (p ∷ ps)))) r w n on 1 (p ∷ ps) next
    (past_motion m e p ps v r way is ∙ ap (λ y. min r (rate_from_all m e (measured y ps))) (sym far))

-- ---- blocks grow

pub lies_on_itself : (d : Point3) → LiesBetween d d d
lies_on_itself d = record { x = (omega (arith, ints), omega (arith, ints)); y = (omega (arith, ints), omega (arith, ints)); z = (omega (arith, ints), omega (arith, ints)) }

pub record Widens (a b c d : Point3) : Type 0 where
  pub least_x : c.x ≤ℤ a.x
  pub least_y : c.y ≤ℤ a.y
  pub least_z : c.z ≤ℤ a.z
  pub greatest_x : b.x ≤ℤ d.x
  pub greatest_y : b.y ≤ℤ d.y
  pub greatest_z : b.z ≤ℤ d.z

reaches : (a b c d h : ℤ) → c ≤ℤ a → b ≤ℤ d → (a ≤ℤ h) × (h ≤ℤ b) → (c ≤ℤ h) × (h ≤ℤ d)
reaches a b c d h p q both = (omega (arith, ints, p, both.0), omega (arith, ints, q, both.1))

widened : (a b c d h : Point3) → Widens a b c d → LiesBetween a b h → LiesBetween c d h
widened a b c d h w is = record {
  x = reaches a.x b.x c.x d.x h.x w.least_x w.greatest_x is.x;
  y = reaches a.y b.y c.y d.y h.y w.least_y w.greatest_y is.y;
  z = reaches a.z b.z c.z d.z h.z w.least_z w.greatest_z is.z;
}

all_widened : (a b c d : Point3) (ps : List Passage) → Widens a b c d → AllByRecursion (λ p. LiesBetween a b p.heading) ps → AllByRecursion (λ p. LiesBetween c d p.heading) ps
all_widened a b c d [] w all = tt
all_widened a b c d (p ∷ ps) w all = (widened a b c d p.heading w all.0, all_widened a b c d ps w all.1)

below_both : (r x y : ℤ) → r ≡ int_min x y → (r ≤ℤ x) × (r ≤ℤ y)
below_both r x y is = let least = int_min_is x y in (omega (arith, ints, least, is), omega (arith, ints, least, is))

above_both : (r x y : ℤ) → r ≡ int_max x y → (x ≤ℤ r) × (y ≤ℤ r)
above_both r x y is = let greatest = int_max_is x y in (omega (arith, ints, greatest, is), omega (arith, ints, greatest, is))

-- the coordinates of r are the lesser ones, those of s the greater ones
pub record AreExtremes (a b d r s : Point3) : Type 0 where
  pub least_x : r.x ≡ int_min a.x d.x
  pub least_y : r.y ≡ int_min a.y d.y
  pub least_z : r.z ≡ int_min a.z d.z
  pub greatest_x : s.x ≡ int_max b.x d.x
  pub greatest_y : s.y ≡ int_max b.y d.y
  pub greatest_z : s.z ≡ int_max b.z d.z

pub extremes_widen : (a b d r s : Point3) → AreExtremes a b d r s → Widens a b r s
extremes_widen a b d r s is = record {
  least_x = (below_both r.x a.x d.x is.least_x).0;
  least_y = (below_both r.y a.y d.y is.least_y).0;
  least_z = (below_both r.z a.z d.z is.least_z).0;
  greatest_x = (above_both s.x b.x d.x is.greatest_x).0;
  greatest_y = (above_both s.y b.y d.y is.greatest_y).0;
  greatest_z = (above_both s.z b.z d.z is.greatest_z).0;
}

pub extremes_include : (a b d r s : Point3) → AreExtremes a b d r s → LiesBetween r s d
extremes_include a b d r s is = record {
  x = ((below_both r.x a.x d.x is.least_x).1, (above_both s.x b.x d.x is.greatest_x).1);
  y = ((below_both r.y a.y d.y is.least_y).1, (above_both s.y b.y d.y is.greatest_y).1);
  z = ((below_both r.z a.z d.z is.least_z).1, (above_both s.z b.z d.z is.greatest_z).1);
}

small_least : (r x y : ℤ) (n : ℕ) → r ≡ int_min x y → unsigned_abs x ≤ n → unsigned_abs y ≤ n → unsigned_abs r ≤ n
small_least r x y n is p q = let least = int_min_is x y in omega (arith, ints, least, is, p, q)

small_greatest : (r x y : ℤ) (n : ℕ) → r ≡ int_max x y → unsigned_abs x ≤ n → unsigned_abs y ≤ n → unsigned_abs r ≤ n
small_greatest r x y n is p q = let greatest = int_max_is x y in omega (arith, ints, greatest, is, p, q)

pub least_heading : (a b d r s : Point3) → AreExtremes a b d r s → IsHeading a → IsHeading d → IsHeading r
least_heading a b d r s is p q = record {
  x = small_least r.x a.x d.x MILLION is.least_x p.x q.x;
  y = small_least r.y a.y d.y MILLION is.least_y p.y q.y;
  z = small_least r.z a.z d.z MILLION is.least_z p.z q.z;
}

pub greatest_heading : (a b d r s : Point3) → AreExtremes a b d r s → IsHeading b → IsHeading d → IsHeading s
greatest_heading a b d r s is p q = record {
  x = small_greatest s.x b.x d.x MILLION is.greatest_x p.x q.x;
  y = small_greatest s.y b.y d.y MILLION is.greatest_y p.y q.y;
  z = small_greatest s.z b.z d.z MILLION is.greatest_z p.z q.z;
}

-- a block of one motion
pub describes_one : (b : Block) (p : Passage) (ps : List Passage) → b.count ≡ 1 → b.length ≡ p.length → b.least ≡ p.heading → b.greatest ≡ p.heading → Describes b (p ∷ ps)
describes_one b p ps count length least greatest = record {
  each = rw (count, least, greatest) (lies_on_itself p.heading, tt);
  whole = λ enough. rw (count, length) (omega arith);
}

-- a block with one more
pub describes_more : (b c : Block) (p : Passage) (ps : List Passage) → Describes b ps → c.count ≡ suc b.count → c.length ≡ b.length + p.length →
    Widens b.least b.greatest c.least c.greatest → LiesBetween c.least c.greatest p.heading → Describes c (p ∷ ps)
describes_more b c p ps h count long w here = record {
  each = subst (λ n. AllByRecursion (λ p. LiesBetween c.least c.greatest p.heading) (take n (p ∷ ps))) (sym count)
      (here, all_widened b.least b.greatest c.least c.greatest (take b.count ps) w h.each);
  whole = λ enough. (let before = h.whole (omega (arith, enough, count)) in
      subst (λ n. c.length ≡ length_along (take n (p ∷ ps))) (sym count) (omega (arith, before, long)));
}

-- ---- a trail that forgets its farthest motions

all_front : (c n : ℕ) (P : Passage → Type 0) (ps : List Passage) → AllByRecursion P (take c ps) → AllByRecursion P (take c (take n ps))
all_front zero n P ps all = tt
all_front (suc c) zero P ps all = tt
all_front (suc c) (suc n) P [] all = tt
all_front (suc c) (suc n) P (p ∷ ps) all = (all.0, all_front c n P ps all.1)

front_of : (c n : ℕ) (ps : List Passage) → c ≤ length (take n ps) → take c (take n ps) ≡ take c ps
front_of zero n ps few = refl
front_of (suc c) zero ps few = absurd (omega (arith, few))
front_of (suc c) (suc n) [] few = refl
front_of (suc c) (suc n) (p ∷ ps) few = ap (λ xs. p ∷ xs) (front_of c n ps (omega (arith, few)))

shorter : (n : ℕ) (ps : List Passage) → length (take n ps) ≤ length ps
shorter zero ps = omega arith
shorter (suc n) [] = omega arith
shorter (suc n) (p ∷ ps) = let less = shorter n ps in omega (arith, less)

describes_front : (b : Block) (n : ℕ) (ps : List Passage) → Describes b ps → Describes b (take n ps)
describes_front b n ps h = record {
  each = all_front b.count n (λ p. LiesBetween b.least b.greatest p.heading) ps h.each;
  whole = λ enough. (let less = shorter n ps in h.whole (omega (arith, enough, less)) ∙ ap length_along (sym (front_of b.count n ps enough)));
}

mark_front : (m : Mark) (n : ℕ) (ms : List Mark) → IsMark m ms → IsMark m (take n ms)
mark_front m n ms h = record {
  heading = h.heading;
  length = h.length;
  block = h.block;
  describes = subst (λ ps. Describes m.block (passage_of m ∷ ps)) (take-map passage_of n ms) (describes_front m.block (suc n) (map passage_of (m ∷ ms)) h.describes);
}

pub trail_front : (n : ℕ) (ms : List Mark) → IsTrail ms → IsTrail (take n ms)
trail_front zero ms h = tt
trail_front (suc n) [] h = tt
trail_front (suc n) (m ∷ ms) h = (mark_front m n ms h.0, trail_front n ms h.1)

-- the mark at an index, with those before it
pub mark_at : (k : ℕ) (m : Mark) (ms : List Mark) → slice_get ms k ≡ Some m → IsTrail ms →
    (before : List Mark) × IsMark m before × (drop k (map passage_of ms) ≡ map passage_of (m ∷ before))
mark_at k m [] at h = cc
mark_at zero m (x ∷ ms) at h = (let same : x ≡ m = cc in (ms, subst (λ y. IsMark y ms) same h.0, ap (λ y. map passage_of (y ∷ ms)) same))
mark_at (suc k) m (x ∷ ms) at h = mark_at k m ms at h.1

pub missing_past : (k : ℕ) (ms : List Mark) → slice_get ms k ≡ None → length (map passage_of ms) ≤ k
missing_past k [] none = omega arith
missing_past zero (m ∷ ms) none = cc
missing_past (suc k) (m ∷ ms) none = let less = missing_past k ms none in omega (arith, less)

-- ---- one more command

kept_twice : (n : ℕ) (h : Option Point3) (l : ℕ) (ps : List Passage) → take n (passage_with h l (take n ps)) ≡ take n (passage_with h l ps)
kept_twice zero h l ps = refl
kept_twice (suc n) h l ps =
    take_with n h l (take (suc n) ps) ∙ (ap (λ xs. passage_with h l xs) (take-take n (suc n) ps (omega arith)) ∙ sym (take_with n h l ps))

one_more_at : (commands : List Command) (k : ℕ) (c : Command) → slice_get commands k ≡ Some c → reverse (take (k + 1) commands) ≡ c ∷ reverse (take k commands)
one_more_at commands k c at =
    let within = slice_get_within commands k c at in
    let read : get_or commands k c ≡ c = sym (unwrap_or-slice_get commands k c) ∙ ap (λ o. unwrap_or o c) at in
    ap (λ xs. reverse xs) ((take_at_read commands k c within).1) ∙ (reverse-append (take k commands) (get_or commands k c ∷ []) ∙ ap (λ x. x ∷ reverse (take k commands)) read)

trail_by : (none : Bool) (m : MachineFile) (commands : List Command) (k n : ℕ) (c : Command) → slice_get commands k ≡ Some c → none ≡ false →
    take n (passage_with (passing_heading m c.action) (way_on m c.action) (cond none [] (passages m (take n (reverse (take k commands))))))
    ≡ cond none [] (passages m (take n (reverse (take (k + 1) commands))))
trail_by true m commands k n c at some = cc
trail_by false m commands k n c at some =
    let h = passing_heading m c.action in
    let l = way_on m c.action in
    let back = reverse (take k commands) in
    ap (λ ps. take n (passage_with h l ps)) (passages_front m n back)
    ∙ (kept_twice n h l (passages m back)
    ∙ (sym (passages_front m n (c ∷ back)) ∙ ap (λ cs. passages m (take n cs)) (sym (one_more_at commands k c at))))

-- the trail after one more command
pub trail_more : (m : MachineFile) (commands : List Command) (k : ℕ) (c : Command) → slice_get commands k ≡ Some c → (m.jump == 0) ≡ false →
    record (trail_before m commands k) {
      passed = take (window_length m - 1) (passage_with (passing_heading m c.action) (way_on m c.action) (trail_before m commands k).passed);
    } ≡ trail_before m commands (k + 1)
trail_more m commands k c at some =
    ap (λ ps. (let t : TrailData = record { passed = ps; most = window_length m - 1 } in t)) (trail_by (m.jump == 0) m commands k (window_length m - 1) c at some)

-- the trail of a machine without a jump
pub trail_none : (m : MachineFile) (commands : List Command) (k n : ℕ) → (m.jump == 0) ≡ true → trail_before m commands k ≡ trail_before m commands n
trail_none m commands k n none = rw none refl

-- the trail after the last command
pub trail_last : (m : MachineFile) (commands : List Command) (k : ℕ) → length commands ≤ k → trail_before m commands k ≡ trail_before m commands (k + 1)
trail_last m commands k most =
    let here = take_all k commands most in
    let next = take_all (k + 1) commands (omega (arith, most)) in
    rw (here, next) refl

abbrev no_passages : List Passage
no_passages = []

opening_by : (none : Bool) → cond none no_passages no_passages ≡ no_passages
opening_by true = refl
opening_by false = refl

abbrev no_commands : List Command
no_commands = []

take_none : (n : ℕ) → take n no_commands ≡ no_commands
take_none zero = refl
take_none (suc n) = refl

-- the joints before the first command
pub opening : (m : MachineFile) (commands : List Command) (most : ℕ) → most ≡ window_length m - 1 →
    (let j : JointsData = record { entry = MILLION; trail = record { passed = []; most = most } } in j) ≡ joints_before m commands 0
opening m commands most is =
    let none : trail_on m (earlier m commands 0) ≡ [] = ap (λ cs. trail_on m cs) (take_none (window_length m - 1)) ∙ opening_by (m.jump == 0) in
    rw (is, none) refl

-- ---- the look back along a trail, from the rate v, where the nearest motion ended way ago

pub record IsLookedBack (m : MachineFile) (e : Point3) (v way : ℕ) (ps : List Passage) (look : Look) : Type 0 where
  pub same : min v (rate_from_all m e (measured way ps)) ≡ min look.rate (rate_from_all m e (measured look.way (drop look.passed ps)))
  pub small : look.rate ≤ MILLION
  pub within : look.way ≤ (1 + look.passed) * LONGEST

-- ---- one more mark

pub record IsStored (ms : List Mark) (most : ℕ) : Type 0 where
  pub trail : IsTrail ms
  pub within : length ms ≤ most
  pub few : most ≤ 1023

taken_few : (n : ℕ) (ms : List Mark) → length (take n ms) ≤ n
taken_few zero ms = omega arith
taken_few (suc n) [] = omega arith
taken_few (suc n) (m ∷ ms) = let few = taken_few n ms in omega (arith, few)

pub stored_more : (b : Buffer Mark) (most : ℕ) (m : Mark) (ms : List Mark) → b ≡ buffer (take most (m ∷ ms)) most → IsMark m ms → IsTrail ms → most ≤ 1023 →
    IsTrail b.items × (length b.items ≤ b.capacity) × (b.capacity ≤ 1023)
stored_more b most m ms is mark trail few = rw is (trail_front most (m ∷ ms) (mark, trail), taken_few most (m ∷ ms), few)

pub viewed_more : (b : Buffer Mark) (most l : ℕ) (h : Option Point3) (m : Mark) (ms : List Mark) (ps : List Passage) → b ≡ buffer (take most (m ∷ ms)) most →
    h ≡ Some m.heading → m.length ≡ l → map passage_of ms ≡ ps →
    (let t : TrailData = record { passed = map passage_of b.items; most = b.capacity } in t) ≡ record { passed = take most (passage_with h l ps); most = most }
viewed_more b most l h m ms ps is some long before =
    rw (is, some, sym long, sym before) (ap (λ ps. (let t : TrailData = record { passed = ps; most = most } in t)) (sym (take-map passage_of most (m ∷ ms))))

-- ---- the steps of a look back

pub looked_on : (m : MachineFile) (e : Point3) (v way : ℕ) (ps xs : List Passage) (old new : Look) → IsLookedBack m e v way ps old → drop old.passed ps ≡ xs →
    IsSameRate m e old new xs → old.passed < new.passed → new.rate ≤ MILLION → new.way ≤ (1 + new.passed) * LONGEST → IsLookedBack m e v way ps new
looked_on m e v way ps xs old new is rest step more small within =
    let farther : drop (new.passed - old.passed) xs ≡ drop new.passed ps =
    ap (λ ys. drop (new.passed - old.passed) ys) (sym rest) ∙ (drop-drop (new.passed - old.passed) old.passed ps ∙ ap (λ n. drop n ps) (omega (arith, more))) in
    let here : min old.rate (rate_from_all m e (measured old.way (drop old.passed ps))) ≡ min new.rate (rate_from_all m e (measured new.way (drop new.passed ps))) =
    ap (λ ys. min old.rate (rate_from_all m e (measured old.way ys))) rest ∙ (step ∙ ap (λ ys. min new.rate (rate_from_all m e (measured new.way ys))) farther) in
    record { same = is.same ∙ here; small = small; within = within }

least_of_all : (r : ℕ) (m : MachineFile) (e : Point3) (way : ℕ) (ps : List Passage) → ps ≡ [] → r ≤ MILLION → min r (rate_from_all m e (measured way ps)) ≡ r
least_of_all r m e way ps none small = rw none (omega (arith, small))

-- at the end of the trail
pub looked_past : (m : MachineFile) (e : Point3) (v way : ℕ) (ps : List Passage) (look : Look) → IsLookedBack m e v way ps look → length ps ≤ look.passed →
    look.rate ≡ min v (rate_from_all m e (measured way ps))
looked_past m e v way ps look is all = sym (is.same ∙ least_of_all look.rate m e look.way (drop look.passed ps) (drop_all look.passed ps all) is.small)

-- the joints after one more command: the bound of its joint, and the trail that it is on
pub joints_more : (m : MachineFile) (commands : List Command) (k : ℕ) {entry : ℕ} {trail : TrailData} →
    entry ≡ joint_at m commands k → trail ≡ trail_before m commands (k + 1) →
    record { entry = entry; trail = trail } ≡ joints_before m commands (k + 1)
joints_more m commands k {entry} {trail} bound followed =
    let next : joint_at m commands k ≡ joint_before m commands (k + 1) = ap (λ n. joint_before m commands n) (suc-eq-add-one k) in
    ap (λ e. record { entry = e; trail = trail }) (bound ∙ next) ∙ ap (λ t. record { entry = joint_before m commands (k + 1); trail = t }) followed
