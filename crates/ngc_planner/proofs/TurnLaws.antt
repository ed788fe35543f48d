-- What the turns of the axes allow: on each axis a window is one of its own.
use Rattle.std.proofs.Common.{◌≡◌, ◌⊎◌, inl, inr, ℕ, ◌+◌, ◌*◌, ◌≤◌, ◌↔◌, nat_le, min, max, Bool, true, false, Option, None, List, arith, refl, sym, ap, ◌∙◌}
use Rattle.std.specs.Prelude.{◌&&◌}
use Rattle.std.proofs.lemmas.Bool.Decides.{nat_tests}
use Rattle.std.proofs.lemmas.Bool.{cases_lt}
use Rattle.std.proofs.lemmas.Int.{ints}
use Rattle.std.proofs.lemmas.Nat.{mul-le}
use Rattle.ngc_fixed_length.specs.Limits.{MILLION}
use Rattle.ngc_fixed_length.specs.declared.points.Point3.{Point3}
use Rattle.ngc_machine_files.specs.Machine.{MachineFile}
use Rattle.ngc_machine_files.specs.declared.machine.AxisTurns.{AxisTurns}
use Rattle.ngc_commands.specs.declared.command.Command.{Command}
use Rattle.ngc_commands.specs.declared.movement.Way.{Way}
use Rattle.ngc_planner.specs.declared.displacement.AxisDifferences.{AxisDifferences}
use Rattle.ngc_planner.specs.Headings.{IsHeading, AreDifferences, differences, greatest_difference}
use Rattle.ngc_planner.specs.Joints.{MayHead, may_head, heading_rate, AxesMayHead, axes_may_head, axes_heading_rate, rate_from, rate_from_all, IsSameWithOneTurn}
use Rattle.ngc_planner.specs.Turns.{one_turn, turns_by, axis_turns, IsOneTurn}
use Rattle.ngc_planner.specs.Window.{way_of, passed_on, window}
use Rattle.ngc_planner.proofs.WindowLaws.{rate_law, may_out}

-- ---- differences on the axes

pub differences_small : (d e : Point3) → IsHeading d → IsHeading e → AreDifferences (differences d e)
differences_small d e p q = record { x = omega (arith, ints, p.x, q.x); y = omega (arith, ints, p.y, q.y); z = omega (arith, ints, p.z, q.z) }

pub greatest_small : (n : AxisDifferences) → AreDifferences n → greatest_difference n ≤ 2000000
greatest_small n few = omega (arith, few.x, few.y, few.z)

-- the greatest of three is one of them
one_of : (a b c : ℕ) → (max a (max b c) ≡ a) ⊎ ((max a (max b c) ≡ b) ⊎ (max a (max b c) ≡ c))
one_of a b c = elim (cases_lt (max b c) a) [
  | inl first ↦ inl (omega (arith, first))
  | inr more ↦ elim (cases_lt c b) [ inl second ↦ inr (inl (omega (arith, more, second))) | inr third ↦ inr (inr (omega (arith, more, third))) ]
]

-- what it has, one of them has
pub value_of_one : (f : ℕ → ℕ) (a b c : ℕ) → (f (max a (max b c)) ≡ f a) ⊎ ((f (max a (max b c)) ≡ f b) ⊎ (f (max a (max b c)) ≡ f c))
value_of_one f a b c = elim (one_of a b c) [
  | inl first ↦ inl (ap f first)
  | inr others ↦ elim others [ inl second ↦ inr (inl (ap f second)) | inr third ↦ inr (inr (ap f third)) ]
]

-- ---- the rates that all axes allow

may_less : (jump turn n most way w v : ℕ) → n ≤ most → way ≤ w → MayHead jump turn most way v → MayHead jump turn n w v
may_less jump turn n most way w v few more h =
    let less = mul-le (v * v) n (v * v) most (omega arith) few in
    let longer = mul-le turn way turn w (omega arith) more in
    omega (arith, h, less, longer)

pub axes_may_less : (jump : ℕ) (turns : AxisTurns) (n most : AxisDifferences) (way w v : ℕ) → n.x ≤ most.x → n.y ≤ most.y → n.z ≤ most.z → way ≤ w →
    AxesMayHead jump turns most way v → AxesMayHead jump turns n w v
axes_may_less jump turns n most way w v x y z more h = record {
  x = may_less jump turns.x n.x most.x way w v x more h.x;
  y = may_less jump turns.y n.y most.y way w v y more h.y;
  z = may_less jump turns.z n.z most.z way w v z more h.z;
}

-- the greatest rate is the greatest that each axis allows, up to a million
pub axes_rate_law : (jump : ℕ) (turns : AxisTurns) (n : AxisDifferences) (way v : ℕ) → AreDifferences n →
    (v ≤ axes_heading_rate jump turns n way) ↔ ((v ≤ MILLION) × AxesMayHead jump turns n way v)
axes_rate_law jump turns n way v few =
    let x = rate_law jump turns.x n.x way v few.x in
    let y = rate_law jump turns.y n.y way v few.y in
    let z = rate_law jump turns.z n.z way v few.z in (
      λ h. (let a = x.0 (omega (arith, h)) in
          let b = y.0 (omega (arith, h)) in
          let c = z.0 (omega (arith, h)) in
          (a.0, record { x = a.1; y = b.1; z = c.1 })),
      λ may. (let a = x.1 (may.0, may.1.x) in
          let b = y.1 (may.0, may.1.y) in
          let c = z.1 (may.0, may.1.z) in
          omega (arith, a, b, c)),
    )

both_out : (p q : Bool) → (p && q) ≡ true → (p ≡ true) × (q ≡ true)
both_out true q h = (refl, h)
both_out false q h = cc

pub axes_may_out : (jump : ℕ) (turns : AxisTurns) (n : AxisDifferences) (way v : ℕ) → axes_may_head jump turns n way v ≡ true → AxesMayHead jump turns n way v
axes_may_out jump turns n way v h =
    let first = both_out (may_head jump turns.x n.x way v) (may_head jump turns.y n.y way v && may_head jump turns.z n.z way v) h in
    let others = both_out (may_head jump turns.y n.y way v) (may_head jump turns.z n.z way v) first.1 in record {
      x = may_out jump turns.x n.x way v first.0;
      y = may_out jump turns.y n.y way v others.0;
      z = may_out jump turns.z n.z way v others.1;
    }

-- ---- where all have the same turn

-- the greatest rate falls as the difference rises
rate_falls : (jump turn m n way : ℕ) → m ≤ n → n ≤ 2000000 → heading_rate jump turn n way ≤ heading_rate jump turn m way
rate_falls jump turn m n way less few =
    let v = heading_rate jump turn n way in
    let may = (rate_law jump turn n way v few).0 (omega arith) in
    (rate_law jump turn m way v (omega (arith, less, few))).1 (may.0, may_less jump turn m n way way v less (omega arith) may.1)

least_is : (g a b c : ℕ) → g ≤ a → g ≤ b → g ≤ c → (g ≡ a) ⊎ ((g ≡ b) ⊎ (g ≡ c)) → min a (min b c) ≡ g
least_is g a b c x y z (inl first) = omega (arith, x, y, z, first)
least_is g a b c x y z (inr (inl second)) = omega (arith, x, y, z, second)
least_is g a b c x y z (inr (inr third)) = omega (arith, x, y, z, third)

pub one_rate : (jump turn : ℕ) (n : AxisDifferences) (way : ℕ) → AreDifferences n →
    axes_heading_rate jump (one_turn turn) n way ≡ heading_rate jump turn (greatest_difference n) way
one_rate jump turn n way few =
    let g = greatest_difference n in
    let most = greatest_small n few in
    least_is (heading_rate jump turn g way) (heading_rate jump turn n.x way) (heading_rate jump turn n.y way) (heading_rate jump turn n.z way)
    (rate_falls jump turn n.x g way (omega arith) most) (rate_falls jump turn n.y g way (omega arith) most) (rate_falls jump turn n.z g way (omega arith) most)
    (value_of_one (λ d. heading_rate jump turn d way) n.x n.y n.z)

lesser_passes : (x y k : ℕ) → x ≤ y → nat_le y k ≡ true → nat_le x k ≡ true
lesser_passes x y k less h = grind (arith, nat_tests)

first_of_both : (p q : Bool) → (p ≡ true → q ≡ true) → p ≡ (p && q)
first_of_both true q h = sym (h refl)
first_of_both false q h = refl

second_of_both : (p q : Bool) → (q ≡ true → p ≡ true) → q ≡ (p && q)
second_of_both true q h = refl
second_of_both false true h = sym (h refl)
second_of_both false false h = refl

two_tests : (s a b k : ℕ) → nat_le (s * max a b) k ≡ (nat_le (s * a) k && nat_le (s * b) k)
two_tests s a b k = elim (cases_lt a b) [
  | inl less ↦ (let greater : max a b ≡ b = omega (arith, less) in
      let product = mul-le s a s b (omega arith) (omega (arith, less)) in
      ap (λ n. nat_le (s * n) k) greater ∙ second_of_both (nat_le (s * a) k) (nat_le (s * b) k) (λ h. lesser_passes (s * a) (s * b) k product h))
  | inr more ↦ (let greater : max a b ≡ a = omega (arith, more) in
      let product = mul-le s b s a (omega arith) more in
      ap (λ n. nat_le (s * n) k) greater ∙ first_of_both (nat_le (s * a) k) (nat_le (s * b) k) (λ h. lesser_passes (s * b) (s * a) k product h))
]

pub one_test : (jump turn : ℕ) (n : AxisDifferences) (way v : ℕ) → may_head jump turn (greatest_difference n) way v ≡ axes_may_head jump (one_turn turn) n way v
one_test jump turn n way v =
    let k = MILLION * (jump * v) + turn * way in
    two_tests (v * v) n.x (max n.y n.z) k ∙ ap (λ b. nat_le (v * v * n.x) k && b) (two_tests (v * v) n.y n.z k)

pub one_turn_of_all : IsOneTurn
one_turn_of_all m none = ap (λ own. turns_by own m.turn) none

pub same_with_one_turn : IsSameWithOneTurn
same_with_one_turn m turn d e way same first next =
    ap (λ turns. axes_heading_rate m.jump turns (differences d e) way) same ∙ one_rate m.jump turn (differences d e) way (differences_small d e first next)

-- ---- a window

least_of_both : (r rate h x y : ℕ) → r ≡ min rate x → rate ≡ min MILLION h → h ≤ MILLION → y ≡ x → r ≡ min h y
least_of_both r rate h x y p q s t = omega (arith, p, q, s, t)

rate_from_most : (m : MachineFile) (e d : Point3) (way : ℕ) → IsHeading d → IsHeading e → rate_from m e (record { heading = d; way = way }) ≤ MILLION
rate_from_most m e d way passed next =
    let rate = rate_from m e (record { heading = d; way = way }) in
    ((axes_rate_law m.jump (axis_turns m) (differences d e) way rate (differences_small d e passed next)).0 (omega arith)).0

pub whole_window : (m : MachineFile) (e d : Point3) (w : Way) (cs : List Command) (rate r way : ℕ) → IsHeading d → IsHeading e →
    way ≡ way_of m w → rate ≡ min MILLION (rate_from m e (record { heading = d; way = 0 })) →
    r ≡ min rate (rate_from_all m e (passed_on m way cs)) → r ≡ rate_from_all m e (window m d w cs)
whole_window m e d w cs rate r way passed next length first all =
    let h = rate_from m e (record { heading = d; way = 0 }) in
    let afterwards : rate_from_all m e (passed_on m (way_of m w) cs) ≡ rate_from_all m e (passed_on m way cs) = ap (λ n. rate_from_all m e (passed_on m n cs)) (sym length) in
    least_of_both r rate h (rate_from_all m e (passed_on m way cs)) _ all first (rate_from_most m e d 0 passed next) afterwards
