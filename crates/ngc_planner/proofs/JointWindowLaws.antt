-- The joint over a window compared with that of the two neighbours, and its properties.
use Rattle.std.proofs.Common.{◌≡◌, ◌⊎◌, inl, inr, ℕ, zero, suc, ◌+◌, ◌*◌, ◌≤◌, ◌<◌, ◌==◌, nat_le, max, cond, Bool, true, false, Option, Some, None, List, [], ◌∷◌, arith, refl}
use Rattle.std.specs.List.{AllByRecursion}
use Rattle.std.proofs.lemmas.List.Elements.{All-from_recursion, recursion_from_All}
use Rattle.std.proofs.lemmas.Bool.Decides.{nat_tests}
use Rattle.ngc_fixed_length.specs.Limits.{MILLION}
use Rattle.ngc_fixed_length.specs.Grid.{distance}
use Rattle.ngc_fixed_length.specs.declared.points.Point3.{Point3}
use Rattle.ngc_machine_files.specs.Machine.{MachineFile}
use Rattle.ngc_machine_files.specs.declared.machine.AxisTurns.{AxisTurns}
use Rattle.ngc_commands.specs.declared.command.Action.TheVariants.{Move}
use Rattle.ngc_commands.specs.declared.command.Command.{Command}
use Rattle.ngc_commands.specs.declared.movement.Motion.{Motion}
use Rattle.ngc_commands.specs.declared.movement.Way.{Way}
use Rattle.ngc_planner.proofs.BoundLaws.{actions_least}
use Rattle.ngc_planner.proofs.JointLaws.{into, keeps_jump}
use Rattle.ngc_planner.proofs.TurnLaws.{differences_small, value_of_one, axes_rate_law}
use Rattle.ngc_planner.proofs.WindowLaws.{less_times, rate_law, heading_is, passing_is}
use Rattle.ngc_planner.specs.declared.displacement.AxisDifferences.{AxisDifferences}
use Rattle.ngc_planner.specs.Headings.{IsHeading, AreDifferences, differences, greatest_difference, start_vector, end_vector, start_heading, end_heading}
use Rattle.ngc_planner.specs.Window.{Passed, passing_heading, way_of, way_on, passed_with, passed_on, window}
use Rattle.ngc_planner.specs.Turns.{axis_turns}
use Rattle.ngc_planner.specs.Joints.{rate_through, joint_by_headings, plain_joint, joint_of, MayHead, heading_rate, axes_heading_rate, MayHeadFrom, rate_from_all, joint_by_window, joint_of_actions, KeepsTurn, IsBetween, KeepsJumpInWindow, IsGreatestOfWindow, KeepsTurnInWindow}

-- ---- the two neighbours

slow_enough : (jump turn n v : ℕ) → MayHead jump turn n 0 v → v * n ≤ MILLION * jump
slow_enough jump turn n zero h = omega arith
slow_enough jump turn n (suc v) h = less_times (suc v) (suc v * n) (MILLION * jump) (omega arith) (omega (arith, h))

-- over no distance the rate is that of the jump alone
at_once : (jump turn n : ℕ) → n ≤ 2000000 → heading_rate jump turn n 0 ≤ rate_through jump n
at_once jump turn n few =
    let v = heading_rate jump turn n 0 in
    let law = (rate_law jump turn n 0 v few).0 (omega arith) in
    into (n == 0) jump n v refl law.0 (slow_enough jump turn n v law.1)

all_at_once : (jump : ℕ) (turns : AxisTurns) (n : AxisDifferences) → AreDifferences n → axes_heading_rate jump turns n 0 ≤ rate_through jump (greatest_difference n)
all_at_once jump turns n few =
    let x = at_once jump turns.x n.x few.x in
    let y = at_once jump turns.y n.y few.y in
    let z = at_once jump turns.z n.z few.z in
    elim (value_of_one (λ d. rate_through jump d) n.x n.y n.z) [
      | inl first ↦ omega (arith, x, first)
      | inr others ↦ elim others [ inl second ↦ omega (arith, y, second) | inr third ↦ omega (arith, z, third) ]
    ]

window_most : (m : MachineFile) (w : Way) (before : List Command) (d e : Option Point3) → ((p : Point3) → d ≡ Some p → IsHeading p) → ((p : Point3) → e ≡ Some p → IsHeading p) →
    joint_by_window m w before d e ≤ joint_by_headings m.corner m.jump d e
window_most m w before (Some d) (Some e) first next =
    let rate = all_at_once m.jump (axis_turns m) (differences d e) (differences_small d e (first d refl) (next e refl)) in
    omega (arith, rate)
window_most m w before (Some d) None first next = omega arith
window_most m w before None e first next = omega arith

either_most : (none : Bool) (a b c : ℕ) → b ≤ c → cond none a b ≤ cond none a c
either_most true a b c h = omega arith
either_most false a b c h = h

most : (m : MachineFile) (before : List Command) (k l : Motion) → joint_of_actions m before (Move k) (Move l) ≤ joint_of m (Move k) (Move l)
most m before k l =
    either_most (m.jump == 0) (plain_joint m k.way l.way) _ _
    (window_most m k.way before (end_heading k.way) (start_heading l.way) (λ p h. heading_is (end_vector k.way) p h) (λ p h. heading_is (start_vector l.way) p h))

pub between : IsBetween
between m before k l ranges = record {
  least = actions_least m before (Move k) (Move l) ranges.corner.greatest;
  most = most m before k l;
}

pub keeps_jump_in_window : KeepsJumpInWindow
keeps_jump_in_window m before k l v h = let less = most m before k l in keeps_jump m k l v (omega (arith, h, less))

-- ---- the greatest rate

abbrev AreHeadings : List Passed → Type 0
AreHeadings ps = AllByRecursion (λ p. IsHeading p.heading) ps

headings_with : (h : Option Point3) (way : ℕ) (ps : List Passed) → ((d : Point3) → h ≡ Some d → IsHeading d) → AreHeadings ps → AreHeadings (passed_with h way ps)
headings_with None way ps each afterwards = tt
headings_with (Some d) way ps each afterwards = (each d refl, afterwards)

headings_on : (m : MachineFile) (way : ℕ) (cs : List Command) → AreHeadings (passed_on m way cs)
headings_on m way [] = tt
headings_on m way (c ∷ cs) =
    headings_with (passing_heading m c.action) way (passed_on m (way + way_on m c.action) cs) (λ d h. passing_is m c.action d h)
    (headings_on m (way + way_on m c.action) cs)

headings_of : (m : MachineFile) (d : Point3) (w : Way) (before : List Command) → IsHeading d → AreHeadings (window m d w before)
headings_of m d w before first = (first, headings_on m (way_of m w) before)

all_out : (m : MachineFile) (e : Point3) (v : ℕ) (ps : List Passed) → IsHeading e → AreHeadings ps → v ≤ rate_from_all m e ps →
    (v ≤ MILLION) × AllByRecursion (MayHeadFrom m e v) ps
all_out m e v [] next each h = (h, tt)
all_out m e v (p ∷ ps) next each h =
    let here = (axes_rate_law m.jump (axis_turns m) (differences p.heading e) p.way v (differences_small p.heading e each.0 next)).0 (omega (arith, h)) in
    let afterwards = all_out m e v ps next each.1 (omega (arith, h)) in
    (here.0, (here.1, afterwards.1))

all_in : (m : MachineFile) (e : Point3) (v : ℕ) (ps : List Passed) → IsHeading e → AreHeadings ps → v ≤ MILLION → AllByRecursion (MayHeadFrom m e v) ps →
    v ≤ rate_from_all m e ps
all_in m e v [] next each small may = small
all_in m e v (p ∷ ps) next each small may =
    let here = (axes_rate_law m.jump (axis_turns m) (differences p.heading e) p.way v (differences_small p.heading e each.0 next)).1 (small, may.0) in
    let afterwards = all_in m e v ps next each.1 small may.1 in
    omega (arith, here, afterwards)

above_corner : (slow : Bool) (corner rate v : ℕ) → slow ≡ nat_le v corner → v ≤ max corner rate → (v ≤ corner) ⊎ (v ≤ rate)
above_corner true corner rate v test h = inl (grind (arith, nat_tests))
above_corner false corner rate v test h = let above : corner < v = grind (arith, nat_tests) in inr (omega (arith, h, above))

pub greatest_of_window : IsGreatestOfWindow
greatest_of_window m before w x d e v ends starts =
    let first = heading_is (end_vector w) d ends in
    let next = heading_is (start_vector x) e starts in
    let ps = window m d w before in
    let each = headings_of m d w before first in (
      λ h. elim (above_corner (nat_le v m.corner) m.corner (rate_from_all m e ps) v refl h) [
        | inl slow ↦ inl slow
        | inr less ↦ (let all = all_out m e v ps next each less in inr (all.0, All-from_recursion (MayHeadFrom m e v) ps all.1))
      ],
      λ may. elim may [
        | inl slow ↦ omega (arith, slow)
        | inr all ↦ (let less = all_in m e v ps next each all.0 (recursion_from_All (MayHeadFrom m e v) ps all.1) in omega (arith, less))
      ],
    )

-- ---- at a constant rate through the window

one_axis : (jump turn n way v : ℕ) → MayHead jump turn n way v → v * (v * n) ≤ MILLION * (jump * v) + turn * way
one_axis jump turn n way v may = omega (arith, may)

turns_within : (m : MachineFile) (v : ℕ) (e : Point3) (p : Passed) → MayHeadFrom m e v p → KeepsTurn m v e p
turns_within m v e p may = record {
  x = one_axis m.jump (axis_turns m).x (distance p.heading.x e.x) p.way v may.x;
  y = one_axis m.jump (axis_turns m).y (distance p.heading.y e.y) p.way v may.y;
  z = one_axis m.jump (axis_turns m).z (distance p.heading.z e.z) p.way v may.z;
}

pub keeps_turn_in_window : KeepsTurnInWindow
keeps_turn_in_window m before w x d e v ends starts above h =
    elim ((greatest_of_window m before w x d e v ends starts).0 h) [
      | inl slow ↦ absurd (omega (arith, slow, above))
      | inr all ↦ (λ k p within. turns_within m v e _ (all.1 k p within))
    ]
