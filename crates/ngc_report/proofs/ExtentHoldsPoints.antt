-- Every point that a program may reach lies in its extent.
use Rattle.std.proofs.Common.{◌≡◌, ℕ, zero, suc, ◌+◌, ◌<◌, ◌≤◌, ℤ, ◌≤ℤ◌, List, [], ◌∷◌, length, subst, ap, arith}
use Rattle.std.specs.Prelude.{fold, map}
use Rattle.std.specs.List.{All}
use Rattle.std.specs.Int.{int_min, int_max}
use Rattle.std.proofs.lemmas.Int.{ints, clamps}
use Rattle.ngc_fixed_length.specs.Boxes.{IsIn, box_of}
use Rattle.ngc_fixed_length.specs.Grid.{grid, distance}
use Rattle.ngc_fixed_length.specs.LinePath.{point, FollowsLine, IsLineOf}
use Rattle.ngc_fixed_length.specs.declared.points.GridBox.{GridBox}
use Rattle.ngc_fixed_length.specs.declared.points.Point3.{Point3}
use Rattle.ngc_fixed_length.specs.declared.points.StepPos.{StepPos}
use Rattle.ngc_commands.specs.Movement.{actions_of, ways_of}
use Rattle.ngc_commands.specs.ProgramPath.{IsPathOf}
use Rattle.ngc_commands.specs.declared.movement.Way.{Way}
use Rattle.ngc_commands.specs.declared.movement.Way.TheVariants.{Line, Arc}
use Rattle.ngc_findings.specs.Extents.{joint_box, reach, ExtentHoldsPaths, ExtentHoldsStart}

-- ---- one motion

record IsWithin (a b p : ℤ) : Type 0 where
  low : int_min a b ≤ℤ p
  high : p ≤ℤ int_max a b

between : (a b p : ℤ) → distance a p + distance p b ≡ distance a b → IsWithin a b p
between a b p h = record { low = omega (arith, ints, clamps, h); high = omega (arith, ints, clamps, h) }

on_axis : (step : ℤ) (n k : ℕ) (b e first last : ℤ) (place : ℕ → ℤ) → k ≤ n → place 0 ≡ first → place n ≡ last → FollowsLine step n b e place →
    IsWithin first last (place k)
on_axis step n k b e first last place kn f l h =
    between first last (place k)
    (subst (λ q. distance q (place k) + distance (place k) last ≡ distance q last) f
    (subst (λ q. distance (place 0) (place k) + distance (place k) q ≡ distance (place 0) q) l (h.straight 0 k n (omega arith) kn (omega arith))))

on_line : (step : ℤ) (b e : Point3) (n : ℕ) (path : List StepPos) (k : ℕ) → k ≤ n → IsLineOf step b e n path →
    IsIn (box_of (grid step b) (grid step e)) (point path k)
on_line step b e n path k kn l =
    let x = on_axis step n k b.x e.x (grid step b).x (grid step e).x (λ i. (point path i).x) kn (ap (λ (q : StepPos). q.x) l.starts)
    (ap (λ (q : StepPos). q.x) l.ends) l.x in
    let y = on_axis step n k b.y e.y (grid step b).y (grid step e).y (λ i. (point path i).y) kn (ap (λ (q : StepPos). q.y) l.starts)
    (ap (λ (q : StepPos). q.y) l.ends) l.y in
    let z = on_axis step n k b.z e.z (grid step b).z (grid step e).z (λ i. (point path i).z) kn (ap (λ (q : StepPos). q.z) l.starts)
    (ap (λ (q : StepPos). q.z) l.ends) l.z in
    record { x_low = x.low; x_high = x.high; y_low = y.low; y_high = y.high; z_low = z.low; z_high = z.high }

in_reach : (step : ℤ) (w : Way) (path : List StepPos) (k : ℕ) → IsPathOf step w path → k < length path → IsIn (reach step w) (point path k)
in_reach step (Line b e) path k h within = on_line step b e _ path k (let n = h.count in omega (arith, n)) h
in_reach step (Arc a) path k h within = h.1.weak.inside k (let n = h.1.weak.count in omega (arith, n))

-- ---- all of them

pub in_left : (a b : GridBox) (p : StepPos) → IsIn a p → IsIn (joint_box a b) p
in_left a b p h = record {
  x_low = omega (arith, ints, clamps);
  x_high = omega (arith, ints, clamps);
  y_low = omega (arith, ints, clamps);
  y_high = omega (arith, ints, clamps);
  z_low = omega (arith, ints, clamps);
  z_high = omega (arith, ints, clamps);
}

pub in_right : (a b : GridBox) (p : StepPos) → IsIn b p → IsIn (joint_box a b) p
in_right a b p h = record {
  x_low = omega (arith, ints, clamps);
  x_high = omega (arith, ints, clamps);
  y_low = omega (arith, ints, clamps);
  y_high = omega (arith, ints, clamps);
  z_low = omega (arith, ints, clamps);
  z_high = omega (arith, ints, clamps);
}

pub in_first : (a : GridBox) (bs : List GridBox) (p : StepPos) → IsIn a p → IsIn (fold joint_box a bs) p
in_first a [] p h = h
in_first a (b ∷ bs) p h = in_first (joint_box a b) bs p (in_left a b p h)

in_one : (step : ℤ) (a : GridBox) (ws : List Way) → All (λ w. (p : StepPos) → IsIn (reach step w) p → IsIn (fold joint_box a (map (reach step) ws)) p) ws
in_one step a [] k d inside p h = absurd (omega arith)
in_one step a (w ∷ ws) zero d inside p h = in_first (joint_box a (reach step w)) (map (reach step) ws) p (in_right a (reach step w) p h)
in_one step a (w ∷ ws) (suc k) d inside p h = in_one step (joint_box a (reach step w)) ws k d (omega arith) p h

pub paths_law : ExtentHoldsPaths
paths_law machine commands i d inside path k h within =
    in_one machine.step _ (ways_of (actions_of commands)) i d inside (point path k) (in_reach machine.step _ path k h within)

pub at_itself : (p : StepPos) → IsIn (record { low = p; high = p }) p
at_itself p = record {
  x_low = omega (arith, ints);
  x_high = omega (arith, ints);
  y_low = omega (arith, ints);
  y_high = omega (arith, ints);
  z_low = omega (arith, ints);
  z_high = omega (arith, ints);
}

pub start_law : ExtentHoldsStart
start_law machine commands =
    in_first _ (map (reach machine.step) (ways_of (actions_of commands))) (grid machine.step machine.start) (at_itself (grid machine.step machine.start))
