-- The share of an axis in the path steps of each motion, and the steps that the axis has made on the
-- way.
use Rattle.std.proofs.Common.{◌≡◌, ℕ, zero, suc, ◌+◌, ◌-◌, ◌*◌, ◌<◌, ◌≤◌, inl, inr, ap, subst, sym, ◌∙◌, arith, refl, min, max, List, length, ℤ}
use Rattle.std.proofs.Common.{None, Some, true, false, Bool}
use Rattle.std.specs.Prelude.{Option, unsigned_abs, ◌-ℤ◌}
use Rattle.std.proofs.lemmas.Int.{ints}
use Rattle.std.proofs.lemmas.Bool.{cases_lt, cases_Bool, ltb-true}
use Rattle.std.proofs.Math.Nat.{mul-le-mul_left}
use Rattle.ngc_fixed_length.specs.declared.modes.Plane.{Plane}
use Rattle.ngc_fixed_length.specs.declared.modes.Plane.TheVariants.{XY, ZX, YZ}
use Rattle.ngc_fixed_length.specs.declared.points.StepPos.{StepPos}
use Rattle.ngc_fixed_length.specs.declared.points.Point3.{Point3}
use Rattle.ngc_fixed_length.specs.Grid.{grid, distance, greatest_distance}
use Rattle.ngc_fixed_length.specs.Length.{IsStep}
use Rattle.ngc_fixed_length.specs.Rounding.{nearest}
use Rattle.ngc_fixed_length.specs.LinePath.{point, FollowsLine, IsLineOf, IsUnitMove}
use Rattle.ngc_fixed_length.specs.Places.{height}
use Rattle.ngc_arc_geometry.specs.Shape.{ArcShape}
use Rattle.ngc_machine_files.specs.declared.machine.AxisLimits.{AxisLimits}
use Rattle.ngc_machine_files.specs.declared.machine.AxisRates.{AxisRates}
use Rattle.ngc_commands.specs.declared.command.Action.{Action}
use Rattle.ngc_commands.specs.declared.command.Action.TheVariants.{Move}
use Rattle.ngc_commands.specs.declared.movement.Way.{Way}
use Rattle.ngc_commands.specs.declared.movement.Way.TheVariants.{Line, Arc}
use Rattle.ngc_commands.specs.ProgramPath.{IsPathOf}
use Rattle.ngc_planner.specs.declared.axes.Axes.{Axes}
use Rattle.ngc_planner.specs.declared.components.AxisSteps.{AxisSteps}
use Rattle.ngc_planner.specs.Axes.{axes_of, IsWithinAxes}
use Rattle.ngc_planner.specs.Bounds.{IsWithinBounds}
use Rattle.ngc_planner.specs.Components.{AxisKeeps, AxesKeep, MayMoveAlong, steps_between, third_rate, third_steps, plane_axes}
use Rattle.ngc_planner.specs.Pulses.{is_stepping, uneven}
use Rattle.ngc_machine_model.specs.State.{Job}
use Rattle.ngc_machine_model.specs.Step.{MayTake}
use Rattle.ngc_machine_model.specs.Run.{step_to}
use Rattle.ngc_machine_model.proofs.AxisCounts.{passes}
use Rattle.ngc_machine_model.proofs.StillAxes.{Axis, X, Y, Z, on, has, IsStill, Follows, Rises, still_way}
use Rattle.ngc_machine_model.proofs.LineShares.{near_line}

abbrev pub steps : Axis → StepPos → Bool
steps axis p = is_stepping (on axis p)

abbrev pub rate_on : Axis → AxisRates → ℕ
rate_on X rates = rates.x
rate_on Y rates = rates.y
rate_on Z rates = rates.z

-- the greatest rate of the axis itself
abbrev pub most_on : Axis → ℕ → AxisRates → ℕ
most_on axis greatest rates = min greatest (rate_on axis rates)

-- The axis has the share e / q of the n path steps, and made k is the number of its steps in the
-- first k of them.
pub record IsShare (axis : Axis) (path : List StepPos) (slack n q e : ℕ) (made : ℕ → ℕ) : Type 0 where
  pub some : 0 < q
  pub part : e ≤ q
  pub begins : made 0 ≡ 0
  pub ends : q * made n ≡ n * e
  pub moves : (k : ℕ) → k < n → passes (steps axis (step_to (point path k) (point path (k + 1)))) + made k ≤ made (k + 1)
  pub not_ahead : (k : ℕ) → k ≤ n → 2 * (q * made k) ≤ slack * q + 2 * (k * e)
  pub not_behind : (k : ℕ) → k ≤ n → 2 * (k * e) ≤ slack * q + 2 * (q * made k)

-- and at each rate that a motion may have the axis itself has at most the rate r
pub record Account (axis : Axis) (path : List StepPos) (slack r : ℕ) (may : ℕ → Type 0) : Type 0 where
  pub q : ℕ
  pub e : ℕ
  pub made : ℕ → ℕ
  pub share : IsShare axis path slack (length path - 1) q e made
  pub slow : (v : ℕ) → may v → v * e ≤ r * q

-- ---- an axis that each path step may move, and one that none moves

one_pass : (b : Bool) → passes b ≤ 1
one_pass true = omega arith
one_pass false = omega arith

whole_share : (axis : Axis) (path : List StepPos) (slack n : ℕ) → IsShare axis path slack n 1 1 (λ k. k)
whole_share axis path slack n = record {
  some = omega arith;
  part = omega arith;
  begins = refl;
  ends = omega arith;
  moves = λ k h. let one = one_pass (steps axis (step_to (point path k) (point path (k + 1)))) in omega (arith, one);
  not_ahead = λ k h. omega arith;
  not_behind = λ k h. omega arith;
}

same_on : (a b : ℤ) → a ≡ b → passes (is_stepping (b -ℤ a)) ≡ 0
same_on a b e = elim (cases_Bool (is_stepping (b -ℤ a))) [
  | inl h ↦ let more : 0 < unsigned_abs (b -ℤ a) = ltb-true 0 (unsigned_abs (b -ℤ a)) h in absurd (omega (arith, ints, e, more))
  | inr h ↦ ap passes h
]

pub no_step : (axis : Axis) (p q : StepPos) → on axis p ≡ on axis q → passes (steps axis (step_to p q)) ≡ 0
no_step X p q e = same_on p.x q.x e
no_step Y p q e = same_on p.y q.y e
no_step Z p q e = same_on p.z q.z e

still_share : (axis : Axis) (path : List StepPos) (slack : ℕ) → IsStill axis path → IsShare axis path slack (length path - 1) 1 0 (λ k. 0)
still_share axis path slack still = record {
  some = omega arith;
  part = omega arith;
  begins = refl;
  ends = omega arith;
  moves = λ k h. let none = no_step axis (point path k) (point path (k + 1)) (still k h) in omega (arith, none);
  not_ahead = λ k h. omega arith;
  not_behind = λ k h. omega arith;
}

-- ---- an axis on a line, and the height of a helix

-- one step at most, and one if it steps
one_step : (a b : ℤ) → passes (is_stepping (b -ℤ a)) ≤ distance a b
one_step a b = elim (cases_Bool (is_stepping (b -ℤ a))) [
  | inl h ↦ let more : 0 < unsigned_abs (b -ℤ a) = ltb-true 0 (unsigned_abs (b -ℤ a)) h in
      let c : passes (is_stepping (b -ℤ a)) ≡ 1 = ap passes h in omega (arith, more, c)
  | inr h ↦ let c : passes (is_stepping (b -ℤ a)) ≡ 0 = ap passes h in omega (arith, c)
]

step_on : (axis : Axis) (p q : StepPos) → passes (steps axis (step_to p q)) ≤ distance (on axis p) (on axis q)
step_on X p q = one_step p.x q.x
step_on Y p q = one_step p.y q.y
step_on Z p q = one_step p.z q.z

unit_on : (axis : Axis) (p q : StepPos) → IsUnitMove p q → distance (on axis p) (on axis q) ≤ 1
unit_on X p q u = u.x
unit_on Y p q u = u.y
unit_on Z p q u = u.z

abbrev places : Axis → List StepPos → ℕ → ℤ
places axis path k = on axis (point path k)

abbrev gone : Axis → List StepPos → ℕ → ℕ
gone axis path k = distance (places axis path 0) (places axis path k)

-- nothing turns back
gone_next : (step : ℤ) (n : ℕ) (b e : ℤ) (axis : Axis) (path : List StepPos) → FollowsLine step n b e (places axis path) → (k : ℕ) → k < n →
    gone axis path k + distance (places axis path k) (places axis path (k + 1)) ≡ gone axis path (k + 1)
gone_next step n b e axis path f k h = f.straight 0 k (k + 1) (omega arith) (omega arith) (omega (arith, h))

gone_most : (step : ℤ) (n : ℕ) (b e : ℤ) (axis : Axis) (path : List StepPos) → FollowsLine step n b e (places axis path) →
    ((k : ℕ) → k < n → IsUnitMove (point path k) (point path (k + 1))) → (k : ℕ) → k ≤ n → gone axis path k ≤ k
gone_most step n b e axis path f units zero h = omega (arith, ints)
gone_most step n b e axis path f units (suc k) h =
    let i = gone_most step n b e axis path f units k (omega (arith, h)) in
    let s = gone_next step n b e axis path f k (omega (arith, h)) in
    let u = unit_on axis (point path k) (point path (k + 1)) (units k (omega (arith, h))) in
    let same : k + 1 ≡ suc k = omega arith in
    let j : gone axis path (suc k) ≡ gone axis path (k + 1) = ap (gone axis path) (sym same) in
    omega (arith, i, s, u, j)

near_share : (step : ℤ) (n : ℕ) (b e : ℤ) (axis : Axis) (path : List StepPos) → IsStep step → 0 < n → FollowsLine step n b e (places axis path) →
    places axis path 0 ≡ nearest b step → places axis path n ≡ nearest e step → ((k : ℕ) → k < n → IsUnitMove (point path k) (point path (k + 1))) →
    IsShare axis path 3 n n (gone axis path n) (gone axis path)
near_share step n b e axis path unit some f first last units =
    let near = near_line step n b e (places axis path) unit f first last in
    record {
      some = some;
      part = gone_most step n b e axis path f units n (omega arith);
      begins = omega (arith, ints);
      ends = refl;
      moves = λ k h. let s = gone_next step n b e axis path f k h in
          let p = step_on axis (point path k) (point path (k + 1)) in
          omega (arith, s, p);
      not_ahead = λ k h. (near k h).0;
      not_behind = λ k h. (near k h).1;
    }

-- its rate
share_slow : (greatest limit n d v : ℕ) → d ≤ n → v ≤ greatest → AxisKeeps limit n d v → v * d ≤ min greatest limit * n
share_slow greatest limit n d v part most keeps =
    let same : max n d ≡ n = omega (arith, part) in
    let own = subst (λ k. v * d ≤ limit * k) same keeps in
    let a = mul-le-mul_left d most in
    let b = mul-le-mul_left greatest part in
    let all : v * d ≤ greatest * n = omega (arith, a, b) in
    elim (cases_lt greatest limit) [
      | inl less ↦ let e : min greatest limit ≡ greatest = omega (arith, less) in subst (λ k. v * d ≤ k * n) (sym e) all
      | inr more ↦ let e : min greatest limit ≡ limit = omega (arith, more) in subst (λ k. v * d ≤ k * n) (sym e) own
    ]

-- ---- accounts

whole_account : (axis : Axis) (path : List StepPos) (slack r : ℕ) (may : ℕ → Type 0) → ((v : ℕ) → may v → v ≤ r) → Account axis path slack r may
whole_account axis path slack r may most = record {
  q = 1;
  e = 1;
  made = λ k. k;
  share = whole_share axis path slack (length path - 1);
  slow = λ v h. let m = most v h in omega (arith, m);
}

still_account : (axis : Axis) (path : List StepPos) (slack r : ℕ) (may : ℕ → Type 0) → IsStill axis path → Account axis path slack r may
still_account axis path slack r may still = record {
  q = 1;
  e = 0;
  made = λ k. 0;
  share = still_share axis path slack still;
  slow = λ v h. omega arith;
}

-- an axis that follows a line from p to q, by d steps
line_account : (axis : Axis) (step : ℤ) (n : ℕ) (b e : ℤ) (p q : StepPos) (path : List StepPos) (greatest limit d : ℕ) (may : ℕ → Type 0) → IsStep step →
    Follows axis step n b e p q path → on axis p ≡ nearest b step → on axis q ≡ nearest e step →
    ((k : ℕ) → k < n → IsUnitMove (point path k) (point path (k + 1))) → 0 < length path - 1 →
    d ≡ distance (on axis p) (on axis q) → ((v : ℕ) → may v → (v ≤ greatest) × AxisKeeps limit (length path - 1) d v) →
    Account axis path 3 (min greatest limit) may
line_account axis step n b e p q path greatest limit d may unit f first last units some is keeps =
    let count = f.count in
    let same : n ≡ length path - 1 = omega (arith, count) in
    let follows = subst (λ k. FollowsLine step k b e (places axis path)) same f.follows in
    let end : point path (length path - 1) ≡ q = ap (point path) (sym same) ∙ f.ends in
    let share = near_share step (length path - 1) b e axis path unit some follows (ap (on axis) f.starts ∙ first) (ap (on axis) end ∙ last)
    (λ k h. units k (omega (arith, h, same))) in
    let ends : gone axis path (length path - 1) ≡ d = ap (λ s. distance (on axis s) (places axis path (length path - 1))) f.starts
    ∙ ap (λ s. distance (on axis p) (on axis s)) end ∙ sym is in
    let whole = subst (λ c. IsShare axis path 3 (length path - 1) (length path - 1) c (gone axis path)) ends share in
    record {
      q = length path - 1;
      e = d;
      made = gone axis path;
      share = whole;
      slow = λ v h. share_slow greatest limit (length path - 1) d v whole.part (keeps v h).0 (keeps v h).1;
    }

-- ---- ways

within_rate : (axis : Axis) (rates : AxisRates) (axes : Axes) (v : ℕ) → IsWithinAxes rates axes v → has axis axes ≡ true → v ≤ rate_on axis rates
within_rate X rates axes v within moves = within.x moves
within_rate Y rates axes v within moves = within.y moves
within_rate Z rates axes v within moves = within.z moves

abbrev along : Axis → AxisSteps → ℕ
along X d = d.x
along Y d = d.y
along Z d = d.z

along_is : (axis : Axis) (p q : StepPos) → along axis (steps_between p q) ≡ distance (on axis p) (on axis q)
along_is X p q = refl
along_is Y p q = refl
along_is Z p q = refl

keeps_on : (axis : Axis) (rates : AxisRates) (n : ℕ) (d : AxisSteps) (v : ℕ) → AxesKeep rates n d v → AxisKeeps (rate_on axis rates) n (along axis d) v
keeps_on X rates n d v k = k.x
keeps_on Y rates n d v k = k.y
keeps_on Z rates n d v k = k.z

-- a rate at most the machine's greatest, and by the axes' own
abbrev May : ℕ → Option AxisLimits → AxisRates → ℤ → Way → ℕ → ℕ → Type 0
May greatest own rates step w n v = (v ≤ greatest) × MayMoveAlong own rates step w n v

abbrev IsOnWay : Axis → ℕ → Option AxisLimits → AxisRates → ℤ → Way → List StepPos → Type 0
IsOnWay axis greatest own rates step w path =
    Account axis path (uneven own) (most_on axis greatest rates) (May greatest own rates step w (length path - 1))

whole_way : (axis : Axis) (greatest : ℕ) (rates : AxisRates) (step : ℤ) (w : Way) (path : List StepPos) → IsPathOf step w path →
    IsOnWay axis greatest None rates step w path
whole_way axis greatest rates step w path is = elim (cases_Bool (has axis (axes_of step w))) [
  | inl moves ↦ whole_account axis path 0 (most_on axis greatest rates) (May greatest None rates step w (length path - 1))
      (λ v h. let most = h.0 in let rate = within_rate axis rates (axes_of step w) v h.1 moves in omega (arith, most, rate))
  | inr rests ↦ still_account axis path 0 (most_on axis greatest rates) (May greatest None rates step w (length path - 1)) (still_way axis step w path is rests)
]

abbrev along_line : Axis → Point3 → ℤ
along_line X p = p.x
along_line Y p = p.y
along_line Z p = p.z

line_on : (axis : Axis) (step : ℤ) (b e : Point3) (n : ℕ) (path : List StepPos) → IsLineOf step b e n path →
    Follows axis step n (along_line axis b) (along_line axis e) (grid step b) (grid step e) path
line_on X step b e n path l = record { count = l.count; starts = l.starts; ends = l.ends; follows = l.x }
line_on Y step b e n path l = record { count = l.count; starts = l.starts; ends = l.ends; follows = l.y }
line_on Z step b e n path l = record { count = l.count; starts = l.starts; ends = l.ends; follows = l.z }

grid_on : (axis : Axis) (step : ℤ) (p : Point3) → on axis (grid step p) ≡ nearest (along_line axis p) step
grid_on X step p = refl
grid_on Y step p = refl
grid_on Z step p = refl

line_way : (axis : Axis) (greatest : ℕ) (limits : AxisLimits) (rates : AxisRates) (step : ℤ) (b e : Point3) (path : List StepPos) → IsStep step →
    IsPathOf step (Line b e) path → 0 < length path - 1 → IsOnWay axis greatest (Some limits) rates step (Line b e) path
line_way axis greatest limits rates step b e path unit is some =
    let p = grid step b in
    let q = grid step e in
    let n = greatest_distance p q in
    line_account axis step n (along_line axis b) (along_line axis e) p q path greatest (rate_on axis rates) (along axis (steps_between p q))
    (May greatest (Some limits) rates step (Line b e) (length path - 1)) unit (line_on axis step b e n path is) (grid_on axis step b) (grid_on axis step e)
    is.unit_moves some (along_is axis p q) (λ v h. (h.0, keeps_on axis rates (length path - 1) (steps_between p q) v h.1))

-- on an arc
abbrev MayTurn : ℕ → Plane → AxisRates → ℕ → AxisSteps → ℕ → Type 0
MayTurn greatest plane rates n d v =
    (v ≤ greatest) × IsWithinAxes rates (plane_axes plane) v × AxisKeeps (third_rate plane rates) n (third_steps plane d) v

third_account : (axis : Axis) (plane : Plane) (step : ℤ) (n : ℕ) (b e : ℤ) (p q : StepPos) (path : List StepPos) (greatest : ℕ) (rates : AxisRates) →
    IsStep step → Follows axis step n b e p q path → on axis p ≡ nearest b step → on axis q ≡ nearest e step →
    ((k : ℕ) → k < n → IsUnitMove (point path k) (point path (k + 1))) → 0 < length path - 1 →
    third_steps plane (steps_between p q) ≡ distance (on axis p) (on axis q) → third_rate plane rates ≡ rate_on axis rates →
    Account axis path 3 (most_on axis greatest rates) (MayTurn greatest plane rates (length path - 1) (steps_between p q))
third_account axis plane step n b e p q path greatest rates unit f first last units some is rate =
    line_account axis step n b e p q path greatest (rate_on axis rates) (third_steps plane (steps_between p q))
    (MayTurn greatest plane rates (length path - 1) (steps_between p q)) unit f first last units some is
    (λ v h. (h.0, subst (λ limit. AxisKeeps limit (length path - 1) (third_steps plane (steps_between p q)) v) rate h.2))

plane_account : (axis : Axis) (plane : Plane) (path : List StepPos) (greatest : ℕ) (rates : AxisRates) (d : AxisSteps) → has axis (plane_axes plane) ≡ true →
    Account axis path 3 (most_on axis greatest rates) (MayTurn greatest plane rates (length path - 1) d)
plane_account axis plane path greatest rates d h =
    whole_account axis path 3 (most_on axis greatest rates) (MayTurn greatest plane rates (length path - 1) d)
    (λ v may. let most = may.0 in let rate = within_rate axis rates (plane_axes plane) v may.1 h in omega (arith, most, rate))

arc_account : (axis : Axis) (plane : Plane) (step : ℤ) (n : ℕ) (s t : Point3) (path : List StepPos) (greatest : ℕ) (rates : AxisRates) → IsStep step →
    Rises plane step n (height plane s) (height plane t) (grid step s) (grid step t) path →
    ((k : ℕ) → k < n → IsUnitMove (point path k) (point path (k + 1))) → 0 < length path - 1 →
    Account axis path 3 (most_on axis greatest rates) (MayTurn greatest plane rates (length path - 1) (steps_between (grid step s) (grid step t)))
arc_account X XY step n s t path greatest rates unit r units some = plane_account X XY path greatest rates (steps_between (grid step s) (grid step t)) refl
arc_account Y XY step n s t path greatest rates unit r units some = plane_account Y XY path greatest rates (steps_between (grid step s) (grid step t)) refl
arc_account Z XY step n s t path greatest rates unit r units some =
    third_account Z XY step n (height XY s) (height XY t) (grid step s) (grid step t) path greatest rates unit
    (record { count = r.count; starts = r.starts; ends = r.ends; follows = r.rises }) refl refl units some refl refl
arc_account X ZX step n s t path greatest rates unit r units some = plane_account X ZX path greatest rates (steps_between (grid step s) (grid step t)) refl
arc_account Y ZX step n s t path greatest rates unit r units some =
    third_account Y ZX step n (height ZX s) (height ZX t) (grid step s) (grid step t) path greatest rates unit
    (record { count = r.count; starts = r.starts; ends = r.ends; follows = r.rises }) refl refl units some refl refl
arc_account Z ZX step n s t path greatest rates unit r units some = plane_account Z ZX path greatest rates (steps_between (grid step s) (grid step t)) refl
arc_account X YZ step n s t path greatest rates unit r units some =
    third_account X YZ step n (height YZ s) (height YZ t) (grid step s) (grid step t) path greatest rates unit
    (record { count = r.count; starts = r.starts; ends = r.ends; follows = r.rises }) refl refl units some refl refl
arc_account Y YZ step n s t path greatest rates unit r units some = plane_account Y YZ path greatest rates (steps_between (grid step s) (grid step t)) refl
arc_account Z YZ step n s t path greatest rates unit r units some = plane_account Z YZ path greatest rates (steps_between (grid step s) (grid step t)) refl

-- what holds of more rates holds of fewer
fewer : (axis : Axis) (path : List StepPos) (slack r : ℕ) (may other : ℕ → Type 0) → ((v : ℕ) → other v → may v) → Account axis path slack r may →
    Account axis path slack r other
fewer axis path slack r may other also a = record { q = a.q; e = a.e; made = a.made; share = a.share; slow = λ v h. a.slow v (also v h) }

arc_way : (axis : Axis) (greatest : ℕ) (limits : AxisLimits) (rates : AxisRates) (step : ℤ) (a : ArcShape) (path : List StepPos) → IsStep step →
    IsPathOf step (Arc a) path → 0 < length path - 1 → IsOnWay axis greatest (Some limits) rates step (Arc a) path
arc_way axis greatest limits rates step a path unit is some =
    fewer axis path 3 (most_on axis greatest rates)
    (MayTurn greatest a.plane rates (length path - 1) (steps_between (grid step a.start) (grid step a.end)))
    (May greatest (Some limits) rates step (Arc a) (length path - 1)) (λ v h. (h.0, h.1.plane, h.1.third))
    (arc_account axis a.plane step is.0 a.start a.end path greatest rates unit
    (record { count = is.1.weak.count; starts = is.1.weak.starts; ends = is.1.weak.ends; rises = is.1.rises }) is.1.weak.unit_moves some)

on_way : (own : Option AxisLimits) (axis : Axis) (greatest : ℕ) (rates : AxisRates) (step : ℤ) (w : Way) (path : List StepPos) → IsStep step →
    IsPathOf step w path → 0 < length path - 1 → IsOnWay axis greatest own rates step w path
on_way None axis greatest rates step w path unit is some = whole_way axis greatest rates step w path is
on_way (Some limits) axis greatest rates step (Line b e) path unit is some = line_way axis greatest limits rates step b e path unit is some
on_way (Some limits) axis greatest rates step (Arc a) path unit is some = arc_way axis greatest limits rates step a path unit is some

-- ---- actions

-- the greatest rate of an axis, and its slack
abbrev pub axis_rate : Job → Axis → ℕ
axis_rate job axis = most_on axis job.machine.max_rate job.machine.axis_rates

abbrev pub slack_of : Job → ℕ
slack_of job = uneven job.machine.own

abbrev pub ActionAccount : Job → Axis → Action → List StepPos → Type 0
ActionAccount job axis a path =
    Account axis path (slack_of job) (axis_rate job axis) (λ v. IsWithinBounds job.machine a (length path - 1) v)

none_left : (axis : Axis) (path : List StepPos) → length path - 1 ≤ 0 → IsStill axis path
none_left axis path none k h = absurd (omega (arith, none, h))

moved_account : (job : Job) → IsStep job.machine.step → (axis : Axis) (a : Action) (path : List StepPos) → MayTake job a path → 0 < length path - 1 →
    ActionAccount job axis a path
moved_account job unit axis (Move m) path take some = fewer axis path (slack_of job) (axis_rate job axis)
    (May job.machine.max_rate job.machine.own job.machine.axis_rates job.machine.step m.way (length path - 1))
    (λ v. IsWithinBounds job.machine (Move m) (length path - 1) v) (λ v h. (h.greatest, h.axes))
    (on_way job.machine.own axis job.machine.max_rate job.machine.axis_rates job.machine.step m.way path unit take some)
moved_account job unit axis _ path take some = absurd (let e = ap length take in omega (arith, e, some))

-- each path that an action may take has an account
pub action_account : (job : Job) → IsStep job.machine.step → (axis : Axis) (a : Action) (path : List StepPos) → MayTake job a path →
    ActionAccount job axis a path
action_account job unit axis a path take = elim (cases_lt 0 (length path - 1)) [
  | inl some ↦ moved_account job unit axis a path take some
  | inr none ↦ still_account axis path (slack_of job) (axis_rate job axis) (λ v. IsWithinBounds job.machine a (length path - 1) v) (none_left axis path none)
]
