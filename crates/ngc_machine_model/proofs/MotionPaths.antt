-- Each motion has a path, and joined motions have one too.
use Rattle.std.proofs.Common.{◌≡◌, ℕ, ℤ, suc, ◌+◌, ◌-◌, ◌<◌, ◌≤◌, ap, subst, sym, ◌∙◌, arith, refl, List, [], ◌∷◌, ◌++◌, length, take, drop, true, false}
use Rattle.std.specs.Prelude.{Bool, nat_lt, if◌then◌else◌}
use Rattle.std.proofs.lemmas.Bool.Decides.{nat_tests}
use Rattle.std.proofs.lemmas.List.{take_more, length-take, get_or-take}
use Rattle.std.proofs.Math.Seq.{drop-cons, take-length}
use Rattle.std.proofs.Math.ListN.{drop_of_length-le}
use Rattle.ngc_fixed_length.specs.declared.points.Point3.{Point3}
use Rattle.ngc_fixed_length.specs.declared.points.StepPos.{StepPos}
use Rattle.ngc_fixed_length.specs.Length.{IsStep}
use Rattle.ngc_fixed_length.specs.Grid.{grid, greatest_distance}
use Rattle.ngc_fixed_length.specs.LinePath.{point}
use Rattle.ngc_step_kernel.specs.Line.{line_points}
use Rattle.ngc_step_kernel.proofs.FollowsLine.{follows_step}
use Rattle.ngc_commands.specs.Movement.{end_of, AreJoined}
use Rattle.ngc_commands.specs.declared.movement.Way.{Way}
use Rattle.ngc_commands.specs.declared.movement.Way.TheVariants.{Line, Arc}
use Rattle.ngc_commands.specs.ProgramPath.{IsPathOf, IsPathOfAll}
use Rattle.ngc_machine_model.specs.State.{Job}
use Rattle.ngc_machine_model.proofs.SafeRun.{path_ends, ends_last}
use Rattle.ngc_machine_model.proofs.Effects.{emitted}
use Rattle.ngc_machine_model.proofs.Arcs.{IsArcIfCurved, AreArcs}
use Rattle.ngc_step_kernel.proofs.SomePath.{some_arc_path}

-- ---- points of lists

split_last : (path : List StepPos) (n : ℕ) → length path ≡ n + 1 → take n path ++ point path n ∷ [] ≡ path
split_last path n e = sym (take_more path n _ (omega (arith, e))) ∙ ap (λ k. take k path) (sym e) ∙ take-length path

-- the points before the last one, from point k on
pub none_before : (path : List StepPos) (n k : ℕ) → n ≤ k → drop k (take n path) ≡ []
none_before path n k h = drop_of_length-le (take n path) {i = k} (omega (arith, length-take n path, h))

pub one_before : (path : List StepPos) (n k : ℕ) → length path ≡ n + 1 → k < n → drop k (take n path) ≡ point path k ∷ drop (suc k) (take n path)
one_before path n k e h =
    drop-cons (take n path) k _ (omega (arith, length-take n path, e, h)) ∙ ap (λ p. p ∷ drop (suc k) (take n path)) (get_or-take n path k _ h)

-- a list that begins with p
abbrev pub BeginsWith : StepPos → List StepPos → Type 0
BeginsWith p points = (later : List StepPos) × (points ≡ p ∷ later)

begins_with : (xs : List StepPos) (q : StepPos) (ys : List StepPos) (p : StepPos) → point (xs ++ q ∷ []) 0 ≡ p → BeginsWith p (xs ++ q ∷ ys)
begins_with [] q ys p h = (ys, ap (λ t. t ∷ ys) h)
begins_with (x ∷ xs) q ys p h = (xs ++ q ∷ ys, ap (λ t. t ∷ (xs ++ q ∷ ys)) h)

-- from point k of a path on
pub begins_at : (path : List StepPos) (n k : ℕ) (p : StepPos) (rest : List StepPos) → length path ≡ n + 1 → k ≤ n → p ≡ point path k →
    BeginsWith p (drop k (take n path) ++ point path n ∷ rest)
begins_at path n k p rest e h at = by_case (nat_lt k n) refl
  where
    by_case : (b : Bool) → nat_lt k n ≡ b → BeginsWith p (drop k (take n path) ++ point path n ∷ rest)
    by_case true b =
        let before = one_before path n k e (grind (arith, nat_tests)) in (
          drop (suc k) (take n path) ++ point path n ∷ rest,
          ap (λ xs. xs ++ point path n ∷ rest) before ∙ ap (λ t. t ∷ (drop (suc k) (take n path) ++ point path n ∷ rest)) (sym at),
        )
    by_case false b =
        let last : k ≡ n = grind (arith, nat_tests) in
        (rest, ap (λ xs. xs ++ point path n ∷ rest) (none_before path n k (omega (arith, last))) ∙ ap (λ t. t ∷ rest) (ap (point path) (sym last) ∙ sym at))

-- a pulse from point j to k, at most one point further
pub with_pulse : (path : List StepPos) (n j k : ℕ) (p q : StepPos) (tail rest : List StepPos) → length path ≡ n + 1 → j ≤ k → k ≤ j + 1 → k ≤ n →
    p ≡ point path j → q ≡ point path k → q ∷ tail ≡ drop k (take n path) ++ rest → p ∷ (emitted path j k ++ tail) ≡ drop j (take n path) ++ rest
with_pulse path n j k p q tail rest e jk kj kn pj qk h = by_case (nat_lt j k) refl
  where
    by_case : (b : Bool) → nat_lt j k ≡ b → p ∷ ((if b then point path k ∷ [] else []) ++ tail) ≡ drop j (take n path) ++ rest
    by_case true b =
        let next : k ≡ suc j = grind (arith, nat_tests) in
        let before = one_before path n j e (omega (arith, next, kn)) in
        ap (λ t. t ∷ point path k ∷ tail) pj
        ∙ ap (λ t. point path j ∷ t ∷ tail) (sym qk)
        ∙ ap (λ xs. point path j ∷ xs) (h ∙ ap (λ i. drop i (take n path) ++ rest) next)
        ∙ ap (λ xs. xs ++ rest) (sym before)
    by_case false b =
        let same : k ≡ j = grind (arith, nat_tests) in
        ap (λ t. t ∷ tail) (pj ∙ ap (point path) (sym same) ∙ sym qk) ∙ h ∙ ap (λ i. drop i (take n path) ++ rest) same

-- ---- paths of motions

path_of : (step : ℤ) → IsStep step → (way : Way) → IsArcIfCurved way → (path : List StepPos) × IsPathOf step way path
path_of step h (Line b e) arc = (line_points (greatest_distance (grid step b) (grid step e)) (grid step b) (grid step e), follows_step step b e h)
path_of step h (Arc a) arc = some_arc_path step a h arc

pub path_length : (job : Job) (way : Way) (path : List StepPos) → IsPathOf job.machine.step way path → length path ≡ (length path - 1) + 1
path_length job way path w = omega (arith, (path_ends job way path w).1)

-- a path of the first motion, and then one of the others
pub path_then : (job : Job) (way : Way) (ways : List Way) (p : StepPos) (path rest points : List StepPos) → IsPathOf job.machine.step way path →
    point path 0 ≡ p →
    IsPathOfAll job.machine.step (point path (length path - 1)) ways rest → points ≡ take (length path - 1) path ++ rest →
    IsPathOfAll job.machine.step p (way ∷ ways) points
path_then job way ways p path rest points w starts others e =
    let n = length path - 1 in
    let split = split_last path n (path_length job way path w) in (
      take n path,
      point path n,
      rest,
      subst (IsPathOf job.machine.step way) (sym split) w,
      subst (λ t. point t 0 ≡ p) (sym split) starts,
      others,
      e,
    )

-- joined motions have a path, from the grid point of their start on
pub some_path : (job : Job) → IsStep job.machine.step → (ways : List Way) (place : Point3) (p : StepPos) → AreArcs ways → AreJoined place ways →
    p ≡ grid job.machine.step place →
    (later : List StepPos) × IsPathOfAll job.machine.step p ways (p ∷ later)
some_path job h [] place p arcs j at = ([], refl)
some_path job h (way ∷ ways) place p arcs j at =
    let w = path_of job.machine.step h way arcs.0 in
    let path = w.0 in
    let n = length path - 1 in
    let others = some_path job h ways (end_of way) (point path n) arcs.1 j.1 (ends_last job way path w.1) in
    let starts : point path 0 ≡ p = (path_ends job way path w.1).2 ∙ ap (grid job.machine.step) j.0 ∙ sym at in
    let b = begins_with (take n path) (point path n) others.0 p (subst (λ t. point t 0 ≡ p) (sym (split_last path n (path_length job way path w.1))) starts) in
    (b.0, path_then job way ways p path (point path n ∷ others.0) (p ∷ b.0) w.1 starts others.1 (sym b.1))
