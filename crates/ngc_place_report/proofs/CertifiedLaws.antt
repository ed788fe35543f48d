-- The shifts of an interval that is reported have certificates.
use Rattle.std.proofs.Common.{◌≡◌, ◌≤◌, ◌≤ℤ◌, ◌∙◌, arith, ap, sym, subst, refl, inl, inr, ℕ, ℤ, List, [], ◌∷◌, Option, Some, None, Bool, true, false, IsTrue, MatchOption, IsSomeAnd}
use Rattle.std.specs.Prelude.{int_le, pos, unwrap_or, ◌+ℤ◌, ◌-ℤ◌, if◌then◌else◌}
use Rattle.std.specs.Int.{int_max, int_min}
use Rattle.std.specs.List.{find}
use Rattle.std.proofs.lemmas.Int.{ints, int_max_is, int_min_is}
use Rattle.ngc_fixed_length.specs.Boxes.{IsIn}
use Rattle.ngc_fixed_length.specs.Length.{IsStep}
use Rattle.ngc_fixed_length.specs.declared.modes.System.{System}
use Rattle.ngc_machine_files.specs.Machine.{MachineFile}
use Rattle.ngc_machine_files.specs.MachineRanges.{takes_far}
use Rattle.ngc_machine_files.specs.Ranges.{place_limit}
use Rattle.ngc_job.specs.Job.{JobData}
use Rattle.ngc_place.specs.Longest.{IsGrown, IsNearest, first_side, fit_at, hold_over, shifts_of, tried}
use Rattle.ngc_place.specs.Shifts.{along, shifts_along}
use Rattle.ngc_place.specs.declared.axis.Axis.{Axis}
use Rattle.ngc_place.specs.declared.axis.Axis.TheVariants.{X, Y, Z}
use Rattle.ngc_place.specs.declared.interval.Interval.{Interval}
use Rattle.ngc_place.specs.declared.programs.Program.{Program as Marked}
use Rattle.ngc_place.proofs.GrowingIntervals.{both_law, found_law, hold_within}
use Rattle.ngc_shifted_program.specs.Executions.{Executed, Execution}
use Rattle.ngc_shifted_program.specs.Shifted.{AreMoved, MoveAt, executed_at}
use Rattle.ngc_place_report.specs.Certified.{EndsAreCertified, IsCertified, IsCertifiedAt, ShiftsAreCertified}
use Rattle.ngc_place_report.specs.Findings.{IsFinding, IsMarkedAlong}
use Rattle.ngc_place_report.specs.Range.{coordinate, in_range, part_in_range, whole_steps}
use Rattle.ngc_shifted_program.specs.Origins.{origin_in}
use Rattle.ngc_place_report.specs.declared.placement.AlongAxis.{AlongAxis}
use Rattle.ngc_place_report.specs.declared.placement.Finding.{Finding}
use Rattle.ngc_place_report.specs.declared.placement.Finding.TheVariants.{Unmoved, Fits}

-- the programs hold over the interval that is nearest
nearest_holds : (machine : MachineFile) (most : ℕ) (axis : Axis) (programs : List Marked) (w : Interval) (o : Option ℤ) → IsStep machine.step → 1 ≤ most →
    most ≤ 65535 → MatchOption o (Some w ≡ None) (λ n. IsSomeAnd (Some w) (λ i. IsGrown machine most axis programs (first_side n) n i)) →
    IsTrue (hold_over machine most axis programs w)
nearest_holds machine most axis programs w None step least greatest none = let bad : ⊥ = cc in absurd bad
nearest_holds machine most axis programs w (Some n) step least greatest grown =
    (found_law machine most axis programs (first_side n) n w step least greatest grown).hold

-- an interval that isn't empty
ordered : (from to : ℤ) (yes : Bool) (i : Interval) → int_le from to ≡ yes →
    Some i ≡ (if yes then Some (let j : Interval = record { from = from; to = to } in j) else None) → (i.from ≡ from) × (i.to ≡ to) × (from ≤ℤ to)
ordered from to true i test is =
    let same = ap (λ o. unwrap_or o i) is in (ap (λ (j : Interval). j.from) same, ap (λ (j : Interval). j.to) same, omega (arith, ints, test))
ordered from to false i test is = let bad : ⊥ = cc in absurd bad

part_within : (far : Bool) (step z : ℤ) (w i : Interval) → Some i ≡ in_range far step z w → (w.from ≤ℤ i.from) × (i.from ≤ℤ i.to) × (i.to ≤ℤ w.to)
part_within far step z w i is =
    let low = pos 0 -ℤ whole_steps step (pos (place_limit far) +ℤ z) in
    let high = whole_steps step (pos (place_limit far) -ℤ z) in
    let (from, to, order) = ordered (int_max w.from low) (int_min w.to high) _ i refl is in (
      omega (arith, ints, from, int_max_is w.from low),
      omega (arith, ints, from, to, order),
      omega (arith, ints, to, int_min_is w.to high),
    )

-- the programs hold over an interval that is reported
along_holds : (j : JobData) (system : System) (axis : Axis) (most : ℕ) (off on : Marked) (i : Interval) (whole : Option Interval) → IsStep j.machine.step →
    1 ≤ most → most ≤ 65535 → IsNearest j.machine most axis (off ∷ on ∷ []) whole →
    Some i ≡ part_in_range (takes_far j.machine (origin_in j.machine system)) j.machine.step (coordinate axis (origin_in j.machine system)) whole → (i.from ≤ℤ i.to)
    × IsTrue (hold_over j.machine most axis (off ∷ on ∷ []) i)
along_holds j system axis most off on i None step least greatest nearest is = let bad : ⊥ = cc in absurd bad
along_holds j system axis most off on i (Some w) step least greatest nearest is =
    let (low, order, high) = part_within (takes_far j.machine (origin_in j.machine system)) j.machine.step (coordinate axis (origin_in j.machine system)) w i is in
    let found = find (fit_at j.machine most axis (off ∷ on ∷ [])) tried in (
      order,
      hold_within j.machine most axis (off ∷ on ∷ []) w i step least greatest low order high
          (nearest_holds j.machine most axis (off ∷ on ∷ []) w found step least greatest nearest),
    )

shift_within : (axis : Axis) (from to n : ℤ) → from ≤ℤ n → n ≤ℤ to → IsIn (shifts_along axis from to) (along axis n)
shift_within X from to n low high =
    record { x_low = low; x_high = high; y_low = omega (arith, ints); y_high = omega (arith, ints); z_low = omega (arith, ints); z_high = omega (arith, ints) }
shift_within Y from to n low high =
    record { x_low = omega (arith, ints); x_high = omega (arith, ints); y_low = low; y_high = high; z_low = omega (arith, ints); z_high = omega (arith, ints) }
shift_within Z from to n low high =
    record { x_low = omega (arith, ints); x_high = omega (arith, ints); y_low = omega (arith, ints); y_high = omega (arith, ints); z_low = low; z_high = high }

-- where the commands move as their marks state, a certificate exists
moved_certified : (j : JobData) (axis : Axis) (most : ℕ) (off on : Marked) (i : Interval) (n : ℤ) (o : Option Executed) → IsStep j.machine.step → 1 ≤ most →
    most ≤ 65535 → IsIn (shifts_of axis i) (along axis n) → IsTrue (hold_over j.machine most axis (off ∷ on ∷ []) i) →
    AreMoved j.machine.step (along axis n) off on o → (others : Executed) × (o ≡ Some others) × IsCertified j most others
moved_certified j axis most off on i n None step least greatest inside holds moved = absurd moved
moved_certified j axis most off on i n (Some others) step least greatest inside holds moved = (
  others,
  refl,
  λ says made. both_law j.machine most (shifts_of axis i) (along axis n) off on others.off others.on says step least greatest inside holds moved.0.shifted
      moved.1.shifted made,
)

-- what was found of an axis with marks
found_along : (does : Execution) (j : JobData) (system : System) (axis : Axis) (most : ℕ) (a : AlongAxis) (i : Interval) →
    (m : IsMarkedAlong does j system axis most a) → a.finding ≡ Fits i → IsFinding does j system axis most m.off m.on (Fits i)
found_along does j system axis most a i m fits = subst (λ (k : Finding). IsFinding does j system axis most m.off m.on k) fits m.finding

pub shifts_law : ShiftsAreCertified
shifts_law does j system axis most a i n step least greatest m fits low high moves =
    let f = found_along does j system axis most a i m fits in
    let (order, holds) = along_holds j system axis most m.off m.on i f.0.0 step least greatest f.0.1 f.0.2 in
    moved_certified j axis most m.off m.on i n (executed_at does j system (along axis n)) step least greatest (shift_within axis i.from i.to n low high) holds
    moves

-- an end of the interval
at_end : (does : Execution) (j : JobData) (system : System) (axis : Axis) (most : ℕ) (a : AlongAxis) (i : Interval) (n end : ℤ) → IsStep j.machine.step →
    1 ≤ most → most ≤ 65535 → (m : IsMarkedAlong does j system axis most a) → a.finding ≡ Fits i → n ≡ end → i.from ≤ℤ end → end ≤ℤ i.to →
    MoveAt does j system m.off m.on (along axis end) → IsCertifiedAt does j system axis most n
at_end does j system axis most a i n end step least greatest m fits is low high moves =
    subst (IsCertifiedAt does j system axis most) (sym is) (shifts_law does j system axis most a i end step least greatest m fits low high moves)

not_fits : (i : Interval) → Unmoved ≡ Fits i → ⊥
not_fits i same = cc

pub ends_law : EndsAreCertified
ends_law does j system axis most a i n step least greatest (inr u) fits end = absurd (not_fits i (ap (λ (k : AlongAxis). k.finding) (sym u.known) ∙ fits))
ends_law does j system axis most a i n step least greatest (inl m) fits (inl from) =
    let f = found_along does j system axis most a i m fits in
    let (order, holds) = along_holds j system axis most m.off m.on i f.0.0 step least greatest f.0.1 f.0.2 in
    at_end does j system axis most a i n i.from step least greatest m fits from (omega (arith, ints)) order f.1.0
ends_law does j system axis most a i n step least greatest (inl m) fits (inr to) =
    let f = found_along does j system axis most a i m fits in
    let (order, holds) = along_holds j system axis most m.off m.on i f.0.0 step least greatest f.0.1 f.0.2 in
    at_end does j system axis most a i n i.to step least greatest m fits to order (omega (arith, ints)) f.1.1
