-- From the path to the commanded positions.
use Rattle.std.proofs.Common.{◌≡◌, ℤ, pos, ◌+ℤ◌, ◌-ℤ◌, ◌*ℤ◌, ◌≤ℤ◌, List, [], ◌∷◌, inl, inr, arith, subst}
use Rattle.std.specs.Prelude.{IsTrue, int_le}
use Rattle.std.specs.Ordering.{int_eq}
use Rattle.std.proofs.lemmas.Bool.Decides.{Decides-int_eq}
use Rattle.std.proofs.lemmas.Int.{ints}
use Rattle.ngc_fixed_length.specs.Boxes.{only}
use Rattle.ngc_fixed_length.specs.Length.{IsStep}
use Rattle.ngc_machine_files.specs.Machine.{MachineFile, motors_of}
use Rattle.ngc_collision.specs.Body.{Solid, is_below, nanometres_of, span}
use Rattle.ngc_machine_model.specs.State.{State, opening}
use Rattle.ngc_machine_model.specs.Safety.{AreSafe}
use Rattle.ngc_margins.specs.Margins.{with_margins, lowered, raised}
use Rattle.ngc_margins.proofs.MarginLaws.{Moved, box_law}
use Rattle.ngc_margins.proofs.Tests.{and, both, le_of, le_test}
use Rattle.ngc_motors.specs.Counts.{IsMotorStep, commanded_high, commanded_low, is_grid_step, is_motor, place_above, place_below}
use Rattle.ngc_motors.specs.declared.step.MotorStep.{MotorStep}
use Rattle.ngc_motors.proofs.Places.{above_near, above_rises, below_near, below_rises, grid_above, grid_below}
use Rattle.ngc_motors.proofs.Sizes.{motor_step}
use Rattle.ngc_motor_laws.specs.Commanded.{IsHeldOff, FitsAxis, FitsMotors, CommandedIsSafe, AreCommandedSafe, CommandedRunsSafely}

-- ---- an axis

-- what is known of a place on an axis, and of the whole nanometres between which its motor stands
record IsClose (margin low high place below above : ℤ) : Type 0 where
  near_low : (place -ℤ margin) ≤ℤ below
  near_high : (above -ℤ margin) ≤ℤ place
  from_low : low ≤ℤ place → low ≤ℤ below
  to_high : place ≤ℤ high → above ≤ℤ high

close_same : (margin low high place below above : ℤ) → pos 0 ≤ℤ margin → below ≡ place → above ≡ place →
    IsClose margin low high place below above
close_same margin low high place below above least b a = record {
  near_low = omega (arith, ints, least, b);
  near_high = omega (arith, ints, least, a);
  from_low = λ h. omega (arith, ints, h, b);
  to_high = λ h. omega (arith, ints, h, a);
}

close_held : (margin : ℤ) (m : MotorStep) (low high place : ℤ) → IsMotorStep m → pos 0 ≤ℤ margin → IsHeldOff margin m low high →
    IsClose margin low high place (place_below m place) (place_above m place)
close_held margin m low high place is least held =
    let (at_low, at_high) = both (int_eq (place_below m low) low) (int_eq (place_above m high) high) held.ends in
    let low_is : place_below m low ≡ low = (Decides-int_eq (place_below m low) low).0 at_low in
    let high_is : place_above m high ≡ high = (Decides-int_eq (place_above m high) high).0 at_high in
    record {
      near_low = below_near m margin place is least held.half;
      near_high = above_near m margin place is least held.half;
      from_low = λ h. (let r = below_rises m low place is h in omega (arith, ints, r, low_is));
      to_high = λ h. (let r = above_rises m place high is h in omega (arith, ints, r, high_is));
    }

close_on : (grid margin : ℤ) (m : MotorStep) (low high p : ℤ) → IsStep grid → IsMotorStep m → pos 0 ≤ℤ margin → FitsAxis grid margin m low high →
    IsClose margin low high (p *ℤ grid) (place_below m (p *ℤ grid)) (place_above m (p *ℤ grid))
close_on grid margin m low high p on is least fits = elim fits [
  | inl same ↦ close_same margin low high (p *ℤ grid) (place_below m (p *ℤ grid)) (place_above m (p *ℤ grid)) least
      (grid_below p grid m on is.some same) (grid_above p grid m on is.some same)
  | inr held ↦ close_held margin m low high (p *ℤ grid) is least held
]

-- ---- a position

within_low : (t a b : ℤ) → pos 0 ≤ℤ t → IsTrue (int_le (a +ℤ t) b) → a ≤ℤ b
within_low t a b least h = let j = le_of (a +ℤ t) b h in omega (arith, ints, least, j)

within_high : (t a b : ℤ) → pos 0 ≤ℤ t → IsTrue (int_le a (b -ℤ t)) → a ≤ℤ b
within_high t a b least h = let j = le_of a (b -ℤ t) h in omega (arith, ints, least, j)

pub safe_law : CommandedIsSafe
safe_law machine tool p fits safe =
    let at = nanometres_of machine.step p in
    let m = machine.motor_steps in
    let f = commanded_low (motors_of machine) p in
    let q = commanded_high (motors_of machine) p in
    let t = machine.margins.travel in
    let on = fits.are.grid in
    let margin = machine.margins.fixtures in
    let x = close_on machine.step margin m.x machine.low.x machine.high.x p.x on (motor_step machine.step m.x on fits.are.x) fits.margin fits.x in
    let y = close_on machine.step margin m.y machine.low.y machine.high.y p.y on (motor_step machine.step m.y on fits.are.y) fits.margin fits.y in
    let z = close_on machine.step margin m.z machine.low.z machine.high.z p.z on (motor_step machine.step m.z on fits.are.z) fits.margin fits.z in
    let box : Solid = record { low = f; high = q } in
    let moved : Moved margin (span machine.step (only p)) box = record {
      x_low = x.near_low;
      x_high = x.near_high;
      y_low = y.near_low;
      y_high = y.near_high;
      z_low = z.near_low;
      z_high = z.near_high;
    } in
    let lowhigh = both (is_below (raised t machine.low) at) (is_below at (lowered t machine.high)) safe.inside in
    let low_x = both _ _ lowhigh.0 in let low_yz = both _ _ low_x.1 in
    let high_x = both _ _ lowhigh.1 in let high_yz = both _ _ high_x.1 in
    record {
      inside = and (is_below machine.low f) (is_below q machine.high)
          (and _ _ (le_test machine.low.x f.x (x.from_low (within_low t machine.low.x at.x fits.travel_margin low_x.0)))
          (and _ _ (le_test machine.low.y f.y (y.from_low (within_low t machine.low.y at.y fits.travel_margin low_yz.0)))
          (le_test machine.low.z f.z (z.from_low (within_low t machine.low.z at.z fits.travel_margin low_yz.1)))))
          (and _ _ (le_test q.x machine.high.x (x.to_high (within_high t at.x machine.high.x fits.travel_margin high_x.0)))
          (and _ _ (le_test q.y machine.high.y (y.to_high (within_high t at.y machine.high.y fits.travel_margin high_yz.0)))
          (le_test q.z machine.high.z (z.to_high (within_high t at.z machine.high.z fits.travel_margin high_yz.1)))));
      clear = box_law machine tool p box safe.clear moved;
    }

-- ---- runs

all_safe : (machine : MachineFile) (states : List State) → FitsMotors machine → AreSafe (with_margins machine) states → AreCommandedSafe machine states
all_safe machine [] fits safe = safe
all_safe machine (s ∷ states) fits safe = (safe_law machine s.tool s.position fits safe.0, all_safe machine states fits safe.1)

pub run_law : CommandedRunsSafely
run_law job machine is fits runs events outcomes states run =
    let all : List State = opening job.machine ∷ states in
    all_safe machine all fits (subst (λ (m : MachineFile). AreSafe m all) is (runs events outcomes states run).safe)
