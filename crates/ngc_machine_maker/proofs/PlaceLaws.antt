-- The travel and the places in it, as nanometres of a file.
use Rattle.std.proofs.Common.{◌≡◌, ℕ, ◌≤◌, ◌<◌, ◌+◌, ◌*◌, ◌%◌, subst, refl, arith}
use Rattle.std.specs.Prelude.{pos, neg_ℤ, ◌-ℤ◌, ◌≤ℤ◌, unsigned_abs}
use Rattle.std.proofs.lemmas.Int.{ints}
use Rattle.std.proofs.Math.Nat.{mul_assoc}
use Rattle.std.proofs.lemmas.Nat.{mul-le, mod-mul-add}
use Rattle.ngc_machine_maker.specs.declared.figures.End.{End}
use Rattle.ngc_machine_maker.specs.declared.figures.End.TheVariants as ends
use Rattle.ngc_machine_maker.specs.declared.figures.Length.{Length}
use Rattle.ngc_machine_maker.specs.declared.figures.Figures.{Figures}
use Rattle.ngc_machine_maker.specs.declared.figures.Ratio.{Ratio}
use Rattle.ngc_machine_maker.specs.declared.numbers.Steps.{Steps}
use Rattle.ngc_machine_maker.specs.declared.rates.Rates.{Rates}
use Rattle.ngc_machine_maker.specs.declared.scale.Scale.{Scale}
use Rattle.ngc_machine_maker.specs.Asked.{IsTravelWithin, IsWithinRequest, IsScaleOf, scale_in}
use Rattle.ngc_machine_maker.specs.InFile.{IsAxisInFile, AreInFile, AreStepsWithin}
use Rattle.ngc_machine_maker.specs.Numbers.{numbers_by}
use Rattle.ngc_machine_maker.specs.Places.{low_of, high_of, coordinate}
use Rattle.ngc_machine_maker.specs.Ranges.{IsTravel, IsStop, IsScale, AreAllRates, IsRing}
use Rattle.ngc_machine_maker.specs.Safe.{IsNoFarther, AreNoFarther, AreSafe}

-- the distance from zero is at most the travel
pub stop_within : (stop travel step : ℕ) → stop ≤ travel → travel * step ≤ 3999000000 → stop * step ≤ 3999000000
stop_within stop travel step h most = let p : stop * step ≤ travel * step = mul-le stop step travel step h (omega arith) in omega arith

travel_file : (steps step length : ℕ) → steps * (1 * step) ≤ length → steps * step ≤ length
travel_file steps step length h = grind arith

motor_order : (steps step per : ℕ) → steps * step * per ≡ steps * (1 * per) * step
motor_order steps step per = grind arith

travel_motor : (steps step per length motor : ℕ) → steps * (1 * per) ≤ length * motor → steps * step * per ≤ length * (motor * step)
travel_motor steps step per length motor h =
    let p : steps * (1 * per) * step ≤ length * motor * step = mul-le (steps * (1 * per)) step (length * motor) step h (omega arith) in
    let q : length * motor * step ≡ length * (motor * step) = mul_assoc length motor step in
    let r : steps * step * per ≡ steps * (1 * per) * step = motor_order steps step per in
    omega (arith, p, q, r)

-- the length of a travel, with zero at either end
span_length : (scale : Scale) (zero : End) (steps : ℕ) → unsigned_abs (high_of scale zero steps -ℤ low_of scale zero steps) ≡ steps * scale.step
span_length scale ends.Low steps = omega (arith, ints)
span_length scale ends.High steps = omega (arith, ints)

pub travel_within : (scale : Scale) (zero : End) (steps : ℕ) (length : Length) → IsNoFarther scale steps length → IsTravelWithin scale (low_of scale zero steps) (high_of scale zero steps) length
travel_within scale zero steps length h = record {
  by_file = rw (span_length scale zero steps) (travel_file steps scale.step length.nanometres h.by_file);
  by_motor = rw (span_length scale zero steps) (travel_motor steps scale.step scale.per length.nanometres scale.steps h.by_motor);
}

whole_stop : (stop step : ℕ) → 0 < step → stop * step % step ≡ 0
whole_stop stop step h =
    let p : (stop * step + 0) % step ≡ 0 = mod-mul-add stop step 0 h in
    let q : stop * step + 0 ≡ stop * step = omega arith in
    rw q at p

place_whole : (scale : Scale) (zero : End) (stop : ℕ) → 0 < scale.step → unsigned_abs (coordinate scale zero stop) % scale.step ≡ 0
place_whole scale ends.Low stop h = whole_stop stop scale.step h
place_whole scale ends.High stop h =
    let p : unsigned_abs (neg_ℤ (pos (stop * scale.step))) ≡ stop * scale.step = omega (arith, ints) in
    rw p (whole_stop stop scale.step h)

place_from : (scale : Scale) (zero : End) (travel stop : ℕ) → stop * scale.step ≤ travel * scale.step → low_of scale zero travel ≤ℤ coordinate scale zero stop
place_from scale ends.Low travel stop h = omega (arith, ints)
place_from scale ends.High travel stop h = omega (arith, ints)

place_to : (scale : Scale) (zero : End) (travel stop : ℕ) → stop * scale.step ≤ travel * scale.step → coordinate scale zero stop ≤ℤ high_of scale zero travel
place_to scale ends.Low travel stop h = omega (arith, ints)
place_to scale ends.High travel stop h = omega (arith, ints)

low_near : (scale : Scale) (zero : End) (travel : ℕ) → travel * scale.step ≤ 3999000000 → unsigned_abs (low_of scale zero travel) ≤ 3999000000
low_near scale ends.Low travel h = omega (arith, ints)
low_near scale ends.High travel h = omega (arith, ints)

high_near : (scale : Scale) (zero : End) (travel : ℕ) → travel * scale.step ≤ 3999000000 → unsigned_abs (high_of scale zero travel) ≤ 3999000000
high_near scale ends.Low travel h = omega (arith, ints)
high_near scale ends.High travel h = omega (arith, ints)

-- a travel and three stops in it are allowed in a file
pub axis_in_file : (scale : Scale) (zero : End) (travel start home28 home30 : ℕ) → IsScale scale → IsTravel scale travel → IsStop travel start → IsStop travel home28 → IsStop travel home30 →
    IsAxisInFile scale.step (low_of scale zero travel) (high_of scale zero travel) (coordinate scale zero start) (coordinate scale zero home28) (coordinate scale zero home30)
axis_in_file scale zero travel start home28 home30 m t s a b =
    let ss : start * scale.step ≤ travel * scale.step = mul-le start scale.step travel scale.step s.within (omega arith) in
    let aa : home28 * scale.step ≤ travel * scale.step = mul-le home28 scale.step travel scale.step a.within (omega arith) in
    let bb : home30 * scale.step ≤ travel * scale.step = mul-le home30 scale.step travel scale.step b.within (omega arith) in
    record {
      low_near = low_near scale zero travel t.greatest;
      high_near = high_near scale zero travel t.greatest;
      start_from = place_from scale zero travel start ss;
      start_to = place_to scale zero travel start ss;
      start_whole = place_whole scale zero start (omega (arith, m.least));
      home28_from = place_from scale zero travel home28 aa;
      home28_to = place_to scale zero travel home28 aa;
      home30_from = place_from scale zero travel home30 bb;
      home30_to = place_to scale zero travel home30 bb;
    }

pub numbers_in_file : (f : Figures) (scale : Scale) (rates : Rates) (steps : Steps) (ring : ℕ) → IsScale scale → AreAllRates rates → AreStepsWithin scale steps
    → IsRing ring → AreInFile (numbers_by f scale rates steps ring)
numbers_in_file f scale rates steps ring s r w i = record {
  least_step = s.least;
  greatest_step = s.greatest;
  ticks_per_second = r.ticks;
  max_rate = r.max_rate;
  change = r.change;
  changes = r.changes;
  corner = r.corner;
  turn = r.turn;
  turns = r.turns;
  axis_rate = r.axis_rate;
  jump = r.jump;
  ring = i;
  places = record {
    x = axis_in_file scale f.zero.x steps.travel.x steps.start.x steps.home28.x steps.home30.x s w.travel.x w.start.x w.home28.x w.home30.x;
    y = axis_in_file scale f.zero.y steps.travel.y steps.start.y steps.home28.y steps.home30.y s w.travel.y w.start.y w.home28.y w.home30.y;
    z = axis_in_file scale f.zero.z steps.travel.z steps.start.z steps.home28.z steps.home30.z s w.travel.z w.start.z w.home28.z w.home30.z;
  };
}

abbrev scale_with : ℕ → ℕ → ℕ → Scale
scale_with steps per step = record { steps = steps; per = per; step = step }

own_scale : (scale : Scale) (ratio : Ratio) → IsScaleOf ratio scale → scale ≡ scale_with ratio.steps ratio.per scale.step
own_scale scale ratio same = rw (← same.steps, ← same.per) refl

pub numbers_as_asked : (f : Figures) (scale : Scale) (rates : Rates) (steps : Steps) (ring : ℕ) → IsScaleOf f.scale scale → AreSafe scale rates f
    → AreNoFarther scale steps.travel f.travel → IsWithinRequest (numbers_by f scale rates steps ring) f
numbers_as_asked f scale rates steps ring same r w =
    let own : scale ≡ scale_in (numbers_by f scale rates steps ring) f = own_scale scale f.scale same in
    record {
      rates = subst (λ (s : Scale). AreSafe s rates f) own r;
      x = subst (λ (s : Scale). IsTravelWithin s (low_of scale f.zero.x steps.travel.x) (high_of scale f.zero.x steps.travel.x) f.travel.x) own (travel_within scale f.zero.x steps.travel.x f.travel.x w.x);
      y = subst (λ (s : Scale). IsTravelWithin s (low_of scale f.zero.y steps.travel.y) (high_of scale f.zero.y steps.travel.y) f.travel.y) own (travel_within scale f.zero.y steps.travel.y f.travel.y w.y);
      z = subst (λ (s : Scale). IsTravelWithin s (low_of scale f.zero.z steps.travel.z) (high_of scale f.zero.z steps.travel.z) f.travel.z) own (travel_within scale f.zero.z steps.travel.z f.travel.z w.z);
    }
