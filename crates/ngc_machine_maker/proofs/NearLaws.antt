-- In a file with rates each travel ends within 1,000 mm of zero.
use Rattle.std.proofs.Common.{◌≡◌, ◌∙◌, ℕ, ◌≤◌, ◌*◌, Bool, true, false, Result, Ok, Err, ap, sym, subst, refl, arith}
use Rattle.std.specs.Prelude.{nat_lt, ◌==◌, ◌||◌, if◌then◌else◌}
use Rattle.std.proofs.lemmas.Bool.Decides.{nat_tests}
use Rattle.std.proofs.lemmas.Int.{ints}
use Rattle.ngc_machine_maker.specs.declared.figures.Axis.{Axis}
use Rattle.ngc_machine_maker.specs.declared.figures.Axis.TheVariants as axes
use Rattle.ngc_machine_maker.specs.declared.figures.End.{End}
use Rattle.ngc_machine_maker.specs.declared.figures.End.TheVariants as ends
use Rattle.ngc_machine_maker.specs.declared.figures.Figures.{Figures}
use Rattle.ngc_machine_maker.specs.declared.figures.Length.{Length}
use Rattle.ngc_machine_maker.specs.declared.figures.PerAxis.{PerAxis}
use Rattle.ngc_machine_maker.specs.declared.numbers.MachineNumbers.{MachineNumbers}
use Rattle.ngc_machine_maker.specs.declared.numbers.Steps.{Steps}
use Rattle.ngc_machine_maker.specs.declared.refusal.FigureRefusal.{FigureRefusal}
use Rattle.ngc_machine_maker.specs.declared.refusal.Stop.TheVariants as stops
use Rattle.ngc_machine_maker.specs.declared.scale.Scale.{Scale}
use Rattle.ngc_machine_maker.specs.Formulas.{and_then, rates_of, scale_of}
use Rattle.ngc_machine_maker.specs.InFile.{AreNear, IsNear}
use Rattle.ngc_machine_maker.specs.NearNumbers.{NearNumbers}
use Rattle.ngc_machine_maker.specs.Numbers.{numbers_by, numbers_of, placed, ring_of}
use Rattle.ngc_machine_maker.specs.Places.{high_of, length_in, low_of, stops_by, stops_of, travel_limit, travel_of, travel_refusal, travels_of}
use Rattle.ngc_machine_maker.proofs.SafeLaws.{steps_within}

-- what a chain of results is made of
bound : {A B : Type 0} (r : Result A FigureRefusal) (f : A → Result B FigureRefusal) (y : B) → and_then r f ≡ Ok y → (x : A) × (r ≡ Ok x) × (f x ≡ Ok y)
bound (Ok x) f y h = (x, refl, h)
bound (Err e) f y h = cc

abbrev ok : {A : Type 0} → A → Result A FigureRefusal
ok x = Ok x

same : {A : Type 0} (x y : A) → ok x ≡ ok y → x ≡ y
same x y h = cc

passed : (b : Bool) (e : FigureRefusal) (x y : ℕ) → (if b then Err e else Ok x) ≡ Ok y → (b ≡ false) × (x ≡ y)
passed true e x y h = cc
passed false e x y h = (refl, same x y h)

second : (a b : Bool) → (a || b) ≡ false → b ≡ false
second true b h = cc
second false b h = h

at_most : (limit n : ℕ) → nat_lt limit n ≡ false → n ≤ limit
at_most limit n h = grind (arith, nat_tests)

-- a travel in steps of the file
near_travel : (scale : Scale) (length : Length) (axis : Axis) (steps : ℕ) → travel_of scale false length axis ≡ Ok steps → steps * scale.step ≤ 1000000000
near_travel scale length axis steps h =
    let p = passed (length_in scale length == 0 || nat_lt (travel_limit false) length.nanometres) (travel_refusal false axis) (length_in scale length) steps h in
    let most : length.nanometres ≤ 1000000000 = at_most 1000000000 length.nanometres (second (length_in scale length == 0) _ p.0) in
    let within : length_in scale length * (1 * scale.step) ≤ length.nanometres = (steps_within scale length.nanometres 1).by_file in
    subst (λ (n : ℕ). n * scale.step ≤ 1000000000) p.1 (grind (arith, most, within))

near_end : (scale : Scale) (zero : End) (travel : ℕ) → travel * scale.step ≤ 1000000000 → IsNear (low_of scale zero travel) (high_of scale zero travel)
near_end scale ends.Low travel h = record { low = omega (arith, ints); high = omega (arith, ints, h) }
near_end scale ends.High travel h = record { low = omega (arith, ints, h); high = omega (arith, ints) }

-- three of them
record AreShort (scale : Scale) (travel : PerAxis ℕ) : Type 0 where
  x : travel.x * scale.step ≤ 1000000000
  y : travel.y * scale.step ≤ 1000000000
  z : travel.z * scale.step ≤ 1000000000

near_travels : (scale : Scale) (lengths : PerAxis Length) (travel : PerAxis ℕ) → travels_of scale false lengths ≡ Ok travel → AreShort scale travel
near_travels scale lengths travel h =
    let x = bound (travel_of scale false lengths.x axes.X) _ travel h in
    let y = bound (travel_of scale false lengths.y axes.Y) _ travel x.2 in
    let z = bound (travel_of scale false lengths.z axes.Z) _ travel y.2 in
    subst (AreShort scale) (same _ travel z.2) (record {
      x = near_travel scale lengths.x axes.X x.0 x.1;
      y = near_travel scale lengths.y axes.Y y.0 y.1;
      z = near_travel scale lengths.z axes.Z z.0 z.1;
    })

near_steps : (scale : Scale) (f : Figures) (steps : Steps) → f.far ≡ false → placed scale f ≡ Ok steps → AreShort scale steps.travel
near_steps scale f steps is h =
    let travel = bound (travels_of scale f.far f.travel) _ steps h in
    let start = bound (stops_of scale travel.0 f.travel stops.Start f.start) _ steps travel.2 in
    let home28 = bound (stops_by scale travel.0 f.travel stops.Home28 start.0 f.home28) _ steps start.2 in
    let home30 = bound (stops_by scale travel.0 f.travel stops.Home30 start.0 f.home30) _ steps home28.2 in
    let short = near_travels scale f.travel travel.0 (subst (λ (far : Bool). travels_of scale far f.travel ≡ Ok travel.0) is travel.1) in
    subst (λ (s : Steps). AreShort scale s.travel) (same _ steps home30.2) short

pub near_numbers : NearNumbers
near_numbers f n is h =
    let scale = bound (scale_of f.scale) _ n h in
    let rates = bound (rates_of scale.0 f) _ n scale.2 in
    let steps = bound (placed scale.0 f) _ n rates.2 in
    let ring = bound (ring_of f.ring) _ n steps.2 in
    let short = near_steps scale.0 f steps.0 is steps.1 in
    subst AreNear (same (numbers_by f scale.0 rates.0 steps.0 ring.0) n ring.2) (record {
      x = near_end scale.0 f.zero.x steps.0.travel.x short.x;
      y = near_end scale.0 f.zero.y steps.0.travel.y short.y;
      z = near_end scale.0 f.zero.z steps.0.travel.z short.z;
    })
