-- The machine of a call is fit for its motors.
use Rattle.std.proofs.Common.{◌≡◌, ◌≤ℤ◌, ◌+ℤ◌, ◌*ℤ◌, ◌∙◌, ◌⊎◌, inl, inr, ℕ, ℤ, pos, List, Bool, true, false, Option, Some, None, Result, Ok, Err, arith, ap, refl, subst, sym}
use Rattle.std.specs.Prelude.{◌||◌, IfSome, IsTrue, if◌then◌else◌, unwrap_or}
use Rattle.std.specs.Int.{int_max}
use Rattle.std.proofs.lemmas.Bool.{and_parts}
use Rattle.std.proofs.lemmas.Int.{ints, clamps}
use Rattle.toml.specs.Data.{Data}
use Rattle.ngc_motors.specs.Counts.{AreMotors, ends_at_steps, is_grid_step, slack}
use Rattle.ngc_motors.specs.declared.step.MotorStep.{MotorStep}
use Rattle.ngc_motors.proofs.Slack.{IsEnough, enough_more, enough_x, enough_y, enough_z}
use Rattle.ngc_machine_files.specs.Machine.{MachineFile, built_in_machine, motors_of}
use Rattle.ngc_machine_files.specs.MachineText.{MachineValues, checked_machine, good_axis_ends, good_ends, machine_file, machine_from, machine_ranges, values_in}
use Rattle.ngc_machine_files.specs.Ranges.{IsFrom, MARGIN_LIMIT}
use Rattle.ngc_machine_files.specs.Refusals.{◌>>◌, refuse_unless}
use Rattle.ngc_machine_files.specs.Tree.{tree_of}
use Rattle.ngc_machine_files.specs.declared.fault.FileFault.{FileFault}
use Rattle.ngc_machine_files.proofs.GoodFiles.{IsGood-from_ranges, ends-from_ranges}
use Rattle.ngc_machine_figures.specs.Files.{SheetValues, sheet_of}
use Rattle.ngc_machine_figures.specs.Version.{is_written}
use Rattle.ngc_added_boxes.specs.Placing.{all_fit, boxed, with_boxes}
use Rattle.ngc_origins.specs.Placed.{placed}
use Rattle.ngc_margins.specs.Changes.{and_demanded, changed}
use Rattle.ngc_margins.specs.Demands.{AreDemands, Demand, fixture_margin, set_in}
use Rattle.ngc_margins.specs.Margins.{demanded, starts_inside, with_margins}
use Rattle.ngc_margins.specs.declared.changes.Changes.{Changes}
use Rattle.ngc_written_machines.specs.Machines.{◌>>=◌, machine_by, motors_of as written_motors, ranged, rates_with, refused_as, written_machine}
use Rattle.ngc_written_machines.specs.Contents.{values_by}
use Rattle.ngc_written_machines.specs.Reading.{any_machine, as_fault, machine_in, written_file}
use Rattle.ngc_written_machines.specs.declared.refusal.WrittenRefusal.{WrittenRefusal}
use Rattle.ngc_written_machines.specs.declared.refusal.WrittenRefusal.TheVariants as refusals
use Rattle.ngc_motor_laws.specs.Calls.{BuiltInFits, FilesFit, IsFit}
use Rattle.ngc_motor_laws.specs.Commanded.{FitsAxis, FitsMotors}

-- ---- what holds of each machine that is read

-- a motor has the grid's step, or the travel ends at whole steps of it
abbrev EndsFit : ℤ → MotorStep → ℤ → ℤ → Type 0
EndsFit grid m low high = IsTrue (is_grid_step grid m) ⊎ IsTrue (ends_at_steps m low high)

record IsRead (m : MachineFile) : Type 0 where
  are : AreMotors (motors_of m)
  margin : pos 0 ≤ℤ m.margins.fixtures
  travel_margin : pos 0 ≤ℤ m.margins.travel
  x : EndsFit m.step m.motor_steps.x m.low.x m.high.x
  y : EndsFit m.step m.motor_steps.y m.low.y m.high.y
  z : EndsFit m.step m.motor_steps.z m.low.z m.high.z

either : (a b : Bool) → (a || b) ≡ true → (a ≡ true) ⊎ (b ≡ true)
either true b h = inl refl
either false b h = inr h

ends_fit : (grid : ℤ) (m : MotorStep) (low high : ℤ) → good_ends grid m low high ≡ true → EndsFit grid m low high
unfolding good_ends
ends_fit grid m low high h = either (is_grid_step grid m) (ends_at_steps m low high) h

read_values : (v : MachineValues) → machine_ranges v ≡ Ok tt → IsRead (machine_from v)
unfolding good_axis_ends
read_values v h =
    let good = IsGood-from_ranges v h in
    let grid = v.numbers.step in
    let m = v.motor_steps in
    let p = v.points in
    let (xy, z) = and_parts _ (good_ends grid m.z p.low.z p.high.z) (ends-from_ranges v h) in
    let (x, y) = and_parts (good_ends grid m.x p.low.x p.high.x) (good_ends grid m.y p.low.y p.high.y) xy in
    record {
      are = good.motors;
      margin = good.margin.least;
      travel_margin = good.travel_margin.least;
      x = ends_fit grid m.x p.low.x p.high.x x;
      y = ends_fit grid m.y p.low.y p.high.y y;
      z = ends_fit grid m.z p.low.z p.high.z z;
    }

-- ---- a file

taken : {A : Type 0} (r : Result (Unit {0}) FileFault) (x m : A) → (r >> Ok x) ≡ Ok m → (r ≡ Ok tt) × (x ≡ m)
taken (Ok tt) x m h = (refl, cc)
taken (Err e) x m h = cc

read_checked : (o : Option MachineValues) (m : MachineFile) → checked_machine o ≡ Ok m → IsRead m
read_checked None m h = cc
read_checked (Some v) m h = let (ranges, is) = taken (machine_ranges v) (machine_from v) m h in subst IsRead is (read_values v ranges)

bound : {A B : Type 0} (r : Result A WrittenRefusal) (f : A → Result B WrittenRefusal) (y : B) → (r >>= f) ≡ Ok y → (x : A) × (f x ≡ Ok y)
bound (Ok x) f y h = (x, h)
bound (Err e) f y h = cc

unrefused : {T E : Type 0} (f : E → WrittenRefusal) (r : Result T E) (x : T) → refused_as f r ≡ Ok x → r ≡ Ok x
unrefused f (Ok y) x h = let e : y ≡ x = cc in ap Ok e
unrefused f (Err e) x h = cc

read_sheet : (sheet : SheetValues) (m : MachineFile) → machine_by sheet ≡ Ok m → IsRead m
read_sheet sheet m h =
    let own = bound (written_motors sheet.head.axes) (λ o. rates_with sheet.head o >>= λ rates. ranged sheet o rates) m h in
    let rates = bound (rates_with sheet.head own.0) (λ r. ranged sheet own.0 r) m own.1 in
    let values = Some (values_by sheet own.0 rates.0) in
    read_checked values m (unrefused refusals.Range (checked_machine values) m rates.1)

read_written : (tree : Data) (m : MachineFile) → written_machine tree ≡ Ok m → IsRead m
unfolding written_machine
read_written tree m h = let sheet = bound (refused_as refusals.Sheet (sheet_of tree)) (λ s. machine_by s) m h in read_sheet sheet.0 m sheet.1

as_ok : (r : Result MachineFile WrittenRefusal) (m : MachineFile) → as_fault r ≡ Ok m → r ≡ Ok m
as_ok (Ok x) m h = let e : x ≡ m = cc in ap Ok e
as_ok (Err e) m h = cc

read_by : (b : Bool) (bytes : List ℕ) (tree : Data) (m : MachineFile) → (if b then written_file tree else machine_file bytes) ≡ Ok m → IsRead m
read_by true bytes tree m h = read_written tree m (as_ok (written_machine tree) m h)
read_by false bytes tree m h = read_checked (values_in bytes) m h

read_in : (bytes : List ℕ) (tree : Option Data) (m : MachineFile) → machine_in bytes tree ≡ Ok m → IsRead m
read_in bytes None m h = read_checked (values_in bytes) m h
read_in bytes (Some tree) m h = read_by (is_written tree) bytes tree m h

read_any : (bytes : List ℕ) (m : MachineFile) → any_machine bytes ≡ Ok m → IsRead m
unfolding any_machine
read_any bytes m h = read_in bytes (tree_of bytes) m h

built_in_read : IsRead built_in_machine
built_in_read = record {
  are = record { grid = record { least = omega (arith, ints); greatest = omega (arith, ints) }; x = refl; y = refl; z = refl };
  margin = omega (arith, ints);
  travel_margin = omega (arith, ints);
  x = inl refl;
  y = inl refl;
  z = inl refl;
}

-- ---- the options of a call

not_less : (a b : ℤ) → pos 0 ≤ℤ a → a ≤ℤ b → pos 0 ≤ℤ b
not_less a b least more = omega (arith, ints, least, more)

fits_axis : (grid margin : ℤ) (m : MotorStep) (low high s : ℤ) → s ≤ℤ margin → IsEnough grid m s → EndsFit grid m low high →
    FitsAxis grid margin m low high
fits_axis grid margin m low high s more enough ends = elim (enough_more grid m s margin more enough) [
  | inl same ↦ inl same
  | inr half ↦ elim ends [
    | inl same ↦ inl same
    | inr at_steps ↦ inr (record { half = half; ends = at_steps })
  ]
]

least_or : (o : Option ℤ) (own : ℤ) → IfSome o (IsFrom (pos 0) MARGIN_LIMIT) → pos 0 ≤ℤ own → pos 0 ≤ℤ unwrap_or o own
least_or None own h least = least
least_or (Some margin) own h least = h.least

first_at_most : (a b : ℤ) → a ≤ℤ int_max a b
first_at_most a b = omega (arith, ints, clamps)

second_at_most : (a b : ℤ) → b ≤ℤ int_max a b
second_at_most a b = omega (arith, ints, clamps)

set_fits : (d : Demand) (m : MachineFile) → AreDemands d → IsRead m → FitsMotors (set_in d m)
set_fits d m ok read =
    let motors = motors_of m in
    let s = slack motors in
    let margin = fixture_margin d m in
    let demanded_margin = unwrap_or d.margin m.margins.fixtures in
    let more : s ≤ℤ margin = first_at_most s demanded_margin in
    let own = least_or d.margin m.margins.fixtures ok.margin read.margin in
    record {
      are = read.are;
      margin = not_less demanded_margin margin own (second_at_most s demanded_margin);
      travel_margin = least_or d.travel_margin m.margins.travel ok.travel_margin read.travel_margin;
      x = fits_axis m.step margin m.motor_steps.x m.low.x m.high.x s more (enough_x motors read.are) read.x;
      y = fits_axis m.step margin m.motor_steps.y m.low.y m.high.y s more (enough_y motors read.are) read.y;
      z = fits_axis m.step margin m.motor_steps.z m.low.z m.high.z s more (enough_z motors read.are) read.z;
    }

-- the rest of a chain of checks
skipped : {A : Type 0} (r : Result (Unit {0}) FileFault) (q : Result A FileFault) (m : A) → (r >> q) ≡ Ok m → q ≡ Ok m
skipped (Ok tt) q m h = h
skipped (Err e) q m h = cc

demanded_is : (d : Demand) (m met : MachineFile) → demanded d m ≡ Ok met → with_margins (set_in d m) ≡ met
demanded_is d m met h =
    let kept = with_margins (set_in d m) in
    let inner = skipped (refuse_unless (starts_inside kept) _) _ met h in
    (taken (refuse_unless _ _) kept met inner).1

demanded_fits : (d : Demand) (m met : MachineFile) → AreDemands d → IsRead m → demanded d m ≡ Ok met → IsFit met
demanded_fits d m met ok read h = record { machine = set_in d m; kept = sym (demanded_is d m met h); fits = set_fits d m ok read }

and_demanded_fits : (d : Demand) (r : Result MachineFile FileFault) (met : MachineFile) → AreDemands d → ((m : MachineFile) → r ≡ Ok m → IsRead m) →
    and_demanded d r ≡ Ok met → IsFit met
and_demanded_fits d (Ok m) met ok read h = demanded_fits d m met ok (read m refl) h
and_demanded_fits d (Err e) met ok read h = cc

-- added boxes and other origins leave motors, margins and travel as they are
call_fits : (c : Changes) (m met : MachineFile) → AreDemands c.demands → IsRead m → changed c m ≡ Ok met → IsFit met
call_fits c m met ok read h = and_demanded_fits c.demands (boxed c.boxes (placed c.origins m)) met ok (λ new is. boxed_read new is) h where
  own : IsRead (with_boxes c.boxes (placed c.origins m))
  own = record { are = read.are; margin = read.margin; travel_margin = read.travel_margin; x = read.x; y = read.y; z = read.z }

  boxed_read : (new : MachineFile) → boxed c.boxes (placed c.origins m) ≡ Ok new → IsRead new
  boxed_read new is = subst IsRead (taken (refuse_unless (all_fit c.boxes (placed c.origins m)) _) (with_boxes c.boxes (placed c.origins m)) new is).1 own

pub files_law : FilesFit
files_law bytes m met c ok is h = call_fits c m met ok (read_any bytes m is) h

pub built_in_law : BuiltInFits
built_in_law met c ok h = call_fits c built_in_machine met ok built_in_read h
