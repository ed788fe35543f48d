-- Files of versions 1 and 2 describe no far machine.
use Rattle.std.proofs.Common.{◌≡◌, ◌∙◌, Bool, true, false, ◌&&◌, Option, Some, None, Result, Ok, Err, codes, ap, sym, subst, refl}
use Rattle.std.specs.Prelude.{not}
use Rattle.std.proofs.lemmas.Bool.{and_parts}
use Rattle.toml.specs.Data.{Data}
use Rattle.ngc_machine_files.specs.Machine.{MachineFile}
use Rattle.ngc_machine_files.specs.MachineRanges.{ends_far, is_far}
use Rattle.ngc_machine_files.specs.MachineText.{MachineValues, checked_machine, is_at_most, is_on_grid, is_sized, machine_axis_rates, machine_fixtures, machine_from, machine_keys}
use Rattle.ngc_machine_files.specs.MachineText.{machine_numbers, machine_options, machine_origins, machine_points, machine_ranges, machine_values, values_in}
use Rattle.ngc_machine_files.specs.NearFiles.{NearFiles}
use Rattle.ngc_machine_files.specs.Ranges.{travel_limit}
use Rattle.ngc_machine_files.specs.Refusals.{◌>>◌}
use Rattle.ngc_machine_files.specs.Tree.{◌>>=◌, coordinates_at, known, tree_of}
use Rattle.ngc_machine_files.specs.declared.fault.FileFault.{FileFault}
use Rattle.ngc_machine_files.specs.declared.machine_contents.Coordinates.{Coordinates}
use Rattle.ngc_machine_files.specs.declared.machine_contents.MachinePoints.{MachinePoints}
use Rattle.ngc_machine_files.proofs.GoodFiles.{limits-from_ranges, three}

-- ---- what is read

-- a part that is there, and what is read with it
bound : {A B : Type 0} (o : Option A) (f : A → Option B) (y : B) → (o >>= f) ≡ Some y → (x : A) × (o ≡ Some x) × (f x ≡ Some y)
bound None f y h = cc
bound (Some x) f y h = (x, refl, h)

some_far : (q p : MachinePoints) → Some q ≡ Some p → p.far ≡ q.far
some_far q p h = let e : p ≡ q = cc in ap (λ (r : MachinePoints). r.far) e

points_near : (tree : Data) (p : MachinePoints) → machine_points tree ≡ Some p → p.far ≡ false
points_near tree p h =
    let low = bound (coordinates_at (codes "low") tree) _ p h in
    let high = bound (coordinates_at (codes "high") tree) _ p low.2 in
    let start = bound (coordinates_at (codes "start") tree) _ p high.2 in
    let home28 = bound (coordinates_at (codes "home28") tree) _ p start.2 in
    let home30 = bound (coordinates_at (codes "home30") tree) _ p home28.2 in
    some_far _ p home30.2

some_points : (w v : MachineValues) → Some w ≡ Some v → v.points ≡ w.points
some_points w v h = let e : v ≡ w = cc in ap (λ (r : MachineValues). r.points) e

values_near : (root : Data) (v : MachineValues) → machine_values root ≡ Some v → v.points.far ≡ false
values_near root v h =
    let numbers = bound (machine_numbers root) _ v h in
    let version = numbers.0.version in
    let tree = bound (known (machine_keys version) root) _ v numbers.2 in
    let options = bound (machine_options tree.0) _ v tree.2 in
    let rates = bound (machine_axis_rates version tree.0) _ v options.2 in
    let points = bound (machine_points tree.0) _ v rates.2 in
    let origins = bound (machine_origins tree.0) _ v points.2 in
    let fixtures = bound (machine_fixtures version tree.0) _ v origins.2 in
    ap (λ (p : MachinePoints). p.far) (some_points _ v fixtures.2) ∙ points_near tree.0 points.0 points.1

-- ---- what is checked

both_near : (a b : Bool) → a ≡ true → b ≡ true → not (a && b) ≡ false
both_near true true p q = refl
both_near true false p q = cc
both_near false b p q = cc

near : (far : Bool) (p : Coordinates) → far ≡ false → is_sized (travel_limit far) p ≡ true → is_sized (travel_limit false) p ≡ true
near far p is h = subst (λ b. is_sized (travel_limit b) p ≡ true) is h

near_values : (v : MachineValues) → v.points.far ≡ false → machine_ranges v ≡ Ok tt → is_far (machine_from v) ≡ false
unfolding ends_far
near_values v is h =
    let p = v.points in
    let (h5, _) = and_parts _ (is_on_grid v.numbers.step p.start) (limits-from_ranges v h) in
    let (h4, _) = and_parts _ (is_at_most p.start p.high) h5 in
    let (h3, _) = and_parts _ (is_at_most p.low p.start) h4 in
    let (low, high, _) = three (is_sized (travel_limit p.far) p.low) (is_sized (travel_limit p.far) p.high) (is_at_most p.low p.high) h3 in
    both_near _ _ (near p.far p.low is low) (near p.far p.high is high)

taken : {A : Type 0} (r : Result (Unit {0}) FileFault) (x m : A) → (r >> Ok x) ≡ Ok m → (r ≡ Ok tt) × (x ≡ m)
taken (Ok tt) x m h = (refl, cc)
taken (Err e) x m h = cc

near_checked : (o : Option MachineValues) (m : MachineFile) → ((v : MachineValues) → o ≡ Some v → v.points.far ≡ false) → checked_machine o ≡ Ok m
    → is_far m ≡ false
near_checked None m all h = cc
near_checked (Some v) m all h =
    let (ranges, is) = taken (machine_ranges v) (machine_from v) m h in
    subst (λ (f : MachineFile). is_far f ≡ false) is (near_values v (all v refl) ranges)

pub near_files : NearFiles
near_files bytes m h =
    near_checked (values_in bytes) m (λ v is. let tree = bound (tree_of bytes) machine_values v is in values_near tree.0 v tree.2) h
