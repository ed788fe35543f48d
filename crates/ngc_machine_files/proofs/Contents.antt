-- The contents of a machine file, part by part.
use Rattle.std.proofs.Common.{◌≡◌, ◌∙◌, ℤ, List, ◌∷◌, true, false, cond, codes, Option, Some, None, ap, sym, refl}
use Rattle.toml.specs.Data.{Data}
use Rattle.ngc_machine_files.specs.Tree.{◌>>=◌, known, has_only}
use Rattle.ngc_machine_files.specs.MachineText.{common_keys, has_axis_rates, machine_keys, machine_numbers, machine_axis_rates, machine_options, machine_points, machine_origins}
use Rattle.ngc_machine_files.specs.MachineText.{machine_fixtures, machine_values, grid_steps}
use Rattle.ngc_machine_files.specs.declared.machine_contents.Coordinates.{Coordinates}
use Rattle.ngc_machine_files.specs.declared.machine_contents.Corners.{Corners}
use Rattle.ngc_machine_files.specs.declared.machine_contents.MachineNumbers.{MachineNumbers}
use Rattle.ngc_machine_files.specs.declared.machine_contents.MachineOptions.{MachineOptions}
use Rattle.ngc_machine_files.specs.declared.machine_contents.MachinePoints.{MachinePoints}

-- ---- which keys are known

pub keys_two : (version : ℤ) → has_axis_rates version ≡ true → machine_keys version ≡ codes "axis_rate" ∷ codes "jump" ∷ codes "ring" ∷ codes "arc_feed" ∷ codes "changer" ∷ codes "margin" ∷ codes "travel_margin" ∷ codes "rapids" ∷ codes "dialect" ∷ codes "stock" ∷ common_keys
unfolding machine_keys
keys_two version h = ap (λ b. cond b (codes "axis_rate" ∷ codes "jump" ∷ codes "ring" ∷ codes "arc_feed" ∷ codes "changer" ∷ codes "margin" ∷ codes "travel_margin" ∷ codes "rapids" ∷ codes "dialect" ∷ codes "stock" ∷ common_keys) common_keys) h

pub keys_one : (version : ℤ) → has_axis_rates version ≡ false → machine_keys version ≡ common_keys
unfolding machine_keys
keys_one version h = ap (λ b. cond b (codes "axis_rate" ∷ codes "jump" ∷ codes "ring" ∷ codes "arc_feed" ∷ codes "changer" ∷ codes "margin" ∷ codes "travel_margin" ∷ codes "rapids" ∷ codes "dialect" ∷ codes "stock" ∷ common_keys) common_keys) h

-- ---- all parts are present

there : {A B : Type 0} (o : Option A) (x : A) (f : A → Option B) → Some x ≡ o → (o >>= f) ≡ f x
there (Some y) x f h = let e : y ≡ x = cc in ap f e
there None x f h = cc

pub values_read : (d : Data) (numbers : MachineNumbers) (options : MachineOptions) (rates : Coordinates) (points : MachinePoints) (origins : List Coordinates) (fixtures : List Corners)
    → Some numbers ≡ machine_numbers d → has_only (machine_keys numbers.version) d ≡ true → Some options ≡ machine_options d → Some rates ≡ machine_axis_rates numbers.version d
    → Some points ≡ machine_points d → Some origins ≡ machine_origins d → Some fixtures ≡ machine_fixtures numbers.version d
    → Some (record { numbers = numbers; options = options; motor_steps = grid_steps numbers.step; axis_rates = rates; own = None; points = points; origins = origins; fixtures = fixtures }) ≡ machine_values d
values_read d numbers options rates points origins fixtures n k t r p o f =
    sym (
    there (machine_numbers d) numbers _ n
    ∙ there (known (machine_keys numbers.version) d) d _ (sym (ap (λ b. cond b (Some d) None) k))
    ∙ there (machine_options d) options _ t
    ∙ there (machine_axis_rates numbers.version d) rates _ r
    ∙ there (machine_points d) points _ p
    ∙ there (machine_origins d) origins _ o
    ∙ there (machine_fixtures numbers.version d) fixtures _ f)

missing : {A B : Type 0} (o : Option A) (f : A → Option B) → None ≡ o → (o >>= f) ≡ None
missing None f h = refl
missing (Some x) f h = cc

-- all parts but the fixtures
pub values_none : (d : Data) (numbers : MachineNumbers) (options : MachineOptions) (rates : Coordinates) (points : MachinePoints) (origins : List Coordinates)
    → Some numbers ≡ machine_numbers d → has_only (machine_keys numbers.version) d ≡ true → Some options ≡ machine_options d → Some rates ≡ machine_axis_rates numbers.version d
    → Some points ≡ machine_points d → Some origins ≡ machine_origins d → None ≡ machine_fixtures numbers.version d
    → None ≡ machine_values d
values_none d numbers options rates points origins n k t r p o f =
    sym (
    there (machine_numbers d) numbers _ n
    ∙ there (known (machine_keys numbers.version) d) d _ (sym (ap (λ b. cond b (Some d) None) k))
    ∙ there (machine_options d) options _ t
    ∙ there (machine_axis_rates numbers.version d) rates _ r
    ∙ there (machine_points d) points _ p
    ∙ there (machine_origins d) origins _ o
    ∙ missing (machine_fixtures numbers.version d) _ f)
