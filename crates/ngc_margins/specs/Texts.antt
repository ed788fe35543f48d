-- The values of the options: `--margin 2` and `--travel-margin 0.5` are millimetres, and
-- `--rapids free` or `--rapids straight` is the way of traverses. Our own.
use Rattle.std.specs.Prelude.{ℕ, ℤ, pos, nat_le, List, Option, Some, None, Result, Ok, Err, codes}
use Rattle.std.specs.Prelude.{if◌then◌else◌}
use Rattle.std.specs.Str.{bytes_eq}
use Rattle.ngc_machine_files.specs.declared.machine.Rapids.{Rapids}
use Rattle.ngc_machine_files.specs.declared.machine.Rapids.TheVariants.{Free, Straight}
use Rattle.ngc_machine_maker.specs.Decimals.{number_in}
use Rattle.ngc_margins.specs.Demands.{Demand}
use Rattle.ngc_margins.specs.declared.reading.DemandMistake.{DemandMistake}
use Rattle.ngc_margins.specs.declared.reading.DemandMistake.TheVariants as mistakes

-- at most 100 mm, in nanometres
abbrev pub within_limit : Option ℕ → Option ℤ
within_limit None = None
within_limit (Some n) = if nat_le n 100000000 then Some (pos n) else None

-- millimetres with at most six decimals, in nanometres
abbrev pub margin_in : List ℕ → Option ℤ
margin_in text = within_limit (number_in 6 text)

abbrev pub rapids_in : List ℕ → Option Rapids
rapids_in text =
    if bytes_eq text (codes "free") then Some Free else
    if bytes_eq text (codes "straight") then Some Straight else None

abbrev pub written : {T : Type 0} → DemandMistake → Option T → Result (Option T) DemandMistake
written mistake None = Err mistake
written mistake (Some value) = Ok (Some value)

-- the value of an option that may be left out: a text that writes none is the mistake
abbrev pub value_of : {T : Type 0} → (List ℕ → Option T) → DemandMistake → Option (List ℕ) →
    Result (Option T) DemandMistake
value_of read mistake None = Ok None
value_of read mistake (Some text) = written mistake (read text)

abbrev pub demand_of : Result (Option ℤ) DemandMistake → Result (Option ℤ) DemandMistake →
    Result (Option Rapids) DemandMistake → Result Demand DemandMistake
demand_of (Ok margin) (Ok travel) (Ok rapids) =
    Ok (record { margin = margin; travel_margin = travel; rapids = rapids })
demand_of (Err mistake) travel rapids = Err mistake
demand_of (Ok margin) (Err mistake) rapids = Err mistake
demand_of (Ok margin) (Ok travel) (Err mistake) = Err mistake

-- what the three options write, or the first mistake
abbrev pub parsed_demands : Option (List ℕ) → Option (List ℕ) → Option (List ℕ) →
    Result Demand DemandMistake
parsed_demands margin travel rapids =
    demand_of (value_of margin_in mistakes.Margin margin)
    (value_of margin_in mistakes.TravelMargin travel) (value_of rapids_in mistakes.Rapids rapids)
