-- The places that a controller with Grbl prints after $#, as [G54:10.000,20.000,-5.000]. They are
-- machine coordinates, in inches if $13 isn't 0.
use Rattle.std.specs.Prelude.{ℕ, ◌+◌, ◌*◌, nat_le, Bool, true, false, ℤ, pos, ◌-ℤ◌}
use Rattle.std.specs.Prelude.{List, [], ◌∷◌, drop, codes, bytes_eq, Option, Some, None, Result}
use Rattle.std.specs.Prelude.{Ok, Err, if◌then◌else◌}
use Rattle.ngc_grbl_lines.specs.Lines.{before, lines_of}
use Rattle.ngc_grbl_lines.specs.Entries.{place_name, place_values}
use Rattle.ngc_machine_maker.specs.declared.figures.PerAxis.{PerAxis}
use Rattle.ngc_machine_maker.specs.declared.figures.PlaceForm.{PlaceForm}
use Rattle.ngc_machine_maker.specs.declared.figures.StoredPlaces.{StoredPlaces}
use Rattle.ngc_machine_maker.specs.declared.refusal.FigureRefusal.{FigureRefusal}
use Rattle.ngc_machine_maker.specs.declared.refusal.FigureRefusal.TheVariants as refusals
use Rattle.ngc_machine_maker.specs.declared.refusal.Stored.{Stored}
use Rattle.ngc_machine_maker.specs.declared.refusal.Stored.TheVariants as places
use Rattle.ngc_machine_maker.specs.Decimals.{begins, number_in, three_texts, three_by}
use Rattle.ngc_machine_maker.specs.Formulas.{and_then}

unfoldable pub stored_text : Stored → List ℕ
stored_text places.G54 = codes "G54"
stored_text places.G55 = codes "G55"
stored_text places.G56 = codes "G56"
stored_text places.G57 = codes "G57"
stored_text places.G58 = codes "G58"
stored_text places.G59 = codes "G59"
stored_text places.G28 = codes "G28"
stored_text places.G30 = codes "G30"
stored_text places.G92 = codes "G92"

-- ---- a coordinate

-- at most 1,000 mm, and 4,000 mm where the file that is made may have them
abbrev pub place_limit : Bool → ℕ
place_limit far = if far then 4000000000 else 1000000000

abbrev pub near : Bool → ℕ → Option ℕ
near far n = if nat_le n (place_limit far) then Some n else None

-- millimetres have up to six decimals, and inches up to five: 254 nm are a hundred-thousandth
abbrev pub in_millimetres : Bool → Option ℕ → Option ℕ
in_millimetres far None = None
in_millimetres far (Some n) = near far n

abbrev pub in_inches : Bool → Option ℕ → Option ℕ
in_inches far None = None
in_inches far (Some n) = near far (254 * n)

-- a size in nanometres
abbrev pub size_in : PlaceForm → List ℕ → Option ℕ
size_in form text =
    if form.inches then in_inches form.far (number_in 5 text)
    else in_millimetres form.far (number_in 6 text)

abbrev pub signed : Bool → Option ℕ → Option ℤ
signed minus None = None
signed minus (Some n) = Some (if minus then pos 0 -ℤ pos n else pos n)

-- a size, or a minus sign and a size
abbrev pub coordinate_in : PlaceForm → List ℕ → Option ℤ
coordinate_in form text =
    if begins 45 text then signed true (size_in form (drop 1 text))
    else signed false (size_in form text)

-- the first three coordinates: what follows them is of further axes
unfoldable pub stored_in : PlaceForm → List ℕ → Option (PerAxis ℤ)
stored_in form text =
    three_by (coordinate_in form (three_texts text).x)
    (coordinate_in form (three_texts text).y)
    (coordinate_in form (before 44 (three_texts text).z))

-- ---- a place of a dump

abbrev pub is_at : Stored → List ℕ → Bool
is_at stored line = bytes_eq (place_name line) (stored_text stored)

abbrev pub place_refusal : Bool → Stored → ℕ → FigureRefusal
place_refusal far stored at =
    if far then refusals.FarPlace stored at else refusals.Place stored at

abbrev pub stored_by : Bool → Stored → ℕ → Option (PerAxis ℤ) →
    Result (Option (PerAxis ℤ)) FigureRefusal
stored_by far stored at None = Err (place_refusal far stored at)
stored_by far stored at (Some place) = Ok (Some place)

-- from the first of these lines that has the place; the first line has the number `at`
abbrev pub place_from : PlaceForm → Stored → ℕ → List (List ℕ) →
    Result (Option (PerAxis ℤ)) FigureRefusal
place_from form stored at [] = Ok None
place_from form stored at (line ∷ rest) =
    if is_at stored line then stored_by form.far stored at (stored_in form (place_values line))
    else place_from form stored (at + 1) rest

unfoldable pub place : List ℕ → PlaceForm → Stored → Result (Option (PerAxis ℤ)) FigureRefusal
place text form stored = place_from form stored 1 (lines_of text)

abbrev pub places_in : List ℕ → PlaceForm → Result StoredPlaces FigureRefusal
places_in text form =
    and_then (place text form places.G54) (λ g54.
    and_then (place text form places.G55) (λ g55.
    and_then (place text form places.G56) (λ g56.
    and_then (place text form places.G57) (λ g57.
    and_then (place text form places.G58) (λ g58.
    and_then (place text form places.G59) (λ g59.
    and_then (place text form places.G28) (λ g28.
    and_then (place text form places.G30) (λ g30.
    and_then (place text form places.G92) (λ g92.
    Ok (record {
      g54 = g54;
      g55 = g55;
      g56 = g56;
      g57 = g57;
      g58 = g58;
      g59 = g59;
      g28 = g28;
      g30 = g30;
      g92 = g92;
    }))))))))))
