-- A subcommand in accepted words has the values that it requires.
use Rattle.std.proofs.Common.{◌≡◌, ◌⊎◌, Bool, true, false, List, [], ◌∷◌, Option, Some, None, is_some, refl, inl, inr, subst, ap, length, sym, ◌∙◌, get_or}
use Rattle.std.proofs.Common.{if◌then◌else◌, codes, option_map, arith}
use Rattle.std.specs.Prelude.{find}
use Rattle.std.specs.List.{slice_index_or}
use Rattle.std.specs.Str.{bytes_eq}
use Rattle.std.specs.Option.{option_map_or}
use Rattle.std.proofs.lemmas.Option.{same_Some}
use Rattle.clap.specs.Words.{IsUnsignedIn, Row, Shape, Text, subcommand_of}
use Rattle.clap.specs.Faults.{entered_fault, level_fault}
use Rattle.clap.specs.Simple.{built, entered, label_of, names_of, new_shape, rows_at}
use Rattle.clap.specs.Walk.{answers_to, nothing_held, rows_after, stop_after}
use Rattle.ngc_command_line.specs.CommandLine.{ngc_app}
use Rattle.ngc_command_line.specs.CommandLine.{run_name}
use Rattle.ngc_command_line.specs.Meant.{HasAdaptValues, HasCertifyValues, HasCheckValues, HasDrawValues, HasExplainValues, HasLiveValues}
use Rattle.ngc_command_line.specs.Meant.{HasPlaceValues, HasReportValues, HasRunValues, HasShowValues}
use Rattle.ngc_command_line.specs.Meant.{IsTaken, IsWhole}
use Rattle.ngc_command_line.specs.declared.options.Recording.{Recording}
use Rattle.ngc_command_line.specs.declared.options.Recording.TheVariants.{Log, Pulses}
use Rattle.ngc_command_line.proofs.FoundValues.{AreSound}
use Rattle.ngc_command_line.proofs.Rules.{FitsCells, cells_fit}
use Rattle.ngc_command_line.proofs.Rules.{Fits, FitsCuts, FitsFormat, FitsMask, FitsNumber, append_is_sound, below_passes, cuts_fit, flag_is_sound, format_fits, found_fits}
use Rattle.ngc_command_line.proofs.Rules.{given_has_value, help_is_sound, is_true, level_is_filled, mask_fits, neither_true, number_fits, set_is_sound}

-- what was found are the rows of one of these, at words in which it finds no fault
abbrev IsOneOf : List Shape → Text × List Row → Type 0
IsOneOf [] found = ⊥
IsOneOf (s ∷ rest) found = ((words : List Text) × (rows_at s words ≡ found) × (level_fault s [] nothing_held words false [] ≡ [])) ⊎ IsOneOf rest found

one_found : (P : Shape → Bool) (xs : List Shape) (words : List Text) (found : Text × List Row) → option_map (λ s. rows_at s words) (find P xs) ≡ Some found
    → option_map_or (λ s. level_fault s [] nothing_held words false []) (find P xs) [] ≡ [] → IsOneOf xs found
one_found P [] words found is none = let bad : None ≡ Some found = is in cc
one_found P (x ∷ xs) words found is none = pick (P x) (one_found P xs words found) is none
  where
    pick : (b : Bool)
        → (option_map (λ s. rows_at s words) (find P xs) ≡ Some found → option_map_or (λ s. level_fault s [] nothing_held words false []) (find P xs) [] ≡ [] →
        IsOneOf xs found)
        → option_map (λ s. rows_at s words) (if b then Some x else find P xs) ≡ Some found
        → option_map_or (λ s. level_fault s [] nothing_held words false []) (if b then Some x else find P xs) [] ≡ [] → IsOneOf (x ∷ xs) found
    pick true after here passes = inl (words, same_Some _ _ here, passes)
    pick false after later passes = inr (after later passes)

entered_one : (xs : List Shape) (stop : Option (Text × List Text)) (found : Text × List Row) → entered (record (built ngc_app) { subs = xs }) stop ≡ Some found
    → entered_fault (record (built ngc_app) { subs = xs }) stop ≡ [] → IsOneOf xs found
entered_one xs None found is none = let bad : None ≡ Some found = is in cc
entered_one xs (Some p) found is none = one_found (λ s. answers_to p.0 (label_of s)) xs p.1 found is none

abbrev certify_shape : Shape
certify_shape = slice_index_or (built ngc_app).subs 1 (new_shape [])

abbrev check_shape : Shape
check_shape = slice_index_or (built ngc_app).subs 2 (new_shape [])

abbrev run_shape : Shape
run_shape = slice_index_or (built ngc_app).subs 3 (new_shape [])

abbrev pulses_shape : Shape
pulses_shape = slice_index_or (built ngc_app).subs 4 (new_shape [])

abbrev live_shape : Shape
live_shape = slice_index_or (built ngc_app).subs 5 (new_shape [])

abbrev draw_shape : Shape
draw_shape = slice_index_or (built ngc_app).subs 6 (new_shape [])

abbrev show_shape : Shape
show_shape = slice_index_or (built ngc_app).subs 7 (new_shape [])

abbrev report_shape : Shape
report_shape = slice_index_or (built ngc_app).subs 8 (new_shape [])

abbrev place_shape : Shape
place_shape = slice_index_or (built ngc_app).subs 9 (new_shape [])

abbrev adapt_shape : Shape
adapt_shape = slice_index_or (built ngc_app).subs 10 (new_shape [])

abbrev explain_shape : Shape
explain_shape = slice_index_or (built ngc_app).subs 12 (new_shape [])

explain_sound : AreSound FitsNumber explain_shape.rules
explain_sound =
    let number = set_is_sound FitsNumber _ refl refl refl (λ v none same. number_fits v none) in
    (number, (help_is_sound FitsNumber _ refl refl, tt))

-- under another name it is anything
other_fits : (name : Text) (P : Text → Type 0) (id text : Text) → bytes_eq id name ≡ false → Fits name P id text
other_fits name P id text differs same = let bad : false ≡ true = sym differs ∙ same in cc

no_cuts : (id text : Text) → bytes_eq id (codes "cuts") ≡ false → FitsCuts id text
no_cuts = other_fits (codes "cuts") (IsUnsignedIn 1 65535)

certify_sound : AreSound FitsCuts certify_shape.rules
certify_sound =
    let machine = set_is_sound FitsCuts _ refl refl refl (λ v none. no_cuts (codes "machine") v refl) in
    let tools = set_is_sound FitsCuts _ refl refl refl (λ v none. no_cuts (codes "tools") v refl) in
    let program = set_is_sound FitsCuts _ refl refl refl (λ v none. no_cuts (codes "program") v refl) in
    let cuts = set_is_sound FitsCuts _ refl refl refl (λ v none same. cuts_fit v none) in
    let format = set_is_sound FitsCuts _ refl refl refl (λ v none. no_cuts (codes "format") v refl) in
    let origin = append_is_sound FitsCuts _ refl refl refl (λ v. no_cuts (codes "origin") v refl) in
    let fixture = append_is_sound FitsCuts _ refl refl refl (λ v. no_cuts (codes "fixture") v refl) in
    let stock = set_is_sound FitsCuts _ refl refl refl (λ v none. no_cuts (codes "stock") v refl) in
    let margin = set_is_sound FitsCuts _ refl refl refl (λ v none. no_cuts (codes "margin") v refl) in
    let from_travel = set_is_sound FitsCuts _ refl refl refl (λ v none. no_cuts (codes "travel-margin") v refl) in
    let rapids = set_is_sound FitsCuts _ refl refl refl (λ v none. no_cuts (codes "rapids") v refl) in
    let dialect = set_is_sound FitsCuts _ refl refl refl (λ v none. no_cuts (codes "dialect") v refl) in
    (machine, (tools, (program, (cuts, (format, (origin, (fixture, (stock, (margin, (from_travel, (rapids, (dialect, (help_is_sound FitsCuts _ refl refl, tt)))))))))))))

no_format : (id text : Text) → bytes_eq id (codes "format") ≡ false → FitsFormat id text
no_format = other_fits (codes "format") (IsUnsignedIn 1 2)

certify_format_sound : AreSound FitsFormat certify_shape.rules
certify_format_sound =
    let machine = set_is_sound FitsFormat _ refl refl refl (λ v none. no_format (codes "machine") v refl) in
    let tools = set_is_sound FitsFormat _ refl refl refl (λ v none. no_format (codes "tools") v refl) in
    let program = set_is_sound FitsFormat _ refl refl refl (λ v none. no_format (codes "program") v refl) in
    let cuts = set_is_sound FitsFormat _ refl refl refl (λ v none. no_format (codes "cuts") v refl) in
    let format = set_is_sound FitsFormat _ refl refl refl (λ v none same. format_fits v none) in
    let origin = append_is_sound FitsFormat _ refl refl refl (λ v. no_format (codes "origin") v refl) in
    let fixture = append_is_sound FitsFormat _ refl refl refl (λ v. no_format (codes "fixture") v refl) in
    let stock = set_is_sound FitsFormat _ refl refl refl (λ v none. no_format (codes "stock") v refl) in
    let margin = set_is_sound FitsFormat _ refl refl refl (λ v none. no_format (codes "margin") v refl) in
    let from_travel = set_is_sound FitsFormat _ refl refl refl (λ v none. no_format (codes "travel-margin") v refl) in
    let rapids = set_is_sound FitsFormat _ refl refl refl (λ v none. no_format (codes "rapids") v refl) in
    let dialect = set_is_sound FitsFormat _ refl refl refl (λ v none. no_format (codes "dialect") v refl) in
    (machine, (tools, (program, (cuts, (format, (origin, (fixture, (stock, (margin, (from_travel, (rapids, (dialect, (help_is_sound FitsFormat _ refl refl, tt)))))))))))))

no_mask : (id text : Text) → bytes_eq id (codes "inverted") ≡ false → FitsMask id text
no_mask = other_fits (codes "inverted") (IsUnsignedIn 0 255)

check_sound : AreSound FitsCuts check_shape.rules
check_sound =
    let machine = set_is_sound FitsCuts _ refl refl refl (λ v none. no_cuts (codes "machine") v refl) in
    let tools = set_is_sound FitsCuts _ refl refl refl (λ v none. no_cuts (codes "tools") v refl) in
    let certificate = set_is_sound FitsCuts _ refl refl refl (λ v none. no_cuts (codes "certificate") v refl) in
    let program = set_is_sound FitsCuts _ refl refl refl (λ v none. no_cuts (codes "program") v refl) in
    let origin = append_is_sound FitsCuts _ refl refl refl (λ v. no_cuts (codes "origin") v refl) in
    let fixture = append_is_sound FitsCuts _ refl refl refl (λ v. no_cuts (codes "fixture") v refl) in
    let stock = set_is_sound FitsCuts _ refl refl refl (λ v none. no_cuts (codes "stock") v refl) in
    let margin = set_is_sound FitsCuts _ refl refl refl (λ v none. no_cuts (codes "margin") v refl) in
    let from_travel = set_is_sound FitsCuts _ refl refl refl (λ v none. no_cuts (codes "travel-margin") v refl) in
    let rapids = set_is_sound FitsCuts _ refl refl refl (λ v none. no_cuts (codes "rapids") v refl) in
    let dialect = set_is_sound FitsCuts _ refl refl refl (λ v none. no_cuts (codes "dialect") v refl) in
    (machine, (tools, (certificate, (program, (origin, (fixture, (stock, (margin, (from_travel, (rapids, (dialect, (help_is_sound FitsCuts _ refl refl, tt))))))))))))

run_sound : AreSound FitsMask run_shape.rules
run_sound =
    let machine = set_is_sound FitsMask _ refl refl refl (λ v none. no_mask (codes "machine") v refl) in
    let tools = set_is_sound FitsMask _ refl refl refl (λ v none. no_mask (codes "tools") v refl) in
    let certificate = set_is_sound FitsMask _ refl refl refl (λ v none. no_mask (codes "certificate") v refl) in
    let events = set_is_sound FitsMask _ refl refl refl (λ v none. no_mask (codes "events") v refl) in
    let program = set_is_sound FitsMask _ refl refl refl (λ v none. no_mask (codes "program") v refl) in
    let delete = flag_is_sound FitsMask _ (codes "true") (codes "false") refl refl refl (λ v. no_mask (codes "delete") v refl) in
    let output = set_is_sound FitsMask _ refl refl refl (λ v none. no_mask (codes "output") v refl) in
    let inverted = set_is_sound FitsMask _ refl refl refl (λ v none same. mask_fits v none) in
    let origin = append_is_sound FitsMask _ refl refl refl (λ v. no_mask (codes "origin") v refl) in
    let fixture = append_is_sound FitsMask _ refl refl refl (λ v. no_mask (codes "fixture") v refl) in
    let stock = set_is_sound FitsMask _ refl refl refl (λ v none. no_mask (codes "stock") v refl) in
    let margin = set_is_sound FitsMask _ refl refl refl (λ v none. no_mask (codes "margin") v refl) in
    let from_travel = set_is_sound FitsMask _ refl refl refl (λ v none. no_mask (codes "travel-margin") v refl) in
    let rapids = set_is_sound FitsMask _ refl refl refl (λ v none. no_mask (codes "rapids") v refl) in
    let dialect = set_is_sound FitsMask _ refl refl refl (λ v none. no_mask (codes "dialect") v refl) in
    (machine, (tools, (certificate, (events, (program, (delete, (output, (inverted, (origin, (fixture, (stock, (margin, (from_travel, (rapids, (dialect, (help_is_sound FitsMask _ refl refl, tt))))))))))))))))

certify_values : (words : List Text) → level_fault certify_shape [] nothing_held words false [] ≡ [] →
    HasCertifyValues (rows_after certify_shape.rules [] words)
certify_values words none =
    let rows = rows_after certify_shape.rules [] words in
    let (filled, required) = level_is_filled FitsCuts certify_shape certify_sound words none in
    let (machine, others) = neither_true _ _ required in
    let (tools, rest) = neither_true _ _ others in (
      given_has_value FitsCuts (codes "machine") rows filled (is_true _ machine),
      given_has_value FitsCuts (codes "tools") rows filled (is_true _ tools),
      found_fits (codes "cuts") (IsUnsignedIn 1 65535) rows filled,
      found_fits (codes "format") (IsUnsignedIn 1 2) rows (level_is_filled FitsFormat certify_shape certify_format_sound words none).0,
    )

check_values : (words : List Text) → level_fault check_shape [] nothing_held words false [] ≡ [] → HasCheckValues (rows_after check_shape.rules [] words)
check_values words none =
    let rows = rows_after check_shape.rules [] words in
    let (filled, required) = level_is_filled FitsCuts check_shape check_sound words none in
    let (machine, others) = neither_true _ _ required in
    let (tools, more) = neither_true _ _ others in
    let (certificate, rest) = neither_true _ _ more in (
      given_has_value FitsCuts (codes "machine") rows filled (is_true _ machine),
      given_has_value FitsCuts (codes "tools") rows filled (is_true _ tools),
      given_has_value FitsCuts (codes "certificate") rows filled (is_true _ certificate),
    )

run_values : (words : List Text) → level_fault run_shape [] nothing_held words false [] ≡ [] → HasRunValues (rows_after run_shape.rules [] words)
run_values words none =
    let rows = rows_after run_shape.rules [] words in
    let (filled, required) = level_is_filled FitsMask run_shape run_sound words none in
    let (machine, others) = neither_true _ _ required in
    let (tools, more) = neither_true _ _ others in
    let (certificate, rest) = neither_true _ _ more in (
      given_has_value FitsMask (codes "machine") rows filled (is_true _ machine),
      given_has_value FitsMask (codes "tools") rows filled (is_true _ tools),
      given_has_value FitsMask (codes "certificate") rows filled (is_true _ certificate),
      found_fits (codes "inverted") (IsUnsignedIn 0 255) rows filled,
    )

pulses_values : (words : List Text) → level_fault pulses_shape [] nothing_held words false [] ≡ [] → HasRunValues (rows_after pulses_shape.rules [] words)
pulses_values words none =
    let rows = rows_after pulses_shape.rules [] words in
    let (filled, required) = level_is_filled FitsMask pulses_shape run_sound words none in
    let (machine, others) = neither_true _ _ required in
    let (tools, more) = neither_true _ _ others in
    let (certificate, rest) = neither_true _ _ more in (
      given_has_value FitsMask (codes "machine") rows filled (is_true _ machine),
      given_has_value FitsMask (codes "tools") rows filled (is_true _ tools),
      given_has_value FitsMask (codes "certificate") rows filled (is_true _ certificate),
      found_fits (codes "inverted") (IsUnsignedIn 0 255) rows filled,
    )

live_sound : AreSound FitsMask live_shape.rules
live_sound =
    let machine = set_is_sound FitsMask _ refl refl refl (λ v none. no_mask (codes "machine") v refl) in
    let tools = set_is_sound FitsMask _ refl refl refl (λ v none. no_mask (codes "tools") v refl) in
    let certificate = set_is_sound FitsMask _ refl refl refl (λ v none. no_mask (codes "certificate") v refl) in
    let program = set_is_sound FitsMask _ refl refl refl (λ v none. no_mask (codes "program") v refl) in
    let delete = flag_is_sound FitsMask _ (codes "true") (codes "false") refl refl refl (λ v. no_mask (codes "delete") v refl) in
    let output = set_is_sound FitsMask _ refl refl refl (λ v none. no_mask (codes "output") v refl) in
    let inverted = set_is_sound FitsMask _ refl refl refl (λ v none same. mask_fits v none) in
    let feeds = flag_is_sound FitsMask _ (codes "true") (codes "false") refl refl refl (λ v. no_mask (codes "feed-ring") v refl) in
    let aborts = flag_is_sound FitsMask _ (codes "true") (codes "false") refl refl refl (λ v. no_mask (codes "abort") v refl) in
    let origin = append_is_sound FitsMask _ refl refl refl (λ v. no_mask (codes "origin") v refl) in
    let fixture = append_is_sound FitsMask _ refl refl refl (λ v. no_mask (codes "fixture") v refl) in
    let stock = set_is_sound FitsMask _ refl refl refl (λ v none. no_mask (codes "stock") v refl) in
    let margin = set_is_sound FitsMask _ refl refl refl (λ v none. no_mask (codes "margin") v refl) in
    let from_travel = set_is_sound FitsMask _ refl refl refl (λ v none. no_mask (codes "travel-margin") v refl) in
    let rapids = set_is_sound FitsMask _ refl refl refl (λ v none. no_mask (codes "rapids") v refl) in
    let dialect = set_is_sound FitsMask _ refl refl refl (λ v none. no_mask (codes "dialect") v refl) in
    (machine, (tools, (certificate, (program, (delete, (output, (inverted, (feeds, (aborts, (origin, (fixture, (stock, (margin, (from_travel, (rapids, (dialect, (help_is_sound FitsMask _ refl refl, tt)))))))))))))))))

live_values : (words : List Text) → level_fault live_shape [] nothing_held words false [] ≡ [] → HasLiveValues (rows_after live_shape.rules [] words)
live_values words none =
    let rows = rows_after live_shape.rules [] words in
    let (filled, required) = level_is_filled FitsMask live_shape live_sound words none in
    let (machine, others) = neither_true _ _ required in
    let (tools, more) = neither_true _ _ others in
    let (certificate, further) = neither_true _ _ more in
    let (program, rest) = neither_true _ _ further in (
      given_has_value FitsMask (codes "machine") rows filled (is_true _ machine),
      given_has_value FitsMask (codes "tools") rows filled (is_true _ tools),
      given_has_value FitsMask (codes "certificate") rows filled (is_true _ certificate),
      given_has_value FitsMask (codes "program") rows filled (is_true _ program),
      found_fits (codes "inverted") (IsUnsignedIn 0 255) rows filled,
    )

no_cells : (id text : Text) → bytes_eq id (codes "cells") ≡ false → FitsCells id text
no_cells = other_fits (codes "cells") (IsUnsignedIn 1 4000000)

draw_sound : AreSound FitsCuts draw_shape.rules
draw_sound =
    let machine = set_is_sound FitsCuts _ refl refl refl (λ v none. no_cuts (codes "machine") v refl) in
    let tools = set_is_sound FitsCuts _ refl refl refl (λ v none. no_cuts (codes "tools") v refl) in
    let certificate = set_is_sound FitsCuts _ refl refl refl (λ v none. no_cuts (codes "certificate") v refl) in
    let program = set_is_sound FitsCuts _ refl refl refl (λ v none. no_cuts (codes "program") v refl) in
    let view = set_is_sound FitsCuts _ refl refl refl (λ v none. no_cuts (codes "view") v refl) in
    let delete = flag_is_sound FitsCuts _ (codes "true") (codes "false") refl refl refl (λ v. no_cuts (codes "delete") v refl) in
    let bodies = flag_is_sound FitsCuts _ (codes "true") (codes "false") refl refl refl (λ v. no_cuts (codes "bodies") v refl) in
    let whole = flag_is_sound FitsCuts _ (codes "true") (codes "false") refl refl refl (λ v. no_cuts (codes "whole") v refl) in
    let map = flag_is_sound FitsCuts _ (codes "true") (codes "false") refl refl refl (λ v. no_cuts (codes "map") v refl) in
    let origin = append_is_sound FitsCuts _ refl refl refl (λ v. no_cuts (codes "origin") v refl) in
    let fixture = append_is_sound FitsCuts _ refl refl refl (λ v. no_cuts (codes "fixture") v refl) in
    let stock = set_is_sound FitsCuts _ refl refl refl (λ v none. no_cuts (codes "stock") v refl) in
    let cells = set_is_sound FitsCuts _ refl refl refl (λ v none. no_cuts (codes "cells") v refl) in
    let margin = set_is_sound FitsCuts _ refl refl refl (λ v none. no_cuts (codes "margin") v refl) in
    let from_travel = set_is_sound FitsCuts _ refl refl refl (λ v none. no_cuts (codes "travel-margin") v refl) in
    let rapids = set_is_sound FitsCuts _ refl refl refl (λ v none. no_cuts (codes "rapids") v refl) in
    let dialect = set_is_sound FitsCuts _ refl refl refl (λ v none. no_cuts (codes "dialect") v refl) in
    (machine, (tools, (certificate, (program, (view, (delete, (bodies, (whole, (map, (origin, (fixture, (stock, (cells, (margin, (from_travel, (rapids, (dialect, (help_is_sound FitsCuts _ refl refl, tt))))))))))))))))))

draw_cells_sound : AreSound FitsCells draw_shape.rules
draw_cells_sound =
    let machine = set_is_sound FitsCells _ refl refl refl (λ v none. no_cells (codes "machine") v refl) in
    let tools = set_is_sound FitsCells _ refl refl refl (λ v none. no_cells (codes "tools") v refl) in
    let certificate = set_is_sound FitsCells _ refl refl refl (λ v none. no_cells (codes "certificate") v refl) in
    let program = set_is_sound FitsCells _ refl refl refl (λ v none. no_cells (codes "program") v refl) in
    let view = set_is_sound FitsCells _ refl refl refl (λ v none. no_cells (codes "view") v refl) in
    let delete = flag_is_sound FitsCells _ (codes "true") (codes "false") refl refl refl (λ v. no_cells (codes "delete") v refl) in
    let bodies = flag_is_sound FitsCells _ (codes "true") (codes "false") refl refl refl (λ v. no_cells (codes "bodies") v refl) in
    let whole = flag_is_sound FitsCells _ (codes "true") (codes "false") refl refl refl (λ v. no_cells (codes "whole") v refl) in
    let map = flag_is_sound FitsCells _ (codes "true") (codes "false") refl refl refl (λ v. no_cells (codes "map") v refl) in
    let origin = append_is_sound FitsCells _ refl refl refl (λ v. no_cells (codes "origin") v refl) in
    let fixture = append_is_sound FitsCells _ refl refl refl (λ v. no_cells (codes "fixture") v refl) in
    let stock = set_is_sound FitsCells _ refl refl refl (λ v none. no_cells (codes "stock") v refl) in
    let cells = set_is_sound FitsCells _ refl refl refl (λ v none same. cells_fit v none) in
    let margin = set_is_sound FitsCells _ refl refl refl (λ v none. no_cells (codes "margin") v refl) in
    let from_travel = set_is_sound FitsCells _ refl refl refl (λ v none. no_cells (codes "travel-margin") v refl) in
    let rapids = set_is_sound FitsCells _ refl refl refl (λ v none. no_cells (codes "rapids") v refl) in
    let dialect = set_is_sound FitsCells _ refl refl refl (λ v none. no_cells (codes "dialect") v refl) in
    (machine, (tools, (certificate, (program, (view, (delete, (bodies, (whole, (map, (origin, (fixture, (stock, (cells, (margin, (from_travel, (rapids, (dialect, (help_is_sound FitsCells _ refl refl, tt))))))))))))))))))

draw_values : (words : List Text) → level_fault draw_shape [] nothing_held words false [] ≡ [] → HasDrawValues (rows_after draw_shape.rules [] words)
draw_values words none =
    let rows = rows_after draw_shape.rules [] words in
    let (filled, required) = level_is_filled FitsCuts draw_shape draw_sound words none in
    let (machine, others) = neither_true _ _ required in
    let (tools, rest) = neither_true _ _ others in (
      given_has_value FitsCuts (codes "machine") rows filled (is_true _ machine),
      given_has_value FitsCuts (codes "tools") rows filled (is_true _ tools),
      found_fits (codes "cells") (IsUnsignedIn 1 4000000) rows (level_is_filled FitsCells draw_shape draw_cells_sound words none).0,
    )

show_sound : AreSound FitsCuts show_shape.rules
show_sound =
    let machine = set_is_sound FitsCuts _ refl refl refl (λ v none. no_cuts (codes "machine") v refl) in
    let tools = set_is_sound FitsCuts _ refl refl refl (λ v none. no_cuts (codes "tools") v refl) in
    let warnings = flag_is_sound FitsCuts _ (codes "true") (codes "false") refl refl refl (λ v. no_cuts (codes "warnings") v refl) in
    (machine, (tools, (warnings, (help_is_sound FitsCuts _ refl refl, tt))))

show_values : (words : List Text) → level_fault show_shape [] nothing_held words false [] ≡ [] → HasShowValues (rows_after show_shape.rules [] words)
show_values words none =
    let rows = rows_after show_shape.rules [] words in
    let (filled, required) = level_is_filled FitsCuts show_shape show_sound words none in
    let (machine, rest) = neither_true _ _ required in
    given_has_value FitsCuts (codes "machine") rows filled (is_true _ machine)

report_sound : AreSound FitsCuts report_shape.rules
report_sound =
    let machine = set_is_sound FitsCuts _ refl refl refl (λ v none. no_cuts (codes "machine") v refl) in
    let tools = set_is_sound FitsCuts _ refl refl refl (λ v none. no_cuts (codes "tools") v refl) in
    let program = set_is_sound FitsCuts _ refl refl refl (λ v none. no_cuts (codes "program") v refl) in
    let cuts = set_is_sound FitsCuts _ refl refl refl (λ v none same. cuts_fit v none) in
    let all = flag_is_sound FitsCuts _ (codes "true") (codes "false") refl refl refl (λ v. no_cuts (codes "all") v refl) in
    let json = flag_is_sound FitsCuts _ (codes "true") (codes "false") refl refl refl (λ v. no_cuts (codes "json") v refl) in
    let origin = append_is_sound FitsCuts _ refl refl refl (λ v. no_cuts (codes "origin") v refl) in
    let fixture = append_is_sound FitsCuts _ refl refl refl (λ v. no_cuts (codes "fixture") v refl) in
    let stock = set_is_sound FitsCuts _ refl refl refl (λ v none. no_cuts (codes "stock") v refl) in
    let cells = set_is_sound FitsCuts _ refl refl refl (λ v none. no_cuts (codes "cells") v refl) in
    let margin = set_is_sound FitsCuts _ refl refl refl (λ v none. no_cuts (codes "margin") v refl) in
    let from_travel = set_is_sound FitsCuts _ refl refl refl (λ v none. no_cuts (codes "travel-margin") v refl) in
    let rapids = set_is_sound FitsCuts _ refl refl refl (λ v none. no_cuts (codes "rapids") v refl) in
    let dialect = set_is_sound FitsCuts _ refl refl refl (λ v none. no_cuts (codes "dialect") v refl) in
    (machine, (tools, (program, (cuts, (all, (json, (origin, (fixture, (stock, (cells, (margin, (from_travel, (rapids, (dialect, (help_is_sound FitsCuts _ refl refl, tt)))))))))))))))

report_cells_sound : AreSound FitsCells report_shape.rules
report_cells_sound =
    let machine = set_is_sound FitsCells _ refl refl refl (λ v none. no_cells (codes "machine") v refl) in
    let tools = set_is_sound FitsCells _ refl refl refl (λ v none. no_cells (codes "tools") v refl) in
    let program = set_is_sound FitsCells _ refl refl refl (λ v none. no_cells (codes "program") v refl) in
    let cuts = set_is_sound FitsCells _ refl refl refl (λ v none. no_cells (codes "cuts") v refl) in
    let all = flag_is_sound FitsCells _ (codes "true") (codes "false") refl refl refl (λ v. no_cells (codes "all") v refl) in
    let json = flag_is_sound FitsCells _ (codes "true") (codes "false") refl refl refl (λ v. no_cells (codes "json") v refl) in
    let origin = append_is_sound FitsCells _ refl refl refl (λ v. no_cells (codes "origin") v refl) in
    let fixture = append_is_sound FitsCells _ refl refl refl (λ v. no_cells (codes "fixture") v refl) in
    let stock = set_is_sound FitsCells _ refl refl refl (λ v none. no_cells (codes "stock") v refl) in
    let cells = set_is_sound FitsCells _ refl refl refl (λ v none same. cells_fit v none) in
    let margin = set_is_sound FitsCells _ refl refl refl (λ v none. no_cells (codes "margin") v refl) in
    let from_travel = set_is_sound FitsCells _ refl refl refl (λ v none. no_cells (codes "travel-margin") v refl) in
    let rapids = set_is_sound FitsCells _ refl refl refl (λ v none. no_cells (codes "rapids") v refl) in
    let dialect = set_is_sound FitsCells _ refl refl refl (λ v none. no_cells (codes "dialect") v refl) in
    (machine, (tools, (program, (cuts, (all, (json, (origin, (fixture, (stock, (cells, (margin, (from_travel, (rapids, (dialect, (help_is_sound FitsCells _ refl refl, tt)))))))))))))))

report_values : (words : List Text) → level_fault report_shape [] nothing_held words false [] ≡ [] → HasReportValues (rows_after report_shape.rules [] words)
report_values words none =
    let rows = rows_after report_shape.rules [] words in
    let (filled, required) = level_is_filled FitsCuts report_shape report_sound words none in
    let (machine, others) = neither_true _ _ required in
    let (tools, rest) = neither_true _ _ others in (
      given_has_value FitsCuts (codes "machine") rows filled (is_true _ machine),
      given_has_value FitsCuts (codes "tools") rows filled (is_true _ tools),
      found_fits (codes "cuts") (IsUnsignedIn 1 65535) rows filled,
      found_fits (codes "cells") (IsUnsignedIn 1 4000000) rows (level_is_filled FitsCells report_shape report_cells_sound words none).0,
    )

place_sound : AreSound FitsCuts place_shape.rules
place_sound =
    let machine = set_is_sound FitsCuts _ refl refl refl (λ v none. no_cuts (codes "machine") v refl) in
    let tools = set_is_sound FitsCuts _ refl refl refl (λ v none. no_cuts (codes "tools") v refl) in
    let program = set_is_sound FitsCuts _ refl refl refl (λ v none. no_cuts (codes "program") v refl) in
    let system = set_is_sound FitsCuts _ refl refl refl (λ v none. no_cuts (codes "system") v refl) in
    let cuts = set_is_sound FitsCuts _ refl refl refl (λ v none same. cuts_fit v none) in
    let json = flag_is_sound FitsCuts _ (codes "true") (codes "false") refl refl refl (λ v. no_cuts (codes "json") v refl) in
    let origin = append_is_sound FitsCuts _ refl refl refl (λ v. no_cuts (codes "origin") v refl) in
    let fixture = append_is_sound FitsCuts _ refl refl refl (λ v. no_cuts (codes "fixture") v refl) in
    let stock = set_is_sound FitsCuts _ refl refl refl (λ v none. no_cuts (codes "stock") v refl) in
    let margin = set_is_sound FitsCuts _ refl refl refl (λ v none. no_cuts (codes "margin") v refl) in
    let from_travel = set_is_sound FitsCuts _ refl refl refl (λ v none. no_cuts (codes "travel-margin") v refl) in
    let rapids = set_is_sound FitsCuts _ refl refl refl (λ v none. no_cuts (codes "rapids") v refl) in
    let dialect = set_is_sound FitsCuts _ refl refl refl (λ v none. no_cuts (codes "dialect") v refl) in
    (machine, (tools, (program, (system, (cuts, (json, (origin, (fixture, (stock, (margin, (from_travel, (rapids, (dialect, (help_is_sound FitsCuts _ refl refl, tt))))))))))))))

place_values : (words : List Text) → level_fault place_shape [] nothing_held words false [] ≡ [] → HasPlaceValues (rows_after place_shape.rules [] words)
place_values words none =
    let rows = rows_after place_shape.rules [] words in
    let (filled, required) = level_is_filled FitsCuts place_shape place_sound words none in
    let (machine, others) = neither_true _ _ required in
    let (tools, rest) = neither_true _ _ others in (
      given_has_value FitsCuts (codes "machine") rows filled (is_true _ machine),
      given_has_value FitsCuts (codes "tools") rows filled (is_true _ tools),
      found_fits (codes "cuts") (IsUnsignedIn 1 65535) rows filled,
    )

adapt_sound : AreSound FitsCuts adapt_shape.rules
adapt_sound =
    let from = set_is_sound FitsCuts _ refl refl refl (λ v none. no_cuts (codes "from") v refl) in
    let machine = set_is_sound FitsCuts _ refl refl refl (λ v none. no_cuts (codes "machine") v refl) in
    let tools = set_is_sound FitsCuts _ refl refl refl (λ v none. no_cuts (codes "tools") v refl) in
    let program = set_is_sound FitsCuts _ refl refl refl (λ v none. no_cuts (codes "program") v refl) in
    let delete = flag_is_sound FitsCuts _ (codes "true") (codes "false") refl refl refl (λ v. no_cuts (codes "delete") v refl) in
    (from, (machine, (tools, (program, (delete, (help_is_sound FitsCuts _ refl refl, tt))))))

adapt_values : (words : List Text) → level_fault adapt_shape [] nothing_held words false [] ≡ [] → HasAdaptValues (rows_after adapt_shape.rules [] words)
adapt_values words none =
    let rows = rows_after adapt_shape.rules [] words in
    let (filled, required) = level_is_filled FitsCuts adapt_shape adapt_sound words none in
    let (from, rest) = neither_true _ _ required in
    given_has_value FitsCuts (codes "from") rows filled (is_true _ from)

explain_values : (words : List Text) → level_fault explain_shape [] nothing_held words false [] ≡ [] →
    HasExplainValues (rows_after explain_shape.rules [] words)
explain_values words none =
    let rows = rows_after explain_shape.rules [] words in
    let (filled, required) = level_is_filled FitsNumber explain_shape explain_sound words none in
    let (number, rest) = neither_true _ _ required in
    (given_has_value FitsNumber (codes "number") rows filled (is_true _ number), found_fits (codes "number") (IsUnsignedIn 1 999) rows filled)

-- names that begin otherwise are other names
pub other_letter : {X : Type 0} (a b : Text) → a ≡ b → (get_or a 0 0 ≡ get_or b 0 0 → ⊥) → X
other_letter a b same differ = absurd (differ (ap (λ name. get_or name 0 0) same))

-- names of other lengths are other names
pub other_name : {X : Type 0} (a b : Text) → a ≡ b → (length a ≡ length b → ⊥) → X
other_name a b same differ = absurd (differ (ap length same))

-- names that differ in their third letter are other names
pub other_third : {X : Type 0} (a b : Text) → a ≡ b → (get_or a 2 0 ≡ get_or b 2 0 → ⊥) → X
other_third a b same differ = absurd (differ (ap (λ name. get_or name 2 0) same))

-- names that aren't as long as `run` and `pulses`
pub no_run : {X : Type 0} (a : Text) (recording : Recording) → a ≡ run_name recording → (length a ≡ 3 → ⊥) → (length a ≡ 6 → ⊥) → X
no_run a Log same three six = absurd (three (ap length same))
no_run a Pulses same three six = absurd (six (ap length same))

-- `report` is neither `run` nor `pulses`
pub report_is_no_run : {X : Type 0} (recording : Recording) → codes "report" ≡ run_name recording → X
report_is_no_run Log same = other_name (codes "report") (codes "run") same (λ lengths. omega (arith, lengths))
report_is_no_run Pulses same = other_letter (codes "report") (codes "pulses") same (λ letters. omega (arith, letters))

one_whole : (found : Text × List Row) → IsOneOf (built ngc_app).subs found → IsWhole found.0 found.1
one_whole found one = elim one [
  | inl list ↦ subst (λ (f : Text × List Row). IsWhole f.0 f.1) list.1 (record {
    named = inl refl;
    certify = λ same. other_name (codes "list") (codes "certify") same (λ lengths. omega (arith, lengths));
    check = λ same. other_name (codes "list") (codes "check") same (λ lengths. omega (arith, lengths));
    run = λ recording same. no_run (codes "list") recording same (λ three. omega (arith, three)) (λ six. omega (arith, six));
    live = λ same. other_third (codes "list") (codes "live") same (λ thirds. omega (arith, thirds));
    draw = λ same. other_letter (codes "list") (codes "draw") same (λ letters. omega (arith, letters));
    show = λ same. other_letter (codes "list") (codes "show") same (λ letters. omega (arith, letters));
    report = λ same. other_name (codes "list") (codes "report") same (λ lengths. omega (arith, lengths));
    place = λ same. other_name (codes "list") (codes "place") same (λ lengths. omega (arith, lengths));
    adapt = λ same. other_letter (codes "list") (codes "adapt") same (λ letters. omega (arith, letters));
    explain = λ same. other_name (codes "list") (codes "explain") same (λ lengths. omega (arith, lengths));
  })
  | inr (inl certify) ↦ subst (λ (f : Text × List Row). IsWhole f.0 f.1) certify.1 (record {
    named = inr (inl refl);
    certify = λ same. certify_values certify.0 certify.2;
    check = λ same. other_name (codes "certify") (codes "check") same (λ lengths. omega (arith, lengths));
    run = λ recording same. no_run (codes "certify") recording same (λ three. omega (arith, three)) (λ six. omega (arith, six));
    live = λ same. other_letter (codes "certify") (codes "live") same (λ letters. omega (arith, letters));
    draw = λ same. other_name (codes "certify") (codes "draw") same (λ lengths. omega (arith, lengths));
    show = λ same. other_letter (codes "certify") (codes "show") same (λ letters. omega (arith, letters));
    report = λ same. other_name (codes "certify") (codes "report") same (λ lengths. omega (arith, lengths));
    place = λ same. other_name (codes "certify") (codes "place") same (λ lengths. omega (arith, lengths));
    adapt = λ same. other_letter (codes "certify") (codes "adapt") same (λ letters. omega (arith, letters));
    explain = λ same. other_letter (codes "certify") (codes "explain") same (λ letters. omega (arith, letters));
  })
  | inr (inr (inl check)) ↦ subst (λ (f : Text × List Row). IsWhole f.0 f.1) check.1 (record {
    named = inr (inr (inl refl));
    certify = λ same. other_name (codes "check") (codes "certify") same (λ lengths. omega (arith, lengths));
    check = λ same. check_values check.0 check.2;
    run = λ recording same. no_run (codes "check") recording same (λ three. omega (arith, three)) (λ six. omega (arith, six));
    live = λ same. other_letter (codes "check") (codes "live") same (λ letters. omega (arith, letters));
    draw = λ same. other_name (codes "check") (codes "draw") same (λ lengths. omega (arith, lengths));
    show = λ same. other_letter (codes "check") (codes "show") same (λ letters. omega (arith, letters));
    report = λ same. other_name (codes "check") (codes "report") same (λ lengths. omega (arith, lengths));
    place = λ same. other_letter (codes "check") (codes "place") same (λ letters. omega (arith, letters));
    adapt = λ same. other_letter (codes "check") (codes "adapt") same (λ letters. omega (arith, letters));
    explain = λ same. other_name (codes "check") (codes "explain") same (λ lengths. omega (arith, lengths));
  })
  | inr (inr (inr (inl run))) ↦ subst (λ (f : Text × List Row). IsWhole f.0 f.1) run.1 (record {
    named = inr (inr (inr (inl refl)));
    certify = λ same. other_name (codes "run") (codes "certify") same (λ lengths. omega (arith, lengths));
    check = λ same. other_name (codes "run") (codes "check") same (λ lengths. omega (arith, lengths));
    run = λ recording same. run_values run.0 run.2;
    live = λ same. other_letter (codes "run") (codes "live") same (λ letters. omega (arith, letters));
    draw = λ same. other_name (codes "run") (codes "draw") same (λ lengths. omega (arith, lengths));
    show = λ same. other_letter (codes "run") (codes "show") same (λ letters. omega (arith, letters));
    report = λ same. other_name (codes "run") (codes "report") same (λ lengths. omega (arith, lengths));
    place = λ same. other_name (codes "run") (codes "place") same (λ lengths. omega (arith, lengths));
    adapt = λ same. other_letter (codes "run") (codes "adapt") same (λ letters. omega (arith, letters));
    explain = λ same. other_name (codes "run") (codes "explain") same (λ lengths. omega (arith, lengths));
  })
  | inr (inr (inr (inr (inl pulses)))) ↦ subst (λ (f : Text × List Row). IsWhole f.0 f.1) pulses.1 (record {
    named = inr (inr (inr (inr (inl refl))));
    certify = λ same. other_name (codes "pulses") (codes "certify") same (λ lengths. omega (arith, lengths));
    check = λ same. other_name (codes "pulses") (codes "check") same (λ lengths. omega (arith, lengths));
    run = λ recording same. pulses_values pulses.0 pulses.2;
    live = λ same. other_letter (codes "pulses") (codes "live") same (λ letters. omega (arith, letters));
    draw = λ same. other_name (codes "pulses") (codes "draw") same (λ lengths. omega (arith, lengths));
    show = λ same. other_letter (codes "pulses") (codes "show") same (λ letters. omega (arith, letters));
    report = λ same. other_letter (codes "pulses") (codes "report") same (λ letters. omega (arith, letters));
    place = λ same. other_name (codes "pulses") (codes "place") same (λ lengths. omega (arith, lengths));
    adapt = λ same. other_letter (codes "pulses") (codes "adapt") same (λ letters. omega (arith, letters));
    explain = λ same. other_name (codes "pulses") (codes "explain") same (λ lengths. omega (arith, lengths));
  })
  | inr (inr (inr (inr (inr (inl live))))) ↦ subst (λ (f : Text × List Row). IsWhole f.0 f.1) live.1 (record {
    named = inr (inr (inr (inr (inr (inl refl)))));
    certify = λ same. other_letter (codes "live") (codes "certify") same (λ letters. omega (arith, letters));
    check = λ same. other_letter (codes "live") (codes "check") same (λ letters. omega (arith, letters));
    run = λ recording same. no_run (codes "live") recording same (λ three. omega (arith, three)) (λ six. omega (arith, six));
    live = λ same. live_values live.0 live.2;
    draw = λ same. other_letter (codes "live") (codes "draw") same (λ letters. omega (arith, letters));
    show = λ same. other_letter (codes "live") (codes "show") same (λ letters. omega (arith, letters));
    report = λ same. other_letter (codes "live") (codes "report") same (λ letters. omega (arith, letters));
    place = λ same. other_name (codes "live") (codes "place") same (λ lengths. omega (arith, lengths));
    adapt = λ same. other_letter (codes "live") (codes "adapt") same (λ letters. omega (arith, letters));
    explain = λ same. other_letter (codes "live") (codes "explain") same (λ letters. omega (arith, letters));
  })
  | inr (inr (inr (inr (inr (inr (inl draw)))))) ↦ subst (λ (f : Text × List Row). IsWhole f.0 f.1) draw.1 (record {
    named = inr (inr (inr (inr (inr (inr (inl refl))))));
    certify = λ same. other_name (codes "draw") (codes "certify") same (λ lengths. omega (arith, lengths));
    check = λ same. other_name (codes "draw") (codes "check") same (λ lengths. omega (arith, lengths));
    run = λ recording same. no_run (codes "draw") recording same (λ three. omega (arith, three)) (λ six. omega (arith, six));
    live = λ same. other_letter (codes "draw") (codes "live") same (λ letters. omega (arith, letters));
    draw = λ same. draw_values draw.0 draw.2;
    show = λ same. other_letter (codes "draw") (codes "show") same (λ letters. omega (arith, letters));
    report = λ same. other_name (codes "draw") (codes "report") same (λ lengths. omega (arith, lengths));
    place = λ same. other_name (codes "draw") (codes "place") same (λ lengths. omega (arith, lengths));
    adapt = λ same. other_letter (codes "draw") (codes "adapt") same (λ letters. omega (arith, letters));
    explain = λ same. other_name (codes "draw") (codes "explain") same (λ lengths. omega (arith, lengths));
  })
  | inr (inr (inr (inr (inr (inr (inr (inl show))))))) ↦ subst (λ (f : Text × List Row). IsWhole f.0 f.1) show.1 (record {
    named = inr (inr (inr (inr (inr (inr (inr (inl refl)))))));
    certify = λ same. other_letter (codes "show") (codes "certify") same (λ letters. omega (arith, letters));
    check = λ same. other_letter (codes "show") (codes "check") same (λ letters. omega (arith, letters));
    run = λ recording same. no_run (codes "show") recording same (λ three. omega (arith, three)) (λ six. omega (arith, six));
    live = λ same. other_letter (codes "show") (codes "live") same (λ letters. omega (arith, letters));
    draw = λ same. other_letter (codes "show") (codes "draw") same (λ letters. omega (arith, letters));
    show = λ same. show_values show.0 show.2;
    report = λ same. other_name (codes "show") (codes "report") same (λ lengths. omega (arith, lengths));
    place = λ same. other_name (codes "show") (codes "place") same (λ lengths. omega (arith, lengths));
    adapt = λ same. other_letter (codes "show") (codes "adapt") same (λ letters. omega (arith, letters));
    explain = λ same. other_letter (codes "show") (codes "explain") same (λ letters. omega (arith, letters));
  })
  | inr (inr (inr (inr (inr (inr (inr (inr (inl report)))))))) ↦ subst (λ (f : Text × List Row). IsWhole f.0 f.1) report.1 (record {
    named = inr (inr (inr (inr (inr (inr (inr (inr (inl refl))))))));
    certify = λ same. other_name (codes "report") (codes "certify") same (λ lengths. omega (arith, lengths));
    check = λ same. other_name (codes "report") (codes "check") same (λ lengths. omega (arith, lengths));
    run = λ recording same. report_is_no_run recording same;
    live = λ same. other_letter (codes "report") (codes "live") same (λ letters. omega (arith, letters));
    draw = λ same. other_name (codes "report") (codes "draw") same (λ lengths. omega (arith, lengths));
    show = λ same. other_name (codes "report") (codes "show") same (λ lengths. omega (arith, lengths));
    report = λ same. report_values report.0 report.2;
    place = λ same. other_name (codes "report") (codes "place") same (λ lengths. omega (arith, lengths));
    adapt = λ same. other_letter (codes "report") (codes "adapt") same (λ letters. omega (arith, letters));
    explain = λ same. other_name (codes "report") (codes "explain") same (λ lengths. omega (arith, lengths));
  })
  | inr (inr (inr (inr (inr (inr (inr (inr (inr (inl place))))))))) ↦ subst (λ (f : Text × List Row). IsWhole f.0 f.1) place.1 (record {
    named = inr (inr (inr (inr (inr (inr (inr (inr (inr (inl refl)))))))));
    certify = λ same. other_name (codes "place") (codes "certify") same (λ lengths. omega (arith, lengths));
    check = λ same. other_letter (codes "place") (codes "check") same (λ letters. omega (arith, letters));
    run = λ recording same. no_run (codes "place") recording same (λ three. omega (arith, three)) (λ six. omega (arith, six));
    live = λ same. other_name (codes "place") (codes "live") same (λ lengths. omega (arith, lengths));
    draw = λ same. other_name (codes "place") (codes "draw") same (λ lengths. omega (arith, lengths));
    show = λ same. other_name (codes "place") (codes "show") same (λ lengths. omega (arith, lengths));
    report = λ same. other_name (codes "place") (codes "report") same (λ lengths. omega (arith, lengths));
    place = λ same. place_values place.0 place.2;
    adapt = λ same. other_letter (codes "place") (codes "adapt") same (λ letters. omega (arith, letters));
    explain = λ same. other_name (codes "place") (codes "explain") same (λ lengths. omega (arith, lengths));
  })
  | inr (inr (inr (inr (inr (inr (inr (inr (inr (inr (inl adapt)))))))))) ↦ subst (λ (f : Text × List Row). IsWhole f.0 f.1) adapt.1 (record {
    named = inr (inr (inr (inr (inr (inr (inr (inr (inr (inr (inl refl))))))))));
    certify = λ same. other_letter (codes "adapt") (codes "certify") same (λ letters. omega (arith, letters));
    check = λ same. other_letter (codes "adapt") (codes "check") same (λ letters. omega (arith, letters));
    run = λ recording same. no_run (codes "adapt") recording same (λ three. omega (arith, three)) (λ six. omega (arith, six));
    live = λ same. other_letter (codes "adapt") (codes "live") same (λ letters. omega (arith, letters));
    draw = λ same. other_letter (codes "adapt") (codes "draw") same (λ letters. omega (arith, letters));
    show = λ same. other_letter (codes "adapt") (codes "show") same (λ letters. omega (arith, letters));
    report = λ same. other_letter (codes "adapt") (codes "report") same (λ letters. omega (arith, letters));
    place = λ same. other_letter (codes "adapt") (codes "place") same (λ letters. omega (arith, letters));
    adapt = λ same. adapt_values adapt.0 adapt.2;
    explain = λ same. other_letter (codes "adapt") (codes "explain") same (λ letters. omega (arith, letters));
  })
  | inr (inr (inr (inr (inr (inr (inr (inr (inr (inr (inr (inl machine))))))))))) ↦ subst (λ (f : Text × List Row). IsWhole f.0 f.1) machine.1 (record {
    named = inr (inr (inr (inr (inr (inr (inr (inr (inr (inr (inr (inl refl)))))))))));
    certify = λ same. other_letter (codes "machine") (codes "certify") same (λ letters. omega (arith, letters));
    check = λ same. other_letter (codes "machine") (codes "check") same (λ letters. omega (arith, letters));
    run = λ recording same. no_run (codes "machine") recording same (λ three. omega (arith, three)) (λ six. omega (arith, six));
    live = λ same. other_letter (codes "machine") (codes "live") same (λ letters. omega (arith, letters));
    draw = λ same. other_letter (codes "machine") (codes "draw") same (λ letters. omega (arith, letters));
    show = λ same. other_letter (codes "machine") (codes "show") same (λ letters. omega (arith, letters));
    report = λ same. other_letter (codes "machine") (codes "report") same (λ letters. omega (arith, letters));
    place = λ same. other_name (codes "machine") (codes "place") same (λ lengths. omega (arith, lengths));
    adapt = λ same. other_letter (codes "machine") (codes "adapt") same (λ letters. omega (arith, letters));
    explain = λ same. other_letter (codes "machine") (codes "explain") same (λ letters. omega (arith, letters));
  })
  | inr (inr (inr (inr (inr (inr (inr (inr (inr (inr (inr (inr (inl explain)))))))))))) ↦ subst (λ (f : Text × List Row). IsWhole f.0 f.1) explain.1 (record {
    named = inr (inr (inr (inr (inr (inr (inr (inr (inr (inr (inr (inr (inl refl))))))))))));
    certify = λ same. other_letter (codes "explain") (codes "certify") same (λ letters. omega (arith, letters));
    check = λ same. other_name (codes "explain") (codes "check") same (λ lengths. omega (arith, lengths));
    run = λ recording same. no_run (codes "explain") recording same (λ three. omega (arith, three)) (λ six. omega (arith, six));
    live = λ same. other_letter (codes "explain") (codes "live") same (λ letters. omega (arith, letters));
    draw = λ same. other_name (codes "explain") (codes "draw") same (λ lengths. omega (arith, lengths));
    show = λ same. other_letter (codes "explain") (codes "show") same (λ letters. omega (arith, letters));
    report = λ same. other_name (codes "explain") (codes "report") same (λ lengths. omega (arith, lengths));
    place = λ same. other_name (codes "explain") (codes "place") same (λ lengths. omega (arith, lengths));
    adapt = λ same. other_letter (codes "explain") (codes "adapt") same (λ letters. omega (arith, letters));
    explain = λ same. explain_values explain.0 explain.2;
  })
  | inr (inr (inr (inr (inr (inr (inr (inr (inr (inr (inr (inr (inr (inl help))))))))))))) ↦ subst (λ (f : Text × List Row). IsWhole f.0 f.1) help.1 (record {
    named = inr (inr (inr (inr (inr (inr (inr (inr (inr (inr (inr (inr (inr (inl refl)))))))))))));
    certify = λ same. other_name (codes "help") (codes "certify") same (λ lengths. omega (arith, lengths));
    check = λ same. other_name (codes "help") (codes "check") same (λ lengths. omega (arith, lengths));
    run = λ recording same. no_run (codes "help") recording same (λ three. omega (arith, three)) (λ six. omega (arith, six));
    live = λ same. other_letter (codes "help") (codes "live") same (λ letters. omega (arith, letters));
    draw = λ same. other_letter (codes "help") (codes "draw") same (λ letters. omega (arith, letters));
    show = λ same. other_letter (codes "help") (codes "show") same (λ letters. omega (arith, letters));
    report = λ same. other_name (codes "help") (codes "report") same (λ lengths. omega (arith, lengths));
    place = λ same. other_name (codes "help") (codes "place") same (λ lengths. omega (arith, lengths));
    adapt = λ same. other_letter (codes "help") (codes "adapt") same (λ letters. omega (arith, letters));
    explain = λ same. other_name (codes "help") (codes "explain") same (λ lengths. omega (arith, lengths));
  })
  | inr (inr (inr (inr (inr (inr (inr (inr (inr (inr (inr (inr (inr (inr (inl version)))))))))))))) ↦ subst (λ (f : Text × List Row). IsWhole f.0 f.1) version.1 (record {
    named = inr (inr (inr (inr (inr (inr (inr (inr (inr (inr (inr (inr (inr (inr (inl refl))))))))))))));
    certify = λ same. other_letter (codes "version") (codes "certify") same (λ letters. omega (arith, letters));
    check = λ same. other_name (codes "version") (codes "check") same (λ lengths. omega (arith, lengths));
    run = λ recording same. no_run (codes "version") recording same (λ three. omega (arith, three)) (λ six. omega (arith, six));
    live = λ same. other_letter (codes "version") (codes "live") same (λ letters. omega (arith, letters));
    draw = λ same. other_name (codes "version") (codes "draw") same (λ lengths. omega (arith, lengths));
    show = λ same. other_letter (codes "version") (codes "show") same (λ letters. omega (arith, letters));
    report = λ same. other_name (codes "version") (codes "report") same (λ lengths. omega (arith, lengths));
    place = λ same. other_name (codes "version") (codes "place") same (λ lengths. omega (arith, lengths));
    adapt = λ same. other_letter (codes "version") (codes "adapt") same (λ letters. omega (arith, letters));
    explain = λ same. other_letter (codes "version") (codes "explain") same (λ letters. omega (arith, letters));
  })
  | inr (inr (inr (inr (inr (inr (inr (inr (inr (inr (inr (inr (inr (inr (inr none)))))))))))))) ↦ absurd none
]

-- the subcommand that taken words name
pub taken_is_whole : (words : List Text) (found : Text × List Row) → IsTaken words → subcommand_of ngc_app words ≡ Some found → IsWhole found.0 found.1
taken_is_whole words found taken is =
    let app = built ngc_app in
    let stop = stop_after app.top.rules (names_of app) words in
    let passes = below_passes app.top (names_of app) words (is_some (entered app stop)) (entered_fault app stop) taken in
    one_whole found (entered_one app.subs stop found is passes)
