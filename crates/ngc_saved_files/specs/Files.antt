-- What is read of the files of a call. Our own.
use Rattle.std.specs.Prelude.{ℕ, List, Option, option_map}
use Rattle.ngc_inputs.specs.Setups.{FileBytes}
use Rattle.ngc_saved_text.specs.Saved.{read_text, unmarked_remaining, unreturned_remaining}
use Rattle.ngc_saved_text.specs.Sources.{unmarked_at_start, unmarked_front, unmarked_inner, unreturned_held, unreturned_inner}
use Rattle.ngc_saved_text.specs.declared.mark.Unmarked.{Unmarked}
use Rattle.ngc_saved_files.specs.declared.lines.FilesInLines.{FilesInLines}
use Rattle.ngc_saved_files.specs.declared.source.SavedSource.{SavedSource}
use Rattle.ngc_saved_files.specs.declared.source.SavedSource.TheVariants as sources
use Rattle.ngc_saved_files.specs.Lines.{is_in_lines}

-- the bytes of a file without what an editor adds, where they are known
abbrev pub saved_bytes : FilesInLines → FileBytes → FileBytes
saved_bytes lines known name = option_map (read_text (is_in_lines lines name)) (known name)

-- ---- sources

abbrev pub whole_remaining : {S : Type 0} → (S → Option (List ℕ)) → Unmarked S → Option (List ℕ)
whole_remaining remaining source =
    unmarked_remaining (unmarked_at_start source) (unmarked_front source) (remaining (unmarked_inner source))

abbrev pub source_remaining : {S : Type 0} → (S → Option (List ℕ)) → SavedSource S → Option (List ℕ)
source_remaining remaining (sources.Whole source) = whole_remaining remaining source
source_remaining remaining (sources.InLines source) =
    unreturned_remaining (unreturned_held source) (whole_remaining remaining (unreturned_inner source))

abbrev pub source_failures : {S : Type 0} → (S → ℕ) → SavedSource S → ℕ
source_failures failures (sources.Whole source) = failures (unmarked_inner source)
source_failures failures (sources.InLines source) = failures (unmarked_inner (unreturned_inner source))
