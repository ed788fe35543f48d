-- What is read of files, and that it stays the same.
use Rattle.std.proofs.Common.{◌≡◌, ℕ, true, false, List, [], None, Some, refl, ap}
use Rattle.std.specs.Prelude.{Option, option_map}
use Rattle.ngc_inputs.specs.Setups.{FileBytes, KeepsFiles, KeepsNamed}
use Rattle.ngc_saved_text.specs.Saved.{read_text, unmarked_remaining, unreturned_remaining}
use Rattle.ngc_saved_text.specs.declared.returns.Held.TheVariants.{Nothing}
use Rattle.ngc_saved_files.specs.Files.{saved_bytes}
use Rattle.ngc_saved_files.specs.Lines.{is_in_lines}
use Rattle.ngc_saved_files.specs.declared.lines.FilesInLines.{FilesInLines}

-- a source from which nothing was taken
pub in_lines_read : (known : Option (List ℕ)) → unreturned_remaining Nothing (unmarked_remaining true [] known) ≡ option_map (read_text true) known
in_lines_read None = refl
in_lines_read (Some text) = refl

pub whole_read : (known : Option (List ℕ)) → unmarked_remaining true [] known ≡ option_map (read_text false) known
whole_read None = refl
whole_read (Some text) = refl

-- files that are as they were are read as they were
pub keeps_files : (lines : FilesInLines) (old new : FileBytes) → KeepsFiles old new → KeepsFiles (saved_bytes lines old) (saved_bytes lines new)
keeps_files lines old new keeps = λ name. ap (option_map (read_text (is_in_lines lines name))) (keeps name)

pub keeps_named : (lines : FilesInLines) (old new : FileBytes) → KeepsNamed old new → KeepsNamed (saved_bytes lines old) (saved_bytes lines new)
keeps_named lines old new keeps = λ name. ap (option_map (read_text (is_in_lines lines (Some name)))) (keeps name)
