-- The mistake of a tool table of any version, in words. Our own.
use Rattle.std.specs.Prelude.{ℕ, List, [], ◌++◌, codes, Option, Some, None, Result, Ok, Err}
use Rattle.std.specs.Prelude.{if◌then◌else◌, Bool, true, false, ◌&&◌, is_none}
use Rattle.toml.specs.Data.{Data, string, get, at}
use Rattle.ngc_machine_figures.specs.Version.{is_written}
use Rattle.ngc_machine_files.specs.Tree.{tree_of}
use Rattle.ngc_machine_files.specs.declared.fault.FileFault.{FileFault}
use Rattle.ngc_machine_files.specs.declared.tools.Tool.{Tool}
use Rattle.ngc_refused_files.specs.Refusals as keys
use Rattle.ngc_refused_files.specs.Stops.{Stop, stop_text}
use Rattle.ngc_setup_sheet.specs.Mistakes.{tools_mistake_text}
use Rattle.ngc_written_tools.specs.Reading.{written_tools}
use Rattle.ngc_written_tools.specs.declared.refusal.ToolsRefusal.{ToolsRefusal}
use Rattle.ngc_written_tools.specs.declared.refusal.ToolsRefusal.TheVariants as refusals

unfoldable pub range_text : List ℕ → List ℕ
range_text name = name ++ codes ": a number is out of its range\n"

-- a key that is unknown or missing, can't be read or doesn't fit another one, with its line, or else a
-- number that is out of its range
abbrev pub refusal_text : List ℕ → List ℕ → ToolsRefusal → List ℕ
refusal_text name bytes (refusals.Key refusal) = keys.refusal_text name bytes refusal
refusal_text name bytes (refusals.Range fault) = range_text name

abbrev pub third_text : List ℕ → List ℕ → Result (List Tool) ToolsRefusal → List ℕ
third_text name bytes (Ok tools) = []
third_text name bytes (Err refusal) = refusal_text name bytes refusal

-- ---- a table of version 3 that doesn't say so

abbrev pub is_text : Data → Bool
is_text (string text) = true
is_text _ = false

abbrev pub is_text_at : Option Data → Bool
is_text_at None = false
is_text_at (Some value) = is_text value

abbrev pub is_measured : Option Data → Bool
is_measured None = false
is_measured (Some tool) = is_text_at (get (codes "diameter") tool)

-- whether the first tool's diameter is a text, as in version 3 alone
abbrev pub are_measured : Option Data → Bool
are_measured None = false
are_measured (Some tools) = is_measured (at 0 tools)

unfoldable pub forgets_version : Data → Bool
forgets_version tree = is_none (get (codes "version") tree) && are_measured (get (codes "tool") tree)

abbrev pub tree_text : List ℕ → List ℕ → FileFault → Data → List ℕ
tree_text name bytes fault tree =
    if is_written tree then third_text name bytes (written_tools tree) else (
    if forgets_version tree then keys.forgotten_text name bytes else tools_mistake_text bytes fault)

-- of a text that is no document it is where the reader stopped
abbrev pub text_in : List ℕ → List ℕ → FileFault → Stop → Option Data → List ℕ
text_in name bytes fault stop None = stop_text name bytes stop
text_in name bytes fault stop (Some tree) = tree_text name bytes fault tree

-- the first mistake of a table with this name that is refused with this fault
abbrev pub mistake_text : List ℕ → FileFault → List ℕ → Stop → List ℕ
mistake_text name fault bytes stop = text_in name bytes fault stop (tree_of bytes)
