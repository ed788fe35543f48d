-- The mistake of a machine file of any version, in words. Our own.
use Rattle.std.specs.Prelude.{ℕ, List, [], ◌++◌, codes, Option, Some, None, Result, Ok, Err}
use Rattle.std.specs.Prelude.{if◌then◌else◌, Bool, ◌&&◌, is_some, is_none}
use Rattle.toml.specs.Data.{Data, get}
use Rattle.ngc_machine_figures.specs.Version.{is_written}
use Rattle.ngc_machine_files.specs.Machine.{MachineFile}
use Rattle.ngc_machine_files.specs.Tree.{tree_of}
use Rattle.ngc_machine_files.specs.declared.fault.FileFault.{FileFault}
use Rattle.ngc_refused_files.specs.Refusals as keys
use Rattle.ngc_refused_files.specs.Stops.{Stop, stop_text}
use Rattle.ngc_setup_sheet.specs.Mistakes.{machine_mistake_text}
use Rattle.ngc_written_machines.specs.Machines.{written_machine}
use Rattle.ngc_written_machines.specs.declared.refusal.WrittenRefusal.{WrittenRefusal}
use Rattle.ngc_written_machines.specs.declared.refusal.WrittenRefusal.TheVariants as refusals
use Rattle.ngc_machine_mistakes.specs.Sentences.{figures_text}

abbrev pub line_text : List ℕ → WrittenRefusal → List ℕ
line_text name refusal = name ++ codes ": " ++ figures_text refusal ++ codes "\n"

-- a key that is unknown, missing or can't be read, with its line, or else a figure that can't be used
abbrev pub refusal_text : List ℕ → List ℕ → WrittenRefusal → List ℕ
refusal_text name bytes (refusals.Sheet refusal) = keys.refusal_text name bytes refusal
refusal_text name bytes refusal = line_text name refusal

abbrev pub third_text : List ℕ → List ℕ → Result MachineFile WrittenRefusal → List ℕ
third_text name bytes (Ok machine) = []
third_text name bytes (Err refusal) = refusal_text name bytes refusal

-- the tables of the axes, which only version 3 has, without a version
unfoldable pub forgets_version : Data → Bool
forgets_version tree = is_none (get (codes "version") tree) && is_some (get (codes "axis") tree)

abbrev pub tree_text : List ℕ → List ℕ → FileFault → Data → List ℕ
tree_text name bytes fault tree =
    if is_written tree then third_text name bytes (written_machine tree) else (
    if forgets_version tree then keys.forgotten_text name bytes else machine_mistake_text bytes fault)

-- of a text that is no document it is where the reader stopped
abbrev pub text_in : List ℕ → List ℕ → FileFault → Stop → Option Data → List ℕ
text_in name bytes fault stop None = stop_text name bytes stop
text_in name bytes fault stop (Some tree) = tree_text name bytes fault tree

-- the first mistake of a file with this name that is refused with this fault
abbrev pub mistake_text : List ℕ → FileFault → List ℕ → Stop → List ℕ
mistake_text name fault bytes stop = text_in name bytes fault stop (tree_of bytes)
