-- A tool table of version 1, 2 or 3. Our own.
use Rattle.std.specs.Prelude.{ℕ, ◌≡◌, List, [], map, Option, Some, None, Result, Ok, Err, if◌then◌else◌}
use Rattle.toml.specs.Data.{Data}
use Rattle.ngc_file_figures.specs.declared.limits.ToolLimits.{ToolLimits}
use Rattle.ngc_machine_figures.specs.declared.refusal.FileRefusal.{FileRefusal}
use Rattle.ngc_machine_figures.specs.Version.{is_written}
use Rattle.ngc_machine_files.specs.ToolText.{checked_table, tool_table}
use Rattle.ngc_machine_files.specs.Tree.{tree_of}
use Rattle.ngc_machine_files.specs.declared.fault.FileFault.{FileFault}
use Rattle.ngc_machine_files.specs.declared.fault.FileFault.TheVariants as faults
use Rattle.ngc_machine_files.specs.declared.tools.Tool.{Tool}
use Rattle.ngc_written_tools.specs.Entries.{contents_of}
use Rattle.ngc_written_tools.specs.Limits.{limits_by}
use Rattle.ngc_written_tools.specs.Refusals.{fault_of}
use Rattle.ngc_written_tools.specs.Tables.{sheets_of}
use Rattle.ngc_written_tools.specs.declared.refusal.ToolsFault.{ToolsFault}
use Rattle.ngc_written_tools.specs.declared.refusal.ToolsFault.TheVariants.{Memory, Refused}
use Rattle.ngc_written_tools.specs.declared.refusal.ToolsRefusal.{ToolsRefusal}
use Rattle.ngc_written_tools.specs.declared.refusal.ToolsRefusal.TheVariants as refusals
use Rattle.ngc_written_tools.specs.declared.sheet.MeasuredTool.{MeasuredTool}

-- the result, with its refusal as another one
abbrev pub refused_as : {T E : Type 0} → (E → ToolsRefusal) → Result T E → Result T ToolsRefusal
refused_as f (Ok x) = Ok x
refused_as f (Err e) = Err (f e)

infixl 10 ◌>>=◌
abbrev pub ◌>>=◌ : {A B : Type 0} → Result A ToolsRefusal → (A → Result B ToolsRefusal) →
    Result B ToolsRefusal
(Ok x) >>= f = f x
(Err e) >>= f = Err e

-- the tools, by the ranges of version 2
abbrev pub tools_by : List MeasuredTool → Result (List Tool) ToolsRefusal
tools_by tools = refused_as refusals.Range (checked_table (Some (contents_of tools)))

-- the tools that a table of version 3 describes, or its first mistake
unfoldable pub written_tools : Data → Result (List Tool) ToolsRefusal
written_tools tree = refused_as refusals.Key (sheets_of tree) >>= tools_by

-- what a table of version 3 says of each tool besides its body; nothing where it is refused
abbrev pub limits_found : Result (List MeasuredTool) FileRefusal → List ToolLimits
limits_found (Ok tools) = map limits_by tools
limits_found (Err refusal) = []

abbrev pub written_limits : Data → List ToolLimits
written_limits tree = limits_found (sheets_of tree)

-- ---- the result of a call

-- lack of memory isn't the table's mistake
abbrev pub fault_by : FileFault → ToolsFault
fault_by faults.Memory = Memory
fault_by e = Refused (refusals.Range e)

-- the result, seen through a view, equals the definition's, unless memory was refused
abbrev pub ToolsResultIs : {X Y : Type 0} → (X → Y) → Result X ToolsFault → Result Y ToolsRefusal → Type 0
ToolsResultIs view (Ok x) says = says ≡ Ok (view x)
ToolsResultIs view (Err (Refused refusal)) says = says ≡ Err refusal
ToolsResultIs view (Err Memory) says = Unit {0}

-- ---- every version

-- the fault of a call
abbrev pub file_fault : ToolsFault → FileFault
file_fault Memory = faults.Memory
file_fault (Refused refusal) = fault_of refusal

abbrev pub as_fault : Result (List Tool) ToolsRefusal → Result (List Tool) FileFault
as_fault (Ok tools) = Ok tools
as_fault (Err refusal) = Err (fault_of refusal)

abbrev pub written_table : Data → Result (List Tool) FileFault
written_table tree = as_fault (written_tools tree)

abbrev pub tools_in : List ℕ → Option Data → Result (List Tool) FileFault
tools_in bytes None = tool_table bytes
tools_in bytes (Some tree) = if is_written tree then written_table tree else tool_table bytes

-- the tools that a table of any version describes, or why it is refused
unfoldable pub any_tools : List ℕ → Result (List Tool) FileFault
any_tools bytes = tools_in bytes (tree_of bytes)

abbrev pub limits_in : Option Data → List ToolLimits
limits_in None = []
limits_in (Some tree) = if is_written tree then written_limits tree else []

-- what a table of any version says of its tools besides their bodies: a table of version 1 or 2 says
-- nothing
unfoldable pub any_limits : List ℕ → List ToolLimits
any_limits bytes = limits_in (tree_of bytes)
