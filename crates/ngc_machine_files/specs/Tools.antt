-- The contents of a tool table. Our own.
use Rattle.std.specs.Prelude.{ℕ, ◌==◌, List, Option}
use Rattle.std.specs.List.{find}
use Rattle.ngc_machine_files.specs.declared.tools.Tool.{Tool}
use Rattle.ngc_machine_files.specs.declared.tools.Tools.{Tools}

-- the tools, in the order of the table
abbrev pub tools_of : {A : Type 0} → Tools A → List Tool
tools_of t = t.tools.items

-- the tool of a number
abbrev pub tool_at : List Tool → ℕ → Option Tool
tool_at tools n = find (λ t. t.number == n) tools
