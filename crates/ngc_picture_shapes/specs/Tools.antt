-- The tools that a program's motions use, and their colours. Our own.
use Rattle.std.specs.Prelude.{ℕ, ◌+◌, ◌==◌, nat_lt, length, List, [], ◌∷◌, ◌++◌, Option, Some, None}
use Rattle.std.specs.Prelude.{if◌then◌else◌, ℤ, pos}
use Rattle.ngc_machine_files.specs.declared.tools.Tool.{Tool}
use Rattle.ngc_commands.specs.declared.command.Action.{Action}
use Rattle.ngc_commands.specs.declared.command.Action.TheVariants.{Move, Mount}
use Rattle.ngc_commands.specs.declared.command.Command.{Command}
use Rattle.ngc_picture_shapes.specs.declared.eye.Eye.{Eye}
use Rattle.ngc_picture_shapes.specs.declared.view.View.{View}

-- no tool is 0
abbrev pub number_of : Option Tool → ℕ
number_of None = 0
number_of (Some tool) = tool.number

-- no tool has no name
abbrev pub name_of : Option Tool → List ℕ
name_of None = []
name_of (Some tool) = tool.name

-- the height of a tool's tip relative to the spindle nose, in nanometres, at most 0: there its
-- lowest part begins; without a tool the tip is the nose itself
abbrev pub tip_of : Option Tool → ℤ
tip_of None = pos 0
tip_of (Some tool) = tool.bottom

-- how a path is seen while a tool is mounted
abbrev pub eye_of : View → Option Tool → Eye
eye_of view tool = record { view = view; tip = tip_of tool }

-- the index of the first tool with a number in a list, or the list's length
abbrev pub rank_of : List (Option Tool) → ℕ → ℕ
rank_of [] n = 0
rank_of (tool ∷ tools) n = if number_of tool == n then 0 else rank_of tools n + 1

-- a list with one more tool, unless it has it
abbrev pub with_tool : List (Option Tool) → Option Tool → List (Option Tool)
with_tool tools tool =
    if nat_lt (rank_of tools (number_of tool)) (length tools) then tools else tools ++ tool ∷ []

-- the tool that is mounted after an action, and the tools that are used by then
abbrev pub mounted : Option Tool → Action → Option Tool
mounted tool (Mount other) = other
mounted tool _ = tool

abbrev pub used_by : List (Option Tool) → Option Tool → Action → List (Option Tool)
used_by tools tool (Move m) = with_tool tools tool
used_by tools tool _ = tools

-- the tools that motions use, each once, in the order of their first motions
abbrev pub used_from : List (Option Tool) → Option Tool → List Command → List (Option Tool)
used_from tools tool [] = tools
used_from tools tool (c ∷ cs) = used_from (used_by tools tool c.action) (mounted tool c.action) cs

abbrev pub used : List Command → List (Option Tool)
used commands = used_from [] None commands
