-- Tools with the same number. Our own.
use Rattle.std.specs.Prelude.{ℕ, ◌==◌, List, [], ◌∷◌, Bool, Result, Ok, if◌then◌else◌}
use Rattle.std.specs.List.{list_any}
use Rattle.ngc_machine_figures.specs.declared.refusal.FileRefusal.{FileRefusal}
use Rattle.ngc_machine_figures.specs.declared.tool_key.ToolKey.TheVariants as keys
use Rattle.ngc_machine_figures.specs.declared.tool_key.ToolWrong.TheVariants as wrongs
use Rattle.ngc_written_tools.specs.Shapes.{refuse}
use Rattle.ngc_written_tools.specs.declared.sheet.MeasuredTool.{MeasuredTool}

abbrev pub has_number : ℕ → MeasuredTool → Bool
has_number number tool = number == tool.sheet.number.number

abbrev pub is_again : ℕ → List MeasuredTool → Bool
is_again number tools = list_any (has_number number) tools

-- the first tool whose number a later one has is refused
abbrev pub checked_numbers : List MeasuredTool → Result (Unit {0}) FileRefusal
checked_numbers [] = Ok tt
checked_numbers (tool ∷ tools) =
    if is_again tool.sheet.number.number tools then refuse (keys.Number tool.place) wrongs.NumberTwice
    else checked_numbers tools
