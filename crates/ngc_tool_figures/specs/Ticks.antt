-- The ticks of a run with a tool. Our own.
use Rattle.std.specs.Prelude.{ℕ, ◌+◌, ◌-◌, ◌^◌, min, List, [], ◌∷◌, drop, Option, Bool}
use Rattle.std.specs.Prelude.{if◌then◌else◌}
use Rattle.ngc_commands.specs.declared.command.Action.{Action}
use Rattle.ngc_commands.specs.declared.command.Action.TheVariants.{Mount}
use Rattle.ngc_commands.specs.declared.command.Command.{Command}
use Rattle.ngc_tool_figures.specs.Moments.{beginning, next}
use Rattle.ngc_tool_figures.specs.declared.moment.Moment.{Moment}

-- a sum that stays at 2^128 - 1, which no run reaches
abbrev pub plus : ℕ → ℕ → ℕ
plus a b = min (a + b) (2 ^ 128 - 1)

-- the ticks so far and those of the first part, if the tool is mounted in it
abbrev pub with_part : ℕ → Bool → List ℕ → ℕ
with_part ticks mounted [] = ticks
with_part ticks mounted (n ∷ ns) = if mounted then plus ticks n else ticks

-- a tool change ends a part
abbrev pub ticks_after : ℕ → Bool → List ℕ → Action → ℕ
ticks_after ticks mounted parts (Mount tool) = with_part ticks mounted parts
ticks_after ticks mounted parts _ = ticks

abbrev pub parts_after : List ℕ → Action → List ℕ
parts_after parts (Mount tool) = drop 1 parts
parts_after parts _ = parts

-- the end of the program ends the last one
abbrev pub ticks_from : Option ℕ → Moment → ℕ → List ℕ → List Command → ℕ
ticks_from number m ticks parts [] = with_part ticks m.is_mounted parts
ticks_from number m ticks parts (c ∷ cs) =
    ticks_from number (next number m c.action) (ticks_after ticks m.is_mounted parts c.action)
    (parts_after parts c.action) cs

abbrev pub ticks_of : Option ℕ → List Command → List ℕ → ℕ
ticks_of number commands parts = ticks_from number (beginning number) 0 parts commands
