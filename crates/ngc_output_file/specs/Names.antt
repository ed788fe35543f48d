-- The files that a command line names. Our own.
use Rattle.std.specs.Prelude.{◌≡◌, ◌⊎◌, ℕ, List, [], ◌∷◌, Option, Some, None, option_map}
use Rattle.std.specs.Borrow.{Bor}
use Rattle.ngc_command_line.specs.declared.options.Options.{Options}
use Rattle.ngc_command_line.specs.declared.options.Options.TheVariants as commands

-- program, machine file, tool table, certificate, and events or dump
abbrev pub names_of : Options → List (Option (Bor (List ℕ)))
names_of (commands.List options) = options.program ∷ options.machine ∷ options.tools ∷ None ∷ None ∷ []
names_of (commands.Certify options) =
    options.program ∷ Some options.machine ∷ Some options.tools ∷ None ∷ None ∷ []
names_of (commands.Check options) =
    options.program ∷ Some options.machine ∷ Some options.tools ∷ Some options.certificate ∷ None ∷ []
names_of (commands.Run options) =
    options.program ∷ Some options.machine ∷ Some options.tools ∷ Some options.certificate
    ∷ Some options.events ∷ []
names_of (commands.RunThrough options) =
    options.program ∷ Some options.machine ∷ Some options.tools ∷ Some options.certificate ∷ None ∷ []
names_of (commands.Live options) =
    Some options.program ∷ Some options.machine ∷ Some options.tools ∷ Some options.certificate ∷ None
    ∷ []
names_of (commands.Draw options) =
    options.program ∷ Some options.machine ∷ Some options.tools ∷ options.certificate ∷ None ∷ []
names_of (commands.Show options) = None ∷ Some options.machine ∷ options.tools ∷ None ∷ None ∷ []
names_of (commands.Report options) =
    options.program ∷ Some options.machine ∷ Some options.tools ∷ None ∷ None ∷ []
names_of (commands.Place options) =
    options.program ∷ Some options.machine ∷ Some options.tools ∷ None ∷ None ∷ []
names_of (commands.Adapt options) =
    options.program ∷ options.machine ∷ options.tools ∷ None ∷ None ∷ []
names_of (commands.Machine options) = None ∷ None ∷ None ∷ None ∷ options.grbl ∷ []
names_of _ = None ∷ None ∷ None ∷ None ∷ None ∷ []

-- a list of names has this one
abbrev pub HasName : List ℕ → List (Option (Bor (List ℕ))) → Type 0
HasName name [] = ⊥
HasName name (other ∷ rest) = (option_map (λ n. n.now) other ≡ Some name) ⊎ HasName name rest
