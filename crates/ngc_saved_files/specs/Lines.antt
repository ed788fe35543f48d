-- Which files of a command are texts in lines of a fixed form: certificates and events. Our own.
use Rattle.std.specs.Prelude.{ℕ, List, Bool, true, false, ◌||◌, Option, Some, None, option_map}
use Rattle.std.specs.Str.{bytes_eq}
use Rattle.ngc_command_line.specs.declared.options.Options.{Options}
use Rattle.ngc_command_line.specs.declared.options.Options.TheVariants as commands
use Rattle.ngc_saved_files.specs.declared.lines.FilesInLines.{FilesInLines}

abbrev pub is_named : Option (List ℕ) → List ℕ → Bool
is_named None other = false
is_named (Some name) other = bytes_eq name other

-- the certificate, the events, or standard input, if it has events
abbrev pub is_in_lines : FilesInLines → Option (List ℕ) → Bool
is_in_lines files None = files.is_input
is_in_lines files (Some name) =
    is_named (option_map (λ n. n.now) files.certificate) name
    || is_named (option_map (λ n. n.now) files.events) name

abbrev pub lines_of : Options → FilesInLines
lines_of (commands.Check options) =
    record { certificate = Some options.certificate; events = None; is_input = false }
lines_of (commands.Run options) =
    record { certificate = Some options.certificate; events = Some options.events; is_input = false }
lines_of (commands.RunThrough options) =
    record { certificate = Some options.certificate; events = None; is_input = false }
lines_of (commands.Live options) =
    record { certificate = Some options.certificate; events = None; is_input = true }
lines_of (commands.Draw options) =
    record { certificate = options.certificate; events = None; is_input = false }
lines_of _ = record { certificate = None; events = None; is_input = false }
