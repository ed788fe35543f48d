-- The output of a run, by the name of a form. Our own.
use Rattle.std.specs.Prelude.{ℕ, List, codes, Option, Some, None, Bool, if◌then◌else◌}
use Rattle.std.specs.Str.{bytes_eq}
use Rattle.ngc_command_line.specs.declared.options.Recording.{Recording}
use Rattle.ngc_command_line.specs.declared.options.Recording.TheVariants as records
use Rattle.ngc_simulator.specs.declared.writing.Writing.{Writing}
use Rattle.ngc_simulator.specs.declared.writing.Writing.TheVariants.{Log, Times, Dump, Samples}

-- the output where no form is named
abbrev pub own_writing : Recording → Writing
own_writing records.Log = Log
own_writing records.Pulses = Dump

abbrev pub is_own_name : Recording → List ℕ → Bool
is_own_name records.Log name = bytes_eq name (codes "log")
is_own_name records.Pulses name = bytes_eq name (codes "vcd")

-- the log with ticks, if this is its name
abbrev pub timed_writing : Recording → List ℕ → Option Writing
timed_writing records.Log name = if bytes_eq name (codes "times") then Some Times else None
timed_writing records.Pulses name = None

-- the output of a command that records this, in the form with this name, if it has one
abbrev pub writing_named : Recording → Option (List ℕ) → ℕ → Option Writing
writing_named recording None inverted = Some (own_writing recording)
writing_named recording (Some name) inverted =
    if bytes_eq name (codes "samples") then Some (Samples inverted) else
    if is_own_name recording name then Some (own_writing recording) else
    timed_writing recording name
