-- Where `clap` finds no fault, each row that it found begins with a value that its argument takes.
pub mod FoundValues
-- The subcommand that was found, by its name and its values.
pub mod FoundSubcommand
-- The rules that are sound, and the meaning of filled rows for a name.
pub mod Rules
-- The command is one of those whose matches and faults `clap` defines as a function.
pub mod SimpleCommand
-- The options are read back from the words in which they are written.
pub mod OptionsReadBack
-- The effect of a step of building a command on what `clap` reads.
pub mod BuildingSteps
-- A subcommand in accepted words has the values that it requires.
pub mod RequiredValues
