-- Options that a pattern binds are those that were made.
use Rattle.std.proofs.Common.{◌≡◌, ℕ, Option, Some, IfSome, subst}
use Rattle.ngc_command_line.specs.declared.options.Options.{Options}
use Rattle.ngc_inputs.specs.Setups.{FileBytes}
use Rattle.ngc_page.specs.Answered.{Answered, IsResultIn, Space}

pub answered : (files : FileBytes) (Asks : Options → Type 0) (output errors : Space) (status : ℕ) (made options : Options) → Some made ≡ Some options →
    Asks made → IsResultIn files options output errors status → Answered files Asks output errors status
answered files Asks output errors status made options is asks told =
    record { options = options; asks = subst (λ (it : Option Options). IfSome it Asks) is asks; told = told }
