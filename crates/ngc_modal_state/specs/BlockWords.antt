-- The value of a letter after a word (NISTIR 6556, 3.3.5).
use Rattle.std.specs.Prelude.{ℤ, Option, Some, Result, Ok, Err, is_some, if◌then◌else◌}
use Rattle.ngc_modal_state.specs.declared.fault.ModalFault.{ModalFault}
use Rattle.ngc_modal_state.specs.declared.fault.ModalFault.TheVariants.{LetterRepeated}

-- the value, if the letter has none yet
abbrev pub first_value : Option ℤ → ℤ → Result (Option ℤ) ModalFault
first_value had v = if is_some had then Err LetterRepeated else Ok (Some v)
