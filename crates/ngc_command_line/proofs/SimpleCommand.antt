-- The command is one of those whose matches and faults `clap` defines as a function.
use Rattle.std.proofs.Common.{◌≡◌, ◌∙◌, List, true, ap, inl, inr, refl, subst}
use Rattle.clap.specs.Words.{App, HasKind, Kinds, Text, fault_of, is_simple, is_simple_and_free, kind_of}
use Rattle.clap.specs.declared.error.Error.{Error}
use Rattle.clap.specs.declared.error.kind.ErrorKind.TheVariants.{OutOfMemory}
use Rattle.clap.proofs.OnLiterals.{clap_on_literals}
use Rattle.ngc_command_line.specs.CommandLine.{ngc_app}
use Rattle.ngc_command_line.specs.Meant.{IsTaken}

pub ngc_is_simple : is_simple ngc_app ≡ true
unfolding clap_on_literals
ngc_is_simple = refl

pub ngc_is_free : is_simple_and_free ngc_app ≡ true
unfolding clap_on_literals
ngc_is_free = refl

-- at words that are taken, only memory makes an error
pub taken_is_memory : (app : App) (words : List Text) (error : Error) → app ≡ ngc_app → IsTaken words
    → (is_simple_and_free app ≡ true → HasKind (fault_of app words) error) → kind_of error ≡ OutOfMemory
taken_is_memory app words error built taken kinds =
    let among = kinds (ap is_simple_and_free built ∙ ngc_is_free) in
    let none = ap (λ (a : App). fault_of a words) built ∙ taken in
    let Has : Kinds → Type 0 = λ ks. HasKind ks error in
    elim (subst Has none among) [ inl memory ↦ memory | inr other ↦ absurd other ]
