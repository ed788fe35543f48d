-- Steps that may refuse a line's words, and the numbers of faults. Our own.
use Rattle.std.specs.Prelude.{ℕ, ◌≡◌, Option, Some, None, Result, Ok, Err, Bool, if◌then◌else◌}
use Rattle.ngc_modal_state.specs.declared.fault.ModalFault.{ModalFault}
use Rattle.ngc_modal_state.specs.declared.fault.ModalFault.TheVariants.{GroupTwice, TooManyMWords}
use Rattle.ngc_modal_state.specs.declared.fault.ModalFault.TheVariants.{LetterRepeated, UnknownCode}
use Rattle.ngc_modal_state.specs.declared.fault.ModalFault.TheVariants.{LeftOut, ClaimedTwice}
use Rattle.ngc_modal_state.specs.declared.fault.ModalFault.TheVariants.{WithoutUse, WordMissing}
use Rattle.ngc_modal_state.specs.declared.fault.ModalFault.TheVariants.{OutOfRange}
use Rattle.ngc_modal_state.specs.declared.fault.ModalFault.TheVariants.{WithoutStraightMotion}

infixl 10 ◌>>=◌
abbrev pub ◌>>=◌ : {A B : Type 0} → Result A ModalFault → (A → Result B ModalFault) →
    Result B ModalFault
(Ok x) >>= f = f x
(Err e) >>= f = Err e

infixl 10 ◌>>◌
abbrev pub ◌>>◌ : {A B : Type 0} → Result A ModalFault → Result B ModalFault → Result B ModalFault
(Ok x) >> r = r
(Err e) >> r = Err e

-- refused if the test holds
abbrev pub refuse_if : Bool → ModalFault → Result (Unit {0}) ModalFault
refuse_if b e = if b then Err e else Ok tt

-- refused if there is a word to name
abbrev pub refuse_of : {A : Type 0} → (A → ModalFault) → Option A → Result (Unit {0}) ModalFault
refuse_of fault None = Ok tt
refuse_of fault (Some word) = Err (fault word)

abbrev pub number : ModalFault → ℕ
number GroupTwice = 201
number TooManyMWords = 202
number LetterRepeated = 203
number (UnknownCode letter millionths) = 204
number LeftOut = 205
number ClaimedTwice = 206
number (WithoutUse letter) = 207
number (WordMissing word) = 208
number OutOfRange = 209
number WithoutStraightMotion = 210

-- a function's result, seen by view, is the definition's
abbrev pub Gives : {X Y E : Type 0} → (X → Y) → Result X E → Result Y E → Type 0
Gives view (Ok x) says = says ≡ Ok (view x)
Gives view (Err e) says = says ≡ Err e

-- after a step that may be refused, the changed value is the definition's
abbrev pub Becomes : {X : Type 0} → Result (Unit {0}) ModalFault → X → Result X ModalFault → Type 0
Becomes (Ok u) new says = says ≡ Ok new
Becomes (Err e) new says = says ≡ Err e
