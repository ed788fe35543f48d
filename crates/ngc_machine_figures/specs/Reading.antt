-- Reading the value of a key. Our own.
use Rattle.std.specs.Prelude.{ℕ, List, Option, Some, None, Result, Ok, Err, Bool, ◌||◌, is_some}
use Rattle.std.specs.Prelude.{if◌then◌else◌}
use Rattle.toml.specs.Data.{Data, get, as_integer, as_float, as_str}
use Rattle.ngc_quantities.specs.declared.fault.Fault.{Fault}
use Rattle.ngc_machine_figures.specs.declared.key.Key.{Key}
use Rattle.ngc_machine_figures.specs.declared.refusal.FileRefusal.{FileRefusal}
use Rattle.ngc_machine_figures.specs.declared.refusal.Form.{Form}
use Rattle.ngc_machine_figures.specs.declared.refusal.Wrong.{Wrong}
use Rattle.ngc_machine_figures.specs.declared.refusal.Wrong.TheVariants as wrongs
use Rattle.ngc_machine_figures.specs.Keys.{name_of}

-- the first refusal, or the next result for the value
infixl 10 ◌>>=◌
abbrev pub ◌>>=◌ : {A B E : Type 0} → Result A E → (A → Result B E) → Result B E
(Ok x) >>= f = f x
(Err e) >>= f = Err e

abbrev pub ok_map : {A B E : Type 0} → (A → B) → Result A E → Result B E
ok_map f (Ok x) = Ok (f x)
ok_map f (Err e) = Err e

abbrev pub refused : {T : Type 0} → Key → Wrong → Result T FileRefusal
refused key wrong = Err (record { key = key; wrong = wrong })

-- ---- a key that must be there, and one that may be missing

abbrev pub required_value : {T : Type 0} → (Key → Data → Result T FileRefusal) → Key → Option Data → Result T FileRefusal
required_value read key None = refused key wrongs.Missing
required_value read key (Some value) = read key value

unfoldable pub required : {T : Type 0} → (Key → Data → Result T FileRefusal) → Key → Data → Result T FileRefusal
required read key section = required_value read key (get (name_of key) section)

abbrev pub some_ok : {T E : Type 0} → Result T E → Result (Option T) E
some_ok (Ok x) = Ok (Some x)
some_ok (Err e) = Err e

abbrev pub optional_value : {T : Type 0} → (Key → Data → Result T FileRefusal) → Key → Option Data → Result (Option T) FileRefusal
optional_value read key None = Ok None
optional_value read key (Some value) = some_ok (read key value)

unfoldable pub optional : {T : Type 0} → (Key → Data → Result T FileRefusal) → Key → Data → Result (Option T) FileRefusal
optional read key section = optional_value read key (get (name_of key) section)

-- ---- a value

-- what was found, or a refusal
abbrev pub found : {T : Type 0} → Key → Wrong → Option T → Result T FileRefusal
found key wrong (Some x) = Ok x
found key wrong None = refused key wrong

-- what a text says; its refusal is about the key
abbrev pub said : {T : Type 0} → Key → Result T Fault → Result T FileRefusal
said key (Ok x) = Ok x
said key (Err fault) = refused key (wrongs.Text fault)

abbrev pub is_number : Data → Bool
is_number value = is_some (as_integer value) || is_some (as_float value)

-- a value that isn't a text with a unit
unfoldable pub no_text : Key → Form → Data → FileRefusal
no_text key form value =
    record { key = key; wrong = if is_number value then wrongs.Bare form else wrongs.NoText form }

abbrev pub text_said : {T : Type 0} → (List ℕ → Result T Fault) → Key → FileRefusal → Option (List ℕ) → Result T FileRefusal
text_said read key refusal (Some text) = said key (read text)
text_said read key refusal None = Err refusal

-- a text with a unit
abbrev pub text_value : {T : Type 0} → (List ℕ → Result T Fault) → Form → Key → Data → Result T FileRefusal
text_value read form key value = text_said read key (no_text key form value) (as_str value)
