-- What a setting makes of the parameters of a program, and what a call and its end do (LinuxCNC, "O
-- codes", "Subroutines"; Fanuc, "Custom macro").
use Rattle.std.specs.Prelude.{ℕ, ◌≡◌, ◌+◌, ◌-◌, ◌==◌, ◌&&◌, ◌||◌, nat_le, nat_lt, ℤ, List, [], ◌∷◌, ◌++◌}
use Rattle.std.specs.Prelude.{length, take, slice_get, Option, Some, None, Bool, Result, Ok, Err}
use Rattle.std.specs.Prelude.{if◌then◌else◌, slice_index_or}
use Rattle.std.specs.Option.{is_some}
use Rattle.std.specs.Str.{bytes_eq}
use Rattle.ngc_line_reader.specs.Scan.{◌>>=◌}
use Rattle.ngc_dialect_reader.specs.Line.{name_of}
use Rattle.ngc_dialect_names.specs.declared.dialect.Dialect.{Dialect}
use Rattle.ngc_dialect_parameters.specs.declared.fault.StoreFault.{StoreFault}
use Rattle.ngc_dialect_parameters.specs.declared.fault.StoreFault.TheVariants as faults
use Rattle.ngc_dialect_parameters.specs.declared.statement.Statement.{Statement}
use Rattle.ngc_dialect_parameters.specs.declared.statement.Statement.TheVariants as statements
use Rattle.ngc_dialect_parameters.specs.Names.{is_global}
use Rattle.ngc_dialect_parameters.specs.Rules.{COUNT, NAMES}
use Rattle.ngc_dialect_parameters.specs.Stored.{Caller, Stored, is_local}

-- What a function stores is what the definition says, or it fails as that says. Nothing is stated if
-- memory is refused.
abbrev pub Stores : {X : Type 0} → Result X StoreFault → Stored → Result Stored StoreFault → Type 0
Stores (Ok x) new says = says ≡ Ok new
Stores (Err faults.Memory) new says = Unit {0}
Stores (Err fault) new says = says ≡ Err fault

-- ---- settings

abbrev pub none_stored : Dialect → Stored
none_stored d = record {
  dialect = d;
  numbers = λ _. None;
  names = λ _. None;
  globals = 0;
  locals = 0;
  callers = [];
}

abbrev pub with_number : ℕ → Option ℤ → Stored → Stored
with_number changed value k = record k {
  numbers = λ n. if (n == changed) && nat_lt changed COUNT then value else k.numbers n;
}

-- how many names there are after one more is set, which is new if it had no value
abbrev pub counted : Option ℤ → ℕ → ℕ
counted None count = count + 1
counted (Some z) count = count

abbrev pub named : List ℕ → ℤ → Stored → Stored
named name value k = record k {
  names = λ other. if bytes_eq other name then Some value else k.names other;
  globals = if is_global name then counted (k.names name) k.globals else k.globals;
  locals = if is_global name then k.locals else counted (k.names name) k.locals;
}

-- whether there is room for a name: one that is set, or one of the first 10,000
abbrev pub has_room : List ℕ → Stored → Bool
has_room name k =
    nat_lt (if is_global name then k.globals else k.locals) NAMES || is_some (k.names name)

abbrev pub with_name : List ℕ → ℤ → Stored → Result Stored StoreFault
with_name name value k =
    if has_room name k then Ok (named name value k) else Err faults.TooManyNames

-- what a statement sets; a name's bytes are in the line's text
abbrev pub set_by : List ℕ → Statement → Stored → Result Stored StoreFault
set_by text (statements.Set changed value) k = Ok (with_number changed value k)
set_by text (statements.SetNamed name value) k = with_name (name_of text name) value k
set_by text _ k = Ok k

-- settings, from left to right: the last one of a parameter counts
abbrev pub set_by_all : List ℕ → List Statement → Stored → Result Stored StoreFault
set_by_all text [] k = Ok k
set_by_all text (s ∷ rest) k = set_by text s k >>= λ l. set_by_all text rest l

-- ---- calls

abbrev pub last_of : {X : Type 0} → List X → Option X
last_of xs = slice_get xs (length xs - 1)

abbrev pub without_last : {X : Type 0} → List X → List X
without_last xs = take (length xs - 1) xs

abbrev pub kept : Stored → Caller
kept k = record {
  numbers = λ n. if is_local k.dialect n then k.numbers n else None;
  names = λ name. if is_global name then None else k.names name;
  count = k.locals;
}

-- the parameters that belong to calls take these values, in order; those without one are unset
abbrev pub with_locals : List (Option ℤ) → Stored → Stored
with_locals values k = record k {
  numbers = λ n. if is_local k.dialect n then slice_index_or values (n - 1) None else k.numbers n;
}

-- A call begins: the numbered parameters that belong to calls are its arguments, and no name that
-- belongs to calls is set.
abbrev pub begun : List (Option ℤ) → Stored → Stored
begun arguments k = with_locals arguments (record k {
  names = λ name. if is_global name then k.names name else None;
  locals = 0;
  callers = k.callers ++ (kept k ∷ []);
})

-- 10 calls may be inside one another
abbrev pub called : List (Option ℤ) → Stored → Result Stored StoreFault
called arguments k =
    if nat_le 10 (length k.callers) then Err faults.TooDeep else Ok (begun arguments k)

-- what belongs to calls is the caller's again
abbrev pub back_to : Option Caller → Stored → Stored
back_to None k = k
back_to (Some c) k = record k {
  numbers = λ n. if is_local k.dialect n then c.numbers n else k.numbers n;
  names = λ name. if is_global name then k.names name else c.names name;
  locals = c.count;
  callers = without_last k.callers;
}

-- the current call ends; outside of calls nothing changes
abbrev pub left : Stored → Stored
left k = back_to (last_of k.callers) k
