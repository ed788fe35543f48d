-- What the parameters of a program are.
use Rattle.std.specs.Prelude.{ℕ, ◌≡◌, ◌<◌, ◌+◌, ◌-◌, ◌&&◌, nat_le, ℤ, List, length, map, Option, None, Bool}
use Rattle.std.specs.Prelude.{if◌then◌else◌, slice_index_or}
use Rattle.ngc_dialect_names.specs.declared.dialect.Dialect.{Dialect}
use Rattle.ngc_dialect_parameters.specs.declared.parameters.Parameters.{Parameters}
use Rattle.ngc_dialect_parameters.specs.declared.parameters.Call.{Call}
use Rattle.ngc_dialect_parameters.specs.Names.{value_in, count_in, is_global}
use Rattle.ngc_dialect_parameters.specs.Rules.{local_count}

-- What a call keeps of its caller: the values of the numbered parameters and of the names that belong
-- to calls, and how many such names there are.
pub record Caller : Type 0 where
  pub numbers : ℕ → Option ℤ
  pub names : List ℕ → Option ℤ
  pub count : ℕ

-- What a program has set. The last of the callers is that of the current call.
pub record Stored : Type 0 where
  pub dialect : Dialect
  pub numbers : ℕ → Option ℤ
  pub names : List ℕ → Option ℤ
  pub globals : ℕ  -- how many names are set that belong to all calls
  pub locals : ℕ  -- and how many that belong to the current one
  pub callers : List Caller

-- whether parameter n belongs to a call
abbrev pub is_local : Dialect → ℕ → Bool
is_local d n = nat_le 1 n && nat_le n (local_count d)

-- the value to which the program has set a numbered parameter
abbrev pub number_in : {A : Type 0} → Parameters A → ℕ → Option ℤ
number_in p n = slice_index_or p.numbers.items n None

-- the value to which the program has set a name
abbrev pub name_in : {A : Type 0} → Parameters A → List ℕ → Option ℤ
name_in p name = if is_global name then value_in p.globals name else value_in p.locals name

abbrev pub dialect_of : {A : Type 0} → Parameters A → Dialect
dialect_of p = p.dialect

-- the number of calls inside one another
abbrev pub depth_of : {A : Type 0} → Parameters A → ℕ
depth_of p = length p.calls.items

abbrev pub caller_in : {A : Type 0} → Dialect → Call A → Caller
caller_in d c = record {
  numbers = λ n. if is_local d n then slice_index_or c.numbers.items (n - 1) None else None;
  names = λ name. if is_global name then None else value_in c.names name;
  count = count_in c.names;
}

abbrev pub stored_in : {A : Type 0} → Parameters A → Stored
stored_in p = record {
  dialect = p.dialect;
  numbers = number_in p;
  names = name_in p;
  globals = count_in p.globals;
  locals = count_in p.locals;
  callers = map (caller_in p.dialect) p.calls.items;
}

-- the values are those of the parameters that belong to a call, from 1 on
pub record HasLocals {A : Type 0} (p : Parameters A) (values : List (Option ℤ)) : Type 0 where
  pub count : length values ≡ local_count p.dialect
  pub each : (n : ℕ) → n < local_count p.dialect → slice_index_or values n None ≡ number_in p (n + 1)
