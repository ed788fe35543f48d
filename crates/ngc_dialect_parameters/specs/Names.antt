-- Names with their values, as their table has them.
use Rattle.std.specs.Prelude.{ℕ, ℤ, List, Option, Bool}
use Rattle.std.specs.Ordering.{nat_cmp}
use Rattle.std.specs.Cmp.Lexicographic.{slice_cmp}
use Rattle.std.specs.BTreeMap.{get_by}
use Rattle.ngc_line_reader.specs.Scan.{begins}
use Rattle.ngc_dialect_parameters.specs.declared.names.Names.{Names}

-- a name's value, if it is set
abbrev pub value_in : {A : Type 0} → Names A → List ℕ → Option ℤ
value_in names name = get_by (λ key. slice_cmp nat_cmp name key.items) names.table

-- how many names are set
abbrev pub count_in : {A : Type 0} → Names A → ℕ
count_in names = names.count

-- names that begin with '_' belong to all calls
abbrev pub is_global : List ℕ → Bool
is_global name = begins 95 name
