-- What is stored is the same if each value is.
use Rattle.std.proofs.Common.{◌≡◌, ◌<◌, ◌≤◌, ℕ, ℤ, ◌+◌, ◌-◌, ◌&&◌, Bool, true, false, List, [], ◌∷◌, ◌++◌, length, map, take, slice_get, nat_le, nat_lt, Option, Some, None, Result, Ok, Err, refl, ap, sym, ◌∙◌, arith}
use Rattle.std.specs.Prelude.{if◌then◌else◌, ◌==◌, slice_index_or}
use Rattle.std.proofs.Math.Path.{fun_ext}
use Rattle.std.proofs.Math.Seq.{take-append_seam}
use Rattle.std.proofs.lemmas.List.{length_push, length-map, map-append}
use Rattle.std.proofs.lemmas.Bool.Decides.{nat_tests}
use Rattle.ngc_dialect_names.specs.declared.dialect.Dialect.{Dialect}
use Rattle.ngc_dialect_parameters.specs.declared.parameters.Parameters.{Parameters}
use Rattle.ngc_dialect_parameters.specs.declared.parameters.Call.{Call}
use Rattle.ngc_dialect_parameters.specs.declared.names.Names.{Names}
use Rattle.ngc_dialect_parameters.specs.declared.fault.StoreFault.{StoreFault}
use Rattle.ngc_dialect_parameters.specs.declared.fault.StoreFault.TheVariants as faults
use Rattle.ngc_dialect_parameters.specs.Names.{value_in, count_in, is_global}
use Rattle.ngc_dialect_parameters.specs.Rules.{local_count}
use Rattle.ngc_dialect_parameters.specs.Stored.{Caller, Stored, HasLocals, caller_in, is_local, name_in, number_in, stored_in}
use Rattle.ngc_dialect_parameters.specs.Storing.{back_to, begun, called, kept, last_of, left, none_stored, with_locals, with_number, without_last}

abbrev made : Dialect → (ℕ → Option ℤ) → (List ℕ → Option ℤ) → ℕ → ℕ → List Caller → Stored
made d numbers names globals locals callers =
    record { dialect = d; numbers = numbers; names = names; globals = globals; locals = locals; callers = callers }

same : (d e : Dialect) (ns ms : ℕ → Option ℤ) (fs gs : List ℕ → Option ℤ) (g h l m : ℕ) (cs ds : List Caller) → d ≡ e
    → ((n : ℕ) → ns n ≡ ms n) → ((name : List ℕ) → fs name ≡ gs name) → g ≡ h → l ≡ m → cs ≡ ds
    → made d ns fs g l cs ≡ made e ms gs h m ds
same d e ns ms fs gs g h l m cs ds dialects numbers names globals locals callers =
    ap (λ (x : Dialect). made x ns fs g l cs) dialects ∙ ap (λ (f : ℕ → Option ℤ). made e f fs g l cs) (fun_ext numbers)
    ∙ ap (λ (f : List ℕ → Option ℤ). made e ms f g l cs) (fun_ext names) ∙ ap (λ (x : ℕ). made e ms gs x l cs) globals
    ∙ ap (λ (x : ℕ). made e ms gs h x cs) locals ∙ ap (λ (x : List Caller). made e ms gs h m x) callers

both_none : (b : Bool) (x y : Option ℤ) → x ≡ None → y ≡ None → (if b then x else y) ≡ None
both_none true x y e f = e
both_none false x y e f = f

map_none : {X Y : Type 0} (f : X → Y) (xs : List X) → xs ≡ [] → map f xs ≡ []
map_none f xs e = ap (map f) e

-- what is stored, by the parts of the parameters
abbrev pub of_parts : {A B C : Type 0} → Dialect → List (Option ℤ) → Names A → Names B → List (Call C) → Stored
of_parts d numbers globals locals calls =
    made d (λ n. slice_index_or numbers n None) (λ name. if is_global name then value_in globals name else value_in locals name)
    (count_in globals) (count_in locals) (map (caller_in d) calls)

pub nothing_stored : {A B C : Type 0} (d : Dialect) (ns : List (Option ℤ)) (gs : Names A) (ls : Names B) (cs : List (Call C)) →
    ((n : ℕ) → slice_index_or ns n None ≡ None)
    → ((name : List ℕ) → value_in gs name ≡ None) → ((name : List ℕ) → value_in ls name ≡ None)
    → count_in gs ≡ 0 → count_in ls ≡ 0 → cs ≡ [] → of_parts d ns gs ls cs ≡ none_stored d
nothing_stored d ns gs ls cs numbers globals locals g l calls =
    same _ _ _ _ _ _ _ _ _ _ _ _ refl numbers (λ name. both_none (is_global name) _ _ (globals name) (locals name)) g l
    (map_none (caller_in d) cs calls)

-- ---- the parameters from 1 up to the i-th

abbrev pub with_first : ℕ → List (Option ℤ) → Stored → Stored
with_first i values k = record k { numbers = λ n. if nat_le 1 n && nat_le n i then slice_index_or values (n - 1) None else k.numbers n }

with_numbers : (k : Stored) (f g : ℕ → Option ℤ) → ((n : ℕ) → f n ≡ g n)
    → made k.dialect f k.names k.globals k.locals k.callers ≡ made k.dialect g k.names k.globals k.locals k.callers
with_numbers k f g e = ap (λ (h : ℕ → Option ℤ). made k.dialect h k.names k.globals k.locals k.callers) (fun_ext e)

none_first : (n : ℕ) (x y : Option ℤ) → (if nat_le 1 n && nat_le n 0 then x else y) ≡ y
none_first n x y = by (nat_le 1 n && nat_le n 0) refl where
  not_both : (n : ℕ) → (nat_le 1 n && nat_le n 0) ≡ true → ⊥
  not_both n e = grind (arith, nat_tests)

  by : (b : Bool) → (nat_le 1 n && nat_le n 0) ≡ b → (if b then x else y) ≡ y
  by true e = absurd (not_both n e)
  by false e = refl

pub none_set : (values : List (Option ℤ)) (k : Stored) → k ≡ with_first 0 values k
none_set values k = with_numbers k k.numbers (λ n. if nat_le 1 n && nat_le n 0 then slice_index_or values (n - 1) None else k.numbers n)
    (λ n. sym (none_first n (slice_index_or values (n - 1) None) (k.numbers n)))

one_more : (i n : ℕ) (x y : Option ℤ) (vs : List (Option ℤ)) → i + 1 < 6000 → x ≡ slice_index_or vs i None →
    (if (n == i + 1) && nat_lt (i + 1) 6000 then x else (if nat_le 1 n && nat_le n i then slice_index_or vs (n - 1) None else y))
    ≡ (if nat_le 1 n && nat_le n (i + 1) then slice_index_or vs (n - 1) None else y)
one_more i n x y vs low is = by (n == i + 1) refl (nat_le 1 n && nat_le n i) refl (nat_le 1 n && nat_le n (i + 1)) refl where
  within : nat_lt (i + 1) 6000 ≡ true
  within = grind (arith, nat_tests)

  at : (n i : ℕ) → (n == i + 1) ≡ true → n - 1 ≡ i
  at n i e = grind (arith, nat_tests)

  late : (n i : ℕ) → (n == i + 1) ≡ true → (nat_le 1 n && nat_le n (i + 1)) ≡ false → ⊥
  late n i e f = grind (arith, nat_tests)

  early : (n i : ℕ) → (n == i + 1) ≡ false → (nat_le 1 n && nat_le n i) ≡ false → (nat_le 1 n && nat_le n (i + 1)) ≡ true → ⊥
  early n i e f g = grind (arith, nat_tests)

  still : (n i : ℕ) → (nat_le 1 n && nat_le n i) ≡ true → (nat_le 1 n && nat_le n (i + 1)) ≡ false → ⊥
  still n i e f = grind (arith, nat_tests)

  by : (a : Bool) → (n == i + 1) ≡ a → (b : Bool) → (nat_le 1 n && nat_le n i) ≡ b → (c : Bool) → (nat_le 1 n && nat_le n (i + 1)) ≡ c →
      (if a && nat_lt (i + 1) 6000 then x else (if b then slice_index_or vs (n - 1) None else y)) ≡ (if c then slice_index_or vs (n - 1) None else y)
  by true e b f true g =
      ap (λ (t : Bool). if t then x else (if b then slice_index_or vs (n - 1) None else y)) within
      ∙ is ∙ ap (λ (j : ℕ). slice_index_or vs j None) (sym (at n i e))
  by true e b f false g = absurd (late n i e g)
  by false e true f true g = refl
  by false e true f false g = absurd (still n i f g)
  by false e false f true g = absurd (early n i e f g)
  by false e false f false g = refl

pub one_more_set : (i : ℕ) (value : Option ℤ) (values : List (Option ℤ)) (k m n : Stored) → i + 1 < 6000 → value ≡ slice_index_or values i None
    → m ≡ with_first i values k → n ≡ with_number (i + 1) value m → n ≡ with_first (i + 1) values k
one_more_set i value values k m n low is first set =
    set ∙ ap (with_number (i + 1) value) first
    ∙ with_numbers k _ _ (λ j. one_more i j value (k.numbers j) values low is)

-- ---- calls

if_same : (b : Bool) (x y z : Option ℤ) → (b ≡ false → y ≡ z) → (if b then x else y) ≡ (if b then x else z)
if_same true x y z h = refl
if_same false x y z h = h refl

if_twice : (b : Bool) (x y z : Option ℤ) → (if b then x else z) ≡ (if b then (if b then x else y) else z)
if_twice true x y z = refl
if_twice false x y z = refl

local_numbers : {A : Type 0} (p : Parameters A) (values : List (Option ℤ)) → HasLocals p values → (n : ℕ) →
    (if is_local p.dialect n then slice_index_or values (n - 1) None else None) ≡ (if is_local p.dialect n then number_in p n else None)
local_numbers p values has n = by (is_local p.dialect n) refl where
  below : (n c : ℕ) → (nat_le 1 n && nat_le n c) ≡ true → n - 1 < c
  below n c e = grind (arith, nat_tests)

  same_number : (n c : ℕ) → (nat_le 1 n && nat_le n c) ≡ true → (n - 1) + 1 ≡ n
  same_number n c e = grind (arith, nat_tests)

  by : (b : Bool) → is_local p.dialect n ≡ b → (if b then slice_index_or values (n - 1) None else None) ≡ (if b then number_in p n else None)
  by false e = refl
  by true e = has.each (n - 1) (below n (local_count p.dialect) e) ∙ ap (number_in p) (same_number n (local_count p.dialect) e)

caller_made : (ns ms : ℕ → Option ℤ) (fs gs : List ℕ → Option ℤ) (l m : ℕ) → ((n : ℕ) → ns n ≡ ms n) → ((name : List ℕ) → fs name ≡ gs name) → l ≡ m →
    (let a : Caller = record { numbers = ns; names = fs; count = l } in let b : Caller = record { numbers = ms; names = gs; count = m } in a ≡ b)
caller_made ns ms fs gs l m numbers names count =
    ap (λ (f : ℕ → Option ℤ). record { numbers = f; names = fs; count = l }) (fun_ext numbers)
    ∙ ap (λ (f : List ℕ → Option ℤ). record { numbers = ms; names = f; count = l }) (fun_ext names)
    ∙ ap (λ (x : ℕ). record { numbers = ms; names = gs; count = x }) count

if_inner : (b : Bool) (x y : Option ℤ) → (if b then None else y) ≡ (if b then None else (if b then x else y))
if_inner true x y = refl
if_inner false x y = refl

-- what a call keeps of its caller
pub caller_kept : {A : Type 0} (p : Parameters A) (c : Call A) → HasLocals p c.numbers.items → c.names ≡ p.locals →
    caller_in p.dialect c ≡ kept (stored_in p)
caller_kept {A} p c has is =
    caller_made _ _ _ _ _ _ (local_numbers p c.numbers.items has)
    (λ name. ap (λ (t : Option ℤ). if is_global name then None else t) (ap (λ (ns : Names A). value_in ns name) is)
    ∙ if_inner (is_global name) (value_in p.globals name) (value_in p.locals name))
    (ap count_in is)

one_fewer : {X : Type 0} (xs : List X) (x : X) → length (xs ++ (x ∷ [])) - 1 ≡ length xs
one_fewer xs x = let e = length_push xs x in omega (arith, e)

got : {X : Type 0} (xs : List X) (x : X) → slice_get (xs ++ (x ∷ [])) (length xs) ≡ Some x
got [] x = refl
got (y ∷ xs) x = got xs x

pub last_snoc : {X : Type 0} (xs : List X) (x : X) → last_of (xs ++ (x ∷ [])) ≡ Some x
last_snoc xs x = ap (λ (n : ℕ). slice_get (xs ++ (x ∷ [])) n) (one_fewer xs x) ∙ got xs x

pub front_snoc : {X : Type 0} (xs : List X) (x : X) → without_last (xs ++ (x ∷ [])) ≡ xs
front_snoc xs x = ap (λ (n : ℕ). take n (xs ++ (x ∷ []))) (one_fewer xs x) ∙ take-append_seam xs (x ∷ [])

old_names : (b : Bool) (x y z w : Option ℤ) → x ≡ z → y ≡ None → (if b then x else y) ≡ (if b then (if b then z else w) else None)
old_names true x y z w e f = e
old_names false x y z w e f = f

of_globals : (b : Bool) (x y : Option ℤ) → b ≡ true → (if b then x else y) ≡ x
of_globals true x y f = refl
of_globals false x y f = absurd (cc f)

-- a call has begun, which keeps what the caller had
pub call_begun : {A B : Type 0} (p : Parameters A) (c : Call A) (fresh : Names B) (calls : List (Call A)) (arguments : List (Option ℤ)) →
    length p.calls.items ≤ 9 → HasLocals p c.numbers.items → c.names ≡ p.locals
    → ((name : List ℕ) → value_in fresh name ≡ None) → count_in fresh ≡ 0 → calls ≡ p.calls.items ++ (c ∷ [])
    → called arguments (stored_in p) ≡ Ok (with_locals arguments (of_parts p.dialect p.numbers.items p.globals fresh calls))
call_begun {A} p c fresh calls arguments room has keeps none count are =
    by (nat_le 10 (length (stored_in p).callers)) refl where
      callers : map (caller_in p.dialect) calls ≡ (stored_in p).callers ++ (kept (stored_in p) ∷ [])
      callers =
          ap (λ (cs : List (Call A)). map (caller_in p.dialect) cs) are ∙ map-append (caller_in p.dialect) p.calls.items (c ∷ [])
          ∙ ap (λ (x : Caller). (stored_in p).callers ++ (x ∷ [])) (caller_kept p c has keeps)

      middle : of_parts p.dialect p.numbers.items p.globals fresh calls ≡ record (stored_in p) {
        names = λ name. if is_global name then (stored_in p).names name else None;
        locals = 0;
        callers = (stored_in p).callers ++ (kept (stored_in p) ∷ []);
      }
      middle =
          same _ _ _ _ _ _ _ _ _ _ _ _ refl (λ n. refl)
          (λ name. old_names (is_global name) _ _ _ _ refl (none name)) refl count callers

      full : nat_le 10 (length (stored_in p).callers) ≡ true → ⊥
      full e = too_many (length (stored_in p).callers) (length p.calls.items) (length-map p.calls.items (caller_in p.dialect)) room e where
        too_many : (n m : ℕ) → n ≡ m → m ≤ 9 → nat_le 10 n ≡ true → ⊥
        too_many n m e l f = grind (arith, nat_tests)

      by : (b : Bool) → nat_le 10 (length (stored_in p).callers) ≡ b →
          (let no : Result Stored StoreFault = Err faults.TooDeep in
          (if b then no else Ok (begun arguments (stored_in p)))
          ≡ Ok (with_locals arguments (of_parts p.dialect p.numbers.items p.globals fresh calls)))
      by true e = absurd (full e)
      by false e = ap (λ (k : Stored). Ok (with_locals arguments k)) (sym middle)

-- a call has ended: `n` has the caller's numbers
pub call_left : {A : Type 0} (p n : Parameters A) (c : Call A) (calls : List (Call A)) → p.calls.items ≡ calls ++ (c ∷ [])
    → stored_in n ≡ with_locals c.numbers.items (of_parts p.dialect p.numbers.items p.globals p.locals calls)
    → of_parts n.dialect n.numbers.items n.globals c.names n.calls.items ≡ left (stored_in p)
call_left {A} p n c rest are set = result ∙ sym (ap (λ (o : Option Caller). back_to o (stored_in p)) last) where
  callers : (stored_in p).callers ≡ map (caller_in p.dialect) rest ++ (caller_in p.dialect c ∷ [])
  callers = ap (map (caller_in p.dialect)) are ∙ map-append (caller_in p.dialect) rest (c ∷ [])

  last : last_of (stored_in p).callers ≡ Some (caller_in p.dialect c)
  last = ap last_of callers ∙ last_snoc (map (caller_in p.dialect) rest) (caller_in p.dialect c)

  front : without_last (stored_in p).callers ≡ map (caller_in p.dialect) rest
  front = ap without_last callers ∙ front_snoc (map (caller_in p.dialect) rest) (caller_in p.dialect c)

  dialect : n.dialect ≡ p.dialect
  dialect = ap (λ (k : Stored). k.dialect) set

  by_local : (b : Bool) (x y : Option ℤ) → (if b then x else y) ≡ (if b then (if b then x else None) else y)
  by_local true x y = refl
  by_local false x y = refl

  numbers : (i : ℕ) → number_in n i ≡ (if is_local p.dialect i then (caller_in p.dialect c).numbers i else number_in p i)
  numbers i =
      ap (λ (k : Stored). k.numbers i) set
      ∙ by_local (is_local p.dialect i) (slice_index_or c.numbers.items (i - 1) None) (number_in p i)

  globals : (name : List ℕ) → is_global name ≡ true → value_in n.globals name ≡ value_in p.globals name
  globals name e =
      sym (of_globals (is_global name) _ _ e) ∙ ap (λ (k : Stored). k.names name) set ∙ of_globals (is_global name) _ _ e

  names : (name : List ℕ) → (if is_global name then value_in n.globals name else value_in c.names name)
      ≡ (if is_global name then name_in p name else (caller_in p.dialect c).names name)
  names name = by_name (is_global name) refl where
    by_name : (b : Bool) → is_global name ≡ b → (if b then value_in n.globals name else value_in c.names name)
        ≡ (if b then (if b then value_in p.globals name else value_in p.locals name) else (if b then None else value_in c.names name))
    by_name true e = globals name e
    by_name false e = refl

  result : of_parts n.dialect n.numbers.items n.globals c.names n.calls.items ≡ back_to (Some (caller_in p.dialect c)) (stored_in p)
  result =
      same _ _ _ _ _ _ _ _ _ _ _ _ dialect numbers names (ap (λ (k : Stored). k.globals) set) refl
      (ap (λ (k : Stored). k.callers) set ∙ sym front)
