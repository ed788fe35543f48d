-- Texts without the byte order mark at the beginning, by their first bytes.
use Rattle.std.proofs.Common.{◌≡◌, ℕ, zero, suc, ◌+◌, ◌-◌, ◌<◌, ◌≤◌, Bool, true, false, List, [], ◌∷◌, ◌++◌, None, Some, Result, Ok, Err, refl, sym, ap, ◌∙◌, subst, length, take, drop, append_assoc, append-nil, arith}
use Rattle.std.specs.Prelude.{◌==◌, ◌&&◌, ◌||◌, if◌then◌else◌, nat_eq, nat_le, nat_lt, slice_set, Option}
use Rattle.std.proofs.lemmas.List.{length-drop, length-take, length-take-le}
use Rattle.std.proofs.lemmas.Grind.{take-set_at}
use Rattle.std.specs.Str.{bytes_eq}
use Rattle.std.specs.Io.KnownBytes.{Consumes, IsAtEnd, Keeps, ReadConsumes}
use Rattle.std.proofs.lemmas.Bool.{both_ways, ltb-true}
use Rattle.ngc_saved_text.specs.Saved.{IsTold, byte_order_mark, given_of, has_mark, has_return, is_undecided, read_text, unmarked_remaining, without_mark, without_returns}
use Rattle.ngc_saved_text.proofs.ReturnLaws.{none_left, same_returns}

-- more of the first bytes were taken
pub taken_more : (a b : Option (List ℕ)) (front piece more : List ℕ) → Consumes a b piece → more ≡ front ++ piece
    → Keeps (unmarked_remaining true front a) (unmarked_remaining true more b)
taken_more None b front piece more read is = tt
taken_more (Some xs) None front piece more read is = absurd read
taken_more (Some xs) (Some ys) front piece more read is =
    ap without_mark (ap (λ l. l ++ ys) is ∙ append_assoc front piece ys ∙ ap (λ l. front ++ l) (sym read))

by_test : (c : Bool) (x y z : ℕ) (rest : List ℕ) → (if c then rest else x ∷ y ∷ z ∷ rest) ≡ (if c then [] else x ∷ y ∷ z ∷ []) ++ rest
by_test true x y z rest = refl
by_test false x y z rest = refl

second : (c d : Bool) → (c && d) ≡ true → d ≡ true
second true d e = e
second false d e = absurd (both_ways false refl e)

first_of_two : (c d : Bool) → ((c || d) && true) ≡ false → c ≡ false
first_of_two true d e = absurd (both_ways true e refl)
first_of_two false d e = refl

-- the first bytes tell
told : (front rest : List ℕ) → length front ≤ 3 → is_undecided front ≡ false → without_mark (front ++ rest) ≡ given_of front ++ rest
told [] rest few e = absurd (both_ways true e refl)
told (x ∷ []) rest few e = rw (first_of_two (nat_eq x 239) (nat_le 254 x) e) refl
told (x ∷ y ∷ []) rest few e = rw (first_of_two (nat_eq x 239) (nat_le 254 x) e) refl
told (x ∷ y ∷ z ∷ []) rest few e = by_test (bytes_eq (x ∷ y ∷ z ∷ []) byte_order_mark) x y z rest
told (x ∷ y ∷ z ∷ w ∷ more) rest few e = absurd (omega (arith, few))

-- there are no others
told_at_end : (front : List ℕ) → length front < 3 → without_mark (front ++ []) ≡ given_of front ++ []
told_at_end [] few = refl
told_at_end (x ∷ []) few = by_one (nat_eq x 239) where
  by_one : (c : Bool) → (if c && false then [] else x ∷ []) ≡ (if c && false then [] else x ∷ []) ++ []
  by_one true = refl
  by_one false = refl
told_at_end (x ∷ y ∷ []) few = by_two (nat_eq x 239) (nat_eq y 187) where
  by_two : (c d : Bool) → (if c && (d && false) then [] else x ∷ y ∷ []) ≡ (if c && (d && false) then [] else x ∷ y ∷ []) ++ []
  by_two true true = refl
  by_two true false = refl
  by_two false d = refl
told_at_end (x ∷ y ∷ z ∷ more) few = absurd (omega (arith, few))

pub undecided_few : (front : List ℕ) → is_undecided front ≡ true → length front < 3
undecided_few [] e = omega arith
undecided_few (x ∷ rest) e =
    omega (arith, ltb-true (length rest) 2 (second (nat_eq x 239 || nat_le 254 x) (nat_lt (length rest) 2) e))

pub told_by_front : (known : Option (List ℕ)) (front : List ℕ) → length front ≤ 3 → is_undecided front ≡ false → IsTold front known
told_by_front None front few e = tt
told_by_front (Some rest) front few e = told front rest few e

pub told_by_end : (known : Option (List ℕ)) (front : List ℕ) → length front < 3 → IsAtEnd known → IsTold front known
told_by_end None front few end = tt
told_by_end (Some rest) front few end =
    ap (λ l. without_mark (front ++ l)) end ∙ told_at_end front few ∙ sym (ap (λ l. given_of front ++ l) end)

pub decided : (known : Option (List ℕ)) (front given : List ℕ) → IsTold front known → given ≡ given_of front
    → Keeps (unmarked_remaining true front known) (unmarked_remaining false given known)
decided None front given is_told is = tt
decided (Some rest) front given is_told is = ap (λ l. l ++ rest) is ∙ sym is_told

-- bytes that were held back are given out
pub given_out : (known : Option (List ℕ)) (front now given : List ℕ) → front ≡ now ++ given
    → Consumes (unmarked_remaining false front known) (unmarked_remaining false given known) now
given_out None front now given is = tt
given_out (Some rest) front now given is = ap (λ l. l ++ rest) is ∙ append_assoc now given rest

-- nothing is held back
pub passed_on : (a b : Option (List ℕ)) (front bytes : List ℕ) → front ≡ [] → Consumes a b bytes
    → Consumes (unmarked_remaining false front a) (unmarked_remaining false front b) bytes
passed_on None b front bytes is read = tt
passed_on (Some xs) None front bytes is read = absurd read
passed_on (Some xs) (Some ys) front bytes is read =
    ap (λ l. l ++ xs) is ∙ read ∙ ap (λ l. bytes ++ (l ++ ys)) (sym is)

pub ended : (b : Option (List ℕ)) (front : List ℕ) → front ≡ [] → IsAtEnd b → IsAtEnd (unmarked_remaining false front b)
ended None front is end = tt
ended (Some ys) front is end = ap (λ l. l ++ ys) is ∙ end

pub kept_on : (a b : Option (List ℕ)) (front : List ℕ) → Keeps a b → Keeps (unmarked_remaining false front a) (unmarked_remaining false front b)
kept_on None b front keeps = tt
kept_on (Some xs) None front keeps = absurd keeps
kept_on (Some xs) (Some ys) front keeps = ap (λ l. front ++ l) keeps

pub given_by : {S : Type 0} (remaining : S → Option (List ℕ)) (old new : S) (start : Bool) (front now given : List ℕ) → new ≡ old → start ≡ false
    → front ≡ now ++ given → Consumes (unmarked_remaining false front (remaining old)) (unmarked_remaining start given (remaining new)) now
given_by remaining old new start front now given same looked is =
    subst (λ s. Consumes (unmarked_remaining false front (remaining old)) (unmarked_remaining s given (remaining new)) now) (sym looked)
    (subst (λ n. Consumes (unmarked_remaining false front (remaining old)) (unmarked_remaining false given (remaining n)) now) (sym same)
    (given_out (remaining old) front now given is))

pub pull_passed : {E : Type 0} (start : Bool) (a b : Option (List ℕ)) (front : List ℕ) (r : Result ℕ E) (buf : List ℕ) → start ≡ false → front ≡ []
    → ReadConsumes a b r buf → ReadConsumes (unmarked_remaining false front a) (unmarked_remaining start front b) r buf
pull_passed start a b front (Ok n) buf looked is read =
    subst (λ s. Consumes (unmarked_remaining false front a) (unmarked_remaining s front b) (take n buf)
    × (n ≡ 0 → 0 < length buf → IsAtEnd (unmarked_remaining s front b))) (sym looked)
    (passed_on a b front (take n buf) is read.0, λ none room. ended b front is (read.1 none room))
pull_passed start a b front (Err e) buf looked is read =
    subst (λ s. Keeps (unmarked_remaining false front a) (unmarked_remaining s front b)) (sym looked) (kept_on a b front read)

pub front_more : (front : List ℕ) (taken given byte : ℕ) → given ≡ 0 → taken < length front
    → drop given (take (taken + 1) (slice_set front taken byte)) ≡ drop given (take taken front) ++ byte ∷ []
front_more front taken given byte none h = rw none (take-set_at front taken (taken + 1) byte refl h)

pub empty_front : (front : List ℕ) (taken given : ℕ) → (given < taken → ⊥) → drop given (take taken front) ≡ []
empty_front front taken given h = none_left (take taken front) given (omega (arith, h, length-take taken front))

pub some_front : (front : List ℕ) (taken given : ℕ) → given < taken → taken ≤ length front → drop given (take taken front) ≡ [] → ⊥
some_front front taken given h le e = omega (arith, h, length-take-le taken front le, length-drop given (take taken front), ap length e)

same_mark : (text : List ℕ) → has_mark text ≡ false → without_mark text ≡ text
same_mark text e = rw e refl

pub same_text : (in_lines : Bool) (text : List ℕ) → has_mark text ≡ false → has_return text ≡ false → read_text in_lines text ≡ text
same_text true text mark returns = ap without_returns (same_mark text mark) ∙ same_returns text returns
same_text false text mark returns = same_mark text mark
