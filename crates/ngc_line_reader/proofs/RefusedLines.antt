-- Why a line is refused for one of its limits.
use Rattle.std.proofs.Common.{◌≡◌, ℕ, zero, suc, ◌+◌, ap, subst, Bool, true, false, cond, Option, None, Some, List, [], ◌∷◌, ◌++◌, length, drop, Result, Ok}
use Rattle.std.proofs.Common.{Err, refl, sym, ◌∙◌, append_assoc, arith, ◌⊎◌, inl, inr, ℤ}
use Rattle.std.specs.Prelude.{IfErr, ◌==◌, ◌&&◌, ◌||◌, nat_le, slice_index, unsigned_abs}
use Rattle.std.specs.Char.{is_ascii_digit}
use Rattle.std.specs.List.{AllByRecursion, prefix_len}
use Rattle.std.proofs.lemmas.Bool.{eqb-true, le-leb}
use Rattle.std.proofs.lemmas.Bool.Decides.{nat_tests}
use Rattle.ngc_fixed_length.specs.declared.fault.NumberFault.TheVariants as number_faults
use Rattle.ngc_fixed_length.specs.Limits.{limited, IsValue, VALUE_LIMIT}
use Rattle.ngc_line_reader.specs.declared.token.Operator.{Operator}
use Rattle.ngc_line_reader.specs.declared.token.Operator.TheVariants.{Add, Subtract, Multiply, Divide}
use Rattle.ngc_line_reader.specs.declared.token.Symbol.TheVariants as mark
use Rattle.ngc_line_reader.specs.declared.token.Token.{Token}
use Rattle.ngc_line_reader.specs.declared.fault.FaultKind.{FaultKind}
use Rattle.ngc_line_reader.specs.declared.fault.FaultKind.TheVariants.{TooLarge, LineTooLong, UnknownCharacter, BadNumber, BadWord, BadLineNumber}
use Rattle.ngc_line_reader.specs.declared.fault.FaultKind.TheVariants.{CommentNotClosed, CommentNested, Bracket, TooManyWords}
use Rattle.ngc_line_reader.specs.declared.fault.LineFault.{LineFault}
use Rattle.ngc_line_reader.specs.declared.fault.ItemRefusal.{ItemRefusal}
use Rattle.ngc_line_reader.specs.declared.fault.ItemRefusal.TheVariants.{OfItem, AtByte}
use Rattle.ngc_line_reader.specs.declared.letter.Letter.{Letter}
use Rattle.ngc_line_reader.specs.declared.line.Line.{Line}
use Rattle.ngc_line_reader.specs.Letter.{letter_byte, letter_of}
use Rattle.ngc_line_reader.specs.Text.{text, place_in}
use Rattle.ngc_line_reader.specs.Tokens.{token_at}
use Rattle.ngc_line_reader.specs.Grammar.{Item, IsItem, items_text, item_text, optional_part, Real, real_text, operator_byte, numeral_text, Stops}
use Rattle.ngc_line_reader.specs.Numbers.{written_value}
use Rattle.ngc_line_reader.specs.Held.{word_count, item_words}
use Rattle.ngc_line_reader.specs.Scan.{◌>>=◌, Gives, begins, begins_unknown, refusal, after_sign, digits_at, after_digits, whole_at, fraction_at, after_number}
use Rattle.ngc_line_reader.specs.Scan.{value_fits, number_at, number_token, operator_at, real_at, rest_at}
use Rattle.ngc_line_reader.specs.ScanLine.{Parts, no_parts, with_word, with_setting, word_at, value_after, setting_at, after_comment, comment_at, start_fault}
use Rattle.ngc_line_reader.specs.ScanLine.{by_letter, other_item_at, item_at, fault_at, located, items_at, numbered, line_number_at, ParsedLine, parsed_line_of, after_slash}
use Rattle.ngc_line_reader.specs.ScanLine.{text_at}
use Rattle.ngc_line_reader.specs.Refused.{HasTooLarge, HasWords, WritesTooLarge, WritesManyWords}
use Rattle.ngc_line_reader.proofs.LetterLemmas.{letter_bounds, letter_no_digit}
use Rattle.ngc_line_reader.proofs.UniqueReading.{NoDigit}
use Rattle.ngc_line_reader.proofs.UniqueLine.{slash}
use Rattle.ngc_line_reader.proofs.Scanning.{nonempty}
use Rattle.ngc_line_reader.proofs.ValueTexts.{chosen, begins_is, numeral_of, numeral_parts, numeral_is, operator_takes, real_takes}
use Rattle.ngc_line_reader.proofs.ReadLines.{letter_first, item_takes, step_words, located_ok, number_takes, slash_takes}

abbrev err : {A E : Type 0} → E → Result A E
err e = Err e

err_is : {A E : Type 0} (d e : E) → err {A = A} d ≡ err {A = A} e → d ≡ e
err_is d e h = cc

bind_err : {A B E : Type 0} (r : Result A E) (f : A → Result B E) (e : E) → (r >>= f) ≡ Err e → (r ≡ Err e) ⊎ ((x : A) × (r ≡ Ok x) × (f x ≡ Err e))
bind_err (Ok x) f e h = inr (x, refl, h)
bind_err {B = B} (Err d) f e h = inl (ap err (err_is {A = B} d e h))

abbrev failed : {A : Type 0} → FaultKind → Result A ItemRefusal
failed k = Err (OfItem k)

kind_is : {A : Type 0} (j k : FaultKind) → failed {A = A} j ≡ failed {A = A} k → j ≡ k
kind_is j k e = cc

-- a refusal for an item's own fault has that fault's kind
refusal_is : {A : Type 0} (j k : FaultKind) (s : List ℕ) → err {A = A} (refusal j s) ≡ failed {A = A} k → j ≡ k
refusal_is {A = A} j k s e = by_test (begins_unknown s) e where
  by_test : (x : Bool) → err {A = A} (cond x (AtByte (length s)) (OfItem j)) ≡ failed {A = A} k → j ≡ k
  by_test true e = absurd cc
  by_test false e = kind_is j k e

-- a longer front
further : (xs s : List ℕ) → HasTooLarge s → HasTooLarge (xs ++ s)
further xs s h = record {
  front = xs ++ h.front;
  mark = h.mark;
  number = h.number;
  end = h.end;
  is = h.is;
  large = h.large;
  parted = h.parted;
  whole = h.whole;
  written = ap (λ (t : List ℕ). xs ++ t) h.written ∙ sym (append_assoc xs h.front (h.mark ∷ (numeral_text h.number ++ h.end)));
}

same_text : (s t : List ℕ) → s ≡ t → HasTooLarge t → HasTooLarge s
same_text s t e h = subst (λ (u : List ℕ). HasTooLarge u) (sym e) h

-- why a real value is refused
abbrev RealWhy : FaultKind → List ℕ → Type 0
RealWhy TooLarge s = HasTooLarge s
RealWhy LineTooLong s = ⊥
RealWhy UnknownCharacter s = ⊥
RealWhy BadNumber s = Unit {0}
RealWhy BadWord s = ⊥
RealWhy BadLineNumber s = ⊥
RealWhy CommentNotClosed s = ⊥
RealWhy CommentNested s = ⊥
RealWhy Bracket s = Unit {0}
RealWhy TooManyWords s = ⊥

real_further : (k : FaultKind) (xs s : List ℕ) → RealWhy k s → RealWhy k (xs ++ s)
real_further TooLarge xs s h = further xs s h
real_further LineTooLong xs s h = h
real_further UnknownCharacter xs s h = h
real_further BadNumber xs s h = h
real_further BadWord xs s h = h
real_further BadLineNumber xs s h = h
real_further CommentNotClosed xs s h = h
real_further CommentNested xs s h = h
real_further Bracket xs s h = h
real_further TooManyWords xs s h = h

real_same : (k : FaultKind) (s t : List ℕ) → s ≡ t → RealWhy k t → RealWhy k s
real_same k s t e h = subst (λ (u : List ℕ). RealWhy k u) (sym e) h

of_kind : (j k : FaultKind) (s : List ℕ) → j ≡ k → RealWhy j s → RealWhy k s
of_kind j k s e h = subst (λ (i : FaultKind). RealWhy i s) e h

-- no digit follows digits, and no part of a number follows a number
no_digit_after : (t : List ℕ) → NoDigit (after_digits t)
no_digit_after [] = tt
no_digit_after (b ∷ t) = by_test (is_ascii_digit b) refl (no_digit_after t) where
  by_test : (x : Bool) → is_ascii_digit b ≡ x → NoDigit (after_digits t) → NoDigit (after_digits (b ∷ t))
  by_test true e later = let one : 1 + prefix_len is_ascii_digit t ≡ suc (prefix_len is_ascii_digit t) = omega arith in rw (e, one) later
  by_test false e later = rw e e

number_ends : (s : List ℕ) → begins 46 (after_number s) ≡ false → Stops (after_number s)
number_ends s point = stops (after_number s) (by_test (begins 46 u) (no_digit_after (drop 1 u)) (no_digit_after (after_sign s))) point where
  u : List ℕ
  u = after_digits (after_sign s)

  by_test : (x : Bool) → NoDigit (after_digits (drop 1 u)) → NoDigit u → NoDigit (cond x (after_digits (drop 1 u)) u)
  by_test true a b = a
  by_test false a b = b

  stops : (r : List ℕ) → NoDigit r → begins 46 r ≡ false → Stops r
  stops [] n p = tt
  stops (b ∷ r) n p = (n, λ e. grind (arith, nat_tests))

-- a value that does not fit is over the limit
not_value : (z : ℤ) (k : FaultKind) → value_fits (limited z) ≡ failed k → (¬ IsValue z) × (TooLarge ≡ k)
not_value z k h = by_test (nat_le (unsigned_abs z) VALUE_LIMIT) refl h where
  by_test : (x : Bool) → nat_le (unsigned_abs z) VALUE_LIMIT ≡ x → value_fits (cond x (Ok z) (Err number_faults.TooLarge)) ≡ failed k →
      (¬ IsValue z) × (TooLarge ≡ k)
  by_test true le h = absurd cc
  by_test false gt h = (λ is. differ (nat_le (unsigned_abs z) VALUE_LIMIT) gt (le-leb _ _ is), kind_is TooLarge k h) where
    differ : (b : Bool) → b ≡ false → b ≡ true → ⊥
    differ b e f = cc

abbrev read_as : ℤ → List ℕ → Result (ℤ × List ℕ) ItemRefusal
read_as z r = Ok (z, r)

number_why : (c : ℕ) (s : List ℕ) (k : FaultKind) → Stops (c ∷ []) → number_at s ≡ failed k → RealWhy k (c ∷ s)
unfolding number_at
number_why c s k parted e =
    let w = written_value (begins 45 s) (whole_at s) (fraction_at s) in
    elim (chosen ((length (whole_at s) == 0) && (length (fraction_at s) == 0)) (Err (refusal BadNumber (after_number s))) _ (failed k) e) [
      | inl h ↦ of_kind BadNumber k (c ∷ s) (refusal_is BadNumber k (after_number s) h.1) tt
      | inr h ↦ elim (chosen (begins 46 (after_number s)) (failed BadNumber) _ (failed k) h.1) [
        | inl j ↦ of_kind BadNumber k (c ∷ s) (kind_is BadNumber k j.1) tt
        | inr j ↦ elim (bind_err (value_fits (limited w)) (λ z. read_as z (after_number s)) (OfItem k) j.1) [
          | inl i ↦
              let v = not_value w k i in
              let n = numeral_is s (nonempty (length (whole_at s)) (length (fraction_at s)) h.0) in
              of_kind TooLarge k (c ∷ s) v.1 (record {
                front = [];
                mark = c;
                number = numeral_of s;
                end = after_number s;
                is = n.0;
                large = λ is. v.0 (subst IsValue (sym n.1) is);
                parted = parted;
                whole = number_ends s j.0;
                written = ap (λ (t : List ℕ). c ∷ t) (numeral_parts s);
              })
          | inr i ↦ absurd (cc i.2)
        ]
      ]
    ]

abbrev Pair : Type 0
Pair = List Token × List ℕ

abbrev pair_of : List Token → List ℕ → Result Pair ItemRefusal
pair_of ts r = Ok (ts, r)

token_why : (place : ℕ → ℕ) (c : ℕ) (found : List Token) (s : List ℕ) (k : FaultKind) → Stops (c ∷ []) → number_token place found s ≡ failed k →
    RealWhy k (c ∷ s)
token_why place c found s k parted e =
    elim (bind_err (number_at s) (λ x. pair_of (found ++ (token_at place (mark.Number x.0) s ∷ [])) x.1) (OfItem k) e) [
      | inl h ↦ number_why c s k parted h
      | inr h ↦ absurd (cc h.2)
    ]

operator_stops : (o : Operator) → Stops (operator_byte o ∷ [])
operator_stops Add = (refl, λ e. omega arith)
operator_stops Subtract = (refl, λ e. omega arith)
operator_stops Multiply = (refl, λ e. omega arith)
operator_stops Divide = (refl, λ e. omega arith)

abbrev fine : Operator → Result Operator ItemRefusal
fine o = Ok o

operator_why : (s : List ℕ) (k : FaultKind) → operator_at s ≡ failed k → Bracket ≡ k
unfolding operator_at
operator_why s k e =
    elim (chosen (begins 43 s) (fine Add) _ (failed k) e) [
      | inl h ↦ absurd (cc h.1)
      | inr h ↦ elim (chosen (begins 45 s) (fine Subtract) _ (failed k) h.1) [
        | inl h ↦ absurd (cc h.1)
        | inr h ↦ elim (chosen (begins 42 s) (fine Multiply) _ (failed k) h.1) [
          | inl h ↦ absurd (cc h.1)
          | inr h ↦ elim (chosen (begins 47 s) (fine Divide) _ (failed k) h.1) [
            | inl h ↦ absurd (cc h.1)
            | inr h ↦ refusal_is Bracket k s h.1
          ]
        ]
      ]
    ]

-- the refusals after a byte that begins s, and a value after it
behind_value : (k : FaultKind) (c : ℕ) (v : Real) (s r : List ℕ) → s ≡ c ∷ drop 1 s → drop 1 s ≡ real_text v ++ r → RealWhy k r → RealWhy k s
behind_value k c v s r e f h = real_same k s ((c ∷ real_text v) ++ r) (e ∙ ap (λ (t : List ℕ). c ∷ t) f) (real_further k (c ∷ real_text v) r h)

mutual
  unfolding real_at rest_at

  -- a real value after a byte c
  real_why : (place : ℕ → ℕ) (room c : ℕ) (found : List Token) (s : List ℕ) (k : FaultKind) → Stops (c ∷ []) → real_at place room found s ≡ failed k →
      RealWhy k (c ∷ s)
  real_why place zero c found s k parted e = of_kind Bracket k (c ∷ s) (kind_is Bracket k e) tt
  real_why place (suc room) c found s k parted e =
      let with_hash = found ++ (token_at place mark.Parameter s ∷ []) in
      let with_open = found ++ (token_at place mark.Open s ∷ []) in
      elim (chosen (begins 35 s) (real_at place room with_hash (drop 1 s)) _ (failed k) e) [
        | inl h ↦ real_further k (c ∷ []) s
            (real_same k s (35 ∷ drop 1 s) (begins_is 35 s h.0) (real_why place room 35 with_hash (drop 1 s) k (refl, λ q. omega arith) h.1))
        | inr h ↦ elim (chosen (begins 91 s) (real_at place room with_open (drop 1 s) >>= λ y. rest_at place room y.0 y.1) (number_token place found s)
            (failed k) h.1) [
              | inl j ↦ elim (bind_err (real_at place room with_open (drop 1 s)) (λ y. rest_at place room y.0 y.1) (OfItem k) j.1) [
                | inl i ↦ real_further k (c ∷ []) s
                    (real_same k s (91 ∷ drop 1 s) (begins_is 91 s j.0) (real_why place room 91 with_open (drop 1 s) k (refl, λ q. omega arith) i))
                | inr i ↦
                    let t = real_takes place room with_open (drop 1 s) i.0 i.1 in
                    real_further k (c ∷ []) s (behind_value k 91 t.v s i.0.1 (begins_is 91 s j.0) t.parts (rest_why place room i.0.0 i.0.1 k i.2))
              ]
              | inr j ↦ token_why place c found s k parted j.1
            ]
      ]

  rest_why : (place : ℕ → ℕ) (room : ℕ) (found : List Token) (s : List ℕ) (k : FaultKind) → rest_at place room found s ≡ failed k → RealWhy k s
  rest_why place zero found s k e = of_kind Bracket k s (kind_is Bracket k e) tt
  rest_why place (suc room) found s k e =
      elim (chosen (begins 93 s) (pair_of (found ++ (token_at place mark.Close s ∷ [])) (drop 1 s)) _ (failed k) e) [
        | inl h ↦ absurd (cc h.1)
        | inr h ↦ elim (bind_err (operator_at s)
            (λ o. real_at place room (found ++ (token_at place (mark.Operator o) s ∷ [])) (drop 1 s) >>= λ y. rest_at place room y.0 y.1) (OfItem k) h.1) [
              | inl j ↦ of_kind Bracket k s (operator_why s k j) tt
              | inr j ↦
                  let with_sign = found ++ (token_at place (mark.Operator j.0) s ∷ []) in
                  let sign = operator_takes s j.0 j.1 in
                  elim (bind_err (real_at place room with_sign (drop 1 s)) (λ y. rest_at place room y.0 y.1) (OfItem k) j.2) [
                    | inl i ↦ real_same k s (operator_byte j.0 ∷ drop 1 s) sign
                        (real_why place room (operator_byte j.0) with_sign (drop 1 s) k (operator_stops j.0) i)
                    | inr i ↦
                        let t = real_takes place room with_sign (drop 1 s) i.0 i.1 in
                        behind_value k (operator_byte j.0) t.v s i.0.1 sign t.parts (rest_why place room i.0.0 i.0.1 k i.2)
                  ]
            ]
      ]

letter_parted : (l : Letter) → Stops (letter_byte l ∷ [])
letter_parted l = (letter_no_digit l, λ e. omega (arith, letter_bounds l, e))

-- why an item is refused
abbrev ItemWhy : FaultKind → Parts → List ℕ → Type 0
ItemWhy TooLarge found s = HasTooLarge s
ItemWhy LineTooLong found s = Unit {0}
ItemWhy UnknownCharacter found s = Unit {0}
ItemWhy BadNumber found s = Unit {0}
ItemWhy BadWord found s = Unit {0}
ItemWhy BadLineNumber found s = Unit {0}
ItemWhy CommentNotClosed found s = Unit {0}
ItemWhy CommentNested found s = Unit {0}
ItemWhy Bracket found s = Unit {0}
ItemWhy TooManyWords found s = (length found.words ≡ 64) × ((l : Letter) × (s ≡ letter_byte l ∷ drop 1 s))

item_of_real : (k : FaultKind) (found : Parts) (s : List ℕ) → RealWhy k s → ItemWhy k found s
item_of_real TooLarge found s h = h
item_of_real LineTooLong found s h = tt
item_of_real UnknownCharacter found s h = tt
item_of_real BadNumber found s h = tt
item_of_real BadWord found s h = tt
item_of_real BadLineNumber found s h = tt
item_of_real CommentNotClosed found s h = tt
item_of_real CommentNested found s h = tt
item_of_real Bracket found s h = tt
item_of_real TooManyWords found s h = absurd h

item_kind : (j k : FaultKind) (found : Parts) (s : List ℕ) → j ≡ k → ItemWhy j found s → ItemWhy k found s
item_kind j k found s e h = subst (λ (i : FaultKind). ItemWhy i found s) e h

abbrev parts_and : Parts → List ℕ → Result (Parts × List ℕ) ItemRefusal
parts_and p r = Ok (p, r)

word_why : (place : ℕ → ℕ) (room : ℕ) (found : Parts) (l : Letter) (s : List ℕ) (k : FaultKind) → s ≡ letter_byte l ∷ drop 1 s →
    word_at place room found l s ≡ failed k → ItemWhy k found s
unfolding word_at
word_why place room found l s k first e =
    elim (chosen (length found.words == 64) (failed TooManyWords) _ (failed k) e) [
      | inl h ↦ item_kind TooManyWords k found s (kind_is TooManyWords k h.1) (eqb-true (length found.words) 64 h.0, (l, first))
      | inr h ↦ elim (bind_err (real_at place room found.tokens (drop 1 s)) (λ x. parts_and (with_word place found l s x.0) x.1) (OfItem k) h.1) [
        | inl i ↦ item_of_real k found s
            (real_same k s (letter_byte l ∷ drop 1 s) first (real_why place room (letter_byte l) found.tokens (drop 1 s) k (letter_parted l) i))
        | inr i ↦ absurd (cc i.2)
      ]
    ]

value_why : (place : ℕ → ℕ) (room : ℕ) (found : Parts) (s : List ℕ) (index : List Token) (r : List ℕ) (k : FaultKind) →
    value_after place room found s index r ≡ failed k → RealWhy k r
unfolding value_after
value_why place room found s index r k e =
    elim (chosen (begins 61 r) _ (err (refusal BadNumber r)) (failed k) e) [
      | inl h ↦ elim (bind_err (real_at place room index (drop 1 r)) (λ x. parts_and (with_setting place found s index x.0) x.1) (OfItem k) h.1) [
        | inl i ↦ real_same k r (61 ∷ drop 1 r) (begins_is 61 r h.0) (real_why place room 61 index (drop 1 r) k (refl, λ q. omega arith) i)
        | inr i ↦ absurd (cc i.2)
      ]
      | inr h ↦ of_kind BadNumber k r (refusal_is BadNumber k r h.1) tt
    ]

setting_why : (place : ℕ → ℕ) (room : ℕ) (found : Parts) (s : List ℕ) (k : FaultKind) → begins 35 s ≡ true →
    setting_at place room found s ≡ failed k → RealWhy k s
unfolding setting_at
setting_why place room found s k hash e =
    elim (bind_err (real_at place room found.tokens (drop 1 s)) (λ x. value_after place room found s x.0 x.1) (OfItem k) e) [
      | inl i ↦ real_same k s (35 ∷ drop 1 s) (begins_is 35 s hash) (real_why place room 35 found.tokens (drop 1 s) k (refl, λ q. omega arith) i)
      | inr i ↦
          let t = real_takes place room found.tokens (drop 1 s) i.0 i.1 in
          behind_value k 35 t.v s i.0.1 (begins_is 35 s hash) t.parts (value_why place room found s i.0.0 i.0.1 k i.2)
    ]

comment_why : (found : Parts) (s : List ℕ) (k : FaultKind) → (comment_at s >>= λ r. parts_and found r) ≡ failed k → ItemWhy k found s
comment_why found s k e =
    let end = after_comment (drop 1 s) in
    elim (bind_err (comment_at s) (λ r. parts_and found r) (OfItem k) e) [
      | inl i ↦ elim (chosen (begins 41 end) (Ok (drop 1 end)) _ (failed k) i) [
        | inl h ↦ absurd (cc h.1)
        | inr h ↦ elim (chosen (begins 40 end) (failed CommentNested) (failed CommentNotClosed) (failed k) h.1) [
          | inl j ↦ item_kind CommentNested k found s (kind_is CommentNested k j.1) tt
          | inr j ↦ item_kind CommentNotClosed k found s (kind_is CommentNotClosed k j.1) tt
        ]
      ]
      | inr i ↦ absurd (cc i.2)
    ]

start_why : (b : ℕ) (found : Parts) (s : List ℕ) → ItemWhy (start_fault b) found s
start_why b found s = by_tests (nat_le 65 b && nat_le b 90) (is_ascii_digit b || (b == 43) || (b == 45) || (b == 46)) ((b == 91) || (b == 93)) where
  by_tests : (x y z : Bool) → ItemWhy (cond x BadWord (cond y BadNumber (cond z Bracket UnknownCharacter))) found s
  by_tests true y z = tt
  by_tests false true z = tt
  by_tests false false true = tt
  by_tests false false false = tt

other_item_why : (place : ℕ → ℕ) (room : ℕ) (found : Parts) (s : List ℕ) (k : FaultKind) → other_item_at place room found s ≡ failed k → ItemWhy k found s
unfolding other_item_at
other_item_why place room found s k e =
    elim (chosen (begins 35 s) (setting_at place room found s) _ (failed k) e) [
      | inl h ↦ item_of_real k found s (setting_why place room found s k h.0 h.1)
      | inr h ↦ elim (chosen (begins 40 s) (comment_at s >>= λ r. parts_and found r) (failed (start_fault (slice_index s 0))) (failed k) h.1) [
        | inl j ↦ comment_why found s k j.1
        | inr j ↦ item_kind (start_fault (slice_index s 0)) k found s (kind_is (start_fault (slice_index s 0)) k j.1) (start_why (slice_index s 0) found s)
      ]
    ]

item_why : (place : ℕ → ℕ) (room : ℕ) (found : Parts) (s : List ℕ) (k : FaultKind) → item_at place room found s ≡ failed k → ItemWhy k found s
unfolding item_at
item_why place room found s k e = by_first (letter_of (slice_index s 0)) (λ l. letter_first s l) e where
  by_first : (l : Option Letter) → ((letter : Letter) → l ≡ Some letter → s ≡ letter_byte letter ∷ drop 1 s)
      → by_letter l (λ letter. word_at place room found letter s) (other_item_at place room found s) ≡ failed k → ItemWhy k found s
  by_first None first e = other_item_why place room found s k e
  by_first (Some letter) first e = word_why place room found letter s k (first letter refl) e

-- items whose words, with n before them, are 64, and a word after them
record Many (n : ℕ) (s : List ℕ) : Type 0 where
  items : List Item
  letter : Letter
  end : List ℕ
  are : AllByRecursion IsItem items
  count : n + word_count items ≡ 64
  written : s ≡ items_text items ++ (letter_byte letter ∷ end)

-- why items are refused
abbrev ItemsWhy : FaultKind → Parts → List ℕ → Type 0
ItemsWhy TooLarge found s = HasTooLarge s
ItemsWhy LineTooLong found s = Unit {0}
ItemsWhy UnknownCharacter found s = Unit {0}
ItemsWhy BadNumber found s = Unit {0}
ItemsWhy BadWord found s = Unit {0}
ItemsWhy BadLineNumber found s = Unit {0}
ItemsWhy CommentNotClosed found s = Unit {0}
ItemsWhy CommentNested found s = Unit {0}
ItemsWhy Bracket found s = Unit {0}
ItemsWhy TooManyWords found s = Many (length found.words) s

items_of_item : (k : FaultKind) (found : Parts) (s : List ℕ) → ItemWhy k found s → ItemsWhy k found s
items_of_item TooLarge found s h = h
items_of_item LineTooLong found s h = tt
items_of_item UnknownCharacter found s h = tt
items_of_item BadNumber found s h = tt
items_of_item BadWord found s h = tt
items_of_item BadLineNumber found s h = tt
items_of_item CommentNotClosed found s h = tt
items_of_item CommentNested found s h = tt
items_of_item Bracket found s h = tt
items_of_item TooManyWords found s h = record { items = []; letter = h.1.0; end = drop 1 s; are = tt; count = omega (arith, h.0); written = h.1.1 }

-- after one more item
items_further : (k : FaultKind) (found next : Parts) (i : Item) (s r : List ℕ) → IsItem i → length next.words ≡ length found.words + item_words i →
    s ≡ item_text i ++ r → ItemsWhy k next r → ItemsWhy k found s
items_further TooLarge found next i s r is count e h = same_text s (item_text i ++ r) e (further (item_text i) r h)
items_further LineTooLong found next i s r is count e h = tt
items_further UnknownCharacter found next i s r is count e h = tt
items_further BadNumber found next i s r is count e h = tt
items_further BadWord found next i s r is count e h = tt
items_further BadLineNumber found next i s r is count e h = tt
items_further CommentNotClosed found next i s r is count e h = tt
items_further CommentNested found next i s r is count e h = tt
items_further Bracket found next i s r is count e h = tt
items_further TooManyWords found next i s r is count e h = record {
  items = i ∷ h.items;
  letter = h.letter;
  end = h.end;
  are = (is, h.are);
  count = omega (arith, h.count, count);
  written = e ∙ ap (λ (t : List ℕ). item_text i ++ t) h.written ∙ sym (append_assoc (item_text i) (items_text h.items) (letter_byte h.letter ∷ h.end));
}

abbrev refused : {A : Type 0} → LineFault → Result A LineFault
refused f = Err f

fault_is : {A : Type 0} (f g : LineFault) → refused {A = A} f ≡ refused {A = A} g → f ≡ g
fault_is f g e = cc

-- a refusal, with its column
located_why : {A : Type 0} (place : ℕ → ℕ) (s : List ℕ) (r : Result A ItemRefusal) (f : LineFault) (P : FaultKind → Type 0) →
    ((k : FaultKind) → r ≡ failed k → P k) → P UnknownCharacter → located place s r ≡ refused f → P f.kind
located_why place s (Ok x) f P item byte e = absurd cc
located_why {A = A} place s (Err (OfItem k)) f P item byte e =
    subst (λ (g : LineFault). P g.kind) (fault_is {A = A} (fault_at k (place (length s))) f e) (item k refl)
located_why {A = A} place s (Err (AtByte left)) f P item byte e =
    subst (λ (g : LineFault). P g.kind) (fault_is {A = A} (fault_at UnknownCharacter (place left)) f e) byte

items_why : (place : ℕ → ℕ) (room : ℕ) (found : Parts) (s : List ℕ) (f : LineFault) → items_at place room found s ≡ refused f → ItemsWhy f.kind found s
unfolding items_at
items_why place zero found s f e = subst (λ (g : LineFault). ItemsWhy g.kind found s) (fault_is (fault_at BadWord 0) f e) tt
items_why place (suc room) found s f e =
    elim (chosen (length s == 0) (Ok found) _ (refused f) e) [
      | inl h ↦ absurd (cc h.1)
      | inr h ↦ elim (chosen (begins 59 s) (Ok found) _ (refused f) h.1) [
        | inl j ↦ absurd (cc j.1)
        | inr j ↦ elim (bind_err (located place s (item_at place room found s)) (λ x. items_at place room x.0 x.1) f j.1) [
          | inl i ↦ located_why place s (item_at place room found s) f (λ k. ItemsWhy k found s)
              (λ k q. items_of_item k found s (item_why place room found s k q)) tt i
          | inr i ↦
              let t = item_takes place room found s i.0 (located_ok place s (item_at place room found s) i.0 i.1) in
              items_further f.kind found i.0.0 t.i s i.0.1 t.is (ap (λ (p : Parts). length p.words) t.parts_are ∙ step_words place found t.i i.0.1) t.spelled
              (items_why place room i.0.0 i.0.1 f i.2)
        ]
      ]
    ]

abbrev number_and : Option ℕ → List ℕ → Result (Option ℕ × List ℕ) ItemRefusal
number_and n r = Ok (n, r)

line_number_why : (s : List ℕ) (k : FaultKind) → line_number_at s ≡ failed k → BadLineNumber ≡ k
unfolding line_number_at
line_number_why s k e =
    let ds = digits_at (drop 1 s) in
    let r = after_digits (drop 1 s) in
    elim (chosen (begins 78 s) (numbered ds r) (number_and None s) (failed k) e) [
      | inl h ↦ elim (chosen (length ds == 0) (err (refusal BadLineNumber r)) _ (failed k) h.1) [
        | inl j ↦ refusal_is BadLineNumber k r j.1
        | inr j ↦ elim (chosen (nat_le 6 (length ds)) (failed BadLineNumber) _ (failed k) j.1) [
          | inl i ↦ kind_is BadLineNumber k i.1
          | inr i ↦ elim (chosen (begins 46 r) (failed BadLineNumber) _ (failed k) i.1) [
            | inl g ↦ kind_is BadLineNumber k g.1
            | inr g ↦ absurd (cc g.1)
          ]
        ]
      ]
      | inr h ↦ absurd (cc h.1)
    ]

-- why a text is refused
abbrev TextWhy : FaultKind → List ℕ → Type 0
TextWhy TooLarge s = HasTooLarge s
TextWhy LineTooLong s = Unit {0}
TextWhy UnknownCharacter s = Unit {0}
TextWhy BadNumber s = Unit {0}
TextWhy BadWord s = Unit {0}
TextWhy BadLineNumber s = Unit {0}
TextWhy CommentNotClosed s = Unit {0}
TextWhy CommentNested s = Unit {0}
TextWhy Bracket s = Unit {0}
TextWhy TooManyWords s = HasWords 64 s

text_of_items : (k : FaultKind) (found : Parts) (front s t : List ℕ) → found ≡ no_parts → s ≡ front ++ t → ItemsWhy k found t → TextWhy k s
text_of_items TooLarge found front s t none e h = same_text s (front ++ t) e (further front t h)
text_of_items LineTooLong found front s t none e h = tt
text_of_items UnknownCharacter found front s t none e h = tt
text_of_items BadNumber found front s t none e h = tt
text_of_items BadWord found front s t none e h = tt
text_of_items BadLineNumber found front s t none e h = tt
text_of_items CommentNotClosed found front s t none e h = tt
text_of_items CommentNested found front s t none e h = tt
text_of_items Bracket found front s t none e h = tt
text_of_items TooManyWords found front s t none e h = record {
  front = front;
  items = h.items;
  letter = h.letter;
  end = h.end;
  are = h.are;
  count = omega (arith, h.count, ap (λ (p : Parts). length p.words) none);
  written = e ∙ ap (λ (u : List ℕ). front ++ u) h.written;
}

abbrev saying : Bool → Option ℕ → Parts → Result ParsedLine LineFault
saying b n parts = Ok (record { deleted = b; number = n; parts = parts })

text_why : (place : ℕ → ℕ) (s : List ℕ) (f : LineFault) → text_at place s ≡ refused f → TextWhy f.kind s
unfolding text_at
text_why place s f e =
    let t = after_slash s in
    elim (bind_err (located place t (line_number_at t)) (λ x. items_at place (length s + 1) no_parts x.1 >>= λ parts. saying (begins 47 s) x.0 parts) f e) [
      | inl i ↦ located_why place t (line_number_at t) f (λ k. TextWhy k s) (λ k q. subst (λ (j : FaultKind). TextWhy j s) (line_number_why t k q) tt) tt i
      | inr i ↦ elim (bind_err (items_at place (length s + 1) no_parts i.0.1) (λ parts. saying (begins 47 s) i.0.0 parts) f i.2) [
        | inl j ↦
            let n = number_takes t i.0 (located_ok place t (line_number_at t) i.0 i.1) in
            let front = slash (begins 47 s) ++ optional_part 78 n.number in
            text_of_items f.kind no_parts front s i.0.1 refl
            (slash_takes s ∙ ap (λ (u : List ℕ). slash (begins 47 s) ++ u) n.spelled ∙ sym (append_assoc (slash (begins 47 s)) (optional_part 78 n.number) i.0.1))
            (items_why place (length s + 1) no_parts i.0.1 f j)
        | inr j ↦ absurd (cc j.2)
      ]
    ]

in_line : (bytes t : List ℕ) (f : LineFault) → t ≡ text bytes → TextWhy f.kind t → TextWhy f.kind (text bytes)
in_line bytes t f is h = subst (λ (u : List ℕ). TextWhy f.kind u) is h

of_large : (f : LineFault) (s : List ℕ) → TextWhy f.kind s → f.kind ≡ TooLarge → HasTooLarge s
of_large f s h e = subst (λ (k : FaultKind). TextWhy k s) e h

of_many : (f : LineFault) (s : List ℕ) → TextWhy f.kind s → f.kind ≡ TooManyWords → HasWords 64 s
of_many f s h e = subst (λ (k : FaultKind). TextWhy k s) e h

-- a number is refused as too large only if the line contains one
pub large_is_written : (bytes t cs : List ℕ) (line : Line) (result : Result Unit LineFault) → t ≡ text bytes →
    Gives (λ _. parsed_line_of line) result (text_at (place_in cs) t)
    → IfErr result (λ f. f.kind ≡ TooLarge → WritesTooLarge bytes)
large_is_written bytes t cs line (Ok u) is g = tt
large_is_written bytes t cs line (Err f) is g = λ e. of_large f (text bytes) (in_line bytes t f is (text_why (place_in cs) t f g)) e

-- and a word as one too many only after 64 of them
pub many_are_written : (bytes t cs : List ℕ) (line : Line) (result : Result Unit LineFault) → t ≡ text bytes →
    Gives (λ _. parsed_line_of line) result (text_at (place_in cs) t)
    → IfErr result (λ f. f.kind ≡ TooManyWords → WritesManyWords bytes)
many_are_written bytes t cs line (Ok u) is g = tt
many_are_written bytes t cs line (Err f) is g = λ e. of_many f (text bytes) (in_line bytes t f is (text_why (place_in cs) t f g)) e
