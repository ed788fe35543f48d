-- A value that is read is written as the text.
use Rattle.std.proofs.Common.{◌≡◌, ℕ, zero, suc, ◌+◌, ◌<◌, ℤ, ap, subst, Bool, true, false, cond, List, [], ◌∷◌, ◌++◌, length, drop, Result, Ok, Err, refl, sym}
use Rattle.std.proofs.Common.{◌∙◌, append_assoc, arith, ◌⊎◌, inl, inr}
use Rattle.std.specs.Prelude.{◌==◌, ◌&&◌, unsigned_abs, nat_le}
use Rattle.std.specs.Char.{is_ascii_digit}
use Rattle.std.specs.List.{prefix_len}
use Rattle.std.proofs.lemmas.List.{take-append-drop}
use Rattle.std.proofs.lemmas.Bool.{eqb-true, leb-true}
use Rattle.std.proofs.lemmas.List.Sums.{take_while-cons}
use Rattle.ngc_fixed_length.specs.declared.fault.NumberFault.TheVariants as number_faults
use Rattle.ngc_fixed_length.specs.Limits.{limited, IsValue, VALUE_LIMIT}
use Rattle.ngc_line_reader.specs.declared.token.Operator.{Operator}
use Rattle.ngc_line_reader.specs.declared.token.Operator.TheVariants.{Add, Subtract, Multiply, Divide}
use Rattle.ngc_line_reader.specs.declared.token.Token.{Token}
use Rattle.ngc_line_reader.specs.declared.token.Symbol.{Symbol}
use Rattle.ngc_line_reader.specs.declared.token.Symbol.TheVariants as mark
use Rattle.ngc_line_reader.specs.declared.fault.ItemRefusal.{ItemRefusal}
use Rattle.ngc_line_reader.specs.declared.fault.ItemRefusal.TheVariants.{OfItem}
use Rattle.ngc_line_reader.specs.declared.fault.FaultKind.TheVariants.{BadNumber}
use Rattle.ngc_line_reader.specs.Grammar.{Numeral, Real, number, parameter, bracket, Rest, close, next, sign_text, optional_part, numeral_text, operator_byte}
use Rattle.ngc_line_reader.specs.Grammar.{real_text, rest_text, IsDigits, digits_of, IsNumeral, IsReal, IsRest}
use Rattle.ngc_line_reader.specs.Numbers.{written_value, numeral_value, is_negative}
use Rattle.ngc_line_reader.specs.Tokens.{token_at, tokens_of, rest_tokens, IsWithinLimit, IsRestWithinLimit}
use Rattle.ngc_line_reader.specs.Scan.{◌>>=◌, begins, refusal, sign_at, after_sign, digits_at, after_digits, decimals_at, after_decimals, whole_at, fraction_at}
use Rattle.ngc_line_reader.specs.Scan.{after_number, value_fits, number_at, number_token, operator_at, real_at, rest_at}
use Rattle.ngc_line_reader.proofs.Scanning.{nonempty}

pub bind_ok : {A B E : Type 0} (r : Result A E) (f : A → Result B E) (y : B) → (r >>= f) ≡ Ok y → (x : A) × (r ≡ Ok x) × (f x ≡ Ok y)
bind_ok (Ok x) f y e = (x, refl, e)
bind_ok (Err d) f y e = absurd cc

pub chosen : {A : Type 0} (b : Bool) (x y z : A) → cond b x y ≡ z → ((b ≡ true) × (x ≡ z)) ⊎ ((b ≡ false) × (y ≡ z))
chosen true x y z e = inl (refl, e)
chosen false x y z e = inr (refl, e)

abbrev pub done : {A : Type 0} → A → Result A ItemRefusal
done x = Ok x

pub ok_is : {A : Type 0} (x y : A) → done x ≡ done y → x ≡ y
ok_is x y e = cc

pub begins_is : (c : ℕ) (s : List ℕ) → begins c s ≡ true → s ≡ c ∷ drop 1 s
begins_is c [] e = absurd cc
begins_is c (b ∷ s) e = ap (λ (x : ℕ). x ∷ s) (eqb-true b c e)

IsDigits-cons : (b : ℕ) (s : List ℕ) (x : Bool) → is_ascii_digit b ≡ x → IsDigits (digits_at s) → IsDigits (digits_at (b ∷ s))
IsDigits-cons b s true e h = rw (take_while-cons is_ascii_digit b s, e) (e, h)
IsDigits-cons b s false e h = rw (take_while-cons is_ascii_digit b s, e) tt

IsDigits-at : (s : List ℕ) → IsDigits (digits_at s)
IsDigits-at [] = tt
IsDigits-at (b ∷ s) = IsDigits-cons b s (is_ascii_digit b) refl (IsDigits-at s)

-- the leading digits are digits
pub digits_are : (ds s : List ℕ) → ds ≡ digits_at s → IsDigits ds
digits_are ds s e = subst (λ (x : List ℕ). IsDigits x) (sym e) (IsDigits-at s)

sign_parts : (s : List ℕ) → (s ≡ sign_text (sign_at s) ++ after_sign s) × (is_negative (sign_at s) ≡ begins 45 s)
sign_parts s = by_test (begins 43 s) (begins 45 s) refl refl where
  by_test : (x y : Bool) → begins 43 s ≡ x → begins 45 s ≡ y → (s ≡ sign_text (sign_at s) ++ after_sign s) × (is_negative (sign_at s) ≡ begins 45 s)
  by_test true true e f = absurd (omega (arith, both 43 45 s e f)) where
    both : (a b : ℕ) (s : List ℕ) → begins a s ≡ true → begins b s ≡ true → a ≡ b
    both a b [] e f = absurd cc
    both a b (c ∷ s) e f = sym (eqb-true c a e) ∙ eqb-true c b f
  by_test true false e f = rw (e, f) (begins_is 43 s e, refl)
  by_test false true e f = rw (e, f) (begins_is 45 s f, refl)
  by_test false false e f = rw (e, f) (refl, refl)

decimals_parts : (s : List ℕ) → (s ≡ optional_part 46 (decimals_at s) ++ after_decimals s) × IsDigits (digits_of (decimals_at s))
decimals_parts s = by_test (begins 46 s) refl where
  by_test : (x : Bool) → begins 46 s ≡ x → (s ≡ optional_part 46 (decimals_at s) ++ after_decimals s) × IsDigits (digits_of (decimals_at s))
  by_test true e =
      rw e (begins_is 46 s e ∙ ap (λ (t : List ℕ). 46 ∷ t) (sym (take-append-drop (prefix_len is_ascii_digit (drop 1 s)) (drop 1 s))), IsDigits-at (drop 1 s))
  by_test false e = rw e (refl, tt)

fits_is : (z y : ℤ) → value_fits (limited z) ≡ Ok y → (y ≡ z) × IsValue z
fits_is z y e = by_test (nat_le (unsigned_abs z) VALUE_LIMIT) refl e where
  by_test : (x : Bool) → nat_le (unsigned_abs z) VALUE_LIMIT ≡ x → value_fits (cond x (Ok z) (Err number_faults.TooLarge)) ≡ Ok y → (y ≡ z) × IsValue z
  by_test true le e = (sym (ok_is z y e), leb-true _ _ le)
  by_test false le e = absurd cc

-- a number that was read
pub record TakesNumber (s : List ℕ) (z : ℤ) (r : List ℕ) : Type 0 where
  pub n : Numeral
  pub is : IsNumeral n
  pub value : z ≡ numeral_value n
  pub limit : IsValue (numeral_value n)
  pub parts : s ≡ numeral_text n ++ r

abbrev pub numeral_of : List ℕ → Numeral
numeral_of s = record { sign = sign_at s; whole = whole_at s; decimals = decimals_at (after_digits (after_sign s)) }

pub numeral_parts : (s : List ℕ) → s ≡ numeral_text (numeral_of s) ++ after_number s
numeral_parts s =
    let t = after_sign s in
    let u = after_digits t in
    let first : t ≡ digits_at t ++ u = sym (take-append-drop (prefix_len is_ascii_digit t) t) in
    let second : u ≡ optional_part 46 (decimals_at u) ++ after_decimals u = (decimals_parts u).0 in
    let joined : t ≡ (digits_at t ++ optional_part 46 (decimals_at u)) ++ after_decimals u =
    first ∙ ap (λ (x : List ℕ). digits_at t ++ x) second ∙ sym (append_assoc (digits_at t) (optional_part 46 (decimals_at u)) (after_decimals u)) in
    (sign_parts s).0 ∙ ap (λ (x : List ℕ). sign_text (sign_at s) ++ x) joined
    ∙ sym (append_assoc (sign_text (sign_at s)) (digits_at t ++ optional_part 46 (decimals_at u)) (after_decimals u))

pub numeral_is : (s : List ℕ) → 0 < length (whole_at s) + length (fraction_at s) →
    IsNumeral (numeral_of s) × (written_value (begins 45 s) (whole_at s) (fraction_at s) ≡ numeral_value (numeral_of s))
numeral_is s some = (
  (IsDigits-at (after_sign s), (decimals_parts (after_digits (after_sign s))).1, some),
  ap (λ (negative : Bool). written_value negative (whole_at s) (fraction_at s)) (sym (sign_parts s).1),
)

number_was_fit : (s : List ℕ) (x : ℤ × List ℕ) →
    (value_fits (limited (written_value (begins 45 s) (whole_at s) (fraction_at s))) >>= λ z. Ok (z, after_number s)) ≡ done x
    → 0 < length (whole_at s) + length (fraction_at s) → TakesNumber s x.0 x.1
number_was_fit s x e some =
    let w = written_value (begins 45 s) (whole_at s) (fraction_at s) in
    let b = bind_ok (value_fits (limited w)) (λ z. Ok (z, after_number s)) x e in
    let f = fits_is w b.0 b.1 in
    let same : (ℤ × List ℕ) = (b.0, after_number s) in
    let n = numeral_is s some in
    let made : TakesNumber s b.0 (after_number s) = record {
      n = numeral_of s;
      is = n.0;
      value = f.0 ∙ n.1;
      limit = subst IsValue n.1 f.1;
      parts = numeral_parts s;
    } in
    subst (λ (p : ℤ × List ℕ). TakesNumber s p.0 p.1) (ok_is same x b.2) made

pub number_takes : (s : List ℕ) (x : ℤ × List ℕ) → number_at s ≡ Ok x → TakesNumber s x.0 x.1
unfolding number_at
number_takes s x e =
    elim (chosen ((length (whole_at s) == 0) && (length (fraction_at s) == 0)) (Err (refusal BadNumber (after_number s))) _ (done x) e) [
      | inl h ↦ absurd (cc h.1)
      | inr h ↦ elim (chosen (begins 46 (after_number s)) (Err (OfItem BadNumber)) _ (done x) h.1) [
        | inl k ↦ absurd (cc k.1)
        | inr k ↦ number_was_fit s x k.1 (nonempty (length (whole_at s)) (length (fraction_at s)) h.0)
      ]
    ]

-- the text that real_at reads is a real value's, and these are its tokens
pub record TakesReal (place : ℕ → ℕ) (found ts : List Token) (s r : List ℕ) : Type 0 where
  pub v : Real
  pub is : IsReal v
  pub limit : IsWithinLimit v
  pub tokens : ts ≡ found ++ tokens_of place v r
  pub parts : s ≡ real_text v ++ r

pub record TakesRest (place : ℕ → ℕ) (found ts : List Token) (s r : List ℕ) : Type 0 where
  pub rest : Rest
  pub is : IsRest rest
  pub limit : IsRestWithinLimit rest
  pub tokens : ts ≡ found ++ rest_tokens place rest r
  pub parts : s ≡ rest_text rest ++ r

abbrev pub Pair : Type 0
Pair = List Token × List ℕ

pub operator_takes : (s : List ℕ) (o : Operator) → operator_at s ≡ Ok o → s ≡ operator_byte o ∷ drop 1 s
unfolding operator_at
operator_takes s o e =
    elim (chosen (begins 43 s) (done Add) _ (done o) e) [
      | inl h ↦ subst (λ (p : Operator). s ≡ operator_byte p ∷ drop 1 s) (ok_is Add o h.1) (begins_is 43 s h.0)
      | inr h ↦ elim (chosen (begins 45 s) (done Subtract) _ (done o) h.1) [
        | inl h ↦ subst (λ (p : Operator). s ≡ operator_byte p ∷ drop 1 s) (ok_is Subtract o h.1) (begins_is 45 s h.0)
        | inr h ↦ elim (chosen (begins 42 s) (done Multiply) _ (done o) h.1) [
          | inl h ↦ subst (λ (p : Operator). s ≡ operator_byte p ∷ drop 1 s) (ok_is Multiply o h.1) (begins_is 42 s h.0)
          | inr h ↦ elim (chosen (begins 47 s) (done Divide) _ (done o) h.1) [
            | inl h ↦ subst (λ (p : Operator). s ≡ operator_byte p ∷ drop 1 s) (ok_is Divide o h.1) (begins_is 47 s h.0)
            | inr h ↦ absurd (cc h.1)
          ]
        ]
      ]
    ]

number_token_takes : (place : ℕ → ℕ) (found : List Token) (s : List ℕ) (x : Pair) → number_token place found s ≡ Ok x → TakesReal place found x.0 s x.1
number_token_takes place found s x e =
    let b = bind_ok (number_at s) (λ n. Ok (found ++ (token_at place (mark.Number n.0) s ∷ []), n.1)) x e in
    let t = number_takes s b.0 b.1 in
    let pair : Pair = (found ++ (token_at place (mark.Number b.0.0) s ∷ []), b.0.1) in
    let made : TakesReal place found (found ++ (token_at place (mark.Number b.0.0) s ∷ [])) s b.0.1 = record {
      v = number t.n;
      is = t.is;
      limit = t.limit;
      tokens = ap (λ (z : ℤ). found ++ (token_at place (mark.Number z) s ∷ [])) t.value
          ∙ ap (λ (w : List ℕ). found ++ (token_at place (mark.Number (numeral_value t.n)) w ∷ [])) t.parts;
      parts = t.parts;
    } in
    subst (λ (p : Pair). TakesReal place found p.0 s p.1) (ok_is pair x b.2) made

-- one token, and those of the following value
first_token : (place : ℕ → ℕ) (symbol : Symbol) (found ts more : List Token) (s t : List ℕ) → ts ≡ (found ++ (token_at place symbol s ∷ [])) ++ more → s ≡ t
    → ts ≡ found ++ (token_at place symbol t ∷ more)
first_token place symbol found ts more s t e f =
    e ∙ append_assoc found (token_at place symbol s ∷ []) more ∙ ap (λ (w : List ℕ). found ++ (token_at place symbol w ∷ more)) f

parameter_takes : (place : ℕ → ℕ) (found : List Token) (s : List ℕ) (x : Pair) → begins 35 s ≡ true →
    TakesReal place (found ++ (token_at place mark.Parameter s ∷ [])) x.0 (drop 1 s) x.1 → TakesReal place found x.0 s x.1
parameter_takes place found s x test t =
    let parts : s ≡ 35 ∷ (real_text t.v ++ x.1) = begins_is 35 s test ∙ ap (λ (u : List ℕ). 35 ∷ u) t.parts in
    record {
      v = parameter t.v;
      is = t.is;
      limit = t.limit;
      tokens = first_token place mark.Parameter found x.0 (tokens_of place t.v x.1) s (35 ∷ (real_text t.v ++ x.1)) t.tokens parts;
      parts = parts;
    }

-- a mark, a value and what follows it in brackets
joined_text : (c : ℕ) (v : Real) (rest : Rest) (s t r end : List ℕ) → s ≡ c ∷ t → t ≡ real_text v ++ r → r ≡ rest_text rest ++ end →
    s ≡ c ∷ ((real_text v ++ rest_text rest) ++ end)
joined_text c v rest s t r end e f g =
    e ∙ ap (λ (w : List ℕ). c ∷ w) (f ∙ ap (λ (w : List ℕ). real_text v ++ w) g ∙ sym (append_assoc (real_text v) (rest_text rest) end))

joined_tokens : (place : ℕ → ℕ) (v : Real) (rest : Rest) (symbol : Symbol) (found ts us : List Token) (s t r end : List ℕ)
    → us ≡ ts ++ rest_tokens place rest end → ts ≡ (found ++ (token_at place symbol s ∷ [])) ++ tokens_of place v r → r ≡ rest_text rest ++ end → s ≡ t
    → us ≡ found ++ (token_at place symbol t ∷ (tokens_of place v (rest_text rest ++ end) ++ rest_tokens place rest end))
joined_tokens place v rest symbol found ts us s t r end e f g h =
    e ∙ ap (λ (w : List Token). w ++ rest_tokens place rest end) (first_token place symbol found ts (tokens_of place v r) s t f h)
    ∙ append_assoc found (token_at place symbol t ∷ tokens_of place v r) (rest_tokens place rest end)
    ∙ ap (λ (w : List ℕ). found ++ (token_at place symbol t ∷ (tokens_of place v w ++ rest_tokens place rest end))) g

bracket_takes : (place : ℕ → ℕ) (found ts : List Token) (s r : List ℕ) (x : Pair) → begins 91 s ≡ true →
    TakesReal place (found ++ (token_at place mark.Open s ∷ [])) ts (drop 1 s) r → TakesRest place ts x.0 r x.1 → TakesReal place found x.0 s x.1
bracket_takes place found ts s r x test t u =
    let parts = joined_text 91 t.v u.rest s (drop 1 s) r x.1 (begins_is 91 s test) t.parts u.parts in
    record {
      v = bracket t.v u.rest;
      is = (t.is, u.is);
      limit = (t.limit, u.limit);
      tokens =
          joined_tokens place t.v u.rest mark.Open found ts x.0 s (91 ∷ ((real_text t.v ++ rest_text u.rest) ++ x.1)) r x.1 u.tokens t.tokens u.parts parts;
      parts = parts;
    }

next_takes : (place : ℕ → ℕ) (o : Operator) (found ts : List Token) (s r : List ℕ) (x : Pair) → s ≡ operator_byte o ∷ drop 1 s →
    TakesReal place (found ++ (token_at place (mark.Operator o) s ∷ [])) ts (drop 1 s) r → TakesRest place ts x.0 r x.1
    → TakesRest place found x.0 s x.1
next_takes place o found ts s r x test t u =
    let parts = joined_text (operator_byte o) t.v u.rest s (drop 1 s) r x.1 test t.parts u.parts in
    record {
      rest = next o t.v u.rest;
      is = (t.is, u.is);
      limit = (t.limit, u.limit);
      tokens = joined_tokens place t.v u.rest (mark.Operator o) found ts x.0 s
          (operator_byte o ∷ ((real_text t.v ++ rest_text u.rest) ++ x.1)) r x.1 u.tokens t.tokens u.parts parts;
      parts = parts;
    }

close_takes : (place : ℕ → ℕ) (found : List Token) (s : List ℕ) (x : Pair) → begins 93 s ≡ true →
    done (found ++ (token_at place mark.Close s ∷ []), drop 1 s) ≡ done x → TakesRest place found x.0 s x.1
close_takes place found s x test e =
    let pair : Pair = (found ++ (token_at place mark.Close s ∷ []), drop 1 s) in
    let parts : s ≡ 93 ∷ drop 1 s = begins_is 93 s test in
    let made : TakesRest place found (found ++ (token_at place mark.Close s ∷ [])) s (drop 1 s) = record {
      rest = close;
      is = tt;
      limit = tt;
      tokens = ap (λ (w : List ℕ). found ++ (token_at place mark.Close w ∷ [])) parts;
      parts = parts;
    } in
    subst (λ (p : Pair). TakesRest place found p.0 s p.1) (ok_is pair x e) made

mutual
  unfolding real_at rest_at

  pub real_takes : (place : ℕ → ℕ) (room : ℕ) (found : List Token) (s : List ℕ) (x : Pair) → real_at place room found s ≡ Ok x → TakesReal place found x.0 s x.1
  real_takes place zero found s x e = absurd cc
  real_takes place (suc room) found s x e =
      let with_hash = found ++ (token_at place mark.Parameter s ∷ []) in
      let with_open = found ++ (token_at place mark.Open s ∷ []) in
      elim (chosen (begins 35 s) (real_at place room with_hash (drop 1 s)) _ (done x) e) [
        | inl h ↦ parameter_takes place found s x h.0 (real_takes place room with_hash (drop 1 s) x h.1)
        | inr h ↦ elim (chosen (begins 91 s) (real_at place room with_open (drop 1 s) >>= λ y. rest_at place room y.0 y.1) (number_token place found s)
            (done x) h.1) [
              | inl h ↦ let b = bind_ok (real_at place room with_open (drop 1 s)) (λ y. rest_at place room y.0 y.1) x h.1 in
                  bracket_takes place found b.0.0 s b.0.1 x h.0 (real_takes place room with_open (drop 1 s) b.0 b.1) (rest_takes place room b.0.0 b.0.1 x b.2)
              | inr h ↦ number_token_takes place found s x h.1
            ]
      ]

  pub rest_takes : (place : ℕ → ℕ) (room : ℕ) (found : List Token) (s : List ℕ) (x : Pair) → rest_at place room found s ≡ Ok x → TakesRest place found x.0 s x.1
  rest_takes place zero found s x e = absurd cc
  rest_takes place (suc room) found s x e =
      elim (chosen (begins 93 s) (done (found ++ (token_at place mark.Close s ∷ []), drop 1 s)) _ (done x) e) [
        | inl h ↦ close_takes place found s x h.0 h.1
        | inr h ↦
            let o = bind_ok (operator_at s)
            (λ o. real_at place room (found ++ (token_at place (mark.Operator o) s ∷ [])) (drop 1 s) >>= λ y. rest_at place room y.0 y.1) x h.1 in
            let with_sign = found ++ (token_at place (mark.Operator o.0) s ∷ []) in
            let b = bind_ok (real_at place room with_sign (drop 1 s)) (λ y. rest_at place room y.0 y.1) x o.2 in
            next_takes place o.0 found b.0.0 s b.0.1 x (operator_takes s o.0 o.1) (real_takes place room with_sign (drop 1 s) b.0 b.1)
            (rest_takes place room b.0.0 b.0.1 x b.2)
      ]
