-- No text has two readings.
use Rattle.std.proofs.Common.{◌≡◌, ◌≢◌, ℕ, ◌+◌, ◌<◌, List, [], ◌∷◌, ◌++◌, length, Option, Some, None, false, refl, sym, ap, ◌∙◌, append_assoc, arith}
use Rattle.std.specs.Char.{is_ascii_digit}
use Rattle.ngc_line_reader.specs.declared.token.Operator.{Operator}
use Rattle.ngc_line_reader.specs.declared.token.Operator.TheVariants.{Add, Subtract, Multiply, Divide}
use Rattle.ngc_line_reader.specs.Grammar.{Sign, bare, plus, minus, Numeral, Real, number, parameter, bracket, Rest, close, next, sign_text, optional_part}
use Rattle.ngc_line_reader.specs.Grammar.{numeral_text, operator_byte, real_text, rest_text, IsDigits, digits_of, IsNumeral, IsReal, IsRest, Stops}

-- the text after a number does not continue it
abbrev pub NoDigit : List ℕ → Type 0
NoDigit [] = Unit {0}
NoDigit (b ∷ bs) = is_ascii_digit b ≡ false

pub NoDigit-Stops : (bs : List ℕ) → Stops bs → NoDigit bs
NoDigit-Stops [] h = tt
NoDigit-Stops (b ∷ bs) h = h.0

pub heads : (a b : ℕ) (xs ys : List ℕ) → a ∷ xs ≡ b ∷ ys → a ≡ b
heads a b xs ys e = cc

pub tails : (a b : ℕ) (xs ys : List ℕ) → a ∷ xs ≡ b ∷ ys → xs ≡ ys
tails a b xs ys e = cc

pub digits_unique : (ds es r s : List ℕ) → IsDigits ds → IsDigits es → NoDigit r → NoDigit s → ds ++ r ≡ es ++ s → (ds ≡ es) × (r ≡ s)
digits_unique [] [] r s p q m n e = (refl, e)
digits_unique [] (d ∷ es) [] s p q m n e = absurd cc
digits_unique [] (d ∷ es) (b ∷ r) s p q m n e = let same : b ≡ d = cc in absurd (cc (q.0, m, ap is_ascii_digit same))
digits_unique (d ∷ ds) [] r [] p q m n e = absurd cc
digits_unique (d ∷ ds) [] r (b ∷ s) p q m n e = let same : b ≡ d = cc in absurd (cc (p.0, n, ap is_ascii_digit same))
digits_unique (d ∷ ds) (c ∷ es) r s p q m n e =
    let tails : ds ++ r ≡ es ++ s = cc in
    let same = digits_unique ds es r s p.1 q.1 m n tails in
    (cc (same.0, e), same.1)

-- a number without its sign
abbrev pub body : Numeral → List ℕ
body n = n.whole ++ optional_part 46 n.decimals

pub NoDigit-optional : (ds : Option (List ℕ)) (r : List ℕ) → Stops r → NoDigit (optional_part 46 ds ++ r)
NoDigit-optional None r h = NoDigit-Stops r h
NoDigit-optional (Some ds) r h = refl

decimals_unique : (ds es : Option (List ℕ)) (r s : List ℕ) → IsDigits (digits_of ds) → IsDigits (digits_of es) → Stops r → Stops s →
    optional_part 46 ds ++ r ≡ optional_part 46 es ++ s → (ds ≡ es) × (r ≡ s)
decimals_unique None None r s p q m n e = (refl, e)
decimals_unique None (Some es) [] s p q m n e = absurd cc
decimals_unique None (Some es) (b ∷ r) s p q m n e = absurd (m.1 cc)
decimals_unique (Some ds) None r [] p q m n e = absurd cc
decimals_unique (Some ds) None r (b ∷ s) p q m n e = absurd (n.1 cc)
decimals_unique (Some ds) (Some es) r s p q m n e =
    let tails : ds ++ r ≡ es ++ s = cc in
    let same = digits_unique ds es r s p q (NoDigit-Stops r m) (NoDigit-Stops s n) tails in
    (ap Some same.0, same.1)

-- a number begins with none of the other bytes
pub body_not : (c : ℕ) (n : Numeral) (r s : List ℕ) → is_ascii_digit c ≡ false → c ≢ 46 → IsNumeral n → body n ++ r ≡ c ∷ s → ⊥
body_not c n r s digit point h e = starts n.whole n.decimals h e where
  starts : (ds : List ℕ) (es : Option (List ℕ)) → IsDigits ds × IsDigits (digits_of es) × (0 < length ds + length (digits_of es)) →
      (ds ++ optional_part 46 es) ++ r ≡ c ∷ s → ⊥
  starts [] None h e = omega (arith, h.2)
  starts [] (Some es) h e = point (sym (heads 46 c _ _ e))
  starts (d ∷ ds) es h e = let same : d ≡ c = cc in cc (h.0.0, digit, ap is_ascii_digit same)

body_unique : (m n : Numeral) (r s : List ℕ) → IsNumeral m → IsNumeral n → Stops r → Stops s → body m ++ r ≡ body n ++ s →
    (m.whole ≡ n.whole) × (m.decimals ≡ n.decimals) × (r ≡ s)
body_unique m n r s p q j k e =
    let first = digits_unique m.whole n.whole (optional_part 46 m.decimals ++ r) (optional_part 46 n.decimals ++ s) p.0 q.0 (NoDigit-optional m.decimals r j)
    (NoDigit-optional n.decimals s k)
    (sym (append_assoc m.whole (optional_part 46 m.decimals) r) ∙ e ∙ append_assoc n.whole (optional_part 46 n.decimals) s) in
    let second = decimals_unique m.decimals n.decimals r s p.1 q.1 j k first.1 in
    (first.0, second.0, second.1)

signs_unique : (a b : Sign) (m n : Numeral) (r s : List ℕ) → IsNumeral m → IsNumeral n → (sign_text a ++ body m) ++ r ≡ (sign_text b ++ body n) ++ s →
    (a ≡ b) × (body m ++ r ≡ body n ++ s)
signs_unique bare bare m n r s p q e = (refl, e)
signs_unique bare plus m n r s p q e = absurd (body_not 43 m r (body n ++ s) refl (λ h. omega arith) p e)
signs_unique bare minus m n r s p q e = absurd (body_not 45 m r (body n ++ s) refl (λ h. omega arith) p e)
signs_unique plus bare m n r s p q e = absurd (body_not 43 n s (body m ++ r) refl (λ h. omega arith) q (sym e))
signs_unique plus plus m n r s p q e = (refl, tails 43 43 _ _ e)
signs_unique plus minus m n r s p q e = absurd (omega (arith, heads 43 45 _ _ e))
signs_unique minus bare m n r s p q e = absurd (body_not 45 n s (body m ++ r) refl (λ h. omega arith) q (sym e))
signs_unique minus plus m n r s p q e = absurd (omega (arith, heads 45 43 _ _ e))
signs_unique minus minus m n r s p q e = (refl, tails 45 45 _ _ e)

abbrev made : Sign → List ℕ → Option (List ℕ) → Numeral
made sign ds es = record { sign = sign; whole = ds; decimals = es }

same_numeral : (a b : Sign) (ds es : List ℕ) (x y : Option (List ℕ)) → a ≡ b → ds ≡ es → x ≡ y → made a ds x ≡ made b es y
same_numeral a b ds es x y p q r = cc

numeral_unique : (m n : Numeral) (r s : List ℕ) → IsNumeral m → IsNumeral n → Stops r → Stops s → numeral_text m ++ r ≡ numeral_text n ++ s → (m ≡ n) × (r ≡ s)
numeral_unique m n r s p q j k e =
    let signs = signs_unique m.sign n.sign m n r s p q e in
    let parts = body_unique m n r s p q j k signs.1 in
    let same : m ≡ n = same_numeral m.sign n.sign m.whole n.whole m.decimals n.decimals signs.0 parts.0 parts.1 in
    (same, parts.2)

-- a number begins with a sign, a digit or a point
pub numeral_not : (c : ℕ) (n : Numeral) (r s : List ℕ) → is_ascii_digit c ≡ false → c ≢ 46 → c ≢ 43 → c ≢ 45 → IsNumeral n → numeral_text n ++ r ≡ c ∷ s → ⊥
numeral_not c n r s digit point positive negative h e = by_sign n.sign e where
  by_sign : (a : Sign) → (sign_text a ++ body n) ++ r ≡ c ∷ s → ⊥
  by_sign bare e = body_not c n r s digit point h e
  by_sign plus e = positive (sym (heads 43 c _ _ e))
  by_sign minus e = negative (sym (heads 45 c _ _ e))

operator_stops : (operator : Operator) → (is_ascii_digit (operator_byte operator) ≡ false) × (operator_byte operator ≢ 46)
operator_stops Add = (refl, λ h. omega arith)
operator_stops Subtract = (refl, λ h. omega arith)
operator_stops Multiply = (refl, λ h. omega arith)
operator_stops Divide = (refl, λ h. omega arith)

operator_unique : (a b : Operator) → operator_byte a ≡ operator_byte b → a ≡ b
operator_unique Add Add e = refl
operator_unique Add Subtract e = absurd (omega (arith, e))
operator_unique Add Multiply e = absurd (omega (arith, e))
operator_unique Add Divide e = absurd (omega (arith, e))
operator_unique Subtract Add e = absurd (omega (arith, e))
operator_unique Subtract Subtract e = refl
operator_unique Subtract Multiply e = absurd (omega (arith, e))
operator_unique Subtract Divide e = absurd (omega (arith, e))
operator_unique Multiply Add e = absurd (omega (arith, e))
operator_unique Multiply Subtract e = absurd (omega (arith, e))
operator_unique Multiply Multiply e = refl
operator_unique Multiply Divide e = absurd (omega (arith, e))
operator_unique Divide Add e = absurd (omega (arith, e))
operator_unique Divide Subtract e = absurd (omega (arith, e))
operator_unique Divide Multiply e = absurd (omega (arith, e))
operator_unique Divide Divide e = refl

operator_not_close : (a : Operator) → operator_byte a ≡ 93 → ⊥
operator_not_close Add e = omega (arith, e)
operator_not_close Subtract e = omega (arith, e)
operator_not_close Multiply e = omega (arith, e)
operator_not_close Divide e = omega (arith, e)

pub rest_stops : (rest : Rest) (r : List ℕ) → Stops (rest_text rest ++ r)
rest_stops close r = (refl, λ h. omega arith)
rest_stops (next operator value rest) r = operator_stops operator

-- two real values before bytes that continue no number are equal
mutual
  pub real_unique : (v w : Real) (r s : List ℕ) → IsReal v → IsReal w → Stops r → Stops s → real_text v ++ r ≡ real_text w ++ s → (v ≡ w) × (r ≡ s)
  real_unique (number m) (number n) r s p q j k e = let same = numeral_unique m n r s p q j k e in (ap number same.0, same.1)
  real_unique (number m) (parameter w) r s p q j k e =
      absurd (numeral_not 35 m r (real_text w ++ s) refl (λ h. omega arith) (λ h. omega arith) (λ h. omega arith) p e)
  real_unique (number m) (bracket w rest) r s p q j k e =
      absurd (numeral_not 91 m r ((real_text w ++ rest_text rest) ++ s) refl (λ h. omega arith) (λ h. omega arith) (λ h. omega arith) p e)
  real_unique (parameter v) (number n) r s p q j k e =
      absurd (numeral_not 35 n s (real_text v ++ r) refl (λ h. omega arith) (λ h. omega arith) (λ h. omega arith) q (sym e))
  real_unique (parameter v) (parameter w) r s p q j k e = let same = real_unique v w r s p q j k (tails 35 35 _ _ e) in (ap parameter same.0, same.1)
  real_unique (parameter v) (bracket w rest) r s p q j k e = absurd (omega (arith, heads 35 91 _ _ e))
  real_unique (bracket v rest) (number n) r s p q j k e =
      absurd (numeral_not 91 n s ((real_text v ++ rest_text rest) ++ r) refl (λ h. omega arith) (λ h. omega arith) (λ h. omega arith) q (sym e))
  real_unique (bracket v rest) (parameter w) r s p q j k e = absurd (omega (arith, heads 91 35 _ _ e))
  real_unique (bracket v g) (bracket w h) r s p q j k e =
      let inner : (real_text v ++ rest_text g) ++ r ≡ (real_text w ++ rest_text h) ++ s = tails 91 91 _ _ e in
      let first = real_unique v w (rest_text g ++ r) (rest_text h ++ s) p.0 q.0 (rest_stops g r) (rest_stops h s)
      (sym (append_assoc (real_text v) (rest_text g) r) ∙ inner ∙ append_assoc (real_text w) (rest_text h) s) in
      let second = rest_unique g h r s p.1 q.1 first.1 in
      (cc (first.0, second.0), second.1)

  pub rest_unique : (g h : Rest) (r s : List ℕ) → IsRest g → IsRest h → rest_text g ++ r ≡ rest_text h ++ s → (g ≡ h) × (r ≡ s)
  rest_unique close close r s p q e = (refl, tails 93 93 _ _ e)
  rest_unique close (next b w h) r s p q e = absurd (operator_not_close b (sym (heads 93 (operator_byte b) _ _ e)))
  rest_unique (next a v g) close r s p q e = absurd (operator_not_close a (heads (operator_byte a) 93 _ _ e))
  rest_unique (next a v g) (next b w h) r s p q e =
      let operators : a ≡ b = operator_unique a b (heads (operator_byte a) (operator_byte b) _ _ e) in
      let inner : (real_text v ++ rest_text g) ++ r ≡ (real_text w ++ rest_text h) ++ s = tails (operator_byte a) (operator_byte b) _ _ e in
      let first = real_unique v w (rest_text g ++ r) (rest_text h ++ s) p.0 q.0 (rest_stops g r) (rest_stops h s)
      (sym (append_assoc (real_text v) (rest_text g) r) ∙ inner ∙ append_assoc (real_text w) (rest_text h) s) in
      let second = rest_unique g h r s p.1 q.1 first.1 in
      (cc (operators, first.0, second.0), second.1)
