-- Bytes that are split into lines.
use Rattle.std.proofs.Common.{◌≡◌, ℕ, ◌<◌, ◌≤◌, ap, Bool, true, false, List, [], ◌∷◌, ◌++◌, length, refl, sym, ◌∙◌, append_assoc, length-append, arith}
use Rattle.std.specs.Prelude.{◌==◌, not, nat_le}
use Rattle.std.proofs.lemmas.Bool.{and_from, and_parts}
use Rattle.std.proofs.lemmas.Bool.Decides.{nat_tests}
use Rattle.std.proofs.lemmas.List.{append-nil}
use Rattle.std.proofs.lemmas.List.Folds.{list_all-append}
use Rattle.ngc_certificate_text.specs.Parted.{is_feedless, certain_after, firm, firm_lines, GoesOn, PartsLines}
use Rattle.ngc_certificate_text.specs.ParsedPart.{lines_of}
use Rattle.ngc_text.proofs.SplitTexts.{split_here, split_last}
use Rattle.ngc_certificate_text.proofs.SpelledTexts.{some_lines}

other_byte : (b : ℕ) → not (b == 10) ≡ true → (b == 10) ≡ false
other_byte b h = grind (arith, nat_tests)

pub feedless_both : (xs ys : List ℕ) → is_feedless xs ≡ true → is_feedless ys ≡ true → is_feedless (xs ++ ys) ≡ true
feedless_both xs ys h k = list_all-append (λ b. not (b == 10)) xs ys ∙ and_from _ _ h k

-- bytes without a line feed are put in front of the first line
pub split_onto : (cur tail x : List ℕ) (xs : List (List ℕ)) → is_feedless cur ≡ true → lines_of tail ≡ x ∷ xs → lines_of (cur ++ tail) ≡ (cur ++ x) ∷ xs
split_onto [] tail x xs h e = e
split_onto (b ∷ cur) tail x xs h e =
    let p = and_parts (not (b == 10)) (is_feedless cur) h in
    rw (other_byte b p.0, split_onto cur tail x xs p.1 e) refl

pub only_line : (line : List ℕ) → is_feedless line ≡ true → lines_of (line ++ []) ≡ line ∷ []
only_line line h = ap lines_of (append-nil line) ∙ split_last 10 line h

line_goes_on : (line rest : List ℕ) → is_feedless line ≡ true → 256 < length line → GoesOn (lines_of (line ++ rest)) line
line_goes_on line rest h long = let s = some_lines rest in record { more = s.0; afterwards = s.1; split = split_onto line rest s.0 s.1 h s.2 }

some_line : (bytes : List ℕ) → GoesOn (lines_of bytes) []
some_line bytes = let s = some_lines bytes in record { more = s.0; afterwards = s.1; split = s.2 }

pub lines_parts : PartsLines lines_of
lines_parts = record { ends = split_here 10; long = line_goes_on; some = some_line }

-- ---- what is certain

firm_on : (begun line rest : List ℕ) → is_feedless line ≡ true → certain_after begun (line ++ rest) ≡ certain_after (begun ++ line) rest
firm_on begun [] rest h = ap (λ (l : List ℕ). certain_after l rest) (sym (append-nil begun))
firm_on begun (b ∷ line) rest h =
    let p = and_parts (not (b == 10)) (is_feedless line) h in
    rw (other_byte b p.0) (firm_on (begun ++ (b ∷ [])) line rest p.1 ∙ ap (λ (l : List ℕ). certain_after l rest) (append_assoc begun (b ∷ []) line))

firm_here : (line more : List ℕ) → is_feedless line ≡ true → firm (line ++ (10 ∷ more)) ≡ line ++ (10 ∷ firm more)
firm_here line more h = firm_on [] line (10 ∷ more) h

firm_ends : (rest line more : List ℕ) → is_feedless line ≡ true → firm_lines rest (line ++ (10 ∷ more)) ≡ line ∷ firm_lines rest more
firm_ends rest line more h =
    ap (λ (bytes : List ℕ). lines_of (bytes ++ rest)) (firm_here line more h) ∙ ap lines_of (append_assoc line (10 ∷ firm more) rest)
    ∙ split_here 10 line (firm more ++ rest) h

-- a line that is too long is certain
record Stands (line rest : List ℕ) : Type 0 where
  more : List ℕ
  firm : certain_after line rest ≡ line ++ more

stands_more : (b : ℕ) (line rest : List ℕ) (x : Bool) → (b == 10) ≡ x → Stands (line ++ (b ∷ [])) rest → Stands line (b ∷ rest)
stands_more b line rest true e s = record { more = 10 ∷ certain_after [] rest; firm = rw e refl }
stands_more b line rest false e s = record { more = b ∷ s.more; firm = rw e (s.firm ∙ append_assoc line (b ∷ []) s.more) }

stands : (line rest : List ℕ) → 256 < length line → Stands line rest
stands line [] long =
    let e : nat_le (length line) 256 ≡ false = grind (arith, nat_tests) in
    record { more = []; firm = rw e (sym (append-nil line)) }
stands line (b ∷ rest) long = stands_more b line rest (b == 10) refl (stands (line ++ (b ∷ [])) rest (omega (arith, length-append line (b ∷ []))))

firm_goes_on : (rest line more : List ℕ) → is_feedless line ≡ true → 256 < length line → GoesOn (firm_lines rest (line ++ more)) line
firm_goes_on rest line more h long =
    let s = stands line more long in
    let g = line_goes_on line (s.more ++ rest) h long in
    record {
      more = g.more;
      afterwards = g.afterwards;
      split = ap (λ (bytes : List ℕ). lines_of (bytes ++ rest)) (firm_on [] line more h ∙ s.firm) ∙ ap lines_of (append_assoc line s.more rest) ∙ g.split;
    }

pub firm_parts : (rest : List ℕ) → PartsLines (firm_lines rest)
firm_parts rest = record { ends = firm_ends rest; long = firm_goes_on rest; some = λ bytes. some_line (firm bytes ++ rest) }

-- a line that has begun, and is not too long yet, is not certain
pub firm_begun : (line : List ℕ) → is_feedless line ≡ true → length line ≤ 256 → firm line ≡ []
firm_begun line h short =
    let e : nat_le (length line) 256 ≡ true = grind (arith, nat_tests) in
    ap firm (sym (append-nil line)) ∙ firm_on [] line [] h ∙ rw e refl
