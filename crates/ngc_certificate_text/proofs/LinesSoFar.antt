-- The effect of more bytes on the lines so far.
use Rattle.std.proofs.Common.{◌≡◌, ℕ, ◌+◌, ◌<◌, ◌≤◌, ap, subst, Bool, true, false, Result, Ok, Err, List, [], ◌∷◌, ◌++◌, length, refl, sym, ◌∙◌, append_assoc}
use Rattle.std.proofs.Common.{length-append, arith}
use Rattle.std.specs.Prelude.{OnOk, ◌==◌}
use Rattle.std.proofs.lemmas.Bool.Decides.{nat_tests}
use Rattle.ngc_certificate_text.specs.declared.expected.Expected.TheVariants as next
use Rattle.ngc_certificate_text.specs.declared.fault.CertificateFault.{CertificateFault}
use Rattle.ngc_certificate_text.specs.declared.certificate_lines.CertificateLines.{CertificateLines}
use Rattle.ngc_certificate_text.specs.declared.line_content.LineContent.{LineContent}
use Rattle.ngc_certificate_text.specs.Ahead.{Rest, Left, left_from, nothing_left, made_with, certificate_of, form_of_text, wrong_line}
use Rattle.ngc_certificate_text.specs.LinesView.{left_by, IsReading}
use Rattle.ngc_certificate_text.specs.Parted.{is_feedless, firm, firm_lines, PartsLines}
use Rattle.ngc_certificate_text.specs.ParsedPart.{lines_of, nothing_in, parsed_certificate, parsed_form}
use Rattle.ngc_certificate_text.specs.LineContent.{IsFront, LineResultIs}
use Rattle.ngc_certificate_text.proofs.LinesAhead.{HasNoLine, wrong_said, nothing_said, ended_said, two_left, one_left, begun_said, begun_form}
use Rattle.ngc_certificate_text.proofs.LineSplitting.{feedless_both, split_onto, only_line}
use Rattle.ngc_certificate_text.proofs.SpelledTexts.{some_lines}

-- a line between equal rests
tells_is : (result : Result LineContent CertificateFault) (a b c d : Left) → a ≡ b → (OnOk result (c ≡ d)) → LineResultIs result b d → LineResultIs result a c
tells_is (Ok line_content) a b c d e f h =
    let P : Left → Type 0 = λ l. IsFront line_content a l in
    let Q : Left → Type 0 = λ l. IsFront line_content l d in
    subst P (sym f) (subst Q (sym e) h)
tells_is (Err fault) a b c d e f h = e ∙ h

long_first : (line : List ℕ) (xs : List (List ℕ)) → 256 < length line → HasNoLine (line ∷ xs)
long_first line [] h = tt
long_first line (y ∷ ys) h = h

pub some_first : (line : List ℕ) (xs : List (List ℕ)) → 0 < length line → nothing_in (line ∷ xs) ≡ false
some_first line [] h = one_left line h
some_first line (y ∷ ys) h = two_left line y ys

pub no_room : (n : ℕ) → (n ≤ 256 → ⊥) → 256 < n
no_room n h = omega arith

no_items : (xs : List ℕ) → (length xs == 0) ≡ true → xs ≡ []
no_items [] e = refl
no_items (x ∷ xs) e = absurd (grind (arith, nat_tests))

pub empty_items : (b : Bool) (xs : List ℕ) → b ≡ (length xs == 0) → b ≡ true → xs ≡ []
empty_items b xs e f = no_items xs (sym e ∙ f)

pub some_items : (b : Bool) (xs : List ℕ) → b ≡ (length xs == 0) → b ≡ false → 0 < length xs
some_items b xs e f = let g : (length xs == 0) ≡ false = sym e ∙ f in grind (arith, nat_tests)

-- the rest, from these lines
abbrev from : CertificateLines → List (List ℕ) → Left
from r lines = left_from r.next.expected r.next.number lines

abbrev refused : CertificateFault → Left
refused fault = Err fault

-- a line that is too long whatever follows
pub long_cut : (lines : List ℕ → List (List ℕ)) (r : CertificateLines) (bytes rest : List ℕ) (fault : CertificateFault) → PartsLines lines → IsReading r →
    is_feedless bytes ≡ true
    → 256 < length r.cut.items + length bytes → fault ≡ wrong_line r.next.expected r.next.number → left_by lines r (bytes ++ rest) ≡ Err fault
long_cut lines r bytes rest fault parts reading feedless long is =
    let line = r.cut.items ++ bytes in
    let size : 256 < length line = omega (arith, length-append r.cut.items bytes, long) in
    let g = parts.long line rest (feedless_both r.cut.items bytes reading.feedless feedless) size in
    let more : 256 < length (line ++ g.more) = omega (arith, length-append line g.more, size) in
    let some : 0 < length (line ++ g.more) = omega (arith, more) in
    let said = wrong_said r.next.expected r.next.number ((line ++ g.more) ∷ g.afterwards) reading.sound (long_first (line ++ g.more) g.afterwards more)
    (λ _. some_first (line ++ g.more) g.afterwards some) in
    ap (λ (b : List ℕ). from r (lines b)) (sym (append_assoc r.cut.items bytes rest)) ∙ ap (from r) g.split ∙ said
    ∙ ap (λ (f : CertificateFault). refused f) (sym is)

-- a line that is read, before others
taken : (lines : List ℕ → List (List ℕ)) (old new : CertificateLines) (line rest : List ℕ) (result : Result LineContent CertificateFault) → PartsLines lines
    → ((next : List ℕ) (left : List (List ℕ)) → LineResultIs result (from old (line ∷ next ∷ left)) (from new (next ∷ left)))
    → LineResultIs result (from old (line ∷ lines rest)) (from new (lines rest))
taken lines old new line rest result parts step =
    let g = parts.some rest in
    subst (λ (ls : List (List ℕ)). LineResultIs result (from old (line ∷ ls)) (from new ls)) (sym g.split) (step g.more g.afterwards)

-- a line that is whole in a piece
pub whole_line : (lines : List ℕ → List (List ℕ)) (old new : CertificateLines) (result : Result LineContent CertificateFault) (bytes rest : List ℕ) →
    PartsLines lines → old.cut.items ≡ [] → new.cut.items ≡ []
    → is_feedless bytes ≡ true → ((next : List ℕ) (left : List (List ℕ)) → LineResultIs result (from old (bytes ∷ next ∷ left)) (from new (next ∷ left)))
    → LineResultIs result (left_by lines old (bytes ++ (10 ∷ rest))) (left_by lines new rest)
whole_line lines old new result bytes rest parts e f feedless step =
    tells_is result _ (from old (bytes ∷ lines rest)) _ (from new (lines rest))
    (ap (λ (c : List ℕ). from old (lines (c ++ (bytes ++ (10 ∷ rest))))) e ∙ ap (from old) (parts.ends bytes rest feedless))
    (always result (ap (λ (c : List ℕ). from new (lines (c ++ rest))) f))
    (taken lines old new bytes rest result parts step) where
      always : {X : Type 0} (r : Result LineContent CertificateFault) → X → OnOk r X
      always (Ok done) x = x
      always (Err fault) x = tt

emptied : (lines : List ℕ → List (List ℕ)) (result : Result LineContent CertificateFault) (r : CertificateLines) (rest : List ℕ) → OnOk result (r.cut.items ≡ [])
    → OnOk result (left_by lines r rest ≡ from r (lines rest))
emptied lines (Ok done) r rest h = ap (λ (c : List ℕ). from r (lines (c ++ rest))) h
emptied lines (Err fault) r rest h = tt

-- a line that began in an earlier piece
pub cut_line : (lines : List ℕ → List (List ℕ)) (old mid new : CertificateLines) (result : Result LineContent CertificateFault) (bytes rest : List ℕ) →
    PartsLines lines → is_feedless mid.cut.items ≡ true
    → left_by lines old (bytes ++ (10 ∷ rest)) ≡ left_by lines mid (10 ∷ rest) → OnOk result (new.cut.items ≡ [])
    → ((next : List ℕ) (left : List (List ℕ)) → LineResultIs result (from mid (mid.cut.items ∷ next ∷ left)) (from new (next ∷ left)))
    → LineResultIs result (left_by lines old (bytes ++ (10 ∷ rest))) (left_by lines new rest)
cut_line lines old mid new result bytes rest parts feedless same empty step =
    tells_is result _ (from mid (mid.cut.items ∷ lines rest)) _ (from new (lines rest))
    (same ∙ ap (from mid) (parts.ends mid.cut.items rest feedless))
    (emptied lines result new rest empty)
    (taken lines mid new mid.cut.items rest result parts step)

-- a line at the front of some bytes
pub split_first : (lines : List ℕ → List (List ℕ)) (old new : CertificateLines) (result : Result LineContent CertificateFault) (bytes line afterwards rest : List ℕ) →
    bytes ≡ line ++ (10 ∷ afterwards)
    → LineResultIs result (left_by lines old (line ++ (10 ∷ (afterwards ++ rest)))) (left_by lines new (afterwards ++ rest))
    → LineResultIs result (left_by lines old (bytes ++ rest)) (left_by lines new (afterwards ++ rest))
split_first lines old new result bytes line afterwards rest parts h =
    let same : bytes ++ rest ≡ line ++ (10 ∷ (afterwards ++ rest)) = ap (λ (b : List ℕ). b ++ rest) parts ∙ append_assoc line (10 ∷ afterwards) rest in
    let P : List ℕ → Type 0 = λ b. LineResultIs result (left_by lines old b) (left_by lines new (afterwards ++ rest)) in
    subst P (sym same) h

-- ---- the end

-- after the last line
pub all_read : (r : CertificateLines) → r.next.expected ≡ next.Nothing → r.cut.items ≡ [] → left_by lines_of r [] ≡ Ok nothing_left
all_read r e none = ap (λ (c : List ℕ). from r (lines_of (c ++ []))) none ∙ ended_said r.next.expected r.next.number e

-- a line is missing, or the last one lacks its line feed
pub last_line : (r : CertificateLines) (fault : CertificateFault) → IsReading r → (r.next.expected ≡ next.Nothing → 0 < length r.cut.items) →
    fault ≡ wrong_line r.next.expected r.next.number
    → left_by lines_of r [] ≡ Err fault
last_line r fault reading some is =
    let said = wrong_said r.next.expected r.next.number (r.cut.items ∷ []) reading.sound tt (λ e. one_left r.cut.items (some e)) in
    ap (from r) (only_line r.cut.items reading.feedless) ∙ said ∙ ap (λ (f : CertificateFault). refused f) (sym is)

-- bytes after the end are a fault, whatever follows
too_far : (r : CertificateLines) (rest : List ℕ) → r.next.expected ≡ next.Nothing → 0 < length r.cut.items → IsReading r →
    left_by lines_of r rest ≡ Err (wrong_line r.next.expected r.next.number)
too_far r rest e some reading =
    let s = some_lines rest in
    let more : 0 < length (r.cut.items ++ s.0) = omega (arith, length-append r.cut.items s.0, some) in
    ap (from r) (split_onto r.cut.items rest s.0 s.1 reading.feedless s.2)
    ∙ nothing_said r.next.expected r.next.number ((r.cut.items ++ s.0) ∷ s.1) e (some_first (r.cut.items ++ s.0) s.1 more)

pub has_trailing_bytes : (r : CertificateLines) (rest : List ℕ) → r.next.expected ≡ next.Nothing → 0 < length r.cut.items → IsReading r →
    left_by lines_of r rest ≡ left_by lines_of r []
has_trailing_bytes r rest e some reading = too_far r rest e some reading ∙ sym (too_far r [] e some reading)

-- ---- the beginning

module _ {X : Type 0} (said : List ℕ → Result X CertificateFault) (of : Rest → X)
    (begins : (number : ℕ) (text : List ℕ) → said text ≡ made_with of (left_from next.Header number (lines_of text))) where
  begun : (r : CertificateLines) (lines : List ℕ → List (List ℕ)) (bytes text : List ℕ) → r.next.expected ≡ next.Header → r.cut.items ≡ []
      → lines bytes ≡ lines_of text → said text ≡ made_with of (left_by lines r bytes)
  begun r lines bytes text e f h =
      begins r.next.number text
      ∙ ap (λ (ls : List (List ℕ)). made_with of (left_from next.Header r.next.number ls)) (sym h)
      ∙ ap (λ x. made_with of (left_from x r.next.number (lines bytes))) (sym e)
      ∙ ap (λ (c : List ℕ). made_with of (from r (lines (c ++ bytes)))) (sym f)

  begun_text : (r : CertificateLines) (bytes : List ℕ) → r.next.expected ≡ next.Header → r.cut.items ≡ [] → said bytes ≡ made_with of (left_by lines_of r bytes)
  begun_text r bytes e f = begun r lines_of bytes bytes e f refl

  begun_firm : (r : CertificateLines) (bytes rest : List ℕ) → r.next.expected ≡ next.Header → r.cut.items ≡ [] →
      said (firm bytes ++ rest) ≡ made_with of (left_by (firm_lines rest) r bytes)
  begun_firm r bytes rest e f = begun r (firm_lines rest) bytes (firm bytes ++ rest) e f refl

pub motions_text : (r : CertificateLines) (bytes : List ℕ) → r.next.expected ≡ next.Header → r.cut.items ≡ [] →
    parsed_certificate bytes ≡ made_with certificate_of (left_by lines_of r bytes)
motions_text r bytes e f = begun_text parsed_certificate certificate_of begun_said r bytes e f

pub motions_firm : (r : CertificateLines) (bytes rest : List ℕ) → r.next.expected ≡ next.Header → r.cut.items ≡ [] →
    parsed_certificate (firm bytes ++ rest) ≡ made_with certificate_of (left_by (firm_lines rest) r bytes)
motions_firm r bytes rest e f = begun_firm parsed_certificate certificate_of begun_said r bytes rest e f

pub form_text : (r : CertificateLines) (bytes : List ℕ) → r.next.expected ≡ next.Header → r.cut.items ≡ [] →
    parsed_form bytes ≡ made_with form_of_text (left_by lines_of r bytes)
form_text r bytes e f = begun_text parsed_form form_of_text begun_form r bytes e f

pub form_firm : (r : CertificateLines) (bytes rest : List ℕ) → r.next.expected ≡ next.Header → r.cut.items ≡ [] →
    parsed_form (firm bytes ++ rest) ≡ made_with form_of_text (left_by (firm_lines rest) r bytes)
form_firm r bytes rest e f = begun_firm parsed_form form_of_text begun_form r bytes rest e f
