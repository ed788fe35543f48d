use Rattle.std.proofs.Common.{◌≡◌, ℕ, Bool, ◌*◌, ◌-◌, ◌^◌, List, length, drop, sym, ap, ◌∙◌, arith, false}
use Rattle.std.specs.Prelude.{◌==◌, ◌&&◌}
use Rattle.std.specs.Char.{is_ascii_digit}
use Rattle.std.specs.List.{prefix_len, fold}
use Rattle.std.proofs.lemmas.List.Folds.{length-prefix_len}
use Rattle.ngc_line_reader.specs.Numbers.{digits_value}
use Rattle.ngc_line_reader.specs.Scan.{begins, digits_at, after_digits}
use Rattle.ngc_dialect_reader.specs.Number.{literal, unsigned, whole_at, after_whole, decimals_in, after_decimals}
use Rattle.ngc_dialect_reader.proofs.ShortWords.{then_digit, short_number, number_begun}
use Rattle.ngc_dialect_reader.proofs.number.short_number.Goals as goal

pub returns : goal.returns
returns c =
    let s = c.args.s.now in
    let digits : c.unsigned-digits.result.now ≡ unsigned s = c.unsigned-digits.ensures in
    let count : c.in_ok-whole.count ≡ length (whole_at s) =
    c.in_ok-whole.ensures.count ∙ ap (λ (t : List ℕ). prefix_len is_ascii_digit t) digits ∙ sym (length-prefix_len is_ascii_digit (unsigned s)) in
    let whole : c.in_ok-whole.whole ≡ digits_value (whole_at s) = c.in_ok-whole.ensures.units ∙ ap (λ (t : List ℕ). digits_value (digits_at t)) digits in
    let after : c.split_at.result.1.now ≡ after_whole s =
    c.split_at.ensures.back ∙ ap (λ (n : ℕ). drop n c.unsigned-digits.result.now) c.in_ok-whole.ensures.count ∙ ap (λ (t : List ℕ). after_digits t) digits in
    let places : c.in_ok-units.places ≡ length (decimals_in (after_whole s)) = c.in_ok-units.ensures.count ∙ ap (λ (t : List ℕ). length (decimals_in t)) after in
    let units : c.in_ok-units.units ≡ fold then_digit (digits_value (whole_at s)) (decimals_in (after_whole s)) =
    c.in_ok-units.ensures.units ∙ ap (λ (n : ℕ). fold then_digit n (decimals_in c.split_at.result.1.now)) whole
    ∙ ap (λ (t : List ℕ). fold then_digit (digits_value (whole_at s)) (decimals_in t)) after in
    let rest : c.in_ok-units.rest.now ≡ after_decimals (after_whole s) = c.in_ok-units.ensures.rest ∙ ap (λ (t : List ℕ). after_decimals t) after in
    let last : begins 46 (after_decimals (after_whole s)) ≡ false = sym (ap (λ (t : List ℕ). begins 46 t) rest) ∙ sym c.begins.ensures ∙ c.if-begins.false in
    let some : ((length (whole_at s) == 0) && (length (decimals_in (after_whole s)) == 0)) ≡ false =
    sym (ap (λ (n : ℕ). (n == 0) && (length (decimals_in (after_whole s)) == 0)) count) ∙ sym (ap (λ (n : ℕ). (c.in_ok-whole.count == 0) && (n == 0)) places)
    ∙ sym c.has_none.ensures ∙ c.if-has_none.false in
    let read = short_number s c.in_ok-units.units c.scaled-size.result some (omega (arith, places)) last units (c.scaled-size.ensures ∙ ap (λ (n : ℕ). c.in_ok-units.units * 10 ^ (12 - n)) places) (omega arith) in
    let point : c.begins-point.result ≡ begins 46 (after_whole s) = c.begins-point.ensures ∙ ap (λ (t : List ℕ). begins 46 t) after in
    let made : c.literal.result ≡ literal (begins 45 s) c.scaled-size.result (begins 46 (after_whole s)) =
    c.literal.ensures ∙ ap (λ (b : Bool). literal b c.scaled-size.result c.begins-point.result) c.begins-2.ensures ∙ ap (λ (b : Bool). literal (begins 45 s) c.scaled-size.result b) point in
    (rw (made, rest) read, number_begun s some)
