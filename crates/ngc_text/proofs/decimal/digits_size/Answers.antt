use Rattle.std.proofs.Common.{true, false, None, Some, ap, sym, ◌∙◌, get_or, arith, ◌≡◌, ◌+◌}
use Rattle.std.specs.Prelude.{if◌then◌else◌}
use Rattle.std.specs.Char.{is_ascii_digit}
use Rattle.std.specs.Str.Parse.{digits_value}
use Rattle.ngc_text.specs.Decimals.{limited}
use Rattle.ngc_text.proofs.DigitLaws.{digits_fail, digits_more, size_more}
use Rattle.ngc_text.proofs.decimal.digits_size.Goals as goal

pub returns-then-not-is_ascii_digit-clause-value : goal.returns-then-not-is_ascii_digit-clause-value
returns-then-not-is_ascii_digit-clause-value c =
    let e : is_ascii_digit (get_or c.args.digits.now c.loop-byte.byte-index 0) ≡ false = sym c.is_ascii_digit.ensures.value ∙ c.if-not-is_ascii_digit.true in
    ap (λ b. if b then Some (limited (digits_value 10 c.args.digits.now)) else None)
    (sym (digits_fail c.args.digits.now c.loop-byte.byte-index (omega arith) e))

pub loop-byte-preserved : goal.loop-byte-preserved
loop-byte-preserved c =
    let e : is_ascii_digit (get_or c.args.digits.now c.loop-byte.byte-index 0) ≡ true = sym c.is_ascii_digit.ensures.value ∙ c.if-not-is_ascii_digit.false in
    record {
      digits =
          digits_more c.args.digits.now c.loop-byte.byte-index (c.loop-byte.byte-index + 1) c.loop-byte-test.true (omega arith) c.loop-byte.invariant.digits e;
      size = size_more c.args.digits.now c.loop-byte.byte-index c.loop-byte.size c.from.result c.min-size.result c.loop-byte-test.true
          c.loop-byte.invariant.size e (c.from.ensures ∙ c.saturating_sub.ensures) c.min-size.ensures;
    }
