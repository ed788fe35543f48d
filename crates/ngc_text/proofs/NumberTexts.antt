-- A number's text that is added with unused bytes after it.
use Rattle.std.proofs.Common.{◌≡◌, ◌+◌, ◌-◌, ◌≤◌, ◌++◌, ℕ, List, length, take, drop}
use Rattle.std.proofs.Common.{refl, sym, ap, ◌∙◌, arith, take-take, length-drop, length-take-le}
use Rattle.std.proofs.Math.Seq.{take-append-add}
use Rattle.std.proofs.lemmas.Slice.{take-put_mid}
use borrow.Rule.Slice.PartMut.{put_mid}

pub added : (at size start : ℕ) (buffer digits : List ℕ) → at ≤ length buffer → start ≤ 40 → start + 40 ≤ length digits
    → take (at + 40 - start) (put_mid at size buffer (take (start + 40 - start) (drop start digits)))
    ≡ take at buffer ++ take (40 - start) (drop start digits)
added at size start buffer digits within short long =
    let part = take 40 (drop start digits) in
    let whole : length part ≡ 40 = length-take-le 40 (drop start digits) (omega (arith, long, length-drop start digits)) in
    let count : at + 40 - start ≡ at + (40 - start) = omega (arith, short) in
    let same : start + 40 - start ≡ 40 = omega arith in
    rw (count, same) (
    sym (take-take (at + (40 - start)) (at + length part) (put_mid at size buffer part) (omega (arith, whole)))
    ∙ ap (take (at + (40 - start))) (take-put_mid at size buffer part (at + length part) refl within)
    ∙ ap (λ k. take (k + (40 - start)) (take at buffer ++ part)) (sym (length-take-le at buffer within))
    ∙ take-append-add (take at buffer) part (40 - start)
    ∙ ap (λ t. take at buffer ++ t) (take-take (40 - start) 40 (drop start digits) (omega arith)))
