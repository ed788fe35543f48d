use Rattle.std.proofs.Common.{◌≡◌, ◌≤◌, arith, ap, ap₂, ◌∙◌, ℤ, pos, ◌+ℤ◌, ◌-ℤ◌, unsigned_abs, to_z, of_z, w32, w64}
use Rattle.std.specs.Int.{int_max, int_min}
use Rattle.std.proofs.lemmas.Int.{ints}
use Rattle.ngc_machine_files.specs.Ranges.{place_limit}
use Rattle.ngc_place_report.specs.Range.{interval_from, whole_steps}
use Rattle.ngc_place_report.proofs.range.in_range.Goals as goal

kept : (v : ℤ) → unsigned_abs v ≤ 100000000000000 → to_z w64 (of_z w64 v) ≡ v
kept v bound = omega (arith, ints)

sum_kept : (l v m z : ℤ) → l ≡ m → v ≡ z → unsigned_abs l ≤ 4000000000 → unsigned_abs v ≤ 100000000000 →
    to_z w64 (of_z w64 (to_z w64 (of_z w64 l) +ℤ to_z w64 (of_z w64 v))) ≡ m +ℤ z
sum_kept l v m z is_limit is limit bound =
    ap₂ (λ (k n : ℤ). to_z w64 (of_z w64 (k +ℤ n))) (kept l (omega (arith, limit)) ∙ is_limit) (kept v (omega (arith, bound)) ∙ is)
    ∙ kept (m +ℤ z) (omega (arith, ints, is_limit, is, limit, bound))

difference_kept : (l v m z : ℤ) → l ≡ m → v ≡ z → unsigned_abs l ≤ 4000000000 → unsigned_abs v ≤ 100000000000 →
    to_z w64 (of_z w64 (to_z w64 (of_z w64 l) -ℤ to_z w64 (of_z w64 v))) ≡ m -ℤ z
difference_kept l v m z is_limit is limit bound =
    ap₂ (λ (k n : ℤ). to_z w64 (of_z w64 (k -ℤ n))) (kept l (omega (arith, limit)) ∙ is_limit) (kept v (omega (arith, bound)) ∙ is)
    ∙ kept (m -ℤ z) (omega (arith, ints, is_limit, is, limit, bound))

negated_kept : (v : ℤ) → unsigned_abs v ≤ 10000000000000 → to_z w64 (of_z w64 (pos 0 -ℤ to_z w64 (of_z w64 v))) ≡ pos 0 -ℤ v
negated_kept v bound =
    ap (λ (n : ℤ). to_z w64 (of_z w64 (pos 0 -ℤ n))) (kept v (omega arith)) ∙ kept (pos 0 -ℤ v) (omega (arith, ints, bound))

end_kept : (v z : ℤ) → v ≡ to_z w32 (of_z w32 z) → unsigned_abs z ≤ 4000000 → to_z w64 (of_z w64 v) ≡ z
end_kept v z is bound = omega (arith, ints)

pub overflow_sub-below : goal.overflow_sub-below
overflow_sub-below c = omega (arith, ints, c.whole_steps-below.ensures.bound)

pub interval_from-requires-clause-from : goal.interval_from-requires-clause-from
interval_from-requires-clause-from c = omega (arith, ints, c.max.ensures.self_bound, c.from.ensures, c.requires.limit.from)

pub interval_from-requires-clause-to : goal.interval_from-requires-clause-to
interval_from-requires-clause-to c = omega (arith, ints, c.min.ensures.self_bound, c.from-2.ensures, c.requires.limit.to)

pub returns-clause-value : goal.returns-clause-value
returns-clause-value c =
    let z = c.nanometres-origin in
    let l = c.place_limit-limit in
    let limit = pos (place_limit c.args.far) in
    let below =
    c.whole_steps-below.ensures.value
    ∙ ap (whole_steps c.args.step) (sum_kept l.result z.result limit c.args.origin l.ensures.value z.ensures.value l.ensures.bound z.ensures.bound) in
    let above =
    c.whole_steps-above.ensures.value
    ∙ ap (whole_steps c.args.step) (difference_kept l.result z.result limit c.args.origin l.ensures.value z.ensures.value l.ensures.bound z.ensures.bound) in
    let negated = negated_kept c.whole_steps-below.result c.whole_steps-below.ensures.bound in
    let from = end_kept c.from.result c.args.interval.from c.from.ensures c.requires.limit.from in
    let to = end_kept c.from-2.result c.args.interval.to c.from-2.ensures c.requires.limit.to in
    let low : to_z w64 (of_z w64 c.max.result) ≡ c.max.result = omega (arith, ints) in
    let high : to_z w64 (of_z w64 c.min.result) ≡ c.min.result = omega (arith, ints) in
    c.interval_from.ensures.value
    ∙ ap₂ interval_from (low ∙ c.max.ensures.value ∙ ap₂ int_max from (negated ∙ ap (λ (n : ℤ). pos 0 -ℤ n) below))
    (high ∙ c.min.ensures.value ∙ ap₂ int_min to (kept c.whole_steps-above.result (omega (arith, c.whole_steps-above.ensures.bound)) ∙ above))
