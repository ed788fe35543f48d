use Rattle.std.proofs.Common.{◌≡◌, pos, ◌+ℤ◌, ◌-ℤ◌, ◌≤ℤ◌, to_z, of_z, arith, inl, inr, ◌∙◌}
use Rattle.std.specs.Int.{w64}
use Rattle.std.proofs.lemmas.Int.{ints, by_lt_z}
use Rattle.ngc_cells.proofs.Kept.{kept64, less128, plus128}
use Rattle.ngc_cells.proofs.band.reach_span.Goals as goal

pub returns : goal.returns
returns c =
    let s = c.args.stretch.now in
    let ay = kept64 s.start.y (omega (arith, c.requires.start.y)) in
    let by = kept64 s.end.y (omega (arith, c.requires.end.y)) in
    let least : to_z w64 (of_z w64 c.min.result) ≡ c.min.result = omega (arith, ints) in
    let most : to_z w64 (of_z w64 c.max.result) ≡ c.max.result = omega (arith, ints) in
    let from_least : c.from.result ≡ c.min.result = c.from.ensures ∙ least in
    let from_most : c.from-2.result ≡ c.max.result = c.from-2.ensures ∙ most in
    let radius : c.from-radius.result ≡ pos c.args.radius = c.from-radius.ensures in
    let low = less128 c.from.result c.from-radius.result (omega (arith, ints, c.from.ensures)) (omega (arith, ints, radius, c.ranges.radius)) in
    let high = plus128 c.from-2.result c.from-radius.result (omega (arith, ints, c.from-2.ensures)) (omega (arith, ints, radius, c.ranges.radius)) in
    let l1 : c.min.result ≤ℤ s.start.y = rw ay at c.min.ensures.self_bound in
    let l2 : c.min.result ≤ℤ s.end.y = rw by at c.min.ensures.other_bound in
    let h1 : s.start.y ≤ℤ c.max.result = rw ay at c.max.ensures.self_bound in
    let h2 : s.end.y ≤ℤ c.max.result = rw by at c.max.ensures.other_bound in
    λ y out.
    by_lt_z y (c.from.result -ℤ c.from-radius.result)
    (λ below. inr (omega (arith, ints, below, from_least, radius, l1), omega (arith, ints, below, from_least, radius, l2)))
    (λ above. by_lt_z (c.from-2.result +ℤ c.from-radius.result) y
    (λ over. inl (omega (arith, ints, over, from_most, radius, h1), omega (arith, ints, over, from_most, radius, h2)))
    (λ under. absurd (out (record { low = rw low above; high = rw high under }))))
