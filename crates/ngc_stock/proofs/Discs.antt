-- The discs of a cutter are inside it.
use Rattle.std.proofs.Common.{◌≡◌, ℕ, ◌+◌, ◌*◌, ◌-◌, ◌/◌, ◌^◌, ◌<◌, ◌≤◌, inl, inr, subst, arith, max}
use Rattle.std.specs.Int.{div_ceil}
use Rattle.std.proofs.lemmas.Bool.{cases_lt}
use Rattle.std.proofs.lemmas.Grind.{div_ceil_times}
use Rattle.std.proofs.lemmas.Nat.{mul-le}
use Rattle.ngc_fixed_length.specs.Roots.{whole_root}
use Rattle.ngc_fixed_length.proofs.RootLaws.{whole_root-greatest, at_most}
use Rattle.ngc_cells.specs.Stretches.{RADIUS_LIMIT}
use Rattle.ngc_stock.specs.Discs.{step, ball_up, cone_up, IsInBall, IsInCone, BallInside, ConeInside}

pub step_most : (r n : ℕ) → n ≤ 64 → step r n ≤ r
step_most r n h = let p = mul-le r n r 64 (omega arith) h in omega (arith, p)

pub small_square : (r d : ℕ) → r ≤ RADIUS_LIMIT → r * r - d * d < 4 ^ 64
small_square r d h = let p = mul-le r r RADIUS_LIMIT RADIUS_LIMIT h h in omega (arith, p)

-- the root is at most the radius
root_least : (r d : ℕ) → r ≤ RADIUS_LIMIT → whole_root (r * r - d * d) ≤ r
root_least r d h =
    let root = whole_root-greatest (r * r - d * d) (small_square r d h) in
    at_most (r * r - d * d) (whole_root (r * r - d * d)) r root.square (omega arith)

in_ball : (r d w : ℕ) → d ≤ r → w ≤ r → w * w ≤ r * r - d * d → IsInBall r d (r - w)
in_ball r d w narrow small square =
    let m = mul-le d d r r narrow narrow in
    let e : r - (r - w) ≡ w = omega (arith, small) in
    record {
      narrow = narrow;
      most = omega arith;
      rim = rw e (omega (arith, square, m));
    }

pub ball_inside : BallInside
unfolding ball_up
ball_inside r n few small =
    let d = step r n in
    let root = whole_root-greatest (r * r - d * d) (small_square r d small) in
    in_ball r d (whole_root (r * r - d * d)) (step_most r n few) (root_least r d small) root.square

ceiling_most : (x r : ℕ) → 0 < r → x ≤ div_ceil x r * r
ceiling_most x r some = (div_ceil_times x r some).0

pub cone_inside : ConeInside
unfolding cone_up
cone_inside r h n few =
    let d = step r n in
    let narrow = step_most r n few in
    elim (cases_lt 0 r) [
      | inl some ↦ (
          let same : max 1 r ≡ r = omega (arith, some) in
          record { narrow = narrow; rim = rw same (ceiling_most (h * d) r some) })
      | inr none ↦ (
          let z : d ≡ 0 = omega (arith, narrow, none) in
          record { narrow = narrow; rim = rw z (omega arith) })
    ]
