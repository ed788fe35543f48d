use Rattle.std.proofs.Common.{◌≡◌, ℤ, pos, ◌+ℤ◌, ◌≤◌, ◌^◌, unsigned_abs, to_z, of_z, ◌-ℤ◌, arith, ◌∙◌, ap₂}
use Rattle.std.specs.Int.{w128}
use Rattle.std.proofs.lemmas.Int.{ints}
use Rattle.ngc_fixed_length.specs.Roots.{IsRootFloor}
use Rattle.ngc_cells.proofs.Roots.{root_row}
use Rattle.ngc_cells.proofs.Kept.{kept64, kept128, less128, plus128}
use Rattle.ngc_cells.proofs.band.rooted.Goals as goal

pub returns : goal.returns
returns c =
    let room = kept128 c.args.room (omega (arith, c.requires.room)) in
    let middle = kept64 c.args.middle (omega (arith, c.requires.middle)) in
    let half = c.from-half.ensures in
    let centre = c.from-middle.ensures ∙ middle in
    let root : IsRootFloor (unsigned_abs c.args.room) c.root_floor.result =
    record { square = rw room at c.root_floor.ensures.square; greatest = rw room at c.root_floor.ensures.greatest } in
    let small : c.root_floor.result ≤ 2 ^ 100 = omega (arith, c.root_floor.type_inv) in
    let size : unsigned_abs c.from-half.result ≤ 2 ^ 120 = rw half (omega (arith, small)) in
    let near : unsigned_abs c.from-middle.result ≤ 2 ^ 120 = rw centre (omega (arith, c.requires.middle)) in
    let parts : to_z w128 (of_z w128 c.from.result) ≡ pos c.args.parts = rw c.from.ensures (kept128 (pos c.args.parts) (omega arith)) in
    let low = less128 c.from-middle.result c.from-half.result near size ∙ ap₂ (λ (x y : ℤ). x -ℤ y) centre half in
    let high = plus128 c.from-middle.result c.from-half.result near size ∙ ap₂ (λ (x y : ℤ). x +ℤ y) centre half in
    λ x. root_row x c.args.parts c.args.middle c.args.room c.root_floor.result c.quotients.result (omega (arith, ints, c.if-room-lt0.false)) root
    (rw (low, high, parts) at (c.quotients.ensures x))
