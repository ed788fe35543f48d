use Rattle.std.proofs.Common.{◌≡◌, ℕ, ◌*◌, unsigned_abs, arith, ◌∙◌, ap, ap₂}
use Rattle.ngc_cells.specs.Stretches.{squared_length}
use Rattle.ngc_cells.proofs.Kept.{kept128}
use Rattle.ngc_cells.proofs.band.width.Goals as goal

pub returns : goal.returns
returns c =
    let l = kept128 c.squared_length.result (omega (arith, c.squared_length.ensures.bound)) in
    let s = c.args.stretch.now in
    let e : c.room.result ≡ c.args.radius * c.args.radius * unsigned_abs (squared_length s.start s.end) =
    c.room.ensures.value ∙ ap₂ (λ (a b : ℕ). a * b) c.area.ensures.value (c.unsigned_abs.ensures.value ∙ ap unsigned_abs (l ∙ c.squared_length.ensures.value)) in
    record { square = rw e at c.root_floor.ensures.square; greatest = rw e at c.root_floor.ensures.greatest }
