use Rattle.std.proofs.Common.{arith, ◌≤◌, ◌<◌, ◌*ℤ◌, ℕ, ℤ, pos, FitsSigned, unsigned_abs, lit<}
use Rattle.std.specs.Int.{w128}
use Rattle.std.proofs.lemmas.Int.{to_z-of_z, fits_signed_mul}
use Rattle.ngc_certificate.proofs.WideSums.{part_size, part_kept}
use Rattle.ngc_certificate.proofs.cuts.part_of_way.Goals as goal

part_fits : (way : ℤ) (part : ℕ) → unsigned_abs way ≤ 200000000000 → part < 4294967296 → FitsSigned w128 (way *ℤ pos part)
part_fits way part small fits = fits_signed_mul w128 way (pos part) 200000000000 4294967296 small (omega arith) (lit< tt)

pub overflow_mul-result : goal.overflow_mul-result
overflow_mul-result c =
    let way = to_z-of_z w128 c.args.way c.ranges.way in
    let part = to_z-of_z w128 c.from.result (record { sfits = c.from.type_inv }) in
    rw (way, part, c.from.ensures) (part_fits c.args.way c.args.part c.requires c.ranges.part.fits)

pub returns-clause-value : goal.returns-clause-value
returns-clause-value c = rw (c.from.ensures, part_kept c.args.way c.args.part c.requires c.ranges.part.fits)

pub returns-clause-bound : goal.returns-clause-bound
returns-clause-bound c =
    rw (c.from.ensures, part_kept c.args.way c.args.part c.requires c.ranges.part.fits) (part_size c.args.way c.args.part c.requires)
