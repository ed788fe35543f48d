use Rattle.std.proofs.Common.{◌*◌, ◌/◌}
use Rattle.ngc_compensation.proofs.Parts.{quotient_within, quotient_small, part_within}
use Rattle.ngc_compensation.proofs.offset.part_size.Goals as goal

pub root_floor-requires : goal.root_floor-requires
root_floor-requires c = quotient_small c.args.n c.args.x c.args.square c.from-twice.result c.requires.n c.from-twice.ensures c.requires.within

pub returns-clause-bound : goal.returns-clause-bound
returns-clause-bound c =
    part_within c.args.n c.root_floor.result (c.from-twice.result * c.from-twice.result / c.args.square) c.root_floor.ensures.square
    (quotient_within c.args.n c.args.x c.args.square c.from-twice.result c.from-twice.ensures c.requires.within)
