use Rattle.std.proofs.Common.{◌≡◌}
use Rattle.ngc_dialect_numbers.proofs.RootLaws.{root_after, root_same}
use Rattle.ngc_dialect_numbers.proofs.root.nearest_root.Goals as goal

pub returns-then-root-square-clause-near : goal.returns-then-root-square-clause-near
returns-then-root-square-clause-near c =
    let same : c.from-root.result ≡ c.root_floor.result = cc in
    root_after c.args.square c.from-root.result c.if-root-square.true (rw same c.root_floor.ensures.greatest)

pub returns-else-root-square-clause-near : goal.returns-else-root-square-clause-near
returns-else-root-square-clause-near c =
    let same : c.from-root.result ≡ c.root_floor.result = cc in
    root_same c.args.square c.from-root.result c.if-root-square.false (rw same c.root_floor.ensures.square)
