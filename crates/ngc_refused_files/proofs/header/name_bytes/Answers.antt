use Rattle.std.proofs.Common.{ℕ, List, ◌≤◌, length, subst, sym}
use Rattle.ngc_refused_files.proofs.Names.{few}
use Rattle.ngc_refused_files.proofs.header.name_bytes.Goals as goal

pub returns-clause-short : goal.returns-clause-short
returns-clause-short c =
    subst (λ (name : List ℕ). length name ≤ 40) (sym c.as_bytes.ensures) (few c.args.name.now.count c.args.name.now.bytes)
