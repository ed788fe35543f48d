use Rattle.std.proofs.Common.{◌≡◌, map, drop}
use Rattle.ngc_machine_files.specs.Tree.{is_one_of}
use Rattle.ngc_machine_files.proofs.tree.is_one_of.Given as goal

abbrev pub invariant-loop-known : goal.invariant-loop-known
invariant-loop-known l =
    is_one_of (map (λ k. k.now) l.keys) l.key ≡ is_one_of (map (λ k. k.now) (drop l.known-index l.keys)) l.key
