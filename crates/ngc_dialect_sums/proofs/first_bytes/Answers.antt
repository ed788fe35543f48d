use Rattle.std.proofs.Common.{◌≡◌, ◌≤◌, ℕ, List, length, arith, sym}
use Rattle.std.proofs.lemmas.Bool.Decides.{nat_tests}
use Rattle.std.proofs.lemmas.List.{length-take, length-take-le}
use Rattle.ngc_dialect_sums.proofs.first_bytes.Goals as goal

pub slice_bounds-result-end : goal.slice_bounds-result-end
slice_bounds-result-end c = sym (length-take-le 256 c.args.text.now (grind (arith, nat_tests, c.if-text-gt256.true)))

pub returns-then-text-gt256 : goal.returns-then-text-gt256
returns-then-text-gt256 c = rw (length-take 256 c.args.text.now) (omega arith)
