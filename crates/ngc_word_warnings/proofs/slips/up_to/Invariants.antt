use Rattle.std.proofs.Common.{◌≡◌, ◌++◌, take, drop}
use Rattle.std.specs.Prelude.{take_while, nat_le}
use Rattle.ngc_word_warnings.proofs.slips.up_to.Given as goal

abbrev pub invariant-loop-i : goal.invariant-loop-i
invariant-loop-i l =
    take_while (λ c. nat_le c.line l.number) l.commands ≡ take l.i l.commands ++ take_while (λ c. nat_le c.line l.number) (drop l.i l.commands)
