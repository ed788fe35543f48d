-- The feeds of the remaining commands, after those of one.
use Rattle.std.proofs.Common.{◌≡◌, ℕ, ◌+◌, ◌-◌, ◌≤◌, refl, sym, ◌∙◌, ap, arith, List, [], ◌∷◌, length, Option, None}
use Rattle.ngc_commands.specs.declared.command.Command.{Command}
use Rattle.ngc_commands.specs.declared.reached.Reached.{Reached}
use Rattle.ngc_commands.specs.Reached.{after}
use Rattle.ngc_stock.specs.declared.below.AllBelow.{AllBelow}
use Rattle.ngc_stock.specs.declared.below.Below.{Below}
use Rattle.ngc_stock.specs.declared.stock.Stock.{Stock}
use Rattle.ngc_stock.specs.Below.{below_at, with_below, all_below}

pub later_below : (s : Stock) (r next : Reached) (all left later : List Command) (c : Command) (found more : Option AllBelow) (o : Option Below) →
    left ≡ c ∷ later → length left ≤ length all → next ≡ after r c.action → o ≡ below_at s r (length all - length left) c → more ≡ with_below found o →
    all_below s r (length all - length left) left found ≡ all_below s next (length all - length later) later more
later_below s r next all left later c found more o e few n is m =
    let size : length left ≡ length later + 1 = ap (λ (l : List Command). length l) e ∙ omega arith in
    let at : length all - length later ≡ (length all - length left) + 1 = omega (arith, size, few) in
    ap (λ (l : List Command). all_below s r (length all - length left) l found) e
    ∙ ap (λ (x : Option Below). all_below s (after r c.action) ((length all - length left) + 1) later (with_below found x)) (sym is)
    ∙ ap (λ (x : Option AllBelow). all_below s (after r c.action) ((length all - length left) + 1) later x) (sym m)
    ∙ ap (λ (x : Reached). all_below s x ((length all - length left) + 1) later more) (sym n)
    ∙ ap (λ (k : ℕ). all_below s next k later more) (sym at)

no_commands : (left : List Command) → length left ≡ 0 → left ≡ []
no_commands [] e = refl
no_commands (c ∷ cs) e = absurd (omega (arith, e))

pub last_below : (s : Stock) (r : Reached) (index : ℕ) (left : List Command) (found : Option AllBelow) → length left ≡ 0 →
    all_below s r index left found ≡ found
last_below s r index left found e = ap (λ (l : List Command). all_below s r index l found) (no_commands left e)

pub first_below : (s : Stock) (r : Reached) (all : List Command) →
    all_below s r (length all - length all) all None ≡ all_below s r 0 all None
first_below s r all =
    ap (λ (k : ℕ). all_below s r k all None) (let e : length all - length all ≡ 0 = omega arith in e)
