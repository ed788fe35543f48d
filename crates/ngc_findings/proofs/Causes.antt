-- The machine's state some commands further.
use Rattle.std.proofs.Common.{◌≡◌, ◌≤◌, ◌+◌, ◌-◌, ℕ, List, [], ◌∷◌, ◌++◌, take, drop, ap, sym, ◌∙◌, refl, arith}
use Rattle.std.proofs.Math.Seq.{take-add}
use Rattle.std.proofs.lemmas.List.Sums.{fold-append}
use Rattle.ngc_commands.specs.Movement.{actions_of}
use Rattle.ngc_commands.specs.declared.command.Command.{Command}
use Rattle.std.specs.Prelude.{fold}
use Rattle.ngc_commands.specs.Reached.{after, after_all}
use Rattle.ngc_commands.specs.declared.reached.Reached.{Reached}

actions_of-append : (cs ds : List Command) → actions_of (cs ++ ds) ≡ actions_of cs ++ actions_of ds
actions_of-append [] ds = refl
actions_of-append (c ∷ cs) ds = ap (λ l. c.action ∷ l) (actions_of-append cs ds)

-- some commands further
pub gone_further : (start s : Reached) (commands : List Command) (a b : ℕ) → a ≤ b → s ≡ after_all start (take a commands)
    → after_all s (take (b - a) (drop a commands)) ≡ after_all start (take b commands)
gone_further start s commands a b ahead is =
    let some : List Command = take a commands in
    let more : List Command = take (b - a) (drop a commands) in
    let sum : a + (b - a) ≡ b = omega (arith, ahead) in
    ap (λ (x : Reached). after_all x more) is ∙ sym (fold-append after start (actions_of some) (actions_of more))
    ∙ ap (fold after start) (sym (actions_of-append some more))
    ∙ ap (λ (l : List Command). after_all start l) (sym (take-add a (b - a) commands)) ∙ ap (λ n. after_all start (take n commands)) sum
