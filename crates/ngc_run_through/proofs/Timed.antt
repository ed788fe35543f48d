-- The log with ticks of more outcomes.
use Rattle.std.proofs.Common.{◌≡◌, ◌∙◌, ◌+◌, ◌-◌, ◌^◌, ◌≤◌, ℕ, zero, suc, List, [], ◌∷◌, ◌++◌, replicate, None, Ok, refl, ap, sym, arith}
use Rattle.std.specs.Prelude.{min}
use Rattle.std.proofs.lemmas.List.{append_assoc}
use Rattle.ngc_events.specs.declared.reply.Reply.TheVariants.{Ticked}
use Rattle.ngc_machine_model.specs.Step.{Outcome}
use Rattle.ngc_run_through.specs.Times.{MOST_TICKS, ticks_after, ticks_with, timed_log, timed_text}

pub timed_log-append : (ticks : ℕ) (os ps : List Outcome) → timed_log ticks (os ++ ps) ≡ timed_log ticks os ++ timed_log (ticks_after ticks os) ps
timed_log-append ticks [] ps = refl
timed_log-append ticks (o ∷ os) ps =
    ap (λ l. timed_text ticks o ++ l) (timed_log-append (ticks_with ticks o) os ps)
    ∙ sym (append_assoc (timed_text ticks o) (timed_log (ticks_with ticks o) os) (timed_log (ticks_after (ticks_with ticks o) os) ps))

pub ticks_after-append : (ticks : ℕ) (os ps : List Outcome) → ticks_after ticks (os ++ ps) ≡ ticks_after (ticks_after ticks os) ps
ticks_after-append ticks [] ps = refl
ticks_after-append ticks (o ∷ os) ps = ticks_after-append (ticks_with ticks o) os ps

-- ---- ticks in which nothing was commanded and nothing ended

pub quiet_timed : (ticks n : ℕ) → timed_log ticks (replicate n (Ok (Ticked None None))) ≡ []
quiet_timed ticks zero = refl
quiet_timed ticks (suc n) = quiet_timed (min (ticks + 1) MOST_TICKS) n

pub quiet_counted : (ticks n : ℕ) → ticks ≤ 2 ^ 64 - 1 → ticks_after ticks (replicate n (Ok (Ticked None None))) ≡ min (ticks + n) (2 ^ 64 - 1)
quiet_counted ticks zero most = omega (arith, most)
quiet_counted ticks (suc n) most =
    let one : min (ticks + 1) (2 ^ 64 - 1) ≤ 2 ^ 64 - 1 = omega arith in
    let more : min (min (ticks + 1) (2 ^ 64 - 1) + n) (2 ^ 64 - 1) ≡ min (ticks + suc n) (2 ^ 64 - 1) = omega arith in
    quiet_counted (min (ticks + 1) (2 ^ 64 - 1)) n one ∙ more
