use Rattle.std.proofs.Common.{subst, sym, refl, rules}
use Rattle.ngc_run_log.specs.Living.{LivesSoFar}
use Rattle.ngc_run_log.proofs.LiveSources.{lives_done, lives_fails, lives_more, lives_yet}
use Rattle.ngc_run_log.proofs.live_source.feed_from.Goals as goal

pub turns-init : goal.turns-init
turns-init g c = record {
  lives = λ form first h.
      subst (λ w. LivesSoFar form c.args.live.now w (g.S.Source.remaining c.args.source.now) (g.S.Source.remaining c.args.source.now) first (g.W.Sink.written c.args.sink.now))
      (sym c.new-input.ensures) (lives_yet form _ _ first _ h);
  job = refl;
  feeds_ring = refl;
  source = refl;
  failures = refl;
}

pub turns-preserved : goal.turns-preserved
turns-preserved g c = record {
  lives = λ form first h.
      let before = c.turns.invariant.lives form first h in
      lives_more form _ _ _ _ _ _ _ first _ _ before
      (rw c.in-Ok-true.field-0-test at
      (c.in-Ok-true.ensures.turns form before.text before.is_live.lines first before.is_live.arrived before.is_live.has_run));
  job = search rules;
  feeds_ring = search rules;
  source = search rules;
  failures = search rules;
}

pub returns-in-Ok-false-clause-lives : goal.returns-in-Ok-false-clause-lives
returns-in-Ok-false-clause-lives g c = λ form first h.
    let before = c.turns.invariant.lives form first h in
    lives_done form _ _ _ _ _ _ _ first _ _ before
    (rw c.in-Ok-false.field-0-test at
    (c.in-Ok-false.ensures.turns form before.text before.is_live.lines first before.is_live.arrived before.is_live.has_run))

pub returns-in-Err-clause-lives : goal.returns-in-Err-clause-lives
returns-in-Err-clause-lives g c = λ form first h.
    let before = c.turns.invariant.lives form first h in
    lives_fails form _ _ _ _ _ _ _ first _ _ c.in-Err.fault before
    (c.in-Err.ensures.turns form before.text before.is_live.lines first before.is_live.arrived before.is_live.has_run)
