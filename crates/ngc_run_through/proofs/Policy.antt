-- The next event in a run by itself, and the policy over joined parts of a run.
use Rattle.std.proofs.Common.{◌≡◌, ◌+◌, ◌<◌, ◌≤◌, ℕ, List, [], ◌∷◌, ◌++◌, length, Option, Some, None, Bool, true, false, refl, ap, subst, sym, ◌∙◌, arith}
use Rattle.std.specs.Prelude.{nat_lt, ◌&&◌, if◌then◌else◌}
use Rattle.std.proofs.lemmas.Bool.{lt-ltb, le-ltb}
use Rattle.ngc_events.specs.declared.event.Event.{Event}
use Rattle.ngc_events.specs.declared.event.Event.TheVariants.{Load, Tick, Start}
use Rattle.ngc_machine_model.specs.State.{Job, Queued, State, loaded}
use Rattle.ngc_machine_model.specs.Step.{Outcome}
use Rattle.ngc_machine_model.specs.Run.{Run}
use Rattle.ngc_machine_model.specs.Stretch.{last_state}
use Rattle.ngc_run_through.specs.Policy.{can_load, next_event, FollowPolicy}

-- ---- the next event, by its three tests

abbrev event_by : Bool → Bool → Bool → Option Event
event_by stopped loads works = if stopped then Some Start else if loads then Some Load else if works then Some Tick else None

event_as : (job : Job) (s : State) (stopped loads works : Bool) → s.stopped ≡ stopped → can_load job s ≡ loads → nat_lt s.done (length job.commands) ≡ works →
    next_event job s ≡ event_by stopped loads works
event_as job s stopped loads works p q r =
    ap (λ b. event_by b (can_load job s) (nat_lt s.done (length job.commands))) p
    ∙ ap (λ b. event_by stopped b (nat_lt s.done (length job.commands))) q ∙ ap (λ b. event_by stopped loads b) r

both_true : (a b : Bool) → a ≡ true → b ≡ true → (a && b) ≡ true
both_true a b p q = ap (λ x. x && b) p ∙ q

first_false : (a b : Bool) → a ≡ false → (a && b) ≡ false
first_false a b p = ap (λ x. x && b) p

second_false : (a b : Bool) → b ≡ false → (a && b) ≡ false
second_false true b q = q
second_false false b q = refl

pub start_is_next : (job : Job) (s : State) → s.stopped ≡ true → next_event job s ≡ Some Start
start_is_next job s stops = event_as job s true (can_load job s) (nat_lt s.done (length job.commands)) stops refl refl

pub load_is_next : (job : Job) (s : State) → s.stopped ≡ false → length s.ring < job.machine.ring → loaded s < length job.commands → next_event job s ≡ Some Load
load_is_next job s runs room left =
    event_as job s false true (nat_lt s.done (length job.commands)) runs
    (both_true (nat_lt (length s.ring) job.machine.ring) (nat_lt (loaded s) (length job.commands)) (lt-ltb (length s.ring) job.machine.ring room)
    (lt-ltb (loaded s) (length job.commands) left)) refl

-- the ring is full
pub full_ticks : (job : Job) (s : State) → s.stopped ≡ false → job.machine.ring ≤ length s.ring → s.done < length job.commands → next_event job s ≡ Some Tick
full_ticks job s runs full more =
    event_as job s false false true runs
    (first_false (nat_lt (length s.ring) job.machine.ring) (nat_lt (loaded s) (length job.commands)) (le-ltb (length s.ring) job.machine.ring full))
    (lt-ltb s.done (length job.commands) more)

-- all commands are loaded
pub last_ticks : (job : Job) (s : State) → s.stopped ≡ false → length job.commands ≤ loaded s → s.done < length job.commands → next_event job s ≡ Some Tick
last_ticks job s runs all more =
    event_as job s false false true runs
    (second_false (nat_lt (length s.ring) job.machine.ring) (nat_lt (loaded s) (length job.commands)) (le-ltb (loaded s) (length job.commands) all))
    (lt-ltb s.done (length job.commands) more)

-- all commands are done
pub none_is_next : (job : Job) (s : State) → s.stopped ≡ false → s.done ≡ length job.commands → next_event job s ≡ None
none_is_next job s runs all =
    event_as job s false false false runs
    (second_false (nat_lt (length s.ring) job.machine.ring) (nat_lt (loaded s) (length job.commands)) (le-ltb (loaded s) (length job.commands) (omega (arith, all))))
    (le-ltb s.done (length job.commands) (omega (arith, all)))

-- ---- it depends only on these values

abbrev event_of : Job → Bool → List Queued → ℕ → Option Event
event_of job stopped ring done =
    event_by stopped (nat_lt (length ring) job.machine.ring && nat_lt (done + length ring) (length job.commands)) (nat_lt done (length job.commands))

-- the machine continues with the same commands
pub still_ticks : (job at : Job) (s t : State) → next_event job s ≡ Some Tick → s.stopped ≡ false → at ≡ job → t.stopped ≡ false → t.ring ≡ s.ring →
    t.done ≡ s.done → next_event at t ≡ Some Tick
still_ticks job at s t comes ran same runs ring done =
    ap (λ (j : Job). event_of j t.stopped t.ring t.done) same ∙ ap (λ b. event_of job b t.ring t.done) (runs ∙ sym ran)
    ∙ ap (λ r. event_of job s.stopped r t.done) ring ∙ ap (λ n. event_of job s.stopped s.ring n) done ∙ comes

-- ---- one part of a run and then another

pub follows_joined : (job : Job) (s t : State) (es fs : List Event) (os : List Outcome) (xs ys : List State) → Run job s es os xs → FollowPolicy job s es xs →
    t ≡ last_state s xs → FollowPolicy job t fs ys → FollowPolicy job s (es ++ fs) (xs ++ ys)
follows_joined job s t es fs os xs ys r k last m = go s es os xs r k (subst (λ (x : State). FollowPolicy job x fs ys) last m) where
  go : (s : State) (es : List Event) (os : List Outcome) (xs : List State) → Run job s es os xs → FollowPolicy job s es xs →
      FollowPolicy job (last_state s xs) fs ys → FollowPolicy job s (es ++ fs) (xs ++ ys)
  go s [] [] [] r k m = m
  go s (e ∷ es) (o ∷ os) (x ∷ xs) r k m = (k.0, go x es os xs r.1 k.1 m)
  go s [] (o ∷ os) xs r k m = absurd r
  go s [] [] (x ∷ xs) r k m = absurd r
  go s (e ∷ es) [] xs r k m = absurd r
  go s (e ∷ es) (o ∷ os) [] r k m = absurd r
