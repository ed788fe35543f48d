-- The effect of an event on the ring: three cases.
use Rattle.std.proofs.Common.{◌≡◌, suc, ap, subst, sym, ◌∙◌, refl, inl, inr, List, [], ◌∷◌, ◌++◌, length, drop, Some, None, true, false}
use Rattle.std.specs.Prelude.{Option, Bool, MatchBool, nat_lt, nat_le, if◌then◌else◌, ◌+◌, ◌-◌}
use Rattle.ngc_fixed_length.specs.declared.points.StepPos.{StepPos}
use Rattle.ngc_fixed_length.specs.LinePath.{point}
use Rattle.ngc_commands.specs.declared.command.Action.{Action}
use Rattle.ngc_commands.specs.declared.command.Command.{Command}
use Rattle.ngc_events.specs.declared.event.Event.{Event}
use Rattle.ngc_events.specs.declared.event.Event.TheVariants.{Load, Tick, Hold, Resume, Override, StopSwitch, Start}
use Rattle.ngc_machine_model.specs.State.{Job, Queued, State, loaded, command_at, path_steps, millionths, change_of}
use Rattle.ngc_machine_model.specs.Step.{Outcome, Step, LoadCommand, MayTake, Rests, Finishes, Dwells, Serves, Travels, HeadTick, TickBy, without_head, place_after}
use Rattle.ngc_machine_model.specs.Step.{ticks_of}
use Rattle.ngc_machine_model.proofs.TestCases.{match_with}
use Rattle.ngc_machine_model.proofs.RatesOfRun.{after_stays}

-- a command was added after the others
pub record Grows (job : Job) (old new : State) : Type 0 where
  pub command : Command
  pub path : List StepPos
  pub next : command_at job (loaded old) ≡ Some command
  pub takes : MayTake job command.action path
  pub done : new.done ≡ old.done
  pub ring : new.ring ≡ old.ring ++ record { command = command; path = path } ∷ []

pub data RingAfter (job : Job) (old new : State) : Type 0 where
  stays : (new.done ≡ old.done) × (new.ring ≡ old.ring) → RingAfter job old new
  grows : Grows job old new → RingAfter job old new
  shrinks : (new.done ≡ suc old.done) × (new.ring ≡ drop 1 old.ring) → RingAfter job old new

still : (job : Job) (old new there : State) → new ≡ there → there.done ≡ old.done → there.ring ≡ old.ring → RingAfter job old new
still job old new there e done ring = stays (ap (λ (s : State). s.done) e ∙ done, ap (λ (s : State). s.ring) e ∙ ring)

by_test : (P : State → Type 0) (b : Bool) (x y : State) → P x → P y → P (if b then x else y)
by_test P true x y p q = p
by_test P false x y p q = q

travel_ring : (job : Job) (l : Queued) (ls : List Queued) (old : State) (o : Outcome) (new : State) → Travels job l ls old o new → RingAfter job old new
travel_ring job l ls old o new t =
    let there : State = record old { rate = new.rate; change = change_of job l; position = point l.path (place_after l old new.rate) } in
    subst (RingAfter job old) (sym t.goes_on)
    (by_test (RingAfter job old) (nat_le (millionths l) (old.travelled + new.rate)) (without_head (old.travelled + new.rate - millionths l) there)
    (record there { travelled = old.travelled + new.rate }) (shrinks (refl, refl)) (stays (refl, refl)))

finish_ring : (job : Job) (a : Action) (old : State) (o : Outcome) (new : State) → Finishes a old o new → RingAfter job old new
finish_ring job a old o new f =
    let kept = after_stays a (record (without_head 0 old) { rate = 0 }) in
    shrinks (ap (λ (s : State). s.done) f.goes_on ∙ kept.0, ap (λ (s : State). s.ring) f.goes_on ∙ kept.1)

head_ring : (job : Job) (l : Queued) (ls : List Queued) (old : State) (o : Outcome) (new : State) → HeadTick job l ls old o new → RingAfter job old new
head_ring job l ls old o new t =
    elim (match_with (nat_lt 0 (path_steps l)) (Travels job l ls old o new)
    (MatchBool old.held (Rests old o new) (Serves job l.command.action old o new)) t) [
      | inl u ↦ travel_ring job l ls old o new u.1
      | inr u ↦ elim (match_with old.held (Rests old o new) (Serves job l.command.action old o new) u.1) [
        | inl r ↦ still job old new _ r.1.stands refl refl
        | inr r ↦ elim (match_with (nat_lt (suc old.dwelt) (ticks_of job l.command.action)) (Dwells old o new)
            (Finishes l.command.action old o new) r.1) [
              | inl d ↦ still job old new _ d.1.counts refl refl
              | inr d ↦ finish_ring job l.command.action old o new d.1
            ]
      ]
    ]

tick_ring : (job : Job) (stopped : Bool) (ring : List Queued) (old : State) (o : Outcome) (new : State) → TickBy job stopped ring old o new →
    RingAfter job old new
tick_ring job true ring old o new t = still job old new _ t.stands refl refl
tick_ring job false [] old o new t = still job old new _ t.stands refl refl
tick_ring job false (l ∷ ls) old o new t = head_ring job l ls old o new t

load_ring : (job : Job) (old : State) (next : Option Command) (o : Outcome) (new : State) → command_at job (loaded old) ≡ next →
    LoadCommand job old next o new → RingAfter job old new
load_ring job old None o new e t = still job old new _ t.1 refl refl
load_ring job old (Some c) o new e t = elim (match_with (nat_lt (length old.ring) job.machine.ring) _ _ t) [
  | inl u ↦ grows (record {
    command = c;
    path = u.1.0;
    next = e;
    takes = u.1.1;
    done = ap (λ (s : State). s.done) u.1.3;
    ring = ap (λ (s : State). s.ring) u.1.3;
  })
  | inr u ↦ still job old new _ u.1.1 refl refl
]

pub ring_after : (job : Job) (old : State) (e : Event) (o : Outcome) (new : State) → Step job old e o new → RingAfter job old new
ring_after job old Load o new t = load_ring job old (command_at job (loaded old)) o new refl t
ring_after job old Tick o new t = tick_ring job old.stopped old.ring old o new t
ring_after job old Hold o new t = still job old new _ t.1 refl refl
ring_after job old Resume o new t = still job old new _ t.1 refl refl
ring_after job old Start o new t = still job old new _ t.1 refl refl
ring_after job old (StopSwitch on) o new t = still job old new _ t.1 refl refl
ring_after job old (Override n) o new t = elim (match_with (nat_le n 200) _ _ t) [
  | inl u ↦ still job old new _ u.1.1 refl refl
  | inr u ↦ still job old new _ u.1.1 refl refl
]
