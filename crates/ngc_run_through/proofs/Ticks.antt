-- A tick continues the head if the machine is neither held nor stopped.
use Rattle.std.proofs.Common.{◌≡◌, inl, inr, ℕ, suc, ◌+◌, ◌-◌, ◌*◌, ◌<◌, ◌≤◌, ap, subst, sym, ◌∙◌, arith, refl, List, [], ◌∷◌, length, drop, Option, Some, None}
use Rattle.std.proofs.Common.{Ok, true, false, Bool, min}
use Rattle.std.specs.Prelude.{MatchBool, nat_lt, nat_le, if◌then◌else◌}
use Rattle.std.specs.List.{AllByRecursion}
use Rattle.std.proofs.lemmas.Bool.{ltb-true}
use Rattle.std.proofs.lemmas.Bool.Decides.{nat_tests}
use Rattle.ngc_fixed_length.specs.declared.points.StepPos.{StepPos}
use Rattle.ngc_fixed_length.specs.LinePath.{point}
use Rattle.ngc_machine_files.specs.MachineRanges.{IsMachine}
use Rattle.ngc_commands.specs.declared.command.Action.{Action}
use Rattle.ngc_commands.specs.declared.command.Action.TheVariants as actions
use Rattle.ngc_fixed_length.specs.Limits.{MILLION}
use Rattle.ngc_planner.specs.Caps.{STEPS_LIMIT}
use Rattle.ngc_planner.specs.Bounds.{IsMotion, least_travel}
use Rattle.ngc_planner.proofs.BoundLaws.{may_travel_least}
use Rattle.ngc_events.specs.declared.event.Event.TheVariants.{Tick}
use Rattle.ngc_events.specs.declared.reply.Ending.{Ending}
use Rattle.ngc_events.specs.declared.reply.Ending.TheVariants.{Done, Stopped, End}
use Rattle.ngc_events.specs.declared.reply.Reply.TheVariants.{Ticked}
use Rattle.ngc_machine_model.specs.State.{Job, Queued, State, path_steps, millionths, change_of}
use Rattle.ngc_machine_model.specs.Reach.{rest}
use Rattle.ngc_machine_model.specs.Step.{Outcome, Step, MayTake, Rests, Finishes, Dwells, Serves, Travels, HeadTick, TickBy, without_head, after, ending, pulse}
use Rattle.ngc_machine_model.specs.Step.{place_after, ticks_of}
use Rattle.ngc_machine_model.specs.Progress.{IsFree, TravelsAtLeast, GoesOn}
use Rattle.ngc_machine_model.proofs.TestCases.{match_with}
use Rattle.ngc_run_through.specs.Stretches.{IsUntouched, is_stop, LeavesBy, ReportsBy}

-- the head is done if a command ended
abbrev pub HasLeft : Option Ending → State → State → Type 0
HasLeft None old new = (new.done ≡ old.done) × (new.ring ≡ old.ring)
HasLeft (Some e) old new = (new.done ≡ suc old.done) × (new.ring ≡ drop 1 old.ring)

-- the effect of such a tick: the head continues, or it is done
pub record Goes (ring : List Queued) (old : State) (o : Outcome) (new : State) : Type 0 where
  pub position : Option StepPos
  pub ended : Option Ending
  pub says : o ≡ Ok (Ticked position ended)
  pub held : new.held ≡ old.held
  pub percent : new.percent ≡ old.percent
  pub travelled : new.travelled ≤ STEPS_LIMIT * MILLION
  pub leaves : LeavesBy ended old new
  pub left : HasLeft ended old new
  pub tells : ReportsBy ended ring (o ∷ [])

-- ---- the machine is free

some_percent : (b : Bool) (n : ℕ) → n ≡ 100 → 0 < (if b then n else 100)
some_percent true n e = omega (arith, e)
some_percent false n e = omega arith

is_free : (job : Job) (s : State) → IsUntouched job s → s.stopped ≡ false → IsFree s
is_free job s u runs = record { not_held = u.not_held; not_stopped = runs; some_override = some_percent s.overrides s.percent u.percent }

-- ---- a motion

-- only motions have path steps
moves : (job : Job) (a : Action) (path : List StepPos) → MayTake job a path → 1 ≤ length path - 1 → IsMotion a
moves job (actions.Move m) path take some = (m, refl)
moves job _ path take some = absurd (let none = ap length take in omega (arith, none, some))

least_some : (job : Job) (l : Queued) → IsMachine job.machine → MayTake job l.command.action l.path → 0 < path_steps l →
    1 ≤ least_travel job.machine l.command.action (path_steps l)
least_some job l m take some =
    (may_travel_least job.machine l.command.action job.commands 0 (path_steps l) 1 m (moves job l.command.action l.path take (omega (arith, some)))).some

-- the rest of a motion of `x` millionths after a tick of rate `v`
goes_by : (ring : List Queued) (old new : State) (o : Outcome) (v c x m : ℕ) (p : Option StepPos) (q : StepPos) (e : Ending) (b : Bool) →
    is_stop e ≡ false → old.stopped ≡ false → x ≤ STEPS_LIMIT * MILLION → MILLION ≤ x → v ≤ MILLION → old.travelled ≤ STEPS_LIMIT * MILLION → 1 ≤ m →
    min m (x - old.travelled) ≤ v →
    (b ≡ false → old.travelled + v < x) →
    ReportsBy (Some e) ring (o ∷ []) →
    o ≡ Ok (Ticked p (if b then Some e else None)) →
    new ≡ (if b then without_head (old.travelled + v - x) (record old { rate = v; change = c; position = q })
    else record old { rate = v; change = c; position = q; travelled = old.travelled + v }) →
    Goes ring old o new
goes_by ring old new o v c x m p q e true quiet runs long some small far least go short tells says is =
    let t : new.travelled ≡ old.travelled + v - x = ap (λ (s : State). s.travelled) is in
    record {
      position = p;
      ended = Some e;
      says = says;
      held = ap (λ (s : State). s.held) is;
      percent = ap (λ (s : State). s.percent) is;
      travelled = omega (arith, t, small, far, some);
      leaves = ap (λ (s : State). s.stopped) is ∙ runs ∙ sym quiet;
      left = (ap (λ (s : State). s.done) is, ap (λ (s : State). s.ring) is);
      tells = tells;
    }
goes_by ring old new o v c x m p q e false quiet runs long some small far least go short tells says is =
    let t : new.travelled ≡ old.travelled + v = ap (λ (s : State). s.travelled) is in
    let d : new.dwelt ≡ old.dwelt = ap (λ (s : State). s.dwelt) is in
    let less = short refl in
    record {
      position = p;
      ended = None;
      says = says;
      held = ap (λ (s : State). s.held) is;
      percent = ap (λ (s : State). s.percent) is;
      travelled = omega (arith, t, less, long);
      leaves =
          record { running = ap (λ (s : State). s.stopped) is ∙ runs; ring = ap (λ (s : State). s.ring) is; spends = omega (arith, t, d, less, least, go) };
      left = (ap (λ (s : State). s.done) is, ap (λ (s : State). s.ring) is);
      tells = tt;
    }

motion_runs : (a : Action) (s : State) → IsMotion a → is_stop (ending a s) ≡ false
motion_runs (actions.Move m) s h = refl
motion_runs _ s h = let e = h.1 in cc

-- and it isn't the program's end
motion_goes : (a : Action) (e : Ending) (l : Queued) (ls : List Queued) (outcomes : List Outcome) → IsMotion l.command.action →
    ReportsBy (Some e) (l ∷ ls) outcomes
motion_goes a e l ls outcomes motion = λ end. (let is = motion.1 in cc)

travel_goes : (job : Job) (l : Queued) (ls : List Queued) (old : State) (o : Outcome) (new : State) → IsMachine job.machine →
    MayTake job l.command.action l.path → path_steps l ≤ STEPS_LIMIT →
    old.travelled ≤ STEPS_LIMIT * MILLION → old.stopped ≡ false → 0 < path_steps l →
    min (least_travel job.machine l.command.action (path_steps l)) (rest l old) ≤ new.rate → Travels job l ls old o new → Goes (l ∷ ls) old o new
travel_goes job l ls old o new m take short far runs some go t =
    let v = new.rate in
    let fast : v ≤ job.machine.max_rate = t.may.rules.within.greatest in
    let max : job.machine.max_rate ≤ MILLION = m.max_rate.greatest in
    let motion = moves job l.command.action l.path take (omega (arith, some)) in
    goes_by (l ∷ ls) old new o v (change_of job l) (millionths l) (least_travel job.machine l.command.action (path_steps l)) (pulse l old v) (point l.path (place_after l old v))
    (ending l.command.action old) (nat_le (millionths l) (old.travelled + v))
    (motion_runs l.command.action old motion) runs (omega (arith, short)) (omega (arith, some)) (omega (arith, fast, max)) far (least_some job l m take some) go
    (λ b. (let less : old.travelled + v < millionths l = grind (arith, nat_tests) in less))
    (motion_goes l.command.action (ending l.command.action old) l ls (o ∷ []) motion) t.says t.goes_on

-- ---- an action without a path

dwell_goes : (job : Job) (ring : List Queued) (old : State) (o : Outcome) (new : State) → old.travelled ≤ STEPS_LIMIT * MILLION → old.stopped ≡ false →
    Dwells old o new → Goes ring old o new
dwell_goes job ring old o new far runs d =
    let t : new.travelled ≡ old.travelled = ap (λ (s : State). s.travelled) d.counts in
    let more : new.dwelt ≡ suc old.dwelt = ap (λ (s : State). s.dwelt) d.counts in
    record {
      position = None;
      ended = None;
      says = d.quiet;
      held = ap (λ (s : State). s.held) d.counts;
      percent = ap (λ (s : State). s.percent) d.counts;
      travelled = omega (arith, t, far);
      leaves = record { running = ap (λ (s : State). s.stopped) d.counts ∙ runs; ring = ap (λ (s : State). s.ring) d.counts; spends = omega (arith, t, more) };
      left = (ap (λ (s : State). s.done) d.counts, ap (λ (s : State). s.ring) d.counts);
      tells = tt;
    }

-- the state of the panel after an action
pub record LeavesPanel (s t : State) : Type 0 where
  pub held : s.held ≡ t.held
  pub percent : s.percent ≡ t.percent
  pub done : s.done ≡ t.done
  pub ring : s.ring ≡ t.ring
  pub travelled : s.travelled ≡ t.travelled

after_panel : (a : Action) (s : State) → LeavesPanel (after a s) s
after_panel (actions.Move m) s = record { held = refl; percent = refl; done = refl; ring = refl; travelled = refl }
after_panel _ s = record { held = refl; percent = refl; done = refl; ring = refl; travelled = refl }

by_switch : (b : Bool) (k : ℕ) → b ≡ is_stop (if b then Stopped k else Done k)
by_switch true k = refl
by_switch false k = refl

-- the machine is stopped after a stop, and continues otherwise
stop_tells : (a : Action) (s t : State) → t.stopped ≡ false → t.stop_switch ≡ s.stop_switch → (after a t).stopped ≡ is_stop (ending a s)
stop_tells actions.Stop s t runs switch = refl
stop_tells actions.OptionalStop s t runs switch = switch ∙ by_switch s.stop_switch s.done
stop_tells _ s t runs switch = runs

finish_goes : (job : Job) (l : Queued) (ls : List Queued) (old : State) (o : Outcome) (new : State) → old.stopped ≡ false →
    Finishes l.command.action old o new → Goes (l ∷ ls) old o new
finish_goes job l ls old o new runs f =
    let a = l.command.action in
    let there : State = record (without_head 0 old) { rate = 0 } in
    let kept = after_panel a there in
    let t : new.travelled ≡ 0 = ap (λ (s : State). s.travelled) f.goes_on ∙ kept.travelled in
    record {
      position = None;
      ended = Some (ending a old);
      says = f.says;
      held = ap (λ (s : State). s.held) f.goes_on ∙ kept.held;
      percent = ap (λ (s : State). s.percent) f.goes_on ∙ kept.percent;
      travelled = omega (arith, t);
      leaves = ap (λ (s : State). s.stopped) f.goes_on ∙ stop_tells a old there runs refl;
      left = (ap (λ (s : State). s.done) f.goes_on ∙ kept.done, ap (λ (s : State). s.ring) f.goes_on ∙ kept.ring);
      tells = λ end. (let told : ending a old ≡ End = ap (λ x. ending x old) end in
          (told, ([], ap (λ x. x ∷ []) (f.says ∙ ap (λ e. Ok (Ticked None (Some e))) told))));
    }

-- ---- any head

head_goes : (job : Job) (l : Queued) (ls : List Queued) (old : State) (o : Outcome) (new : State) → IsUntouched job old → old.ring ≡ l ∷ ls →
    old.stopped ≡ false →
    TravelsAtLeast job (l ∷ ls) old new.rate → HeadTick job l ls old o new → Goes (l ∷ ls) old o new
head_goes job l ls old o new u is runs g t =
    let path = subst (AllByRecursion (λ (k : Queued). MayTake job k.command.action k.path)) is u.paths in
    let short = subst (AllByRecursion (λ (k : Queued). path_steps k ≤ STEPS_LIMIT)) is u.short in
    elim (match_with (nat_lt 0 (path_steps l)) (Travels job l ls old o new)
    (MatchBool old.held (Rests old o new) (Serves job l.command.action old o new)) t) [
      | inl b ↦ (let some : 0 < path_steps l = ltb-true 0 (path_steps l) b.0 in
          travel_goes job l ls old o new u.machine path.0 short.0 u.travelled runs some (g (is_free job old u runs) some) b.1)
      | inr b ↦ elim (match_with old.held (Rests old o new) (Serves job l.command.action old o new) b.1) [
        | inl r ↦ absurd (let e : true ≡ false = sym r.0 ∙ u.not_held in cc)
        | inr r ↦ elim (match_with (nat_lt (suc old.dwelt) (ticks_of job l.command.action)) (Dwells old o new)
            (Finishes l.command.action old o new) r.1) [
              | inl d ↦ dwell_goes job (l ∷ ls) old o new u.travelled runs d.1
              | inr d ↦ finish_goes job l ls old o new runs d.1
            ]
      ]
    ]

ring_goes : (job : Job) (ring : List Queued) (old : State) (o : Outcome) (new : State) → IsUntouched job old → old.ring ≡ ring → old.stopped ≡ false →
    1 ≤ length ring →
    TravelsAtLeast job ring old new.rate → TickBy job false ring old o new → Goes ring old o new
ring_goes job [] old o new u is runs some g t = absurd (omega (arith, some))
ring_goes job (l ∷ ls) old o new u is runs some g t = head_goes job l ls old o new u is runs g t

-- In a state that is neither held nor stopped, with a command at the head, a tick ends the command,
-- or spends more on it.
pub tick_goes : (job : Job) (old : State) (o : Outcome) (new : State) → IsUntouched job old → old.stopped ≡ false → 1 ≤ length old.ring →
    Step job old Tick o new → GoesOn job old Tick new → Goes old.ring old o new
tick_goes job old o new u runs some t g =
    ring_goes job old.ring old o new u refl runs some g (subst (λ b. TickBy job b old.ring old o new) runs t)
