-- Every tick of a run keeps the rules of rates.
use Rattle.std.proofs.Common.{◌≡◌, ℕ, suc, ◌+◌, ◌-◌, ◌≤◌, inl, inr, ◌<◌, ap, subst, sym, ◌∙◌, arith, refl, List, [], ◌∷◌, ◌++◌, drop, Some, None, true, false, ℤ}
use Rattle.std.specs.Prelude.{Option, Bool, MatchBool, nat_lt, nat_le, length, not, ◌&&◌, if◌then◌else◌}
use Rattle.std.proofs.lemmas.Bool.{cases_lt, and_parts, ltb-true}
use Rattle.std.proofs.lemmas.Bool.Decides.{nat_tests}
use Rattle.ngc_commands.specs.declared.command.Command.{Command}
use Rattle.ngc_machine_files.specs.Machine.{MachineFile}
use Rattle.ngc_machine_files.specs.MachineRanges.{IsMachine}
use Rattle.ngc_commands.specs.declared.movement.Way.{Way}
use Rattle.ngc_commands.specs.declared.movement.Way.TheVariants.{Line, Arc}
use Rattle.ngc_commands.specs.declared.command.Action.{Action}
use Rattle.ngc_commands.specs.declared.command.Action.TheVariants.{Move}
use Rattle.ngc_machine_files.specs.declared.machine.AxisLimits.{AxisLimits}
use Rattle.ngc_machine_files.specs.declared.machine.AxisRates.{AxisRates}
use Rattle.ngc_fixed_length.specs.Grid.{grid}
use Rattle.ngc_planner.specs.Components.{AxisKeeps, AxesKeep, MayMoveAlong, MayMoveAxes, steps_between, steps_along, third_rate, third_steps}
use Rattle.ngc_planner.specs.declared.components.AxisSteps.{AxisSteps}
use Rattle.ngc_planner.proofs.ComponentLaws.{change_most}
use Rattle.ngc_fixed_length.specs.Limits.{MILLION}
use Rattle.ngc_planner.specs.Bounds.{MayTurnOn, MayTurn}
use Rattle.ngc_events.specs.declared.event.Event.{Event}
use Rattle.ngc_events.specs.declared.event.Event.TheVariants.{Load, Tick, Hold, Resume, Override, StopSwitch, Start}
use Rattle.ngc_machine_model.specs.State.{Job, Queued, State, opening, loaded, command_at, path_steps, millionths, change_of}
use Rattle.ngc_machine_model.specs.Reach.{stops, continues_into}
use Rattle.ngc_machine_model.specs.RateRules.{PassesInto, KeepsRateRules}
use Rattle.ngc_machine_model.specs.Step.{Outcome, Step, LoadCommand, Rests, Finishes, Dwells, Serves, Travels, HeadTick, TickBy, without_head, after, ticks_of}
use Rattle.ngc_machine_model.specs.Step.{place_after}
use Rattle.ngc_fixed_length.specs.LinePath.{point}
use Rattle.ngc_machine_model.specs.Run.{Run}
use Rattle.ngc_machine_model.specs.Safety.{TickKeeps, EventKeeps, IsNear, KeepRates}
use Rattle.ngc_machine_model.proofs.TestCases.{match_with}

-- less is travelled than the head has, or nothing
abbrev pub Fits : List Queued → ℕ → Type 0
Fits [] travelled = travelled ≡ 0
Fits (l ∷ ls) travelled = travelled ≤ millionths l - 1

-- the rest of a tick beyond the head is less than a path step, and the axes continue into the next
-- command
abbrev pub GoesOver : Queued → List Queued → ℕ → Type 0
GoesOver l [] over = over ≡ 0
GoesOver l (k ∷ ks) over = 0 < over → (continues_into l k ≡ true) × (over < MILLION)

still_on : (machine : MachineFile) (w : Way) → MayTurnOn machine w 0
still_on machine (Line b e) = tt
still_on machine (Arc a) = omega arith

still : (machine : MachineFile) (a : Action) → MayTurn machine a 0
still machine (Move m) = still_on machine m.way
still machine _ = tt

still_axis : (limit n d : ℕ) → AxisKeeps limit n d 0
still_axis limit n d = omega arith

still_steps : (rates : AxisRates) (n : ℕ) (d : AxisSteps) → AxesKeep rates n d 0
still_steps rates n d = record { x = still_axis rates.x n d.x; y = still_axis rates.y n d.y; z = still_axis rates.z n d.z }

still_along : (own : Option AxisLimits) (rates : AxisRates) (step : ℤ) (w : Way) (n : ℕ) → MayMoveAlong own rates step w n 0
still_along None rates step w n = record { x = λ h. omega arith; y = λ h. omega arith; z = λ h. omega arith }
still_along (Some limits) rates step (Line b e) n = still_steps rates n (steps_between (grid step b) (grid step e))
still_along (Some limits) rates step (Arc a) n = record {
  plane = record { x = λ h. omega arith; y = λ h. omega arith; z = λ h. omega arith };
  third = still_axis (third_rate a.plane rates) n (third_steps a.plane (steps_along step a));
}

still_axes : (machine : MachineFile) (a : Action) (n : ℕ) → MayMoveAxes machine a n 0
still_axes machine (Move m) n = still_along machine.own machine.axis_rates machine.step m.way n
still_axes machine _ n = tt

resting : (job : Job) (l : Queued) (ls : List Queued) (s : State) → s.rate ≤ s.change → s.travelled ≤ millionths l - 1 → KeepsRateRules job l ls s 0
resting job l ls s slow f = record {
  faster = omega arith;
  slower = omega (arith, slow);
  within = record { greatest = omega arith; axes = still_axes job.machine l.command.action (path_steps l); feed = omega arith; turns = still job.machine l.command.action };
  enters = λ e. omega arith;
  leaves = λ h. omega arith;
  goes_on = λ h. absurd (omega (arith, h, f));
}

-- the state after an action without travel is done
pub after_stays : (a : Action) (s : State) → ((after a s).done ≡ s.done) × ((after a s).ring ≡ s.ring) × ((after a s).travelled ≡ s.travelled) ×
    ((after a s).position ≡ s.position) × ((after a s).rate ≡ s.rate) × ((after a s).change ≡ s.change)
after_stays (Move m) s = (refl, refl, refl, refl, refl, refl)
after_stays _ s = (refl, refl, refl, refl, refl, refl)

none_fits : (ring : List Queued) (t : ℕ) → t ≡ 0 → Fits ring t
none_fits [] t e = e
none_fits (l ∷ ls) t e = omega (arith, e)

abbrev Kept : Job → List Queued → State → State → Type 0
Kept job ring old new = TickKeeps job ring old new.rate × Fits new.ring new.travelled

rest_keeps : (job : Job) (ring : List Queued) (old new : State) → old.ring ≡ ring → Fits ring old.travelled → old.rate ≤ old.change →
    new ≡ record old { rate = 0 } → Kept job ring old new
rest_keeps job [] old new e f slow n = subst (Kept job [] old) (sym n) ((refl, slow), subst (λ r. Fits r old.travelled) (sym e) f)
rest_keeps job (l ∷ ls) old new e f slow n = subst (Kept job (l ∷ ls) old) (sym n) (resting job l ls old slow f, subst (λ r. Fits r old.travelled) (sym e) f)

finish_keeps : (job : Job) (l : Queued) (ls : List Queued) (old new : State) → old.travelled ≤ millionths l - 1 → old.rate ≤ old.change →
    new ≡ after l.command.action (record (without_head 0 old) { rate = 0 }) → Kept job (l ∷ ls) old new
finish_keeps job l ls old new f slow n =
    let a = after_stays l.command.action (record (without_head 0 old) { rate = 0 }) in
    let r : new.rate ≡ 0 = ap (λ (s : State). s.rate) n ∙ a.4 in
    let t : new.travelled ≡ 0 = ap (λ (s : State). s.travelled) n ∙ a.2 in
    (subst (KeepsRateRules job l ls old) (sym r) (resting job l ls old slow f), none_fits new.ring new.travelled t)

travel_fits : (b : Bool) (x y : State) → (b ≡ true → Fits x.ring x.travelled) → (b ≡ false → Fits y.ring y.travelled) →
    Fits (if b then x else y).ring (if b then x else y).travelled
travel_fits true x y f g = f refl
travel_fits false x y f g = g refl

-- a command into which another continues has path steps
pub flows_some : (l k : Queued) → continues_into l k ≡ true → 0 < path_steps k
flows_some l k h =
    let a = and_parts (nat_lt 0 (path_steps l)) (not (stops l.command.action) && nat_lt 0 (path_steps k)) h in
    ltb-true 0 (path_steps k) (and_parts (not (stops l.command.action)) (nat_lt 0 (path_steps k)) a.1).1

over_by : (job : Job) (l : Queued) (ls : List Queued) (t v : ℕ) → v ≤ MILLION → t < millionths l → (millionths l < t + v → PassesInto job v l ls) →
    GoesOver l ls (t + v - millionths l)
over_by job l [] t v small short g = elim (cases_lt (millionths l) (t + v)) [
  | inl more ↦ absurd (g more)
  | inr none ↦ (omega (arith, none))
]
over_by job l (k ∷ ks) t v small short g = λ more. let into = g (omega (arith, more)) in (into.0, omega (arith, small, short))

-- the rest of a tick beyond the head
pub goes_over : (job : Job) (l : Queued) (ls : List Queued) (old : State) (o : Outcome) (new : State) → new.rate ≤ MILLION → 0 < path_steps l →
    old.travelled ≤ millionths l - 1 → Travels job l ls old o new → GoesOver l ls (old.travelled + new.rate - millionths l)
goes_over job l ls old o new small some f t = over_by job l ls old.travelled new.rate small (omega (arith, some, f)) t.may.rules.goes_on

-- there is no rest if a tick ends with the head, or before
pub none_over : (l : Queued) (ls : List Queued) → GoesOver l ls 0
none_over l [] = refl
none_over l (k ∷ ks) = λ h. absurd (omega (arith, h))

-- the rest is less than a path step
pub over_small : (l : Queued) (ls : List Queued) (over : ℕ) → GoesOver l ls over → over < MILLION
over_small l [] over g = omega (arith, g)
over_small l (k ∷ ks) over g = elim (cases_lt 0 over) [
  | inl more ↦ let h = g more in h.1
  | inr none ↦ (omega (arith, none))
]

-- it fits into the next command
pub over_fits : (l : Queued) (ls : List Queued) (over : ℕ) → GoesOver l ls over → Fits ls over
over_fits l [] over g = g
over_fits l (k ∷ ks) over g = elim (cases_lt 0 over) [
  | inl more ↦ let h = g more in let small = h.1 in let some = flows_some l k h.0 in omega (arith, small, some)
  | inr none ↦ (omega (arith, none))
]

-- the rate of a tick on a machine within its ranges
pub travel_small : (job : Job) (l : Queued) (ls : List Queued) (old : State) (o : Outcome) (new : State) → job.machine.max_rate ≤ MILLION →
    Travels job l ls old o new → new.rate ≤ MILLION
travel_small job l ls old o new m t = let g = t.may.rules.within.greatest in omega (arith, g, m)

travel_keeps : (job : Job) (l : Queued) (ls : List Queued) (old : State) (o : Outcome) (new : State) → job.machine.max_rate ≤ MILLION → old.ring ≡ l ∷ ls →
    0 < path_steps l → old.travelled ≤ millionths l - 1 → Travels job l ls old o new → Kept job (l ∷ ls) old new
travel_keeps job l ls old o new m e some f t =
    let over = goes_over job l ls old o new (travel_small job l ls old o new m t) some f t in (
      t.may.rules,
      subst (λ (s : State). Fits s.ring s.travelled) (sym t.goes_on)
          (travel_fits (nat_le (millionths l) (old.travelled + new.rate))
          (without_head (old.travelled + new.rate - millionths l)
          (record old { rate = new.rate; change = change_of job l; position = point l.path (place_after l old new.rate) }))
          (record old {
            rate = new.rate;
            change = change_of job l;
            position = point l.path (place_after l old new.rate);
            travelled = old.travelled + new.rate;
          })
          (λ b. subst (λ r. Fits (drop 1 r) (old.travelled + new.rate - millionths l)) (sym e) (over_fits l ls (old.travelled + new.rate - millionths l) over))
          (λ b. let short : old.travelled + new.rate < millionths l = grind (arith, nat_tests) in
          subst (λ r. Fits r (old.travelled + new.rate)) (sym e) (omega (arith, short)))),
    )

head_keeps : (job : Job) (l : Queued) (ls : List Queued) (old : State) (o : Outcome) (new : State) → job.machine.max_rate ≤ MILLION → old.ring ≡ l ∷ ls →
    old.travelled ≤ millionths l - 1 → HeadTick job l ls old o new → Kept job (l ∷ ls) old new
head_keeps job l ls old o new m e f t =
    elim (match_with (nat_lt 0 (path_steps l)) (Travels job l ls old o new)
    (MatchBool old.held (Rests old o new) (Serves job l.command.action old o new)) t) [
      | inl u ↦ travel_keeps job l ls old o new m e (ltb-true 0 (path_steps l) u.0) f u.1
      | inr u ↦ elim (match_with old.held (Rests old o new) (Serves job l.command.action old o new) u.1) [
        | inl r ↦ rest_keeps job (l ∷ ls) old new e f r.1.slow r.1.stands
        | inr r ↦ elim (match_with (nat_lt (suc old.dwelt) (ticks_of job l.command.action)) (Dwells old o new)
            (Finishes l.command.action old o new) r.1) [
              | inl d ↦ subst (Kept job (l ∷ ls) old) (sym d.1.counts) (resting job l ls old d.1.slow f, subst (λ r. Fits r old.travelled) (sym e) f)
              | inr d ↦ finish_keeps job l ls old new f d.1.slow d.1.goes_on
            ]
      ]
    ]

tick_keeps : (job : Job) (stopped : Bool) (ring : List Queued) (old : State) (o : Outcome) (new : State) → job.machine.max_rate ≤ MILLION → old.ring ≡ ring →
    Fits ring old.travelled → TickBy job stopped ring old o new → Kept job ring old new
tick_keeps job true ring old o new m e f t = rest_keeps job ring old new e f t.slow t.stands
tick_keeps job false [] old o new m e f t = rest_keeps job [] old new e f t.slow t.stands
tick_keeps job false (l ∷ ls) old o new m e f t = head_keeps job l ls old o new m e f t

more_fits : (ring : List Queued) (l : Queued) (t : ℕ) → Fits ring t → Fits (ring ++ l ∷ []) t
more_fits [] l t f = omega (arith, f)
more_fits (k ∷ ks) l t f = f

abbrev Same : State → State → Type 0
Same old new = (new.rate ≡ old.rate) × Fits new.ring new.travelled

load_keeps : (job : Job) (old : State) (next : Option Command) (o : Outcome) (new : State) → Fits old.ring old.travelled → LoadCommand job old next o new →
    Same old new
load_keeps job old None o new f t = subst (Same old) (sym t.1) (refl, f)
load_keeps job old (Some c) o new f t = elim (match_with (nat_lt (length old.ring) job.machine.ring) _ _ t) [
  | inl u ↦ subst (Same old) (sym u.1.3) (refl, more_fits old.ring (record { command = c; path = u.1.0 }) old.travelled f)
  | inr u ↦ subst (Same old) (sym u.1.1) (refl, f)
]

pub event_keeps : (job : Job) (old : State) (e : Event) (o : Outcome) (new : State) → job.machine.max_rate ≤ MILLION → Fits old.ring old.travelled →
    Step job old e o new → EventKeeps job old e new × Fits new.ring new.travelled
event_keeps job old Load o new m f t = load_keeps job old (command_at job (loaded old)) o new f t
event_keeps job old Tick o new m f t = tick_keeps job old.stopped old.ring old o new m refl f t
event_keeps job old Hold o new m f t = subst (Same old) (sym t.1) (refl, f)
event_keeps job old Resume o new m f t = subst (Same old) (sym t.1) (refl, f)
event_keeps job old Start o new m f t = subst (Same old) (sym t.1) (refl, f)
event_keeps job old (StopSwitch on) o new m f t = subst (Same old) (sym t.1) (refl, f)
event_keeps job old (Override n) o new m f t = elim (match_with (nat_le n 200) _ _ t) [
  | inl u ↦ subst (Same old) (sym u.1.1) (refl, f)
  | inr u ↦ subst (Same old) (sym u.1.1) (refl, f)
]

-- ---- the change of the last motion

-- it is at most the machine's
abbrev HasSmall : Job → State → Type 0
HasSmall job s = s.change ≤ job.machine.change

either : (P : State → Type 0) (b : Bool) (x y : State) → P x → P y → P (if b then x else y)
either P true x y p q = p
either P false x y p q = q

motion_small : (job : Job) (l : Queued) → IsMachine job.machine → change_of job l ≤ job.machine.change
motion_small job l m = change_most job.machine l.command.action (path_steps l) m

travel_small_change : (job : Job) (l : Queued) (ls : List Queued) (old : State) (o : Outcome) (new : State) → IsMachine job.machine →
    Travels job l ls old o new → HasSmall job new
travel_small_change job l ls old o new m t =
    let there : State = record old { rate = new.rate; change = change_of job l; position = point l.path (place_after l old new.rate) } in
    subst (HasSmall job) (sym t.goes_on)
    (either (HasSmall job) (nat_le (millionths l) (old.travelled + new.rate)) (without_head (old.travelled + new.rate - millionths l) there)
    (record there { travelled = old.travelled + new.rate }) (motion_small job l m) (motion_small job l m))

finish_small : (job : Job) (a : Action) (old : State) (o : Outcome) (new : State) → HasSmall job old → Finishes a old o new → HasSmall job new
finish_small job a old o new small f =
    let kept = after_stays a (record (without_head 0 old) { rate = 0 }) in
    let same : new.change ≡ old.change = ap (λ (s : State). s.change) f.goes_on ∙ kept.5 in
    omega (arith, same, small)

head_small : (job : Job) (l : Queued) (ls : List Queued) (old : State) (o : Outcome) (new : State) → IsMachine job.machine → HasSmall job old →
    HeadTick job l ls old o new → HasSmall job new
head_small job l ls old o new m small t =
    elim (match_with (nat_lt 0 (path_steps l)) (Travels job l ls old o new)
    (MatchBool old.held (Rests old o new) (Serves job l.command.action old o new)) t) [
      | inl u ↦ travel_small_change job l ls old o new m u.1
      | inr u ↦ elim (match_with old.held (Rests old o new) (Serves job l.command.action old o new) u.1) [
        | inl r ↦ subst (HasSmall job) (sym r.1.stands) small
        | inr r ↦ elim (match_with (nat_lt (suc old.dwelt) (ticks_of job l.command.action)) (Dwells old o new)
            (Finishes l.command.action old o new) r.1) [
              | inl d ↦ subst (HasSmall job) (sym d.1.counts) small
              | inr d ↦ finish_small job l.command.action old o new small d.1
            ]
      ]
    ]

tick_small : (job : Job) (stopped : Bool) (ring : List Queued) (old : State) (o : Outcome) (new : State) → IsMachine job.machine → HasSmall job old →
    TickBy job stopped ring old o new → HasSmall job new
tick_small job true ring old o new m small t = subst (HasSmall job) (sym t.stands) small
tick_small job false [] old o new m small t = subst (HasSmall job) (sym t.stands) small
tick_small job false (l ∷ ls) old o new m small t = head_small job l ls old o new m small t

load_small : (job : Job) (old : State) (next : Option Command) (o : Outcome) (new : State) → HasSmall job old → LoadCommand job old next o new →
    HasSmall job new
load_small job old None o new small t = subst (HasSmall job) (sym t.1) small
load_small job old (Some c) o new small t = elim (match_with (nat_lt (length old.ring) job.machine.ring) _ _ t) [
  | inl u ↦ subst (HasSmall job) (sym u.1.3) small
  | inr u ↦ subst (HasSmall job) (sym u.1.1) small
]

event_small : (job : Job) (old : State) (e : Event) (o : Outcome) (new : State) → IsMachine job.machine → HasSmall job old → Step job old e o new →
    HasSmall job new
event_small job old Load o new m small t = load_small job old (command_at job (loaded old)) o new small t
event_small job old Tick o new m small t = tick_small job old.stopped old.ring old o new m small t
event_small job old Hold o new m small t = subst (HasSmall job) (sym t.1) small
event_small job old Resume o new m small t = subst (HasSmall job) (sym t.1) small
event_small job old Start o new m small t = subst (HasSmall job) (sym t.1) small
event_small job old (StopSwitch on) o new m small t = subst (HasSmall job) (sym t.1) small
event_small job old (Override n) o new m small t = elim (match_with (nat_le n 200) _ _ t) [
  | inl u ↦ subst (HasSmall job) (sym u.1.1) small
  | inr u ↦ subst (HasSmall job) (sym u.1.1) small
]

-- so no tick changes the rate by more than that
near_tick : (job : Job) (ring : List Queued) (old : State) (v : ℕ) → IsMachine job.machine → HasSmall job old → TickKeeps job ring old v →
    IsNear job.machine old.rate v
near_tick job [] old v m small k = let z = k.0 in let s = k.1 in record { faster = omega (arith, z); slower = omega (arith, s, small) }
near_tick job (l ∷ ls) old v m small k =
    let most = motion_small job l m in
    record { faster = omega (arith, k.faster, most); slower = omega (arith, k.slower, most, small) }

near_same : (machine : MachineFile) (old new : ℕ) → new ≡ old → IsNear machine old new
near_same machine old new same = record { faster = omega (arith, same); slower = omega (arith, same) }

near_event : (job : Job) (old : State) (e : Event) (new : State) → IsMachine job.machine → HasSmall job old → EventKeeps job old e new →
    IsNear job.machine old.rate new.rate
near_event job old Tick new m small k = near_tick job old.ring old new.rate m small k
near_event job old Load new m small k = near_same job.machine old.rate new.rate k
near_event job old Hold new m small k = near_same job.machine old.rate new.rate k
near_event job old Resume new m small k = near_same job.machine old.rate new.rate k
near_event job old (Override n) new m small k = near_same job.machine old.rate new.rate k
near_event job old (StopSwitch on) new m small k = near_same job.machine old.rate new.rate k
near_event job old Start new m small k = near_same job.machine old.rate new.rate k

-- ---- runs

run_keeps : (job : Job) (old : State) (es : List Event) (os : List Outcome) (states : List State) → IsMachine job.machine →
    Fits old.ring old.travelled → HasSmall job old → Run job old es os states → KeepRates job old es states
run_keeps job old [] os states m f small r = tt
run_keeps job old (e ∷ es) os [] m f small r = tt
run_keeps job old (e ∷ es) [] (new ∷ states) m f small r = absurd r
run_keeps job old (e ∷ es) (o ∷ os) (new ∷ states) m f small r =
    let k = event_keeps job old e o new m.max_rate.greatest f r.0 in (
      k.0,
      near_event job old e new m small k.0,
      run_keeps job new es os states m k.1 (event_small job old e o new m small r.0) r.1,
    )

-- on a machine within its ranges every run keeps the rules of rates
pub rates_of_run : (job : Job) → IsMachine job.machine → (es : List Event) (os : List Outcome) (states : List State) →
    Run job (opening job.machine) es os states → KeepRates job (opening job.machine) es states
rates_of_run job machine es os states r = run_keeps job (opening job.machine) es os states machine refl (omega arith) r
