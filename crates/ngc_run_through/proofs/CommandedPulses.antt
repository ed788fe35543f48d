-- The pulses of the motors in a run are those that its outcomes command, by their counts.
use Rattle.std.proofs.Common.{◌≡◌, inl, inr, ℕ, suc, ◌-◌, ◌<◌, ◌≤◌, ap, subst, sym, ◌∙◌, arith, refl, List, [], ◌∷◌, ◌++◌, length, Option, Some, None, Ok, true}
use Rattle.std.proofs.Common.{false, Bool, Err, map}
use Rattle.std.specs.Prelude.{MatchBool, nat_lt, nat_le, if◌then◌else◌}
use Rattle.std.proofs.lemmas.Bool.{ltb-true, ltb-false}
use Rattle.ngc_fixed_length.specs.declared.points.StepPos.{StepPos}
use Rattle.ngc_fixed_length.specs.LinePath.{point}
use Rattle.ngc_machine_files.specs.MachineRanges.{IsMachine}
use Rattle.ngc_commands.specs.declared.command.Action.{Action}
use Rattle.ngc_commands.specs.declared.command.Command.{Command}
use Rattle.ngc_commands.specs.Movement.{actions_of, ways_of, AreJoined}
use Rattle.ngc_fixed_length.specs.Limits.{MILLION}
use Rattle.ngc_events.specs.declared.event.Event.{Event}
use Rattle.ngc_events.specs.declared.event.Event.TheVariants.{Load, Tick, Hold, Resume, Override, StopSwitch, Start}
use Rattle.ngc_events.specs.declared.reply.Ending.{Ending}
use Rattle.ngc_events.specs.declared.reply.Reply.TheVariants.{Loaded, Ticked, Held, Resumed, Overridden, Switched, Started}
use Rattle.ngc_machine_model.specs.State.{Job, Queued, State, opening, loaded, command_at, path_steps, millionths, place_before}
use Rattle.ngc_machine_model.specs.Step.{Outcome, Step, LoadCommand, Rests, Serves, Dwells, Finishes, Travels, HeadTick, TickBy, without_head}
use Rattle.ngc_machine_model.specs.Step.{place_after, pulse, ends_at, ending, ticks_of}
use Rattle.ngc_machine_model.specs.Run.{Run, step_to, position_in, positions, pulses}
use Rattle.ngc_machine_model.specs.Stretch.{last_state}
use Rattle.ngc_machine_model.specs.Safety.{start_of_job}
use Rattle.ngc_machine_model.specs.Progress.{is_tick}
use Rattle.ngc_machine_model.proofs.TestCases.{match_with}
use Rattle.ngc_machine_model.proofs.SafeRun.{RingFits}
use Rattle.ngc_machine_model.proofs.RatesOfRun.{Fits, after_stays, event_keeps}
use Rattle.ngc_machine_model.proofs.Travel.{moved}
use Rattle.ngc_machine_model.proofs.PulseRules.{IsOnHead, WalksIn, head_path, tick_both, waits, rate_most, opening_walks}
use Rattle.ngc_pulses.specs.Dumping.{pulses_over}
use Rattle.ngc_motors.specs.Counts.{MotorData, counts}
use Rattle.ngc_machine_files.specs.Machine.{motors_of}
use Rattle.ngc_run_through.specs.Counting.{counted, counted_of, counted_state, counted_tick, is_same, last_position, motor_pulses}
use Rattle.ngc_run_through.specs.Tracing.{tick_in, ticks_in}
use Rattle.ngc_run_through.proofs.Counted.{last_position-append, same_place, still_counted}

-- a tick leads from `p` to `q`, as it is reported
abbrev Leads : Option StepPos → StepPos → StepPos → Type 0
Leads None p q = q ≡ p
Leads (Some told) p q = q ≡ told

record Prints (old : State) (o : Outcome) (new : State) : Type 0 where
  position : Option StepPos
  ended : Option Ending
  says : o ≡ Ok (Ticked position ended)
  leads : Leads position old.position new.position

-- ---- a tick

rests_tell : (job : Job) (old : State) (o : Outcome) (new : State) → Rests old o new → Prints old o new
rests_tell job old o new r = record { position = None; ended = None; says = r.quiet; leads = ap (λ (s : State). s.position) r.stands }

by_pulse : (b : Bool) (path : List StepPos) (i k : ℕ) (p q : StepPos) → p ≡ point path i → q ≡ point path k → (b ≡ false → k ≡ i) →
    Leads (if b then Some (point path k) else None) p q
by_pulse true path i k p q at is same = is
by_pulse false path i k p q at is same = is ∙ ap (point path) (same refl) ∙ sym at

travels_tell : (job : Job) (l : Queued) (ls : List Queued) (old : State) (o : Outcome) (new : State) → old.ring ≡ l ∷ ls → old.travelled ≤ millionths l - 1 →
    0 < path_steps l → WalksIn job old →
    Travels job l ls old o new → Prints old o new
travels_tell job l ls old o new e f some walks t =
    let fits : RingFits job walks.left (l ∷ ls) = subst (RingFits job walks.left) e walks.fits in
    let at = head_path job l ls walks.left walks.place old.travelled old.position walks.joined fits some walks.begins
    (λ h. subst (λ r. IsOnHead r old.travelled old.position) e (walks.goes_on h)) in
    record {
      position = pulse l old new.rate;
      ended = ends_at l old new.rate;
      says = t.says;
      leads =
          by_pulse (nat_lt (place_before old) (place_after l old new.rate)) l.path (place_before old) (place_after l old new.rate) old.position new.position at
          (moved job l ls old o new t).position
          (λ b. (let few : place_after l old new.rate ≤ place_before old = ltb-false (place_before old) (place_after l old new.rate) b in
          omega (arith, few, f, some)));
    }

finish_tells : (job : Job) (a : Action) (old : State) (o : Outcome) (new : State) → Finishes a old o new → Prints old o new
finish_tells job a old o new f =
    let kept = after_stays a (record (without_head 0 old) { rate = 0 }) in
    record {
      position = None;
      ended = Some (ending a old);
      says = f.says;
      leads = ap (λ (s : State). s.position) f.goes_on ∙ kept.3;
    }

head_tells : (job : Job) (l : Queued) (ls : List Queued) (old : State) (o : Outcome) (new : State) → old.ring ≡ l ∷ ls → old.travelled ≤ millionths l - 1 →
    WalksIn job old → HeadTick job l ls old o new → Prints old o new
head_tells job l ls old o new e f walks t =
    elim (match_with (nat_lt 0 (path_steps l)) (Travels job l ls old o new)
    (MatchBool old.held (Rests old o new) (Serves job l.command.action old o new)) t) [
      | inl b ↦ travels_tell job l ls old o new e f (ltb-true 0 (path_steps l) b.0) walks b.1
      | inr b ↦ elim (match_with old.held (Rests old o new) (Serves job l.command.action old o new) b.1) [
        | inl r ↦ rests_tell job old o new r.1
        | inr r ↦ elim (match_with (nat_lt (suc old.dwelt) (ticks_of job l.command.action)) (Dwells old o new)
            (Finishes l.command.action old o new) r.1) [
              | inl d ↦ record { position = None; ended = None; says = d.1.quiet; leads = ap (λ (s : State). s.position) d.1.counts }
              | inr d ↦ finish_tells job l.command.action old o new d.1
            ]
      ]
    ]

tick_tells : (job : Job) (stopped : Bool) (ring : List Queued) (old : State) (o : Outcome) (new : State) → old.ring ≡ ring → Fits ring old.travelled →
    WalksIn job old → TickBy job stopped ring old o new → Prints old o new
tick_tells job true ring old o new e f walks t = rests_tell job old o new t
tick_tells job false [] old o new e f walks t = rests_tell job old o new t
tick_tells job false (l ∷ ls) old o new e f walks t = head_tells job l ls old o new e f walks t

-- ---- an event that is no tick

abbrev IsStill : State → Outcome → State → Type 0
IsStill old o new = (tick_in o ≡ []) × (new.position ≡ old.position)

load_still : (job : Job) (old : State) (next : Option Command) (o : Outcome) (new : State) → LoadCommand job old next o new → IsStill old o new
load_still job old None o new t = (ap tick_in t.0, ap (λ (s : State). s.position) t.1)
load_still job old (Some c) o new t =
    elim (match_with (nat_lt (length old.ring) job.machine.ring) _ _ t) [
      | inl u ↦ (ap tick_in u.1.2, ap (λ (s : State). s.position) u.1.3)
      | inr u ↦ (ap tick_in u.1.0, ap (λ (s : State). s.position) u.1.1)
    ]

event_still : (job : Job) (old : State) (e : Event) (o : Outcome) (new : State) → is_tick e ≡ false → Step job old e o new → IsStill old o new
event_still job old Tick o new n t = cc
event_still job old Load o new n t = load_still job old (command_at job (loaded old)) o new t
event_still job old Hold o new n t = (ap tick_in t.0, ap (λ (s : State). s.position) t.1)
event_still job old Resume o new n t = (ap tick_in t.0, ap (λ (s : State). s.position) t.1)
event_still job old Start o new n t = (ap tick_in t.0, ap (λ (s : State). s.position) t.1)
event_still job old (StopSwitch on) o new n t = (ap tick_in t.0, ap (λ (s : State). s.position) t.1)
event_still job old (Override k) o new n t = elim (match_with (nat_le k 200) _ _ t) [
  | inl u ↦ (ap tick_in u.1.0, ap (λ (s : State). s.position) u.1.1)
  | inr u ↦ (ap tick_in u.1.0, ap (λ (s : State). s.position) u.1.1)
]

still_place : (old : State) (o : Outcome) (new : State) → IsStill old o new → last_position old.position (position_in o) ≡ new.position
still_place old o new s = ap (last_position old.position) (nowhere o s.0) ∙ sym s.1 where
  nowhere : (o : Outcome) → tick_in o ≡ [] → position_in o ≡ []
  nowhere (Ok (Ticked position ending)) h = cc
  nowhere (Ok (Loaded k)) h = refl
  nowhere (Ok Held) h = refl
  nowhere (Ok Resumed) h = refl
  nowhere (Ok (Overridden n)) h = refl
  nowhere (Ok (Switched on)) h = refl
  nowhere (Ok Started) h = refl
  nowhere (Err e) h = refl

-- ---- the counts of motors

abbrev Counting : MotorData → State → List Event → List Outcome → List State → Type 0
Counting m old es os xs =
    pulses (counts m old.position) es (map (counted_state m) xs) ≡ pulses_over (counts m old.position) (ticks_in (counted m old.position os))

-- the position that a tick reports
place_told : (told : Option StepPos) (ended : Option Ending) (p q : StepPos) → Leads told p q → last_position p (position_in (Ok (Ticked told ended))) ≡ q
place_told None ended p q leads = sym leads
place_told (Some r) ended p q leads = sym leads

by_same : (b : Bool) (a c : StepPos) (rest : List (Option StepPos)) → (b ≡ true → a ≡ c) →
    step_to a c ∷ pulses_over c rest ≡ pulses_over a ((if b then None else Some c) ∷ rest)
by_same true a c rest same = ap (λ (r : StepPos). step_to a r ∷ pulses_over r rest) (sym (same refl))
by_same false a c rest same = refl

tick_first : (m : MotorData) (told : Option StepPos) (p q : StepPos) (rest : List (Option StepPos)) → Leads told p q →
    step_to (counts m p) (counts m q) ∷ pulses_over (counts m q) rest ≡ pulses_over (counts m p) (counted_tick m p told ∷ rest)
tick_first m None p q rest leads = ap (λ (r : StepPos). step_to (counts m p) (counts m r) ∷ pulses_over (counts m r) rest) leads
tick_first m (Some told) p q rest leads =
    ap (λ (r : StepPos). step_to (counts m p) (counts m r) ∷ pulses_over (counts m r) rest) leads
    ∙ by_same (is_same (counts m p) (counts m told)) (counts m p) (counts m told) rest (same_place (counts m p) (counts m told))

tick_counts : (m : MotorData) (old new : State) (o : Outcome) (es : List Event) (os : List Outcome) (xs : List State) → Prints old o new →
    Counting m new es os xs → Counting m old (Tick ∷ es) (o ∷ os) (new ∷ xs)
tick_counts m old new o es os xs t rest =
    ap (λ l. step_to (counts m old.position) (counts m new.position) ∷ l) rest
    ∙ tick_first m t.position old.position new.position (ticks_in (counted m new.position os)) t.leads
    ∙ ap (λ (p : StepPos). pulses_over (counts m old.position) (counted_tick m old.position t.position ∷ ticks_in (counted m p os)))
    (sym (place_told t.position t.ended old.position new.position t.leads))
    ∙ ap (λ (x : Outcome). pulses_over (counts m old.position) (ticks_in (counted m old.position (x ∷ os)))) (sym t.says)

-- an event that is no tick
still_counts : (m : MotorData) (old new : State) (o : Outcome) (es : List Event) (os : List Outcome) (xs : List State) → IsStill old o new →
    Counting m new es os xs →
    pulses (counts m new.position) es (map (counted_state m) xs) ≡ pulses_over (counts m old.position) (ticks_in (counted m old.position (o ∷ os)))
still_counts m old new o es os xs s rest =
    let k = still_counted m old.position o s.0 in
    rest
    ∙ ap (λ (p : StepPos). pulses_over (counts m p) (ticks_in (counted m p os))) s.1
    ∙ ap (λ (p : StepPos). pulses_over (counts m old.position) (ticks_in (counted m p os))) (sym (ap (last_position old.position) k.1))
    ∙ ap (λ l. pulses_over (counts m old.position) (l ++ ticks_in (counted m (last_position old.position (position_in o)) os))) (sym k.0)

-- ---- a run

-- the facts at an intermediate state
record Walking (job : Job) (s : State) : Type 0 where
  slow : job.machine.max_rate ≤ MILLION
  fits : Fits s.ring s.travelled
  walks : WalksIn job s

still_walking : (job : Job) (old : State) (e : Event) (o : Outcome) (new : State) → is_tick e ≡ false → Walking job old → Step job old e o new → Walking job new
still_walking job old e o new n w t =
    record { slow = w.slow; fits = (event_keeps job old e o new w.slow w.fits t).1; walks = (waits job old e o new n w.walks t).0 }

tick_walking : (job : Job) (old : State) (o : Outcome) (new : State) → Walking job old → Step job old Tick o new → Walking job new
tick_walking job old o new w t =
    let k = event_keeps job old Tick o new w.slow w.fits t in
    let most = rate_most job old.ring old new.rate k.0 in
    record { slow = w.slow; fits = k.1; walks = (tick_both job old.stopped old.ring old o new refl w.fits (omega (arith, most, w.slow)) w.walks t).1 }

run_counts : (m : MotorData) (job : Job) (old : State) (es : List Event) (os : List Outcome) (xs : List State) → Walking job old → Run job old es os xs →
    Counting m old es os xs
run_counts m job old [] [] [] w r = refl
run_counts m job old (Tick ∷ es) (o ∷ os) (new ∷ xs) w r =
    tick_counts m old new o es os xs (tick_tells job old.stopped old.ring old o new refl w.fits w.walks r.0)
    (run_counts m job new es os xs (tick_walking job old o new w r.0) r.1)
run_counts m job old (Load ∷ es) (o ∷ os) (new ∷ xs) w r =
    still_counts m old new o es os xs (event_still job old Load o new refl r.0)
    (run_counts m job new es os xs (still_walking job old Load o new refl w r.0) r.1)
run_counts m job old (Hold ∷ es) (o ∷ os) (new ∷ xs) w r =
    still_counts m old new o es os xs (event_still job old Hold o new refl r.0)
    (run_counts m job new es os xs (still_walking job old Hold o new refl w r.0) r.1)
run_counts m job old (Resume ∷ es) (o ∷ os) (new ∷ xs) w r =
    still_counts m old new o es os xs (event_still job old Resume o new refl r.0)
    (run_counts m job new es os xs (still_walking job old Resume o new refl w r.0) r.1)
run_counts m job old (Start ∷ es) (o ∷ os) (new ∷ xs) w r =
    still_counts m old new o es os xs (event_still job old Start o new refl r.0)
    (run_counts m job new es os xs (still_walking job old Start o new refl w r.0) r.1)
run_counts m job old (StopSwitch on ∷ es) (o ∷ os) (new ∷ xs) w r =
    still_counts m old new o es os xs (event_still job old (StopSwitch on) o new refl r.0)
    (run_counts m job new es os xs (still_walking job old (StopSwitch on) o new refl w r.0) r.1)
run_counts m job old (Override n ∷ es) (o ∷ os) (new ∷ xs) w r =
    still_counts m old new o es os xs (event_still job old (Override n) o new refl r.0)
    (run_counts m job new es os xs (still_walking job old (Override n) o new refl w r.0) r.1)
run_counts m job old [] (o ∷ os) xs w r = absurd r
run_counts m job old [] [] (x ∷ xs) w r = absurd r
run_counts m job old (e ∷ es) [] xs w r = absurd r
run_counts m job old (e ∷ es) (o ∷ os) [] w r = absurd r

-- the last position that a run reports is that of its last state
event_place : (job : Job) (old : State) (e : Event) (o : Outcome) (new : State) → Walking job old → Step job old e o new →
    last_position old.position (position_in o) ≡ new.position
event_place job old Tick o new w t =
    let tells = tick_tells job old.stopped old.ring old o new refl w.fits w.walks t in
    ap (λ (x : Outcome). last_position old.position (position_in x)) tells.says ∙ place_told tells.position tells.ended old.position new.position tells.leads
event_place job old Load o new w t = still_place old o new (event_still job old Load o new refl t)
event_place job old Hold o new w t = still_place old o new (event_still job old Hold o new refl t)
event_place job old Resume o new w t = still_place old o new (event_still job old Resume o new refl t)
event_place job old Start o new w t = still_place old o new (event_still job old Start o new refl t)
event_place job old (StopSwitch on) o new w t = still_place old o new (event_still job old (StopSwitch on) o new refl t)
event_place job old (Override n) o new w t = still_place old o new (event_still job old (Override n) o new refl t)

event_walking : (job : Job) (old : State) (e : Event) (o : Outcome) (new : State) → Walking job old → Step job old e o new → Walking job new
event_walking job old Tick o new w t = tick_walking job old o new w t
event_walking job old Load o new w t = still_walking job old Load o new refl w t
event_walking job old Hold o new w t = still_walking job old Hold o new refl w t
event_walking job old Resume o new w t = still_walking job old Resume o new refl w t
event_walking job old Start o new w t = still_walking job old Start o new refl w t
event_walking job old (StopSwitch on) o new w t = still_walking job old (StopSwitch on) o new refl w t
event_walking job old (Override n) o new w t = still_walking job old (Override n) o new refl w t

run_places : (job : Job) (old : State) (es : List Event) (os : List Outcome) (xs : List State) → Walking job old → Run job old es os xs →
    last_position old.position (positions os) ≡ (last_state old xs).position
run_places job old [] [] [] w r = refl
run_places job old (e ∷ es) (o ∷ os) (new ∷ xs) w r =
    last_position-append old.position (position_in o) (positions os)
    ∙ ap (λ p. last_position p (positions os)) (event_place job old e o new w r.0)
    ∙ run_places job new es os xs (event_walking job old e o new w r.0) r.1
run_places job old [] (o ∷ os) xs w r = absurd r
run_places job old [] [] (x ∷ xs) w r = absurd r
run_places job old (e ∷ es) [] xs w r = absurd r
run_places job old (e ∷ es) (o ∷ os) [] w r = absurd r

opening_walking : (job : Job) → IsMachine job.machine → AreJoined job.machine.start (ways_of (actions_of job.commands)) → Walking job (opening job.machine)
opening_walking job machine joined = record { slow = machine.max_rate.greatest; fits = refl; walks = opening_walks job joined }

pub run_pulses : (job : Job) (es : List Event) (os : List Outcome) (xs : List State) → IsMachine job.machine →
    AreJoined job.machine.start (ways_of (actions_of job.commands)) → Run job (opening job.machine) es os xs →
    motor_pulses job es xs ≡ pulses_over (counts (motors_of job.machine) (start_of_job job)) (ticks_in (counted_of job os))
run_pulses job es os xs machine joined r =
    run_counts (motors_of job.machine) job (opening job.machine) es os xs (opening_walking job machine joined) r

pub run_ends : (job : Job) (es : List Event) (os : List Outcome) (xs : List State) → IsMachine job.machine →
    AreJoined job.machine.start (ways_of (actions_of job.commands)) → Run job (opening job.machine) es os xs →
    last_position (start_of_job job) (positions os) ≡ (last_state (opening job.machine) xs).position
run_ends job es os xs machine joined r = run_places job (opening job.machine) es os xs (opening_walking job machine joined) r
