-- How a machine that is held comes to rest.
use Rattle.std.proofs.Common.{◌≡◌, ◌+◌, ◌-◌, ◌*◌, ◌<◌, ◌≤◌, ℕ, suc, List, [], ◌∷◌, ◌++◌, replicate, length, Option, Some, None, Bool, true, false, Result, Ok, Err, inl, inr, refl, ap, sym, subst, ◌∙◌, arith}
use Rattle.std.specs.Prelude.{MatchBool, nat_le, nat_lt, ◌==◌, ◌⊎◌, if◌then◌else◌}
use Rattle.std.proofs.lemmas.Bool.Decides.{nat_tests}
use Rattle.std.proofs.Math.Nat.{suc-mul}
use Rattle.std.proofs.lemmas.List.{append_assoc, append-nil, replicate_more}
use Rattle.ngc_commands.specs.declared.command.Command.{Command}
use Rattle.ngc_commands.specs.declared.command.Action.TheVariants.{End}
use Rattle.ngc_events.specs.declared.event.Event.{Event}
use Rattle.ngc_events.specs.declared.event.Event.TheVariants.{Hold, Load, Tick}
use Rattle.ngc_events.specs.declared.event.EventLine.{EventLine}
use Rattle.ngc_events.specs.declared.event_fault.EventFault.TheVariants.{RingFull}
use Rattle.ngc_events.specs.declared.reply.Reply.TheVariants.{Loaded}
use Rattle.ngc_fixed_length.specs.LinePath.{point}
use Rattle.ngc_fixed_length.specs.declared.points.StepPos.{StepPos}
use Rattle.ngc_machine_files.specs.Machine.{MachineFile}
use Rattle.ngc_machine_files.specs.MachineRanges.{IsMachine}
use Rattle.ngc_planner.specs.Components as planner
use Rattle.ngc_planner.proofs.ComponentLaws.{least_changes}
use Rattle.ngc_machine_model.specs.State.{Job, Queued, State, command_at, loaded, millionths, path_steps, change_of, least_change}
use Rattle.ngc_machine_model.specs.RateRules.{target}
use Rattle.ngc_machine_model.specs.Run.{Run}
use Rattle.ngc_machine_model.specs.Step.{LoadCommand, MayTake, Outcome, Rests, Serves, Step, TickBy, Travels, moved_by, place_after, without_head}
use Rattle.ngc_machine_model.specs.Stretch.{last_state}
use Rattle.ngc_run_log.specs.Feeding.{AreSent, Processes, loads_first}
use Rattle.ngc_run_log.specs.declared.live_fault.LiveFault.{LiveFault}
use Rattle.ngc_run_log.specs.declared.live_fault.LiveFault.TheVariants.{Events, Read, Write}
use Rattle.ngc_run_log.specs.declared.live_form.LiveForm.{LiveForm}
use Rattle.ngc_run_log.specs.Living.{ComesToRest, FailsBeforeRest, FailsByReading, FailsLive, HasRun, IsCutRun, IsCutStop, LiveData, LivesOn, LivesToRest, braking, is_write_fault, stopping}
use Rattle.ngc_text.specs.Failures.{Rises}
use Rattle.ngc_text.specs.declared.writing.WriteFault.{WriteFault}

-- ---- a tick of a held machine

-- the machine is held, and brakes by at least its least change or stands
pub record Slows (job : Job) (s t : State) : Type 0 where
  pub held : t.held ≡ true
  pub slower : t.rate ≤ s.rate - least_change job

rests : (job : Job) (s : State) (o : Outcome) (t : State) → s.held ≡ true → Rests s o t → Slows job s t
rests job s o t held p = record {
  held = ap (λ (k : State). k.held) p.stands ∙ held;
  slower = omega (arith, ap (λ (k : State). k.rate) p.stands);
}

moved_held : (b : Bool) (over further : ℕ) (there : State) → (if b then without_head over there else record there { travelled = further }).held ≡ there.held
moved_held true over further there = refl
moved_held false over further there = refl

still_held : (job : Job) (l : Queued) (s : State) (v : ℕ) → (moved_by job l s v).held ≡ s.held
still_held job l s v =
    moved_held (nat_le (millionths l) (s.travelled + v)) (s.travelled + v - millionths l) (s.travelled + v)
    (record s { rate = v; change = change_of job l; position = point l.path (place_after l s v) })

no_target : (job : Job) (l : Queued) (s : State) → s.held ≡ true → target job l s ≡ 0
no_target job l s held = rw held

travels : (job : Job) (l : Queued) (ls : List Queued) (s : State) (o : Outcome) (t : State) → IsMachine job.machine → s.held ≡ true →
    Travels job l ls s o t → Slows job s t
travels job l ls s o t machine held p =
    let least = least_changes job.machine l.command.action (path_steps l) machine in
    record {
      held = ap (λ (k : State). k.held) p.goes_on ∙ still_held job l s t.rate ∙ held;
      slower = omega (arith, p.may.aims, no_target job l s held, least.least);
    }

held_branch : (P Q : Type 0) (b : Bool) → b ≡ true → MatchBool b P Q → P
held_branch P Q b is p = subst (λ c. MatchBool c P Q) is p

by_steps : (b : Bool) (job : Job) (l : Queued) (ls : List Queued) (s : State) (o : Outcome) (t : State) → IsMachine job.machine →
    s.held ≡ true →
    MatchBool b (Travels job l ls s o t) (MatchBool s.held (Rests s o t) (Serves job l.command.action s o t)) → Slows job s t
by_steps true job l ls s o t machine held p = travels job l ls s o t machine held p
by_steps false job l ls s o t machine held p = rests job s o t held (held_branch _ _ s.held held p)

by_tick : (stopped : Bool) (ring : List Queued) (job : Job) (s : State) (o : Outcome) (t : State) → IsMachine job.machine → s.held ≡ true →
    TickBy job stopped ring s o t → Slows job s t
by_tick true ring job s o t machine held p = rests job s o t held p
by_tick false [] job s o t machine held p = rests job s o t held p
by_tick false (l ∷ ls) job s o t machine held p = by_steps (nat_lt 0 (path_steps l)) job l ls s o t machine held p

-- the least change is at least 1
pub least_change_some : (m : MachineFile) → IsMachine m → 1 ≤ planner.least_change m
least_change_some m machine = (least_changes m End 0 machine).some

-- ---- with the loads that come before it

loads : (c : Option Command) (job : Job) (s : State) (o : Outcome) (t : State) → LoadCommand job s c o t → (t.held ≡ s.held) × (t.rate ≡ s.rate)
loads None job s o t p = (ap (λ (k : State). k.held) p.1, ap (λ (k : State). k.rate) p.1)
loads (Some c) job s o t p = by_room (nat_lt (length s.ring) job.machine.ring) p where
  by_room : (b : Bool) → MatchBool b ((path : List StepPos) × MayTake job c.action path × (o ≡ Ok (Loaded (loaded s))) ×
      (t ≡ record s { ring = s.ring ++ record { command = c; path = path } ∷ [] })) ((o ≡ Err RingFull) × (t ≡ s)) →
      (t.held ≡ s.held) × (t.rate ≡ s.rate)
  by_room true p = (ap (λ (k : State). k.held) p.3, ap (λ (k : State). k.rate) p.3)
  by_room false p = (ap (λ (k : State). k.held) p.1, ap (λ (k : State). k.rate) p.1)

sent_tick : (feeds : Bool) (job : Job) (s : State) (given : List Event) (os : List Outcome) (xs : List State) → AreSent feeds job s (Tick ∷ []) given xs →
    Run job s given os xs → IsMachine job.machine → s.held ≡ true → Slows job s (last_state s xs)
sent_tick feeds job s [] os xs p r machine held = absurd p
sent_tick feeds job s (g ∷ given) os [] p r machine held = absurd p
sent_tick feeds job s (g ∷ given) [] (x ∷ xs) p r machine held = absurd r
sent_tick feeds job s (g ∷ given) (o ∷ os) (x ∷ xs) p r machine held = by_load (λ q now. sent_tick feeds job x given os xs q r.1 machine now) (loads_first feeds job s Tick) p where
  after_load : (AreSent feeds job x (Tick ∷ []) given xs → x.held ≡ true → Slows job x (last_state x xs)) →
      (g ≡ Load) × AreSent feeds job x (Tick ∷ []) given xs → Slows job s (last_state x xs)
  after_load later p =
      let now = loads (command_at job (loaded s)) job s o x (subst (λ (e : Event). Step job s e o x) p.0 r.0) in
      let rest = later p.1 (now.0 ∙ held) in
      record { held = rest.held; slower = omega (arith, rest.slower, now.1) }

  after_tick : (given : List Event) (xs : List State) → (g ≡ Tick) × AreSent feeds job x [] given xs → Slows job s (last_state x xs)
  after_tick [] [] p = by_tick s.stopped s.ring job s o x machine held (subst (λ (e : Event). Step job s e o x) p.0 r.0)
  after_tick [] (y ∷ ys) p = absurd p.1
  after_tick (h ∷ hs) ys p = absurd p.1

  by_load : (AreSent feeds job x (Tick ∷ []) given xs → x.held ≡ true → Slows job x (last_state x xs)) →
      (b : Bool) → MatchBool b ((g ≡ Load) × AreSent feeds job x (Tick ∷ []) given xs) ((g ≡ Tick) × AreSent feeds job x [] given xs) →
      Slows job s (last_state x xs)
  by_load later true p = after_load later p
  by_load later false p = after_tick given xs p

pub tick_slows : (feeds : Bool) (job : Job) (s t : State) → Processes feeds job s t (replicate 1 Tick) → IsMachine job.machine → s.held ≡ true → Slows job s t
tick_slows feeds job s t p machine held =
    subst (λ (k : State). Slows job s k) (sym p.stretch.last) (sent_tick feeds job s p.given p.outcomes p.stretch.states p.are_sent p.stretch.runs machine held)

-- ---- a hold

sent_hold : (feeds : Bool) (job : Job) (s : State) (given : List Event) (os : List Outcome) (xs : List State) → AreSent feeds job s (Hold ∷ []) given xs →
    Run job s given os xs → ((last_state s xs).held ≡ true) × ((last_state s xs).rate ≡ s.rate)
sent_hold feeds job s [] os xs p r = absurd p
sent_hold feeds job s (g ∷ given) os [] p r = absurd p
sent_hold feeds job s (g ∷ given) [] (x ∷ xs) p r = absurd r
sent_hold feeds job s (g ∷ given) (o ∷ os) (x ∷ xs) p r = after_hold given xs p where
  after_hold : (given : List Event) (xs : List State) → (g ≡ Hold) × AreSent feeds job x [] given xs →
      ((last_state x xs).held ≡ true) × ((last_state x xs).rate ≡ s.rate)
  after_hold [] [] p =
      let does : Step job s Hold o x = subst (λ (e : Event). Step job s e o x) p.0 r.0 in
      (ap (λ (k : State). k.held) does.1, ap (λ (k : State). k.rate) does.1)
  after_hold [] (y ∷ ys) p = absurd p.1
  after_hold (h ∷ hs) ys p = absurd p.1

pub hold_holds : (feeds : Bool) (job : Job) (s t : State) → Processes feeds job s t (replicate 1 Hold) → (t.held ≡ true) × (t.rate ≡ s.rate)
hold_holds feeds job s t p =
    subst (λ (k : State). (k.held ≡ true) × (k.rate ≡ s.rate)) (sym p.stretch.last)
    (sent_hold feeds job s p.given p.outcomes p.stretch.states p.are_sent p.stretch.runs)

-- ---- the ticks so far

-- after so many ticks from a rate, by this change
pub record HasSlowed (ticks change from rate : ℕ) : Type 0 where
  pub brief : ticks * change < from + change
  pub moving : 0 < rate → ticks * change + rate ≤ from

pub none_slowed : (change rate : ℕ) → 0 < rate → HasSlowed 0 change rate rate
none_slowed change rate moves = record { brief = omega (arith, moves); moving = λ h. omega arith }

pub slowed_more : (ticks change from old new : ℕ) → HasSlowed ticks change from old → 0 < old → new ≤ old - change → HasSlowed (suc ticks) change from new
slowed_more ticks change from old new h moves slower =
    let e : suc ticks * change ≡ ticks * change + change = suc-mul ticks change in
    record {
      brief = omega (arith, e, h.moving moves, moves);
      moving = λ still. omega (arith, e, h.moving moves, slower, still);
    }

-- ---- the lines

pub moving_stops : (s : State) (ticks : ℕ) → 0 < s.rate → stopping s ticks ≡ braking ticks
moving_stops s ticks moves =
    let no : (s.rate == 0) ≡ false = grind (arith, nat_tests) in
    ap (λ b. if b then [] else braking ticks) no

pub still_stops : (s : State) (ticks : ℕ) → s.rate ≡ 0 → stopping s ticks ≡ []
still_stops s ticks still = rw still

-- a tick as a line that arrives, and the lines of some ticks
abbrev one_tick : EventLine
one_tick = record { event = Tick; times = 1 }

pub tick_more : (lines : List EventLine) (ticks : ℕ) →
    (lines ++ replicate ticks one_tick) ++ record { event = Tick; times = 1 } ∷ [] ≡ lines ++ replicate (suc ticks) one_tick
tick_more lines ticks =
    let next : ticks + 1 ≡ suc ticks = omega arith in
    append_assoc lines (replicate ticks one_tick) (one_tick ∷ [])
    ∙ ap (λ (l : List EventLine). lines ++ l) (replicate_more ticks one_tick ∙ ap (λ n. replicate n one_tick) next)

-- a hold and ticks after lines
pub hold_first : (lines : List EventLine) (ticks : ℕ) →
    (lines ++ record { event = Hold; times = 1 } ∷ []) ++ replicate ticks one_tick ≡ lines ++ braking ticks
hold_first lines ticks = append_assoc lines (record { event = Hold; times = 1 } ∷ []) (replicate ticks one_tick)

-- ---- the result

pub rests_already : (form : LiveForm) (live : LiveData) (lines : List EventLine) (first now : Option (List ℕ)) → live.state.rate ≡ 0 →
    1 ≤ least_change live.job → HasRun form live lines first now → ComesToRest form live.state live lines first now
rests_already form live lines first now still some h = record {
  ticks = 0;
  has_run = subst (λ l. HasRun form live l first now) (sym (ap (λ (m : List EventLine). lines ++ m) (still_stops live.state 0 still) ∙ append-nil lines)) h;
  at_rest = still;
  brief = omega (arith, still, some);
}

pub came_to_rest : (form : LiveForm) (s : State) (live : LiveData) (change from : ℕ) (lines whole : List EventLine) (first now : Option (List ℕ)) (ticks : ℕ) →
    0 < s.rate → from ≡ s.rate → least_change live.job ≡ change → whole ≡ lines ++ braking ticks → HasSlowed ticks change from live.state.rate →
    live.state.rate ≡ 0 → HasRun form live whole first now → ComesToRest form s live lines first now
came_to_rest form s live change from lines whole first now ticks moves start same are slowed still h = record {
  ticks = ticks;
  has_run = subst (λ l. HasRun form live l first now) (are ∙ ap (λ (m : List EventLine). lines ++ m) (sym (moving_stops s ticks moves))) h;
  at_rest = still;
  brief = subst (λ k. ticks * k < s.rate + k) (sym same) (subst (λ r. ticks * change < r + change) start slowed.brief);
}

pub cut_stops : (form : LiveForm) (s : State) (live : LiveData) (feeds : Bool) (job : Job) (lines whole : List EventLine) (first now : Option (List ℕ)) (ticks : ℕ) →
    0 < s.rate → live.feeds ≡ feeds → live.job ≡ job → whole ≡ lines ++ braking ticks → IsCutRun form feeds job whole first now →
    IsCutStop form s live lines first now
cut_stops form s live feeds job lines whole first now ticks moves fed same are cut =
    let L : List EventLine → Type 0 = λ l. IsCutRun form feeds job l first now in
    let J : Job → Type 0 = λ j. IsCutRun form feeds j (lines ++ stopping s ticks) first now in
    record {
      ticks = ticks;
      cut = subst (λ b. IsCutRun form b live.job (lines ++ stopping s ticks) first now) (sym fed)
          (subst J (sym same) (subst L (are ∙ ap (λ (m : List EventLine). lines ++ m) (sym (moving_stops s ticks moves))) cut));
    }

-- ---- the end of a source, and then the rest

-- the machine came to rest, and nothing else happened
pub ends_at_rest : (form : LiveForm) (before live : LiveData) (source rest first mid now : Option (List ℕ)) (ended : Result (Unit {0}) LiveFault) →
    is_write_fault ended ≡ false → LivesOn form before source rest first mid ended →
    ((lines : List EventLine) → HasRun form before lines first mid → ComesToRest form before.state live lines first now) →
    LivesToRest form live source rest first now ended
ends_at_rest form before live source rest first mid now ended written lives rests = record {
  before = before;
  mid = mid;
  ended = ended;
  lives = lives;
  rests = subst (λ b. MatchBool b ((ended ≡ ended) × (live ≡ before) × (now ≡ mid)) ((lines : List EventLine) → HasRun form before lines first mid →
      ((ended ≡ ended) × ComesToRest form before.state live lines first now) ⊎
      ((is_write_fault ended ≡ true) × IsCutStop form before.state live lines first now))) (sym written)
      (λ lines h. inl (refl, rests lines h));
}

-- a write failed meanwhile
pub ends_cut : (form : LiveForm) (before live : LiveData) (source rest first mid now : Option (List ℕ)) (ended : Result (Unit {0}) LiveFault) (fault : WriteFault) →
    is_write_fault ended ≡ false → LivesOn form before source rest first mid ended →
    ((lines : List EventLine) → HasRun form before lines first mid → IsCutStop form before.state live lines first now) →
    LivesToRest form live source rest first now (Err (Write fault))
ends_cut form before live source rest first mid now ended fault written lives cut = record {
  before = before;
  mid = mid;
  ended = ended;
  lives = lives;
  rests = subst (λ b. MatchBool b ((failed ≡ ended) × (live ≡ before) × (now ≡ mid)) ((lines : List EventLine) → HasRun form before lines first mid →
      ((failed ≡ ended) × ComesToRest form before.state live lines first now) ⊎
      ((is_write_fault failed ≡ true) × IsCutStop form before.state live lines first now))) (sym written)
      (λ lines h. inr (refl, cut lines h));
} where
  failed : Result (Unit {0}) LiveFault
  failed = Err (Write fault)

-- a write had failed before
pub ends_unwritten : (form : LiveForm) (live : LiveData) (source rest first now : Option (List ℕ)) (ended : Result (Unit {0}) LiveFault) →
    is_write_fault ended ≡ true → LivesOn form live source rest first now ended → LivesToRest form live source rest first now ended
ends_unwritten form live source rest first now ended unwritten lives = record {
  before = live;
  mid = now;
  ended = ended;
  lives = lives;
  rests = subst (λ b. MatchBool b ((ended ≡ ended) × (live ≡ live) × (now ≡ now)) ((lines : List EventLine) → HasRun form live lines first now →
      ((ended ≡ ended) × ComesToRest form live.state live lines first now) ⊎
      ((is_write_fault ended ≡ true) × IsCutStop form live.state live lines first now))) (sym unwritten)
      (refl, refl, refl);
}

-- ---- the counts of failures

-- of a source after which nothing came to rest, or the machine did
pub failed_before : (result : Result (Unit {0}) LiveFault) (old new : ℕ) → FailsByReading result old new → FailsBeforeRest result old new
failed_before (Ok done) old new same = same
failed_before (Err (Events e)) old new same = same
failed_before (Err Read) old new rises = rises
failed_before (Err (Write e)) old new same = inl same

-- and of one after which a write failed
pub failed_cut : (ended : Result (Unit {0}) LiveFault) (fault : WriteFault) (old new : ℕ) → FailsByReading ended old new →
    FailsBeforeRest (Err (Write fault)) old new
failed_cut (Ok done) fault old new same = inl same
failed_cut (Err (Events e)) fault old new same = inl same
failed_cut (Err Read) fault old new rises = inr rises
failed_cut (Err (Write e)) fault old new same = inl same

pub none_failed : (ended : Result (Unit {0}) LiveFault) (old mid new : ℕ) → FailsLive ended old mid → new ≡ mid → FailsLive ended old new
none_failed ended old mid new fails same = subst (λ n. FailsLive ended old n) (sym same) fails

pub one_failed : (ended : Result (Unit {0}) LiveFault) (old mid new : ℕ) → is_write_fault ended ≡ false → FailsLive ended old mid → Rises mid new → Rises old new
one_failed (Ok done) old mid new written same rises = subst (λ n. Rises n new) same rises
one_failed (Err (Events e)) old mid new written same rises = subst (λ n. Rises n new) same rises
one_failed (Err Read) old mid new written same rises = subst (λ n. Rises n new) same rises
one_failed (Err (Write e)) old mid new written fails rises = let bad : true ≡ false = written in cc
