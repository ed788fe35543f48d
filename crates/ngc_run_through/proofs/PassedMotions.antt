-- A motion whose ticks were made at once.
use Rattle.std.proofs.Common.{◌≡◌, ◌+◌, ◌^◌, ◌≤◌, ℕ, zero, suc, List, [], ◌∷◌, ◌++◌, length, replicate, count_by, Option, None, Some, Ok, Bool, true, false, refl, ap, sym, subst}
use Rattle.std.proofs.Common.{◌∙◌, arith}
use Rattle.std.specs.List.{AllByRecursion}
use Rattle.std.proofs.KnownBytes.{Appends-nil}
use Rattle.std.proofs.lemmas.List.{append-nil, length-replicate}
use Rattle.ngc_fixed_length.specs.declared.points.StepPos.{StepPos}
use Rattle.ngc_events.specs.declared.event.Event.{Event}
use Rattle.ngc_events.specs.declared.event.Event.TheVariants.{Tick}
use Rattle.ngc_events.specs.declared.reply.Ending.{Ending}
use Rattle.ngc_events.specs.declared.reply.Ending.TheVariants.{Done}
use Rattle.ngc_events.specs.declared.reply.Reply.TheVariants.{Ticked}
use Rattle.ngc_machine_model.specs.Progress.{KeepGoing, is_tick}
use Rattle.ngc_machine_model.specs.Run.{Run, positions}
use Rattle.ngc_machine_model.specs.State.{Job, State}
use Rattle.ngc_machine_model.specs.Step.{Outcome}
use Rattle.ngc_machine_model.specs.Stretch.{last_state, Stretch}
use Rattle.ngc_controller.specs.Controller.{ControllerData}
use Rattle.ngc_controller.specs.Finishing.{StaysOnHead, FinishesMotion}
use Rattle.ngc_run_through.specs.declared.recorder.Recorder.{Recorder}
use Rattle.ngc_run_through.specs.declared.report.Report.{Report}
use Rattle.ngc_run_through.specs.declared.trace.Trace.{Trace}
use Rattle.ngc_run_through.specs.declared.trace.Trace.TheVariants.{NotReported}
use Rattle.ngc_run_through.specs.Policy.{next_event, FollowPolicy}
use Rattle.ngc_run_through.specs.Recording.{Collects, Records, next_text, told_by}
use Rattle.ngc_run_through.specs.Runs.{is_refusal}
use Rattle.ngc_run_through.specs.Counting.{last_position}
use Rattle.ngc_run_through.specs.Stretches.{IsUntouched, IsGiven, GoesBy, Works, LeavesBy, TicksBy, FinishesHead, PassesHead, spent, ending_in}
use Rattle.ngc_run_through.specs.Tracing.{trace_text, trace_after}
use Rattle.ngc_run_through.proofs.Policy.{still_ticks}
use Rattle.ngc_run_through.proofs.QuietTicks.{quiet_kinds, quiet_ticks}
use Rattle.ngc_run_through.proofs.RunParts.{count_by-append}
use Rattle.ngc_run_through.proofs.Ticks.{HasLeft, tick_goes}
use Rattle.ngc_run_through.proofs.UntouchedEvents.{counted_fine, untouched_tick, tick_ticks, tick_last, head_done, nothing_behind}

-- ---- the ticks before the last

-- if no command is done, the head continues
continues : (ended : Option Ending) (s x : State) → HasLeft ended s x → x.done ≡ s.done → LeavesBy ended s x → Works s x
continues None s x left same works = works
continues (Some e) s x left same works = absurd (let more = left.0 in omega (arith, more, same))

-- after `n` such ticks, which lead to these states, the last one `t`
record HasKept (job : Job) (s t : State) (n : ℕ) (os : List Outcome) (xs : List State) : Type 0 where
  untouched : IsUntouched job t
  runs : t.stopped ≡ false
  ring : t.ring ≡ s.ring
  done : t.done ≡ s.done
  spends : spent s + n ≤ spent t
  follows : FollowPolicy job s (replicate n Tick) xs
  refused : count_by is_refusal os ≡ 0

kept : (n : ℕ) (job : Job) (old s : State) (os : List Outcome) (xs : List State) → IsUntouched job s → StaysOnHead old s → s.stopped ≡ false → 1 ≤ length s.ring →
    next_event job s ≡ Some Tick → Run job s (replicate n Tick) os xs → KeepGoing job s (replicate n Tick) xs → AllByRecursion (StaysOnHead old) xs →
    HasKept job s (last_state s xs) n os xs
kept zero job old s [] [] u here runs some next r k stays =
    record { untouched = u; runs = runs; ring = refl; done = refl; spends = omega arith; follows = tt; refused = refl }
kept zero job old s [] (x ∷ xs) u here runs some next r k stays = absurd r
kept zero job old s (o ∷ os) xs u here runs some next r k stays = absurd r
kept (suc n) job old s [] xs u here runs some next r k stays = absurd r
kept (suc n) job old s (o ∷ os) [] u here runs some next r k stays = absurd r
kept (suc n) job old s (o ∷ os) (x ∷ xs) u here runs some next r k stays =
    let g = tick_goes job s o x u runs some r.0 k.0 in
    let there = stays.0 in
    let done : x.done ≡ s.done = ap (λ (y : State). y.done) there ∙ sym (ap (λ (y : State). y.done) here) in
    let ring : x.ring ≡ s.ring = ap (λ (y : State). y.ring) there ∙ sym (ap (λ (y : State). y.ring) here) in
    let dwelt : x.dwelt ≡ s.dwelt = ap (λ (y : State). y.dwelt) there ∙ sym (ap (λ (y : State). y.dwelt) here) in
    let works = continues g.ended s x g.left done g.leaves in
    let untouched = untouched_tick job s o x u g (omega (arith, dwelt, u.dwelt)) in
    let still = still_ticks job job s x next runs refl works.running ring done in
    let more = kept n job old x os xs untouched there works.running (omega (arith, ap length ring, some)) still r.1 k.1 stays.1 in
    record {
      untouched = more.untouched;
      runs = more.runs;
      ring = more.ring ∙ ring;
      done = more.done ∙ done;
      spends = omega (arith, works.spends, more.spends);
      follows = (next, more.follows);
      refused = omega (arith, counted_fine o (ap is_refusal g.says), more.refused, count_by-append is_refusal (o ∷ []) os);
    }

-- ---- their record

-- no text is collected
silent : (a b : Recorder) (os : List Outcome) (x : Option (List ℕ)) → a.trace ≡ NotReported → b.chunk ≡ a.chunk → Collects x x a.chunk (next_text a os) b.chunk
silent a b os x none same = record {
  front = [];
  writes = Appends-nil x;
  splits = ap (λ t. a.chunk ++ trace_text t (told_by a os)) none ∙ append-nil a.chunk ∙ sym same;
}

-- after n ticks with these outcomes
abbrev counted : ℕ → List Outcome → Recorder → Recorder
counted n os a = record a {
  report = record {
    ticks = a.report.ticks + n;
    path_steps = a.report.path_steps + length (positions os);
    refused = a.report.refused;
    position = last_position a.report.position (positions os);
  };
}

first_recorded : (n : ℕ) (os : List Outcome) (a : Recorder) (x : Option (List ℕ)) → a.trace ≡ NotReported → count_by is_refusal os ≡ 0 →
    Records (replicate n Tick) os a (counted n os a) x x
first_recorded n os a x none fine = record {
  counts = record {
    ticks = ap (λ k. a.report.ticks + k) (sym (quiet_ticks n));
    path_steps = refl;
    refused = omega (arith, fine);
    position = refl;
  };
  motors = refl;
  trace = none ∙ sym (ap (λ t. trace_after t (told_by a os)) none);
  collects = silent a (counted n os a) os x none refl;
}

-- the last one has a pulse
last_recorded : (e : Ending) (p : StepPos) (o : Outcome) (m b : Recorder) (x : Option (List ℕ)) → m.trace ≡ NotReported → o ≡ Ok (Ticked (Some p) (Some e)) →
    b ≡ record m { report = record m.report { ticks = m.report.ticks + 1; path_steps = m.report.path_steps + 1; position = p } } →
    Records (Tick ∷ []) (o ∷ []) m b x x
last_recorded e p o m b x none told is =
    let report = ap (λ (y : Recorder). y.report) is in
    let pulse : positions (o ∷ []) ≡ p ∷ [] = ap (λ y. positions (y ∷ [])) told in
    record {
      counts = record {
        ticks = ap (λ (y : Report). y.ticks) report;
        path_steps = ap (λ (y : Report). y.path_steps) report ∙ ap (λ ps. m.report.path_steps + length ps) (sym pulse);
        refused = omega (arith, ap (λ (y : Report). y.refused) report, counted_fine o (ap is_refusal told));
        position = ap (λ (y : Report). y.position) report ∙ ap (λ ps. last_position m.report.position ps) (sym pulse);
      };
      motors = ap (λ (y : Recorder). y.motors) is;
      trace = ap (λ (y : Recorder). y.trace) is ∙ none ∙ sym (ap (λ t. trace_after t (told_by m (o ∷ []))) none);
      collects = silent m b (o ∷ []) x none (ap (λ (y : Recorder). y.chunk) is);
    }

both_counted : (n k before : ℕ) (os : List Outcome) (p : StepPos) (a b : Recorder) → n ≡ suc before → k ≡ suc (length (positions os)) →
    b ≡ record a { report = record a.report { ticks = a.report.ticks + n; path_steps = a.report.path_steps + k; position = p } } →
    b ≡ record (counted before os a) {
      report = record (counted before os a).report {
        ticks = (counted before os a).report.ticks + 1;
        path_steps = (counted before os a).report.path_steps + 1;
        position = p;
      };
    }
both_counted n k before os p a b e f is =
    let t : a.report.ticks + n ≡ a.report.ticks + before + 1 = omega (arith, e) in
    let s : a.report.path_steps + k ≡ a.report.path_steps + length (positions os) + 1 = omega (arith, f) in
    is ∙ ap (λ i. record a { report = record a.report { ticks = i; path_steps = a.report.path_steps + k; position = p } }) t
    ∙ ap (λ i. record a { report = record a.report { ticks = a.report.ticks + before + 1; path_steps = i; position = p } }) s

-- ---- the whole

same_ending : (p : StepPos) (e : Ending) (o : Outcome) → o ≡ Ok (Ticked (Some p) (Some e)) → ending_in o ≡ Some e
same_ending p e o told = ap ending_in told

pub passed : (n pulses : ℕ) (old new : ControllerData) (a b : Recorder) (x : Option (List ℕ)) → IsUntouched old.job old.state → old.state.stopped ≡ false →
    1 ≤ length old.state.ring → next_event old.job old.state ≡ Some Tick → new.job ≡ old.job → new.accepted ≡ old.accepted →
    FinishesMotion n pulses old.job old.state new.state → a.trace ≡ NotReported →
    b ≡ record a { report = record a.report { ticks = a.report.ticks + n; path_steps = a.report.path_steps + pulses; position = new.state.position } } →
    FinishesHead old new a b x x × (new.state.stopped ≡ false)
passed n pulses old new a b x u runs some next same accepted f none is =
    let os = f.outcomes in
    let mid : ControllerData = record { job = old.job; state = f.mid; recent = old.recent; accepted = old.accepted } in
    let m = counted f.before os a in
    let H : State → Type 0 = λ t. HasKept old.job old.state t f.before os f.goes.states in
    let k : HasKept old.job old.state f.mid f.before os f.goes.states =
    subst H (sym f.goes.last) (kept f.before old.job old.state old.state os f.goes.states u refl runs some next f.goes.runs f.goes.goes_on f.stays) in
    let ring = ap length k.ring in
    let long = length-replicate f.before Tick in
    let first : GoesBy (spent f.mid) 0 0 old mid a m x x = record {
      events = replicate f.before Tick;
      outcomes = os;
      kinds = quiet_kinds f.before;
      few = omega (arith, long, k.spends);
      none_refused = k.refused;
      job = refl;
      accepted = refl;
      stretch = f.goes;
      follows = k.follows;
      records = first_recorded f.before os a x none k.refused;
      untouched = k.untouched;
      done = omega (arith, k.done);
      ring = omega (arith, ring);
    } in
    let dwelt : new.state.dwelt ≡ 0 = ap (λ (y : State). y.dwelt) f.leaves in
    let given : IsGiven Tick mid new m b x x f.last = record {
      job = same;
      accepted = accepted;
      step = f.ends;
      goes_on = f.goes_on;
      short = tt;
      dwelt = omega (arith, dwelt);
      records = last_recorded (Done old.state.done) new.state.position f.last m b x none f.told
          (both_counted n pulses f.before os new.state.position a b f.count f.steps is);
    } in
    let still = still_ticks old.job old.job old.state f.mid next runs refl k.runs k.ring k.done in
    let tick = tick_ticks mid new m b x x f.last k.untouched k.runs (omega (arith, ring, some)) still given in
    let ended = same_ending new.state.position (Done old.state.done) f.last f.told in
    let last = tick_last (ending_in f.last) (Done old.state.done) old mid new a m b x x x ended k.ring first tick in
    (head_done (Done old.state.done) old new new a b b x x x last (nothing_behind (Done old.state.done) new b x last.goes.untouched), last.stops)

-- ---- whether it was done

pub all_passed : (b : Bool) (old new : ControllerData) (a r : Recorder) (x : Option (List ℕ)) → b ≡ true → PassesHead b old new a r x →
    FinishesHead old new a r x x × (new.state.stopped ≡ false)
all_passed b old new a r x is h = subst (λ k. PassesHead k old new a r x) is h

pub none_passed : (b : Bool) (old new : ControllerData) (a r : Recorder) (x : Option (List ℕ)) → b ≡ false → PassesHead b old new a r x →
    (new ≡ old) × (r ≡ a)
none_passed b old new a r x is h = subst (λ k. PassesHead k old new a r x) is h
