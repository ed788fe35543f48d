-- Loads, ticks and starts: none is refused, and the machine stays untouched.
use Rattle.std.proofs.Common.{◌≡◌, ◌⊎◌, inl, inr, ℕ, zero, suc, ◌+◌, ◌^◌, ◌<◌, ◌≤◌, ap, subst, sym, ◌∙◌, arith, refl, List, [], ◌∷◌, ◌++◌, length}
use Rattle.std.proofs.Common.{length-append, length-drop, drop, Option, Some, None, Ok, Err, true, false, Bool, count_by}
use Rattle.std.specs.Prelude.{MatchBool, nat_lt, slice_get, cond}
use Rattle.std.specs.List.{AllByRecursion}
use Rattle.std.proofs.lemmas.Bool.{lt-ltb}
use Rattle.std.proofs.lemmas.List.{append_assoc, append-nil}
use Rattle.std.proofs.lemmas.Option.{slice_get_cases}
use Rattle.ngc_fixed_length.specs.declared.points.StepPos.{StepPos}
use Rattle.ngc_commands.specs.declared.command.Command.{Command}
use Rattle.ngc_planner.specs.Caps.{STEPS_LIMIT}
use Rattle.ngc_events.specs.declared.event.Event.{Event}
use Rattle.ngc_events.specs.declared.event.Event.TheVariants.{Load, Tick, Start}
use Rattle.ngc_commands.specs.declared.command.Action.TheVariants as actions
use Rattle.ngc_events.specs.declared.reply.Ending.{Ending}
use Rattle.ngc_events.specs.declared.reply.Ending.TheVariants.{Stopped, End}
use Rattle.ngc_events.specs.declared.reply.Reply.{Reply}
use Rattle.ngc_events.specs.declared.reply.Reply.TheVariants.{Loaded, Ticked, Started}
use Rattle.ngc_events.specs.declared.event_fault.EventFault.TheVariants.{RingFull}
use Rattle.ngc_machine_model.specs.State.{Job, Queued, State, loaded, command_at, path_steps}
use Rattle.ngc_machine_model.specs.Step.{Outcome, Step, LoadCommand, MayTake}
use Rattle.ngc_controller.specs.Controller.{ControllerData}
use Rattle.ngc_controller.specs.Fields.{DWELL_LIMIT}
use Rattle.ngc_controller.specs.Loaded.{AreShort}
use Rattle.ngc_run_through.specs.declared.recorder.Recorder.{Recorder}
use Rattle.ngc_run_through.specs.Runs.{is_refusal}
use Rattle.ngc_machine_model.specs.Stretch.{Stretch}
use Rattle.ngc_run_through.specs.Recording.{HasFew}
use Rattle.ngc_run_through.specs.Policy.{next_event, FollowPolicy}
use Rattle.ngc_run_through.specs.Through.{IsLoadTickOrStart, ReportsEnd}
use Rattle.ngc_run_through.specs.Stretches.{IsUntouched, IsGiven, IsGivenLast, GoesBy, BreaksOff, TicksBy, Works, spent, ending_in, is_stop, does_in, SPENT_LIMIT}
use Rattle.ngc_run_through.specs.Stretches.{ReportsBy, ReportsHead, GoesBehind, FinishesHead, Finishes}
use Rattle.ngc_run_through.proofs.RunParts.{one_step, stretches_joined, records_joined, begun_behind, none_recorded, count_by-append, few_more}
use Rattle.ngc_run_through.proofs.Policy.{start_is_next, load_is_next, follows_joined}
use Rattle.ngc_run_through.proofs.Ticks.{Goes, HasLeft, tick_goes}

-- ---- lists

pub all_both : {X : Type 0} (P : X → Type 0) (xs ys : List X) → AllByRecursion P xs → AllByRecursion P ys → AllByRecursion P (xs ++ ys)
all_both P [] ys a b = b
all_both P (x ∷ xs) ys a b = (a.0, all_both P xs ys a.1 b)

all_behind : {X : Type 0} (P : X → Type 0) (xs : List X) → AllByRecursion P xs → AllByRecursion P (drop 1 xs)
all_behind P [] a = tt
all_behind P (x ∷ xs) a = a.1

get_cases : (xs : List Queued) (x : Queued) (i : ℕ) (l : Queued) → slice_get (xs ++ x ∷ []) i ≡ Some l → (slice_get xs i ≡ Some l) ⊎ ((i ≡ length xs) × (x ≡ l))
get_cases [] x zero l e = inr (refl, cc)
get_cases [] x (suc i) l e = cc
get_cases (y ∷ xs) x zero l e = inl e
get_cases (y ∷ xs) x (suc i) l e = elim (get_cases xs x i l e) [ inl g ↦ inl g | inr g ↦ inr (omega (arith, g.0), g.1) ]

get_behind : (xs : List Queued) (i : ℕ) → slice_get (drop 1 xs) i ≡ slice_get xs (suc i)
get_behind [] i = refl
get_behind (x ∷ xs) i = refl

-- ---- a load

-- the next command is added to the ring
pub record Comes (job : Job) (old : State) (o : Outcome) (new : State) : Type 0 where
  pub says : o ≡ Ok (Loaded (loaded old))
  pub added : Queued
  pub takes : MayTake job added.command.action added.path
  pub next : command_at job (loaded old) ≡ Some added.command
  pub is : new ≡ record old { ring = old.ring ++ added ∷ [] }

load_by : (b : Bool) (job : Job) (old : State) (c : Command) (o : Outcome) (new : State) → command_at job (loaded old) ≡ Some c → b ≡ true →
    MatchBool b
    ((path : List StepPos) × MayTake job c.action path × (o ≡ Ok (Loaded (loaded old))) ×
    (new ≡ record old { ring = old.ring ++ record { command = c; path = path } ∷ [] }))
    ((o ≡ Err RingFull) × (new ≡ old)) → Comes job old o new
load_by true job old c o new found room t = record { says = t.2; added = record { command = c; path = t.0 }; takes = t.1; next = found; is = t.3 }
load_by false job old c o new found room t = cc

load_comes : (job : Job) (old : State) (o : Outcome) (new : State) (c : Command) → command_at job (loaded old) ≡ Some c → length old.ring < job.machine.ring →
    Step job old Load o new → Comes job old o new
load_comes job old o new c found room t =
    load_by (nat_lt (length old.ring) job.machine.ring) job old c o new found (lt-ltb (length old.ring) job.machine.ring room) (subst (λ next. LoadCommand job old next o new) found t)

found_within : (xs : List Command) (k : ℕ) → k < length xs → (c : Command) × (slice_get xs k ≡ Some c)
found_within xs k h = elim ((slice_get_cases xs k).1) [
  | inl f ↦ (f.0, f.2)
  | inr p ↦ absurd (let past = p.0 in omega (arith, h, past))
]

pub comes : (job : Job) (old : State) (o : Outcome) (new : State) → loaded old < length job.commands → length old.ring < job.machine.ring → Step job old Load o new →
    Comes job old o new
comes job old o new left room t = let f = found_within job.commands (loaded old) left in load_comes job old o new f.0 f.1 room t

-- ---- the machine stays untouched

abbrev AreNext : Job → State → Type 0
AreNext job s = (i : ℕ) (l : Queued) → slice_get s.ring i ≡ Some l → command_at job (s.done + i) ≡ Some l.command

next_load : (job : Job) (old : State) (o : Outcome) (new : State) → AreNext job old → Comes job old o new → AreNext job new
next_load job old o new h c = λ i l at.
    let done : new.done ≡ old.done = ap (λ (s : State). s.done) c.is in
    let ring : new.ring ≡ old.ring ++ c.added ∷ [] = ap (λ (s : State). s.ring) c.is in
    ap (λ n. command_at job (n + i)) done ∙ (elim (get_cases old.ring c.added i l (ap (λ xs. slice_get xs i) (sym ring) ∙ at)) [
      | inl was ↦ h i l was
      | inr is ↦ ap (λ n. command_at job (old.done + n)) is.0 ∙ c.next ∙ ap (λ (m : Queued). Some m.command) is.1
    ])

next_tick : (job : Job) (ended : Option Ending) (old new : State) → AreNext job old → HasLeft ended old new → AreNext job new
next_tick job None old new h left = λ i l at.
    ap (λ n. command_at job (n + i)) left.0 ∙ h i l (ap (λ xs. slice_get xs i) (sym left.1) ∙ at)
next_tick job (Some e) old new h left = λ i l at.
    let n : new.done + i ≡ old.done + suc i = let d = left.0 in omega (arith, d) in
    ap (command_at job) n ∙ h (suc i) l (sym (get_behind old.ring i) ∙ ap (λ xs. slice_get xs i) (sym left.1) ∙ at)

untouched_load : (job : Job) (old : State) (o : Outcome) (new : State) → IsUntouched job old → Comes job old o new → AreShort new.ring → IsUntouched job new
untouched_load job old o new u c short =
    let ring : new.ring ≡ old.ring ++ c.added ∷ [] = ap (λ (s : State). s.ring) c.is in
    let t : new.travelled ≡ old.travelled = ap (λ (s : State). s.travelled) c.is in
    let d : new.dwelt ≡ old.dwelt = ap (λ (s : State). s.dwelt) c.is in
    record {
      machine = u.machine;
      not_held = ap (λ (s : State). s.held) c.is ∙ u.not_held;
      percent = ap (λ (s : State). s.percent) c.is ∙ u.percent;
      commands = next_load job old o new u.commands c;
      paths = subst (AllByRecursion (λ (l : Queued). MayTake job l.command.action l.path)) (sym ring)
          (all_both (λ (l : Queued). MayTake job l.command.action l.path) old.ring (c.added ∷ []) u.paths (c.takes, tt));
      short = short;
      travelled = omega (arith, t, u.travelled);
      dwelt = omega (arith, d, u.dwelt);
    }

untouched_start : (job : Job) (old new : State) → IsUntouched job old → new ≡ record old { stopped = false } → IsUntouched job new
untouched_start job old new u is =
    let here : IsUntouched job (record old { stopped = false }) = record {
      machine = u.machine;
      not_held = u.not_held;
      percent = u.percent;
      commands = u.commands;
      paths = u.paths;
      short = u.short;
      travelled = u.travelled;
      dwelt = u.dwelt;
    } in
    subst (IsUntouched job) (sym is) here

all_left : (P : Queued → Type 0) (ended : Option Ending) (old new : State) → HasLeft ended old new → AllByRecursion P old.ring → AllByRecursion P new.ring
all_left P None old new h a = subst (AllByRecursion P) (sym h.1) a
all_left P (Some e) old new h a = subst (AllByRecursion P) (sym h.1) (all_behind P old.ring a)

pub untouched_tick : (job : Job) (old : State) (o : Outcome) (new : State) → IsUntouched job old → Goes old.ring old o new → new.dwelt ≤ DWELL_LIMIT →
    IsUntouched job new
untouched_tick job old o new u g brief = record {
  machine = u.machine;
  not_held = g.held ∙ u.not_held;
  percent = g.percent ∙ u.percent;
  commands = next_tick job g.ended old new u.commands g.left;
  paths = all_left (λ (l : Queued). MayTake job l.command.action l.path) g.ended old new g.left u.paths;
  short = all_left (λ (l : Queued). path_steps l ≤ STEPS_LIMIT) g.ended old new g.left u.short;
  travelled = g.travelled;
  dwelt = brief;
}

-- ---- one event

pub counted_fine : (o : Outcome) → is_refusal o ≡ false → count_by is_refusal (o ∷ []) ≡ 0
counted_fine o fine = ap (λ b. 0 + cond b 1 0) fine

abbrev pub goes_one : (event : Event) (o : Outcome) (loads does : ℕ) (old new : ControllerData) (a b : Recorder) (x y : Option (List ℕ)) →
    IsGiven event old new a b x y o → IsLoadTickOrStart event → next_event old.job old.state ≡ Some event → is_refusal o ≡ false →
    IsUntouched old.job new.state → new.state.done ≡ old.state.done + does → length new.state.ring + does ≡ length old.state.ring + loads →
    GoesBy 1 loads does old new a b x y
goes_one event o loads does old new a b x y g kind next fine u done ring =
    let J : Job → Type 0 = λ j. IsUntouched j new.state in
    record {
      events = event ∷ [];
      outcomes = o ∷ [];
      kinds = (kind, tt);
      few = omega arith;
      none_refused = counted_fine o fine;
      job = g.job;
      accepted = g.accepted;
      stretch = one_step old.job old.state new.state event o g.step g.goes_on;
      follows = (next, tt);
      records = g.records;
      untouched = subst J (sym g.job) u;
      done = done;
      ring = ring;
    }

breaks_one : (event : Event) (old : ControllerData) (a : Recorder) (x y : Option (List ℕ)) (g : IsGivenLast event old a x y) → IsLoadTickOrStart event →
    next_event old.job old.state ≡ Some event → is_refusal g.outcome ≡ false → BreaksOff old a x y
breaks_one event old a x y g kind next fine = record {
  events = event ∷ [];
  outcomes = g.outcome ∷ [];
  reached = g.reached;
  kinds = (kind, tt);
  none_refused = counted_fine g.outcome fine;
  stretch = one_step old.job old.state g.reached event g.outcome g.step g.goes_on;
  follows = (next, tt);
  begun = g.begun;
}

fine_as : (o : Outcome) (r : Reply) → o ≡ Ok r → is_refusal o ≡ false
fine_as o r e = ap is_refusal e

-- ---- a load

pub load_goes : (old new : ControllerData) (a b : Recorder) (x y : Option (List ℕ)) (o : Outcome) → IsUntouched old.job old.state →
    old.state.stopped ≡ false → length old.state.ring < old.job.machine.ring → loaded old.state < length old.job.commands →
    IsGiven Load old new a b x y o → GoesBy 1 1 0 old new a b x y
load_goes old new a b x y o u runs room left g =
    let c = comes old.job old.state o new.state left room g.step in
    let done : new.state.done ≡ old.state.done = ap (λ (s : State). s.done) c.is in
    let ring : length new.state.ring ≡ length (old.state.ring ++ c.added ∷ []) = ap (λ (s : State). length s.ring) c.is in
    let more = length-append old.state.ring (c.added ∷ []) in
    goes_one Load o 1 0 old new a b x y g tt (load_is_next old.job old.state runs room left) (fine_as o (Loaded (loaded old.state)) c.says) (untouched_load old.job old.state o new.state u c (g.short u.short))
    (omega (arith, done)) (omega (arith, ring, more))

pub load_runs : (old new : ControllerData) (a b : Recorder) (x y : Option (List ℕ)) (o : Outcome) → old.state.stopped ≡ false → length old.state.ring < old.job.machine.ring →
    loaded old.state < length old.job.commands →
    IsGiven Load old new a b x y o → new.state.stopped ≡ false
load_runs old new a b x y o runs room left g = ap (λ (s : State). s.stopped) (comes old.job old.state o new.state left room g.step).is ∙ runs

pub load_breaks : (old : ControllerData) (a : Recorder) (x y : Option (List ℕ)) → old.state.stopped ≡ false → length old.state.ring < old.job.machine.ring → loaded old.state < length old.job.commands →
    IsGivenLast Load old a x y → BreaksOff old a x y
load_breaks old a x y runs room left g =
    breaks_one Load old a x y g tt (load_is_next old.job old.state runs room left) (fine_as g.outcome (Loaded (loaded old.state)) (comes old.job old.state g.outcome g.reached left room g.step).says)

-- ---- a start

pub start_goes : (old new : ControllerData) (a b : Recorder) (x y : Option (List ℕ)) (o : Outcome) → IsUntouched old.job old.state →
    old.state.stopped ≡ true → IsGiven Start old new a b x y o → GoesBy 1 0 0 old new a b x y
start_goes old new a b x y o u stops g =
    let is : new.state ≡ record old.state { stopped = false } = g.step.1 in
    let done : new.state.done ≡ old.state.done = ap (λ (s : State). s.done) is in
    let ring : length new.state.ring ≡ length old.state.ring = ap (λ (s : State). length s.ring) is in
    goes_one Start o 0 0 old new a b x y g tt (start_is_next old.job old.state stops) (fine_as o Started g.step.0) (untouched_start old.job old.state new.state u is) (omega (arith, done))
    (omega (arith, ring))

pub start_runs : (old new : ControllerData) (a b : Recorder) (x y : Option (List ℕ)) (o : Outcome) → IsGiven Start old new a b x y o → new.state.stopped ≡ false
start_runs old new a b x y o g = ap (λ (s : State). s.stopped) g.step.1

pub start_breaks : (old : ControllerData) (a : Recorder) (x y : Option (List ℕ)) → old.state.stopped ≡ true → IsGivenLast Start old a x y → BreaksOff old a x y
start_breaks old a x y stops g = breaks_one Start old a x y g tt (start_is_next old.job old.state stops) (fine_as g.outcome Started g.step.0)

-- ---- a tick

done_left : (ended : Option Ending) (old new : State) → HasLeft ended old new → 1 ≤ length old.ring →
    (new.done ≡ old.done + does_in ended) × (length new.ring + does_in ended ≡ length old.ring)
done_left None old new h some = let d = h.0 in let r : length new.ring ≡ length old.ring = ap length h.1 in (omega (arith, d), omega (arith, r))
done_left (Some e) old new h some =
    let d = h.0 in
    let r : length new.ring ≡ length (drop 1 old.ring) = ap length h.1 in
    let less = length-drop 1 old.ring in
    (omega (arith, d), omega (arith, r, less, some))

pub tick_ticks : (old new : ControllerData) (a b : Recorder) (x y : Option (List ℕ)) (o : Outcome) → IsUntouched old.job old.state → old.state.stopped ≡ false →
    1 ≤ length old.state.ring → next_event old.job old.state ≡ Some Tick →
    IsGiven Tick old new a b x y o → TicksBy old new a b x y (ending_in o)
tick_ticks old new a b x y o u runs some next g =
    let t = tick_goes old.job old.state o new.state u runs some g.step g.goes_on in
    let left = done_left t.ended old.state new.state t.left some in
    let ring = left.1 in
    let same : t.ended ≡ ending_in o = sym (ap ending_in t.says) in
    let here : TicksBy old new a b x y t.ended = record {
      goes = goes_one Tick o 0 (does_in t.ended) old new a b x y g tt next (fine_as o (Ticked t.position t.ended) t.says)
          (untouched_tick old.job old.state o new.state u t g.dwelt) left.0 (omega (arith, ring));
      leaves = t.leaves;
      tells = t.tells;
    } in
    subst (TicksBy old new a b x y) same here

pub tick_breaks : (old : ControllerData) (a : Recorder) (x y : Option (List ℕ)) → IsUntouched old.job old.state → old.state.stopped ≡ false →
    1 ≤ length old.state.ring → next_event old.job old.state ≡ Some Tick → IsGivenLast Tick old a x y → BreaksOff old a x y
tick_breaks old a x y u runs some next g =
    let t = tick_goes old.job old.state g.outcome g.reached u runs some g.step g.goes_on in
    breaks_one Tick old a x y g tt next (fine_as g.outcome (Ticked t.position t.ended) t.says)

-- ---- one part of a run and then another

abbrev pub none_yet : (n : ℕ) (old : ControllerData) (a : Recorder) (x : Option (List ℕ)) → IsUntouched old.job old.state → GoesBy n 0 0 old old a a x x
none_yet n old a x u = record {
  events = [];
  outcomes = [];
  kinds = tt;
  few = omega arith;
  none_refused = refl;
  job = refl;
  accepted = refl;
  stretch = record { states = []; runs = tt; goes_on = tt; last = refl };
  follows = tt;
  records = none_recorded a x;
  untouched = u;
  done = omega arith;
  ring = omega arith;
}

abbrev pub goes_both : (n m k p q r f g d : ℕ) (old mid new : ControllerData) (a b c : Recorder) (x y z : Option (List ℕ)) → GoesBy n p f old mid a b x y →
    GoesBy m q g mid new b c y z →
    n + m ≤ k → r ≡ p + q → d ≡ f + g → GoesBy k r d old new a c x z
goes_both n m k p q r f g d old mid new a b c x y z s t enough loads does =
    let S : Job → Type 0 = λ j. (r : Stretch j mid.state new.state t.events t.outcomes) × FollowPolicy j mid.state t.events r.states in
    let later = subst S s.job (t.stretch, t.follows) in
    let events = length-append s.events t.events in
    let refused = count_by-append is_refusal s.outcomes t.outcomes in
    record {
      events = s.events ++ t.events;
      outcomes = s.outcomes ++ t.outcomes;
      kinds = all_both IsLoadTickOrStart s.events t.events s.kinds t.kinds;
      few = omega (arith, events, s.few, t.few, enough);
      none_refused = omega (arith, refused, s.none_refused, t.none_refused);
      job = t.job ∙ s.job;
      accepted = t.accepted ∙ s.accepted;
      stretch = stretches_joined old.job old.state mid.state new.state s.events t.events s.outcomes t.outcomes s.stretch later.0;
      follows =
          follows_joined old.job old.state mid.state s.events t.events s.outcomes s.stretch.states later.0.states s.stretch.runs s.follows s.stretch.last
          later.1;
      records = records_joined s.events t.events s.outcomes t.outcomes a b c x y z s.records t.records;
      untouched = t.untouched;
      done = omega (arith, s.done, t.done, does);
      ring = omega (arith, s.ring, t.ring, loads, does);
    }

pub breaks_later : (n p f : ℕ) (old mid : ControllerData) (a b : Recorder) (x y z : Option (List ℕ)) → GoesBy n p f old mid a b x y → BreaksOff mid b y z →
    BreaksOff old a x z
breaks_later n p f old mid a b x y z s t =
    let S : Job → Type 0 = λ j. (r : Stretch j mid.state t.reached t.events t.outcomes) × FollowPolicy j mid.state t.events r.states in
    let later = subst S s.job (t.stretch, t.follows) in
    let refused = count_by-append is_refusal s.outcomes t.outcomes in
    record {
      events = s.events ++ t.events;
      outcomes = s.outcomes ++ t.outcomes;
      reached = t.reached;
      kinds = all_both IsLoadTickOrStart s.events t.events s.kinds t.kinds;
      none_refused = omega (arith, refused, s.none_refused, t.none_refused);
      stretch = stretches_joined old.job old.state mid.state t.reached s.events t.events s.outcomes t.outcomes s.stretch later.0;
      follows =
          follows_joined old.job old.state mid.state s.events t.events s.outcomes s.stretch.states later.0.states s.stretch.runs s.follows s.stretch.last
          later.1;
      begun = begun_behind s.events s.outcomes t.outcomes a b x y z s.records t.begun;
    }

-- the size of the counts after it
pub few_behind : (n p f m k : ℕ) (old new : ControllerData) (a b : Recorder) (x y : Option (List ℕ)) → GoesBy n p f old new a b x y → HasFew m a →
    m + n ≤ k → HasFew k b
few_behind n p f m k old new a b x y s few h =
    few_more old.job old.state new.state a b x y s.events m k (record { outcomes = s.outcomes; stretch = s.stretch; records = s.records }) few
    (omega (arith, s.few, h))

pub at_most_more : (n m : ℕ) (a : Recorder) → HasFew n a → n ≤ m → HasFew m a
at_most_more n m a few h = record {
  report = record {
    ticks = omega (arith, few.report.ticks, h);
    path_steps = omega (arith, few.report.path_steps, h);
    refused = omega (arith, few.report.refused, h);
  };
  ticks = omega (arith, few.ticks, h);
}

-- ---- what is spent

pub spent_little : (job : Job) (s : State) → IsUntouched job s → spent s ≤ SPENT_LIMIT
spent_little job s u = omega (arith, u.travelled, u.dwelt)

-- ---- the reported end

pub tells_behind : (xs ys : List Outcome) → ReportsEnd ys → ReportsEnd (xs ++ ys)
tells_behind xs ys t = (xs ++ t.0, ap (λ l. xs ++ l) t.1 ∙ sym (append_assoc xs t.0 (Ok (Ticked None (Some End)) ∷ [])))

tells_before : (xs ys : List Outcome) → ys ≡ [] → ReportsEnd xs → ReportsEnd (xs ++ ys)
tells_before xs ys none t = (t.0, ap (λ l. xs ++ l) none ∙ append-nil xs ∙ t.1)

by_behind : (e : Ending) (ring : List Queued) (xs ys : List Outcome) → ReportsBy (Some e) ring ys → ReportsBy (Some e) ring (xs ++ ys)
by_behind e [] xs ys h = tt
by_behind e (l ∷ ls) xs ys h = λ end. (let told = h end in (told.0, tells_behind xs ys told.1))

head_told : (e : Ending) (ring : List Queued) (xs ys : List Outcome) → ReportsBy (Some e) ring xs → (is_stop e ≡ false → ys ≡ []) → ReportsHead ring (xs ++ ys)
head_told e [] xs ys h none = tt
head_told e (l ∷ ls) xs ys h none = λ end. (let told = h end in tells_before xs ys (none (ap is_stop told.0)) told.1)

-- ---- ticks on one head

-- one more tick, in which no command ended
pub tick_more : (ended : Option Ending) (old mid new : ControllerData) (a b c : Recorder) (x y z : Option (List ℕ)) → ended ≡ None →
    GoesBy (spent mid.state) 0 0 old mid a b x y → TicksBy mid new b c y z ended →
    GoesBy (spent new.state) 0 0 old new a c x z × Works mid.state new.state
tick_more ended old mid new a b c x y z none s t =
    let here : TicksBy mid new b c y z None = subst (TicksBy mid new b c y z) none t in
    let spends = here.leaves.spends in (
      goes_both (spent mid.state) 1 (spent new.state) 0 0 0 0 0 0 old mid new a b c x y z s here.goes (omega (arith, spends)) refl refl,
      here.leaves,
    )

-- the head is done
pub record EndsHead (e : Ending) (old new : ControllerData) (a b : Recorder) (x y : Option (List ℕ)) : Type 0 where
  pub goes : GoesBy (SPENT_LIMIT + 1) 0 1 old new a b x y
  pub stops : new.state.stopped ≡ is_stop e
  pub tells : ReportsBy (Some e) old.state.ring goes.outcomes

-- the tick in which the command ended
pub tick_last : (ended : Option Ending) (e : Ending) (old mid new : ControllerData) (a b c : Recorder) (x y z : Option (List ℕ)) → ended ≡ Some e →
    mid.state.ring ≡ old.state.ring →
    GoesBy (spent mid.state) 0 0 old mid a b x y → TicksBy mid new b c y z ended → EndsHead e old new a c x z
tick_last ended e old mid new a b c x y z some same s t =
    let here : TicksBy mid new b c y z (Some e) = subst (TicksBy mid new b c y z) some t in
    let little = spent_little mid.job mid.state s.untouched in
    let R : List Queued → Type 0 = λ ring. ReportsBy (Some e) ring (s.outcomes ++ here.goes.outcomes) in
    record {
      goes = goes_both (spent mid.state) 1 (SPENT_LIMIT + 1) 0 0 0 0 1 1 old mid new a b c x y z s here.goes (omega (arith, little)) refl refl;
      stops = here.leaves;
      tells = subst R same (by_behind e mid.state.ring s.outcomes here.goes.outcomes here.tells);
    }

-- and a start after it
pub head_done : (e : Ending) (old mid new : ControllerData) (a b c : Recorder) (x y z : Option (List ℕ)) → EndsHead e old mid a b x y →
    GoesBehind e mid new b c y z → FinishesHead old new a c x z
head_done e old mid new a b c x y z s t = record {
  goes = goes_both (SPENT_LIMIT + 1) 1 (2 ^ 102) 0 0 0 1 0 1 old mid new a b c x y z s.goes t.goes (omega arith) refl refl;
  told = head_told e old.state.ring s.goes.outcomes t.goes.outcomes s.tells t.nothing;
}

pub started_behind : (ending : Ending) (k : ℕ) (old new : ControllerData) (a b : Recorder) (x y : Option (List ℕ)) → ending ≡ Stopped k →
    GoesBy 1 0 0 old new a b x y → GoesBehind ending old new a b x y
started_behind ending k old new a b x y is s = record {
  goes = s;
  nothing = λ quiet. (let stops : is_stop ending ≡ true = ap is_stop is in cc);
}

pub nothing_behind : (ending : Ending) (old : ControllerData) (a : Recorder) (x : Option (List ℕ)) → IsUntouched old.job old.state →
    GoesBehind ending old old a a x x
nothing_behind ending old a x u = record { goes = none_yet 1 old a x u; nothing = λ _. refl }

-- ---- several heads

first_told : (job : Job) (s : State) (ring : List Queued) (outcomes : List Outcome) (c : Command) → s.ring ≡ ring → AreNext job s → 1 ≤ length ring →
    command_at job s.done ≡ Some c → c.action ≡ actions.End →
    ReportsHead ring outcomes → ReportsEnd outcomes
first_told job s [] outcomes c is next some at end told = absurd (omega (arith, some))
first_told job s (l ∷ ls) outcomes c is next some at end told =
    let place : s.done ≡ s.done + 0 = omega arith in
    let head : Some c ≡ Some l.command = sym at ∙ ap (command_at job) place ∙ next 0 l (ap (λ xs. slice_get xs 0) is) in
    let same : l.command ≡ c = cc in
    told (ap (λ (x : Command). x.action) same ∙ end)

pub none_finished : (n : ℕ) (old : ControllerData) (a : Recorder) (x : Option (List ℕ)) → IsUntouched old.job old.state → Finishes n 0 0 old old a a x x
none_finished n old a x u = record { goes = none_yet n old a x u; told = λ some. absurd (omega (arith, some)) }

pub one_more_finished : (n k i j : ℕ) (old mid new : ControllerData) (a b c : Recorder) (x y z : Option (List ℕ)) → 1 ≤ length mid.state.ring →
    Finishes n 0 i old mid a b x y → FinishesHead mid new b c y z →
    n + 2 ^ 102 ≤ k → j ≡ i + 1 → Finishes k 0 j old new a c x z
one_more_finished n k i j old mid new a b c x y z some s t enough more = record {
  goes = goes_both n (2 ^ 102) k 0 0 0 i 1 j old mid new a b c x y z s.goes t.goes enough refl more;
  told = λ _ p command last at end.
      (let done = t.goes.done in
      let place : mid.state.done ≡ p = omega (arith, last, done) in
      let found : command_at mid.job mid.state.done ≡ Some command = ap (command_at mid.job) place ∙ ap (λ (j : Job). command_at j p) s.goes.job ∙ at in
      tells_behind s.goes.outcomes t.goes.outcomes
      (first_told mid.job mid.state mid.state.ring t.goes.outcomes command refl s.goes.untouched.commands some found end t.told));
}

pub finished_behind : (n m k p q r f g d : ℕ) (old mid new : ControllerData) (a b c : Recorder) (x y z : Option (List ℕ)) → GoesBy n p f old mid a b x y →
    Finishes m q g mid new b c y z →
    n + m ≤ k → r ≡ p + q → d ≡ f + g → (0 < d → 0 < g) → Finishes k r d old new a c x z
finished_behind n m k p q r f g d old mid new a b c x y z s t enough loads does more = record {
  goes = goes_both n m k p q r f g d old mid new a b c x y z s t.goes enough loads does;
  told = λ some i command last at end.
      tells_behind s.outcomes t.goes.outcomes (t.told (more some) i command last (ap (λ (j : Job). command_at j i) s.job ∙ at) end);
}
