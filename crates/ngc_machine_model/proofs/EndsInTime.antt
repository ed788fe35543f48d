-- A motion is done within a bounded number of ticks in which the machine is free.
use Rattle.std.proofs.Common.{◌≡◌, ◌⊎◌, inl, inr, ℕ, zero, suc, ◌+◌, ◌-◌, ◌*◌, ◌<◌, ◌≤◌, ap, subst, sym, ◌∙◌, arith, refl, List, [], ◌∷◌, length, Some, None}
use Rattle.std.proofs.Common.{true, false, Bool, min}
use Rattle.std.specs.Prelude.{Option, MatchBool, nat_lt, nat_le, not, ◌&&◌, if◌then◌else◌, slice_index_or, slice_get}
use Rattle.std.specs.List.{All}
use Rattle.std.proofs.lemmas.Bool.{cases_lt, and_parts, not-true, ltb-true, eqb-true, false≢true}
use Rattle.std.proofs.lemmas.Bool.Decides.{nat_tests}
use Rattle.std.proofs.lemmas.List.{get_or_default}
use Rattle.std.proofs.lemmas.List.Elements.{All-head, All-tail}
use Rattle.std.proofs.lemmas.Nat.{le-div}
use Rattle.std.proofs.Math.Nat.{div-mul-le_self}
use Rattle.ngc_commands.specs.declared.command.Command.{Command}
use Rattle.ngc_commands.specs.declared.command.Action.{Action}
use Rattle.ngc_commands.specs.declared.command.Action.TheVariants.{Move}
use Rattle.ngc_fixed_length.specs.Limits.{MILLION}
use Rattle.ngc_planner.specs.Bounds.{IsMotion}
use Rattle.ngc_planner.proofs.BoundLaws.{may_travel_least}
use Rattle.ngc_events.specs.declared.event.Event.{Event}
use Rattle.ngc_events.specs.declared.event.Event.TheVariants.{Load, Tick, Hold, Resume, Override, StopSwitch, Start}
use Rattle.ngc_machine_model.specs.State.{Job, Queued, State, opening, loaded, command_at, path_steps, millionths, effective}
use Rattle.ngc_machine_model.specs.Reach.{rest}
use Rattle.ngc_machine_model.specs.Step.{Outcome, Step, LoadCommand, MayTake, Rests, Finishes, Dwells, Serves, Travels, HeadTick, TickBy, without_head, after}
use Rattle.ngc_machine_model.specs.Step.{ticks_of}
use Rattle.ngc_machine_model.specs.Run.{Run}
use Rattle.ngc_machine_model.specs.Progress.{IsFree, TravelsAtLeast, GoesOn, KeepGoing, is_tick, is_free, BecomesHead, has_head, free_ticks, ticks_for, least_rate}
use Rattle.ngc_machine_model.specs.Headline.{EndsInTime, MachinesRunInTime}
use Rattle.ngc_machine_model.proofs.TestCases.{match_with}
use Rattle.ngc_machine_model.proofs.KeptPaths.{keep_paths}
use Rattle.ngc_machine_model.proofs.RatesOfRun.{Fits, after_stays, event_keeps}
use Rattle.ngc_machine_model.proofs.Travel.{moved}

-- ---- the number of ticks for a length

-- a greater length takes at least as many ticks
ticks_more : (x y m : ℕ) → 1 ≤ m → x ≤ y → ticks_for x m ≤ ticks_for y m
ticks_more x y m p h = let q = div-mul-le_self (x + (m - 1)) m in le-div (ticks_for x m) (y + (m - 1)) m (omega (arith, p)) (omega (arith, q, h))

-- at least one tick
ticks_some : (x m : ℕ) → 1 ≤ m → 1 ≤ x → 1 ≤ ticks_for x m
ticks_some x m p h = le-div 1 (x + (m - 1)) m (omega (arith, p)) (omega (arith, p, h))

-- one tick of m reduces the number by one
ticks_next : (x m : ℕ) → 1 ≤ m → m ≤ x → 1 + ticks_for (x - m) m ≤ ticks_for x m
ticks_next x m p h =
    let q = div-mul-le_self (x - m + (m - 1)) m in
    let e : (1 + ticks_for (x - m) m) * m ≡ m + ticks_for (x - m) m * m = omega arith in
    le-div (1 + ticks_for (x - m) m) (x + (m - 1)) m (omega (arith, p)) (omega (arith, q, h, e))

-- ---- the state after any event

-- command k continues, or the next one is at the head
abbrev GoesAhead : State → State → Type 0
GoesAhead old new = ((new.done ≡ old.done) × (old.travelled ≤ new.travelled)) ⊎ (new.done ≡ suc old.done)

same_ahead : (old : State) → GoesAhead old old
same_ahead old = inl (refl, omega arith)

travel_ahead : (job : Job) (l : Queued) (ls : List Queued) (old : State) (o : Outcome) (new : State) → Travels job l ls old o new → GoesAhead old new
travel_ahead job l ls old o new t =
    let m = moved job l ls old o new t in
    elim (m.state) [
      | inl s ↦ inr s.1
      | inr s ↦ inl (s.0, let t = s.2 in omega (arith, t))
    ]

finish_ahead : (l : Queued) (old new : State) → new ≡ after l.command.action (record (without_head 0 old) { rate = 0 }) → GoesAhead old new
finish_ahead l old new n =
    let a = after_stays l.command.action (record (without_head 0 old) { rate = 0 }) in inr (ap (λ (s : State). s.done) n ∙ a.0)

head_ahead : (job : Job) (l : Queued) (ls : List Queued) (old : State) (o : Outcome) (new : State) → HeadTick job l ls old o new → GoesAhead old new
head_ahead job l ls old o new t =
    elim (match_with (nat_lt 0 (path_steps l)) (Travels job l ls old o new)
    (MatchBool old.held (Rests old o new) (Serves job l.command.action old o new)) t) [
      | inl u ↦ travel_ahead job l ls old o new u.1
      | inr u ↦ elim (match_with old.held (Rests old o new) (Serves job l.command.action old o new) u.1) [
        | inl r ↦ subst (GoesAhead old) (sym r.1.stands) (same_ahead old)
        | inr r ↦ elim (match_with (nat_lt (suc old.dwelt) (ticks_of job l.command.action)) (Dwells old o new)
            (Finishes l.command.action old o new) r.1) [
              | inl d ↦ subst (GoesAhead old) (sym d.1.counts) (same_ahead old)
              | inr d ↦ finish_ahead l old new d.1.goes_on
            ]
      ]
    ]

tick_ahead : (job : Job) (stopped : Bool) (ring : List Queued) (old : State) (o : Outcome) (new : State) → TickBy job stopped ring old o new → GoesAhead old new
tick_ahead job true ring old o new t = subst (GoesAhead old) (sym t.stands) (same_ahead old)
tick_ahead job false [] old o new t = subst (GoesAhead old) (sym t.stands) (same_ahead old)
tick_ahead job false (l ∷ ls) old o new t = head_ahead job l ls old o new t

load_ahead : (job : Job) (old : State) (next : Option Command) (o : Outcome) (new : State) → LoadCommand job old next o new → GoesAhead old new
load_ahead job old None o new t = subst (GoesAhead old) (sym t.1) (same_ahead old)
load_ahead job old (Some c) o new t = elim (match_with (nat_lt (length old.ring) job.machine.ring) _ _ t) [
  | inl u ↦ subst (GoesAhead old) (sym u.1.3) (inl (refl, omega arith))
  | inr u ↦ subst (GoesAhead old) (sym u.1.1) (same_ahead old)
]

event_ahead : (job : Job) (old : State) (e : Event) (o : Outcome) (new : State) → Step job old e o new → GoesAhead old new
event_ahead job old Load o new t = load_ahead job old (command_at job (loaded old)) o new t
event_ahead job old Tick o new t = tick_ahead job old.stopped old.ring old o new t
event_ahead job old Hold o new t = subst (GoesAhead old) (sym t.1) (same_ahead old)
event_ahead job old Resume o new t = subst (GoesAhead old) (sym t.1) (same_ahead old)
event_ahead job old Start o new t = subst (GoesAhead old) (sym t.1) (same_ahead old)
event_ahead job old (StopSwitch on) o new t = subst (GoesAhead old) (sym t.1) (same_ahead old)
event_ahead job old (Override n) o new t = elim (match_with (nat_le n 200) _ _ t) [
  | inl u ↦ subst (GoesAhead old) (sym u.1.1) (same_ahead old)
  | inr u ↦ subst (GoesAhead old) (sym u.1.1) (same_ahead old)
]

-- ---- the state after a tick while the machine is free

-- command k, of x millionths, is at the head, and is now done or has travelled m more
pub record Counts (k x m : ℕ) (old new : State) : Type 0 where
  pub head : old.done ≡ k
  pub some : old.travelled < x
  pub moves : (new.done ≡ suc old.done) ⊎ ((new.done ≡ old.done) × (old.travelled + m ≤ new.travelled) × (new.travelled ≤ x))

free_is : (s : State) → is_free s ≡ true → IsFree s
free_is s h =
    let a = and_parts (not s.held) (not s.stopped && nat_lt 0 (effective s)) h in
    let b = and_parts (not s.stopped) (nat_lt 0 (effective s)) a.1 in
    record { not_held = not-true s.held a.0; not_stopped = not-true s.stopped b.0; some_override = ltb-true 0 (effective s) b.1 }

-- if command k is at the head, it is this one
abbrev Shows : ℕ → Queued → State → List Queued → Type 0
Shows k l s [] = Unit {0}
Shows k l s (m ∷ ms) = s.done ≡ k → m ≡ l

travel_counts : (job : Job) (k : ℕ) (l : Queued) (ls : List Queued) (old : State) (o : Outcome) (new : State) → old.travelled ≤ millionths l - 1 →
    1 ≤ path_steps l → old.done ≡ k → min (least_rate job l) (rest l old) ≤ new.rate → Travels job l ls old o new →
    Counts k (millionths l) (least_rate job l) old new
travel_counts job k l ls old o new f some head least t =
    let m = moved job l ls old o new t in
    record {
      head = head;
      some = omega (arith, f, some);
      moves = elim (m.state) [
        | inl g ↦ inl g.1
        | inr g ↦ let a = g.2 in let b = g.3 in inr (g.0, omega (arith, a, b, least), omega (arith, a, b))
      ];
    }

head_counts : (job : Job) (k : ℕ) (l : Queued) (ls : List Queued) (old : State) (o : Outcome) (new : State) → old.travelled ≤ millionths l - 1 →
    1 ≤ path_steps l → old.done ≡ k → IsFree old → TravelsAtLeast job (l ∷ ls) old new.rate →
    HeadTick job l ls old o new → Counts k (millionths l) (least_rate job l) old new
head_counts job k l ls old o new f some head free g t =
    elim (match_with (nat_lt 0 (path_steps l)) (Travels job l ls old o new)
    (MatchBool old.held (Rests old o new) (Serves job l.command.action old o new)) t) [
      | inl u ↦ travel_counts job k l ls old o new f some head (g free (omega (arith, some))) u.1
      | inr u ↦ absurd (let z : path_steps l ≡ 0 = let b = u.0 in grind (arith, nat_tests) in omega (arith, z, some))
    ]

tick_counts : (job : Job) (k : ℕ) (l : Queued) (ring : List Queued) (old : State) (o : Outcome) (new : State) → Fits ring old.travelled →
    1 ≤ path_steps l → Shows k l old ring → has_head k old ring ≡ true → IsFree old → TravelsAtLeast job ring old new.rate →
    TickBy job false ring old o new → Counts k (millionths l) (least_rate job l) old new
tick_counts job k l [] old o new f some shows h free g t = absurd (false≢true h)
tick_counts job k l (m ∷ ms) old o new f some shows h free g t =
    let head = eqb-true old.done k h in
    let same = shows head in
    subst (λ n. Counts k (millionths n) (least_rate job n) old new) same
    (head_counts job k m ms old o new f (subst (λ n. 1 ≤ path_steps n) (sym same) some) head free g t)

event_counts : (job : Job) (k : ℕ) (l : Queued) (old : State) (e : Event) (o : Outcome) (new : State) → Fits old.ring old.travelled →
    1 ≤ path_steps l → Shows k l old old.ring → Step job old e o new → GoesOn job old e new →
    (is_tick e && (has_head k old old.ring && is_free old)) ≡ true → Counts k (millionths l) (least_rate job l) old new
event_counts job k l old Tick o new f some shows t g h =
    let a = and_parts (has_head k old old.ring) (is_free old) h in
    let free = free_is old a.1 in
    tick_counts job k l old.ring old o new f some shows a.0 free g (subst (λ b. TickBy job b old.ring old o new) free.not_stopped t)
event_counts job k l old Load o new f some shows t g h = absurd (false≢true h)
event_counts job k l old Hold o new f some shows t g h = absurd (false≢true h)
event_counts job k l old Resume o new f some shows t g h = absurd (false≢true h)
event_counts job k l old Start o new f some shows t g h = absurd (false≢true h)
event_counts job k l old (StopSwitch on) o new f some shows t g h = absurd (false≢true h)
event_counts job k l old (Override q) o new f some shows t g h = absurd (false≢true h)

-- ---- runs

-- the number of such ticks to come, if command k has x millionths
pub record IsBounded (k x m : ℕ) (s : State) (ticks : ℕ) : Type 0 where
  pub past : k < s.done → ticks ≡ 0
  pub now : s.done ≡ k → ticks ≤ ticks_for (x - s.travelled) m
  pub later : s.done < k → ticks ≤ ticks_for x m

other_bounded : (k x m : ℕ) (old new : State) (ticks : ℕ) → 1 ≤ m → ((new.done ≡ old.done) × (old.travelled ≤ new.travelled)) ⊎ (new.done ≡ suc old.done) →
    IsBounded k x m new ticks → IsBounded k x m old ticks
other_bounded k x m old new ticks p (inl g) b =
    let same = g.0 in let more = g.1 in
    record {
      past = λ h. b.past (omega (arith, same, h));
      now = λ h. let i = b.now (same ∙ h) in let q = ticks_more (x - new.travelled) (x - old.travelled) m p (omega (arith, more)) in omega (arith, i, q);
      later = λ h. b.later (omega (arith, same, h));
    }
other_bounded k x m old new ticks p (inr g) b = record {
  past = λ h. b.past (omega (arith, g, h));
  now = λ h. let z = b.past (omega (arith, g, h)) in omega (arith, z);
  later = λ h. elim (cases_lt new.done k) [
    | inl l ↦ b.later l
    | inr l ↦ let i = b.now (omega (arith, g, h, l)) in let q = ticks_more (x - new.travelled) x m p (omega arith) in omega (arith, i, q)
  ];
}

counted_bounded : (k x m : ℕ) (old new : State) (ticks : ℕ) → 1 ≤ m → Counts k x m old new → IsBounded k x m new ticks → IsBounded k x m old (1 + ticks)
counted_bounded k x m old new ticks p c b =
    let head = c.head in let some = c.some in
    record {
      past = λ h. absurd (omega (arith, head, h));
      now = λ h. elim (c.moves) [
        | inl g ↦ let z = b.past (omega (arith, g, head)) in let q = ticks_some (x - old.travelled) m p (omega (arith, some)) in omega (arith, z, q)
        | inr g ↦
            let more = g.1 in let most = g.2 in
            let i = b.now (g.0 ∙ head) in
            let r = ticks_more (x - new.travelled) (x - old.travelled - m) m p (omega (arith, more)) in
            let q = ticks_next (x - old.travelled) m p (omega (arith, more, most)) in
            omega (arith, i, r, q)
      ];
      later = λ h. absurd (omega (arith, head, h));
    }

next_bounded : (k x m : ℕ) (old new : State) (ticks : ℕ) (b : Bool) → 1 ≤ m → (b ≡ true → Counts k x m old new) → GoesAhead old new →
    IsBounded k x m new ticks →
    IsBounded k x m old ((if b then 1 else 0) + ticks)
next_bounded k x m old new ticks true p c g i = counted_bounded k x m old new ticks p (c refl) i
next_bounded k x m old new ticks false p c g i =
    let e : ticks ≡ 0 + ticks = omega arith in subst (IsBounded k x m old) e (other_bounded k x m old new ticks p g i)

none_bounded : (k x m : ℕ) (s : State) → IsBounded k x m s 0
none_bounded k x m s = record { past = λ h. refl; now = λ h. omega arith; later = λ h. omega arith }

run_bounded : (job : Job) (k : ℕ) (l : Queued) (old : State) (es : List Event) (os : List Outcome) (states : List State) → job.machine.max_rate ≤ MILLION →
    Fits old.ring old.travelled → 1 ≤ path_steps l → 1 ≤ least_rate job l → Shows k l old old.ring → All (λ (s : State). Shows k l s s.ring) states →
    Run job old es os states → KeepGoing job old es states → IsBounded k (millionths l) (least_rate job l) old (free_ticks k old es states)
run_bounded job k l old [] os states small f some least shows all r g = none_bounded k (millionths l) (least_rate job l) old
run_bounded job k l old (e ∷ es) os [] small f some least shows all r g = none_bounded k (millionths l) (least_rate job l) old
run_bounded job k l old (e ∷ es) [] (new ∷ states) small f some least shows all r g = absurd r
run_bounded job k l old (e ∷ es) (o ∷ os) (new ∷ states) small f some least shows all r g =
    let fits = event_keeps job old e o new small f r.0 in
    let i = run_bounded job k l new es os states small fits.1 some least (All-head (λ (s : State). Shows k l s s.ring) new states all)
    (All-tail (λ (s : State). Shows k l s s.ring) new states all) r.1 g.1 in
    next_bounded k (millionths l) (least_rate job l) old new (free_ticks k new es states) (is_tick e && (has_head k old old.ring && is_free old)) least
    (event_counts job k l old e o new f some shows r.0 g.0) (event_ahead job old e o new r.0) i

-- command k is at the head only as this one
shown : (k : ℕ) (l : Queued) (states : List State) → ((m : Queued) → BecomesHead k m states → m ≡ l) → All (λ (s : State). Shows k l s s.ring) states
shown k l states no_other i d lt = at (slice_index_or states i d).ring refl
  where
    at : (ring : List Queued) → (slice_index_or states i d).ring ≡ ring → Shows k l (slice_index_or states i d) ring
    at [] e = tt
    at (m ∷ ms) e =
        λ done. no_other m (i, slice_index_or states i d, lt, get_or_default states i (slice_index_or states i d) d lt, (done, ap (λ ring. slice_get ring 0) e))

from_start : (job : Job) (k x m ticks : ℕ) → 1 ≤ m → IsBounded k x m (opening job.machine) ticks → ticks ≤ ticks_for x m
from_start job zero x m ticks p b =
    let i = b.now refl in
    let all = ticks_more (x - 0) x m p (omega arith) in omega (arith, i, all)
from_start job (suc j) x m ticks p b = b.later (omega arith)

pub ends_in_time : EndsInTime
ends_in_time job machine es os states r g k l c some least =
    let heads = shown k l states (keep_paths job es os states r k l c).no_other in
    from_start job k (millionths l) (least_rate job l) (free_ticks k (opening job.machine) es states) least
    (run_bounded job k l (opening job.machine) es os states machine.max_rate.greatest refl some least tt heads r g)

-- ---- on a machine within its ranges

-- only motions have path steps
moves : (job : Job) (l : Queued) (a : Action) → l.command.action ≡ a → MayTake job a l.path → 1 ≤ path_steps l → IsMotion l.command.action
moves job l (Move m) e take some = (m, e)
moves job l _ e take some = absurd (let none = ap length take in omega (arith, none, some))

pub machines_run_in_time : MachinesRunInTime
machines_run_in_time job m es os states r g k l c some =
    let is_motion = moves job l l.command.action refl (keep_paths job es os states r k l c).path some in
    ends_in_time job m es os states r g k l c some (may_travel_least job.machine l.command.action job.commands 0 (path_steps l) 1 m is_motion).some
