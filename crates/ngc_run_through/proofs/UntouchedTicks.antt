-- The machine stays untouched in ticks without an output.
use Rattle.std.proofs.Common.{◌≡◌, inl, inr, ℕ, zero, suc, ◌+◌, ◌-◌, ◌≤◌, List, [], ◌∷◌, length, replicate, Option, None, Some, Ok, Bool, true, false, refl, ap}
use Rattle.std.proofs.Common.{sym, subst, ◌∙◌, arith}
use Rattle.std.specs.Prelude.{MatchBool, nat_lt, nat_le, if◌then◌else◌}
use Rattle.std.proofs.lemmas.List.{length-replicate}
use Rattle.ngc_fixed_length.specs.declared.points.StepPos.{StepPos}
use Rattle.ngc_fixed_length.specs.LinePath.{point}
use Rattle.ngc_events.specs.declared.event.Event.TheVariants.{Tick}
use Rattle.ngc_events.specs.declared.reply.Ending.{Ending}
use Rattle.ngc_events.specs.declared.reply.Reply.TheVariants.{Ticked}
use Rattle.ngc_machine_model.proofs.TestCases.{match_with}
use Rattle.ngc_machine_model.specs.Progress.{KeepGoing}
use Rattle.ngc_machine_model.specs.Run.{Run}
use Rattle.ngc_machine_model.specs.State.{Job, Queued, State, path_steps, millionths, change_of}
use Rattle.ngc_machine_model.specs.Step.{TickBy, HeadTick, Travels, Rests, Serves, Dwells, Finishes, ticks_of, without_head, pulse, ending, place_after}
use Rattle.ngc_machine_model.specs.Stretch.{last_state, Stretch}
use Rattle.ngc_controller.specs.Controller.{ControllerData}
use Rattle.ngc_controller.specs.Fields.{DWELL_LIMIT}
use Rattle.ngc_run_through.specs.declared.recorder.Recorder.{Recorder}
use Rattle.ngc_run_through.specs.Policy.{next_event, FollowPolicy}
use Rattle.ngc_run_through.specs.Recording.{Records}
use Rattle.ngc_run_through.specs.Stretches.{IsUntouched, Works, LeavesBy, Coasts, spent}
use Rattle.ngc_run_through.proofs.Policy.{still_ticks}
use Rattle.ngc_run_through.proofs.QuietTicks.{quiet, quiet_kinds, quiet_refusals}
use Rattle.ngc_run_through.proofs.Ticks.{HasLeft, tick_goes}
use Rattle.ngc_run_through.proofs.UntouchedEvents.{untouched_tick}

-- ---- no dwell gets shorter

no_end : (p : Option StepPos) (ended : Option Ending) → quiet ≡ Ok (Ticked p ended) → ended ≡ None
no_end p ended says = cc

moved_dwelt : (b : Bool) (s t there : State) (over further : ℕ) (p : Option StepPos) (e : Ending) → quiet ≡ Ok (Ticked p (if b then Some e else None)) →
    there.dwelt ≡ s.dwelt →
    t ≡ (if b then without_head over there else record there { travelled = further }) → s.dwelt ≤ t.dwelt
moved_dwelt true s t there over further p e says same is = absurd (let never = no_end p (Some e) says in cc)
moved_dwelt false s t there over further p e says same is = let d : t.dwelt ≡ there.dwelt = ap (λ (x : State). x.dwelt) is in omega (arith, d, same)

travel_dwelt : (job : Job) (l : Queued) (ls : List Queued) (s t : State) → Travels job l ls s quiet t → s.dwelt ≤ t.dwelt
travel_dwelt job l ls s t go =
    let v = t.rate in
    moved_dwelt (nat_le (millionths l) (s.travelled + v)) s t (record s { rate = v; change = change_of job l; position = point l.path (place_after l s v) })
    (s.travelled + v - millionths l) (s.travelled + v)
    (pulse l s v) (ending l.command.action s) go.says refl go.goes_on

rest_dwelt : (job : Job) (s t : State) → Rests s quiet t → s.dwelt ≤ t.dwelt
rest_dwelt job s t r = let d : t.dwelt ≡ s.dwelt = ap (λ (x : State). x.dwelt) r.stands in omega (arith, d)

serve_dwelt : (job : Job) (l : Queued) (s t : State) → Serves job l.command.action s quiet t → s.dwelt ≤ t.dwelt
serve_dwelt job l s t serves =
    elim (match_with (nat_lt (suc s.dwelt) (ticks_of job l.command.action)) (Dwells s quiet t) (Finishes l.command.action s quiet t) serves) [
      | inl d ↦ (let more : t.dwelt ≡ suc s.dwelt = ap (λ (x : State). x.dwelt) (d.1).counts in omega (arith, more))
      | inr f ↦ absurd (let never = no_end None (Some (ending l.command.action s)) (f.1).says in cc)
    ]

head_dwelt : (job : Job) (l : Queued) (ls : List Queued) (s t : State) → HeadTick job l ls s quiet t → s.dwelt ≤ t.dwelt
head_dwelt job l ls s t h =
    elim (match_with (nat_lt 0 (path_steps l)) (Travels job l ls s quiet t) (MatchBool s.held (Rests s quiet t) (Serves job l.command.action s quiet t)) h) [
      | inl go ↦ travel_dwelt job l ls s t go.1
      | inr more ↦ elim (match_with s.held (Rests s quiet t) (Serves job l.command.action s quiet t) more.1) [
        | inl r ↦ rest_dwelt job s t r.1
        | inr serves ↦ serve_dwelt job l s t serves.1
      ]
    ]

tick_dwelt : (job : Job) (stopped : Bool) (ring : List Queued) (s t : State) → TickBy job stopped ring s quiet t → s.dwelt ≤ t.dwelt
tick_dwelt job true ring s t h = rest_dwelt job s t h
tick_dwelt job false [] s t h = rest_dwelt job s t h
tick_dwelt job false (l ∷ ls) s t h = head_dwelt job l ls s t h

quiet_dwelt : (n : ℕ) (job : Job) (s : State) (xs : List State) → Run job s (replicate n Tick) (replicate n quiet) xs → s.dwelt ≤ (last_state s xs).dwelt
quiet_dwelt zero job s [] r = omega arith
quiet_dwelt zero job s (x ∷ xs) r = absurd r
quiet_dwelt (suc n) job s [] r = absurd r
quiet_dwelt (suc n) job s (x ∷ xs) r =
    let first = tick_dwelt job s.stopped s.ring s x r.0 in
    let later = quiet_dwelt n job x xs r.1 in
    omega (arith, first, later)

-- ---- the head continues

-- after `n` such ticks, which lead to these states, the last one `t`
record HasCoasted (job : Job) (s t : State) (n : ℕ) (xs : List State) : Type 0 where
  untouched : IsUntouched job t
  ring : t.ring ≡ s.ring
  done : t.done ≡ s.done
  running : t.stopped ≡ false
  spends : spent s + n ≤ spent t
  follows : FollowPolicy job s (replicate n Tick) xs

one_coasts : (n : ℕ) (job : Job) (s x t : State) (xs : List State) → next_event job s ≡ Some Tick → Works s x → HasLeft None s x → HasCoasted job x t n xs →
    HasCoasted job s t (suc n) (x ∷ xs)
one_coasts n job s x t xs next works left later =
    let spends = works.spends in
    let more = later.spends in
    record {
      untouched = later.untouched;
      ring = later.ring ∙ left.1;
      done = later.done ∙ left.0;
      running = later.running;
      spends = omega (arith, spends, more);
      follows = (next, later.follows);
    }

coasted : (n : ℕ) (job : Job) (s : State) (xs : List State) → IsUntouched job s → s.stopped ≡ false → 1 ≤ length s.ring →
    next_event job s ≡ Some Tick → Run job s (replicate n Tick) (replicate n quiet) xs → KeepGoing job s (replicate n Tick) xs → (last_state s xs).dwelt ≤ DWELL_LIMIT →
    HasCoasted job s (last_state s xs) n xs
coasted zero job s [] u runs some next r k brief = record { untouched = u; ring = refl; done = refl; running = runs; spends = omega arith; follows = tt }
coasted zero job s (x ∷ xs) u runs some next r k brief = absurd r
coasted (suc n) job s [] u runs some next r k brief = absurd r
coasted (suc n) job s (x ∷ xs) u runs some next r k brief =
    let g = tick_goes job s quiet x u runs some r.0 k.0 in
    let ended = no_end g.position g.ended g.says in
    let works : Works s x = subst (λ e. LeavesBy e s x) ended g.leaves in
    let left : HasLeft None s x = subst (λ e. HasLeft e s x) ended g.left in
    let shorter = quiet_dwelt n job x xs r.1 in
    let untouched = untouched_tick job s quiet x u g (omega (arith, shorter, brief)) in
    let ring : length x.ring ≡ length s.ring = ap length left.1 in
    let still = still_ticks job job s x next runs refl works.running left.1 left.0 in
    one_coasts n job s x (last_state x xs) xs next works left (coasted n job x xs untouched works.running (omega (arith, ring, some)) still r.1 k.1 brief)

pub quiet_coasts : (n : ℕ) (old new : ControllerData) (a b : Recorder) (x : Option (List ℕ)) → IsUntouched old.job old.state → old.state.stopped ≡ false →
    1 ≤ length old.state.ring → next_event old.job old.state ≡ Some Tick → new.job ≡ old.job → new.accepted ≡ old.accepted →
    Stretch old.job old.state new.state (replicate n Tick) (replicate n quiet) → new.state.dwelt ≤ DWELL_LIMIT →
    Records (replicate n Tick) (replicate n quiet) a b x x → Coasts old new a b x
quiet_coasts n old new a b x u runs some next same accepted stretch brief recorded =
    let D : State → Type 0 = λ t. t.dwelt ≤ DWELL_LIMIT in
    let H : State → Type 0 = λ t. HasCoasted old.job old.state t n stretch.states in
    let there = coasted n old.job old.state stretch.states u runs some next stretch.runs stretch.goes_on (subst D stretch.last brief) in
    let here : HasCoasted old.job old.state new.state n stretch.states = subst H (sym stretch.last) there in
    let J : Job → Type 0 = λ j. IsUntouched j new.state in
    let spends = here.spends in
    let done = here.done in
    let ring : length new.state.ring ≡ length old.state.ring = ap length here.ring in
    let long = length-replicate n Tick in
    record {
      goes = record {
        events = replicate n Tick;
        outcomes = replicate n quiet;
        kinds = quiet_kinds n;
        few = omega (arith, long, spends);
        none_refused = quiet_refusals n;
        job = same;
        accepted = accepted;
        stretch = stretch;
        follows = here.follows;
        records = recorded;
        untouched = subst J (sym same) here.untouched;
        done = omega (arith, done);
        ring = omega (arith, ring);
      };
      ring = here.ring;
      running = here.running;
      spends = omega (arith, spends);
    }
