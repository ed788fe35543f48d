-- A run by itself, part by part.
use Rattle.std.proofs.Common.{◌≡◌, ℕ, zero, suc, take, ◌+◌, ◌-◌, ◌*◌, ◌^◌, ◌<◌, ◌≤◌, min, List, [], ◌∷◌, ◌++◌, length, drop, count_by, None, Bool, true, false}
use Rattle.std.proofs.Common.{refl, ap, sym, subst, ◌∙◌, arith}
use Rattle.std.specs.Prelude.{slice_get, cond}
use Rattle.std.proofs.lemmas.List.{append_assoc, append-nil, length-drop, take_all}
use Rattle.ngc_commands.specs.declared.command.Command.{Command}
use Rattle.ngc_commands.specs.Sequence.{HasEnd}
use Rattle.ngc_events.specs.declared.event.Event.{Event}
use Rattle.ngc_machine_model.specs.Headline.{RunsSafely, RunsInTime}
use Rattle.ngc_machine_model.specs.Progress.{is_tick}
use Rattle.ngc_machine_model.specs.State.{Job, State, command_at, loaded, opening}
use Rattle.ngc_machine_model.specs.Step.{Outcome}
use Rattle.ngc_machine_model.specs.Stretch.{Stretch}
use Rattle.ngc_controller.specs.Controller.{ControllerData}
use Rattle.ngc_run_through.specs.declared.recorder.Recorder.{Recorder}
use Rattle.ngc_run_through.specs.declared.report.Report.{Report}
use Rattle.ngc_run_through.specs.declared.trace.Trace.{Trace}
use Rattle.ngc_run_through.specs.Parts.{part_length, IsPart, RunsInParts, IsTimedThrough, FinishesPart, GoesParted}
use Rattle.ngc_commands.specs.Reached.{mounts}
use Rattle.ngc_run_through.specs.Policy.{next_event}
use Rattle.ngc_run_through.specs.Stretches.{IsUntouched, GoesBy, ReportsDone}
use Rattle.ngc_run_through.proofs.RunResults.{AreNew}
use Rattle.ngc_run_through.proofs.RunParts.{stretches_joined, count_by-append}
use Rattle.ngc_run_through.proofs.Policy.{none_is_next}
use Rattle.ngc_run_through.proofs.UntouchedEvents.{goes_both, none_yet, tells_behind}
use Rattle.ngc_run_through.proofs.WholeRun.{opens_runs, count_to, last_at}

-- ---- parts

pub one_more_part : (job : Job) (old mid new : State) (ns : List ℕ) (n : ℕ) (es fs : List Event) (os ps : List Outcome) → RunsInParts job old ns es os mid →
    IsPart job mid new n fs ps →
    RunsInParts job old (ns ++ n ∷ []) (es ++ fs) (os ++ ps) new
one_more_part job old mid new [] n es fs os ps h p =
    let P : State → Type 0 = λ s. IsPart job s new n fs ps in
    (fs, [], ps, [], new, ap (λ l. l ++ fs) h.0 ∙ sym (append-nil fs), ap (λ l. l ++ ps) h.1 ∙ sym (append-nil ps), subst P h.2 p, (refl, refl, refl))
one_more_part job old mid new (k ∷ ks) n es fs os ps (es1, es2, os1, os2, s, events, outcomes, first, later) p = (
  es1,
  es2 ++ fs,
  os1,
  os2 ++ ps,
  s,
  ap (λ l. l ++ fs) events ∙ append_assoc es1 es2 fs,
  ap (λ l. l ++ ps) outcomes ∙ append_assoc os1 os2 ps,
  first,
  one_more_part job s mid new ks n es2 fs os2 ps later p,
)

-- events before the first part belong to it if there is no tick among them
pub part_behind : (job : Job) (old mid new : State) (n : ℕ) (ns : List ℕ) (es fs : List Event) (os ps : List Outcome) → Stretch job old mid es os →
    count_by is_tick es ≡ 0 → mid.done ≡ old.done →
    RunsInParts job mid (n ∷ ns) fs ps new → RunsInParts job old (n ∷ ns) (es ++ fs) (os ++ ps) new
part_behind job old mid new n ns es fs os ps before none same (fs1, fs2, ps1, ps2, s, events, outcomes, first, later) =
    let begins = first.some in
    let part : IsPart job old s n (es ++ fs1) (os ++ ps1) = record {
      some = omega (arith, begins, same);
      stretch = stretches_joined job old mid s es fs1 os ps1 before first.stretch;
      done = first.done ∙ ap (λ k. k + part_length (drop k job.commands)) same;
      ticks = omega (arith, first.ticks, none, count_by-append is_tick es fs1);
    } in (
      es ++ fs1,
      fs2,
      os ++ ps1,
      ps2,
      s,
      ap (λ l. es ++ l) events ∙ sym (append_assoc es fs1 fs2),
      ap (λ l. os ++ l) outcomes ∙ sym (append_assoc os ps1 ps2),
      part,
      later,
    )

-- ---- intermediate results

pub none_parted : (n p : ℕ) (ns : List ℕ) (old : ControllerData) (a : Recorder) → p ≡ 0 → ns ≡ [] → IsUntouched old.job old.state →
    GoesParted n p 0 old old a a ns
none_parted n p ns old a none empty u =
    let P : ℕ → Type 0 = λ k. GoesParted n k 0 old old a a ns in
    let Q : List ℕ → Type 0 = λ l. GoesParted n 0 0 old old a a l in
    let here : GoesParted n 0 0 old old a a [] =
    record { goes = none_yet n old a None u; parted = (refl, refl, refl); told = λ some all. absurd (omega (arith, some)) } in
    subst P (sym none) (subst Q (sym empty) here)

pub parted_as : (n p d m q e : ℕ) (old new : ControllerData) (a b : Recorder) (ns : List ℕ) → GoesParted n p d old new a b ns → n ≤ m → p ≡ q → d ≡ e →
    GoesParted m q e old new a b ns
parted_as n p d m q e old new a b ns s less loads does =
    let goes = s.goes in
    let few = goes.few in
    let done = goes.done in
    let ring = goes.ring in
    record {
      goes = record {
        events = goes.events;
        outcomes = goes.outcomes;
        kinds = goes.kinds;
        few = omega (arith, few, less);
        none_refused = goes.none_refused;
        job = goes.job;
        accepted = goes.accepted;
        stretch = goes.stretch;
        follows = goes.follows;
        records = goes.records;
        untouched = goes.untouched;
        done = omega (arith, done, does);
        ring = omega (arith, ring, loads, does);
      };
      parted = s.parted;
      told = λ some all. s.told (omega (arith, some, does)) all;
    }

pub told_behind : (job at : Job) (done : ℕ) (xs ys : List Outcome) → at ≡ job → ReportsDone at done ys → ReportsDone job done (xs ++ ys)
told_behind job at done xs ys same told = λ k c last found end.
    tells_behind xs ys (told k c last (ap (λ (j : Job). command_at j k) same ∙ found) end)

pub part_more : (n k p r f d u t count : ℕ) (old mid new : ControllerData) (a b c : Recorder) (ns : List ℕ) → GoesParted n p f old mid a b ns →
    FinishesPart count u mid new b c → t ≡ c.report.ticks - b.report.ticks →
    count ≡ part_length (drop f mid.job.commands) → mid.state.done ≡ f → f < length old.job.commands → (new.state.done ≡ length old.job.commands → u < count) →
    n + count * 2 ^ 103 ≤ k → r ≡ p + min count u → d ≡ f + count → GoesParted k r d old new a c (ns ++ t ∷ [])
part_more n k p r f d u t count old mid new a b c ns s m ticks is_length at some last enough loads does =
    let S : Job → Type 0 = λ j. Stretch j mid.state new.state m.goes.events m.goes.outcomes in
    let part : IsPart old.job mid.state new.state t m.goes.events m.goes.outcomes = record {
      some = omega (arith, at, some);
      stretch = subst S s.goes.job m.goes.stretch;
      done = m.goes.done ∙ ap (λ l. mid.state.done + l)
          (is_length ∙ ap (λ l. part_length l) (ap (λ (j : Job). drop f j.commands) s.goes.job ∙ ap (λ i. drop i old.job.commands) (sym at)));
      ticks = let counted = m.goes.records.counts.ticks in omega (arith, counted, ticks);
    } in
    record {
      goes = goes_both n (count * 2 ^ 103) k p (min count u) r f count d old mid new a b c None None None s.goes m.goes enough loads does;
      parted = one_more_part old.job old.state mid.state new.state ns t s.goes.events m.goes.events s.goes.outcomes m.goes.outcomes s.parted part;
      told = λ any all. told_behind old.job mid.job new.state.done s.goes.outcomes m.goes.outcomes s.goes.job (m.told (last all));
    }

-- a part has at least one command, and no more than there are
pub some_length : (cs : List Command) → 1 ≤ length cs → 1 ≤ part_length cs
some_length [] some = absurd (omega (arith, some))
some_length (c ∷ cs) some = by (mounts c.action) where
  by : (b : Bool) → 1 ≤ cond b 1 (suc (part_length cs))
  by true = omega arith
  by false = omega arith

pub few_length : (cs : List Command) → part_length cs ≤ length cs
few_length [] = omega arith
few_length (c ∷ cs) = let less = few_length cs in by (mounts c.action) less where
  by : (b : Bool) → part_length cs ≤ length cs → cond b 1 (suc (part_length cs)) ≤ suc (length cs)
  by true less = omega arith
  by false less = omega (arith, less)

-- the next part has `k` commands
pub record IsNext (done left k : ℕ) (old mid : ControllerData) : Type 0 where
  pub at : mid.state.done ≡ done
  pub lengths : length mid.job.commands ≡ length old.job.commands
  pub is_length : k ≡ part_length (drop done mid.job.commands)
  pub some : 1 ≤ k
  pub enough : k ≤ length mid.state.ring + left
  pub within : done + k ≤ length old.job.commands

pub is_next : (n p done left k : ℕ) (old mid : ControllerData) (a b : Recorder) (ns : List ℕ) (cs : List Command) → GoesParted n p done old mid a b ns →
    old.state.done ≡ 0 →
    loaded mid.state + left ≡ length mid.job.commands → cs ≡ mid.job.commands → k ≡ part_length (take (length cs - done) (drop done cs)) →
    done < length old.job.commands → IsNext done left k old mid
is_next n p done left k old mid a b ns cs s opened rest same is_length more =
    let moved = s.goes.done in
    let at : mid.state.done ≡ done = omega (arith, moved, opened) in
    let lengths : length mid.job.commands ≡ length old.job.commands = ap (λ (j : Job). length j.commands) s.goes.job in
    let left_over : List Command = drop done mid.job.commands in
    let long = length-drop done mid.job.commands in
    let cut : k ≡ part_length (take (length mid.job.commands - done) left_over) =
    is_length ∙ ap (λ l. part_length (take (length l - done) (drop done l))) same in
    let whole : k ≡ part_length left_over = cut ∙ ap (λ l. part_length l) (take_all (length mid.job.commands - done) left_over (omega (arith, long))) in
    let few = few_length left_over in
    let some = some_length left_over (omega (arith, long, more, lengths)) in
    record {
      at = at;
      lengths = lengths;
      is_length = whole;
      some = omega (arith, some, whole);
      enough = omega (arith, few, whole, long, rest, at);
      within = omega (arith, few, whole, long, lengths, more);
    }

-- the last part has more commands than are left to load
pub more_than_left : (room left ring k : ℕ) → 1 ≤ room → (0 < left → ring ≡ room) → 1 ≤ k → k ≡ ring + left → left < k
more_than_left room zero ring k any full some is = omega (arith, some)
more_than_left room (suc n) ring k any full some is = let all = full (omega arith) in omega (arith, any, all, is)

-- ---- the whole

has_parts : (job : Job) (old new : State) (ns : List ℕ) (es : List Event) (os : List Outcome) → old.done < new.done → RunsInParts job old ns es os new →
    (n : ℕ) × (ms : List ℕ) × (ns ≡ n ∷ ms)
has_parts job old new [] es os less h = absurd (let same = ap (λ (s : State). s.done) h.2 in omega (arith, less, same))
has_parts job old new (n ∷ ns) es os less h = (n, ns, refl)

pub timed_through : (trace : Trace) (first u count : ℕ) (old mid new : ControllerData) (a b c : Recorder) (ns : List ℕ) → AreNew trace old.job old.state a →
    RunsSafely old.job → RunsInTime old.job → HasEnd old.job.commands →
    GoesBy first first 0 old mid a b None None → b.report.ticks ≡ a.report.ticks → count ≡ length mid.job.commands →
    GoesParted (2 ^ 123) u count mid new b c ns → new.state.stopped ≡ false →
    IsTimedThrough old.job c.report.ticks ns
timed_through trace first u count old mid new a b c ns are_new safe in_time has_end loads still all parted runs =
    let lengths : length mid.job.commands ≡ length old.job.commands = ap (λ (j : Job). length j.commands) loads.job in
    let before : List Command = has_end.before in
    let is_count : suc (length before) ≡ length old.job.commands = count_to before has_end.last
    ∙ ap (λ (commands : List Command). length commands) (sym has_end.are) in
    let k = first + 2 ^ 123 in
    let whole = goes_both first (2 ^ 123) k first u (first + u) 0 count count old mid new a b c None None None loads parted.goes (omega arith) refl
    (omega arith) in
    let r = opens_runs old.job old.state new.state whole.events whole.outcomes safe in_time are_new.opens whole.stretch whole.follows in
    let opened : old.state.done ≡ 0 = ap (λ (x : State). x.done) are_new.opens in
    let loaded_done = loads.done in
    let parted_done = parted.goes.done in
    let done : new.state.done ≡ length old.job.commands = omega (arith, loaded_done, parted_done, opened, all, lengths) in
    let none : count_by is_tick loads.events ≡ 0 = let counted = loads.records.counts.ticks in omega (arith, counted, still) in
    let G : Job → Type 0 = λ j. RunsInParts j mid.state ns parted.goes.events parted.goes.outcomes new.state in
    let some = has_parts mid.job mid.state new.state ns parted.goes.events parted.goes.outcomes
    (omega (arith, parted_done, all, lengths, is_count)) parted.parted in
    let P : List ℕ → Type 0 = λ l. RunsInParts old.job mid.state l parted.goes.events parted.goes.outcomes new.state in
    let Q : List ℕ → Type 0 = λ l. RunsInParts old.job old.state l whole.events whole.outcomes new.state in
    let parts = subst Q (sym some.2)
    (part_behind old.job old.state mid.state new.state some.0 some.1 loads.events parted.goes.events loads.outcomes parted.goes.outcomes loads.stretch none
    (omega (arith, loaded_done)) (subst P some.2 (subst G loads.job parted.parted))) in
    let E : State → Type 0 = λ s. RunsInParts old.job s ns whole.events whole.outcomes new.state in
    let F : State → Type 0 = λ s. RunsInParts old.job (opening old.job.machine) ns whole.events whole.outcomes s in
    let D : Job → Type 0 = λ j. ReportsDone j new.state.done parted.goes.outcomes in
    let end : ReportsDone mid.job new.state.done parted.goes.outcomes = parted.told (omega (arith, all, lengths, is_count)) (omega (arith, done, lengths)) in
    let counted = whole.records.counts.ticks in
    record {
      events = whole.events;
      outcomes = whole.outcomes;
      smooth = record { run = r.0; kinds = whole.kinds; follows = r.2; none_refused = whole.none_refused };
      done = ap (λ (x : State). x.done) (sym r.1) ∙ done;
      ended = ap (λ (x : State). next_event old.job x) (sym r.1) ∙ none_is_next old.job new.state runs done;
      told = told_behind old.job mid.job new.state.done loads.outcomes parted.goes.outcomes loads.job end (length before) has_end.last (is_count ∙ sym done)
          (ap (λ commands. slice_get commands (length before)) has_end.are ∙ last_at before has_end.last) has_end.is_end;
      ticks = omega (arith, counted, ap (λ (x : Report). x.ticks) are_new.report);
      parts = subst F r.1 (subst E are_new.opens parts);
    }
