-- Parts of a run, in order.
use Rattle.std.proofs.Common.{◌≡◌, ◌+◌, ◌≤◌, ℕ, List, [], ◌∷◌, ◌++◌, length, Option, count_by, refl, ap, sym, subst, ◌∙◌, arith, lit≤, Bool, cond, Some, None}
use Rattle.std.proofs.Common.{Ok, Err}
use Rattle.std.proofs.KnownBytes.{Appends-nil}
use Rattle.std.proofs.lemmas.List.{append_assoc, append-nil, length-append}
use Rattle.std.proofs.lemmas.List.Sums.{sum_by-append, count_by-le-length}
use Rattle.std.proofs.lemmas.Grind.{flat_map-append}
use Rattle.ngc_text.specs.Written.{AppendsPrefix}
use Rattle.ngc_fixed_length.specs.declared.points.StepPos.{StepPos}
use Rattle.ngc_text.proofs.AppendedTexts.{appends_both, begins_after}
use Rattle.ngc_events.specs.declared.event.Event.{Event}
use Rattle.ngc_events.specs.declared.reply.Reply.TheVariants.{Loaded, Ticked, Held, Resumed, Overridden, Switched, Started}
use Rattle.ngc_machine_model.specs.State.{Job, State}
use Rattle.ngc_machine_model.specs.Step.{Outcome, Step}
use Rattle.ngc_machine_model.specs.Run.{Run, positions, position_in}
use Rattle.ngc_machine_model.specs.Progress.{KeepGoing, GoesOn, is_tick}
use Rattle.ngc_run_through.specs.declared.report.Report.{Report}
use Rattle.ngc_run_through.specs.declared.recorder.Recorder.{Recorder}
use Rattle.ngc_run_through.specs.Tracing.{trace_text, trace_after, ticks_of}
use Rattle.ngc_run_through.specs.Runs.{is_refusal}
use Rattle.ngc_run_through.specs.Counting.{counted, last_position}
use Rattle.ngc_motors.specs.Counts.{MotorData}
use Rattle.ngc_run_through.specs.declared.trace.Trace.{Trace}
use Rattle.ngc_machine_model.specs.Stretch.{last_state, Stretch}
use Rattle.ngc_run_through.specs.Recording.{Counts, HasFew, Collects, Records, IsRecorded, IsCutShort, next_text, told_by}
use Rattle.ngc_run_through.proofs.Counted.{counted-append, counted-length, last_position-append}
use Rattle.ngc_run_through.proofs.Traces.{trace_text-append, trace_after-append, trace_text-none, trace_after-none, few_ticks}

-- ---- lists

pub count_by-append : {X : Type 0} (p : X → Bool) (xs ys : List X) → count_by p (xs ++ ys) ≡ count_by p xs + count_by p ys
count_by-append p xs ys = sum_by-append (λ x. cond (p x) 1 0) xs ys

pub last_state-append : (s : State) (xs ys : List State) → last_state s (xs ++ ys) ≡ last_state (last_state s xs) ys
last_state-append s [] ys = refl
last_state-append s (x ∷ xs) ys = last_state-append x xs ys

-- ---- runs

pub runs_joined : (job : Job) (s : State) (es fs : List Event) (os ps : List Outcome) (xs ys : List State) → Run job s es os xs →
    Run job (last_state s xs) fs ps ys → Run job s (es ++ fs) (os ++ ps) (xs ++ ys)
runs_joined job s [] fs [] ps [] ys r q = q
runs_joined job s (e ∷ es) fs (o ∷ os) ps (x ∷ xs) ys r q = (r.0, runs_joined job x es fs os ps xs ys r.1 q)
runs_joined job s [] fs (o ∷ os) ps xs ys r q = absurd r
runs_joined job s [] fs [] ps (x ∷ xs) ys r q = absurd r
runs_joined job s (e ∷ es) fs [] ps xs ys r q = absurd r
runs_joined job s (e ∷ es) fs (o ∷ os) ps [] ys r q = absurd r

pub goings_joined : (job : Job) (s : State) (es fs : List Event) (os : List Outcome) (xs ys : List State) → Run job s es os xs → KeepGoing job s es xs →
    KeepGoing job (last_state s xs) fs ys → KeepGoing job s (es ++ fs) (xs ++ ys)
goings_joined job s [] fs [] [] ys r k m = m
goings_joined job s (e ∷ es) fs (o ∷ os) (x ∷ xs) ys r k m = (k.0, goings_joined job x es fs os xs ys r.1 k.1 m)
goings_joined job s [] fs (o ∷ os) xs ys r k m = absurd r
goings_joined job s [] fs [] (x ∷ xs) ys r k m = absurd r
goings_joined job s (e ∷ es) fs [] xs ys r k m = absurd r
goings_joined job s (e ∷ es) fs (o ∷ os) [] ys r k m = absurd r

-- an outcome for each event
pub same_lengths : (job : Job) (s : State) (es : List Event) (os : List Outcome) (xs : List State) → Run job s es os xs → length os ≡ length es
same_lengths job s [] [] [] r = refl
same_lengths job s (e ∷ es) (o ∷ os) (x ∷ xs) r = omega (arith, same_lengths job x es os xs r.1)
same_lengths job s [] (o ∷ os) xs r = absurd r
same_lengths job s [] [] (x ∷ xs) r = absurd r
same_lengths job s (e ∷ es) [] xs r = absurd r
same_lengths job s (e ∷ es) (o ∷ os) [] r = absurd r

abbrev pub stretches_joined : (job : Job) (s t u : State) (es fs : List Event) (os ps : List Outcome) → Stretch job s t es os → Stretch job t u fs ps →
    Stretch job s u (es ++ fs) (os ++ ps)
stretches_joined job s t u es fs os ps a b =
    let R : State → Type 0 = λ x. Run job x fs ps b.states in
    let K : State → Type 0 = λ x. KeepGoing job x fs b.states in
    record {
      states = a.states ++ b.states;
      runs = runs_joined job s es fs os ps a.states b.states a.runs (subst R a.last b.runs);
      goes_on = goings_joined job s es fs os a.states b.states a.runs a.goes_on (subst K a.last b.goes_on);
      last = b.last ∙ ap (λ x. last_state x b.states) a.last ∙ sym (last_state-append s a.states b.states);
    }

-- ---- counts

pub counts_joined : (es fs : List Event) (os ps : List Outcome) (r s t : Report) → Counts es os r s → Counts fs ps s t → Counts (es ++ fs) (os ++ ps) r t
counts_joined es fs os ps r s t a b =
    let places : positions (os ++ ps) ≡ positions os ++ positions ps = flat_map-append position_in os ps in
    record {
      ticks = omega (arith, a.ticks, b.ticks, count_by-append is_tick es fs);
      path_steps = omega (arith, a.path_steps, b.path_steps, ap length places, length-append (positions os) (positions ps));
      refused = omega (arith, a.refused, b.refused, count_by-append is_refusal os ps);
      position = b.position ∙ ap (λ p. last_position p (positions ps)) a.position ∙ sym (last_position-append r.position (positions os) (positions ps))
          ∙ ap (last_position r.position) (sym places);
    }

-- an outcome leads to at most one position
few_positions : (os : List Outcome) → ((o : Outcome) → length (position_in o) ≤ 1) → length (positions os) ≤ length os
few_positions [] few = omega arith
few_positions (o ∷ os) few = omega (arith, few o, few_positions os few, length-append (position_in o) (positions os))

-- ---- the log

pub collected_both : (a b c : Option (List ℕ)) (x y z s t : List ℕ) → Collects a b x s y → Collects b c y t z → Collects a c x (s ++ t) z
collected_both a b c x y z s t p q = record {
  front = p.front ++ q.front;
  writes = appends_both a b c p.front q.front p.writes q.writes;
  splits =
      sym (append_assoc x s t) ∙ ap (λ l. l ++ t) p.splits ∙ append_assoc p.front y t ∙ ap (λ l. p.front ++ l) q.splits ∙ sym (append_assoc p.front q.front z);
}

-- a failed write leaves a prefix of all
pub begun_after : (a b c : Option (List ℕ)) (x y s t : List ℕ) → Collects a b x s y → AppendsPrefix b c (y ++ t) → AppendsPrefix a c (x ++ (s ++ t))
begun_after a b c x y s t p q =
    let P : List ℕ → Type 0 = λ text. AppendsPrefix a c text in
    let whole : p.front ++ ((y ++ t) ++ []) ≡ x ++ (s ++ t) =
    ap (λ l. p.front ++ l) (append-nil (y ++ t)) ∙ sym (append_assoc p.front y t) ∙ ap (λ l. l ++ t) (sym p.splits) ∙ append_assoc x s t in
    subst P whole (begins_after a b c p.front (y ++ t) [] p.writes q)

-- ---- the record

-- the text of more outcomes continues from where the record of the first ones ends
pub told_next : (es : List Event) (os ps : List Outcome) (a b : Recorder) (x y : Option (List ℕ)) → Records es os a b x y →
    told_by a (os ++ ps) ≡ told_by a os ++ told_by b ps
told_next es os ps a b x y p =
    let M : MotorData → List Outcome = λ m. counted m b.report.position ps in
    let P : StepPos → List Outcome = λ q. counted a.motors q ps in
    counted-append a.motors a.report.position os ps ∙ ap (λ l. told_by a os ++ l) (sym (ap M p.motors ∙ ap P p.counts.position))

pub records_joined : (es fs : List Event) (os ps : List Outcome) (a b c : Recorder) (x y z : Option (List ℕ)) → Records es os a b x y → Records fs ps b c y z →
    Records (es ++ fs) (os ++ ps) a c x z
records_joined es fs os ps a b c x y z p q =
    let C : List ℕ → Type 0 = λ text. Collects x z a.chunk text c.chunk in
    let T : Trace → Type 0 = λ t. Collects y z b.chunk (trace_text t (told_by b ps)) c.chunk in
    let told = told_next es os ps a b x y p in
    record {
      counts = counts_joined es fs os ps a.report b.report c.report p.counts q.counts;
      motors = q.motors ∙ p.motors;
      trace =
          q.trace ∙ ap (λ t. trace_after t (told_by b ps)) p.trace ∙ sym (trace_after-append a.trace (told_by a os) (told_by b ps))
          ∙ ap (trace_after a.trace) (sym told);
      collects =
          subst C (sym (ap (trace_text a.trace) told ∙ trace_text-append a.trace (told_by a os) (told_by b ps)))
          (collected_both x y z a.chunk b.chunk c.chunk (next_text a os) (trace_text (trace_after a.trace (told_by a os)) (told_by b ps)) p.collects
          (subst T p.trace q.collects));
    }

pub begun_behind : (es : List Event) (os ps : List Outcome) (a b : Recorder) (x y z : Option (List ℕ)) → Records es os a b x y →
    AppendsPrefix y z (b.chunk ++ next_text b ps) → AppendsPrefix x z (a.chunk ++ next_text a (os ++ ps))
begun_behind es os ps a b x y z p q =
    let P : List ℕ → Type 0 = λ text. AppendsPrefix x z (a.chunk ++ text) in
    let T : Trace → Type 0 = λ t. AppendsPrefix y z (b.chunk ++ trace_text t (told_by b ps)) in
    subst P (sym (ap (trace_text a.trace) (told_next es os ps a b x y p) ∙ trace_text-append a.trace (told_by a os) (told_by b ps)))
    (begun_after x y z a.chunk b.chunk (next_text a os) (trace_text (trace_after a.trace (told_by a os)) (told_by b ps)) p.collects (subst T p.trace q))

pub none_recorded : (a : Recorder) (x : Option (List ℕ)) → Records [] [] a a x x
none_recorded a x = record {
  counts = record { ticks = omega arith; path_steps = omega arith; refused = omega arith; position = refl };
  motors = refl;
  trace = sym (trace_after-none a.trace);
  collects = record { front = []; writes = Appends-nil x; splits = ap (λ l. a.chunk ++ l) (trace_text-none a.trace) ∙ append-nil a.chunk };
}

-- a prefix of a text is a prefix of a longer one
pub begun_more : (x y : Option (List ℕ)) (text more : List ℕ) → AppendsPrefix x y text → AppendsPrefix x y (text ++ more)
begun_more x y text more wrote = (wrote.0, wrote.1 ++ more, ap (λ l. l ++ more) wrote.2 ∙ append_assoc wrote.0 wrote.1 more, wrote.3)

-- ---- recorded parts of a run

pub recorded_both : (job : Job) (s t u : State) (a b c : Recorder) (x y z : Option (List ℕ)) (es fs : List Event)
    → IsRecorded job s t a b x y es → IsRecorded job t u b c y z fs → IsRecorded job s u a c x z (es ++ fs)
recorded_both job s t u a b c x y z es fs p q = record {
  outcomes = p.outcomes ++ q.outcomes;
  stretch = stretches_joined job s t u es fs p.outcomes q.outcomes p.stretch q.stretch;
  records = records_joined es fs p.outcomes q.outcomes a b c x y z p.records q.records;
}

-- and then a prefix of the following events
pub cut_after : (job : Job) (s t : State) (a b : Recorder) (x y z : Option (List ℕ)) (es fs more : List Event)
    → IsRecorded job s t a b x y es → IsCutShort job t b y z fs → IsCutShort job s a x z (es ++ (fs ++ more))
cut_after job s t a b x y z es fs more p q =
    let rest : fs ++ more ≡ q.given ++ (q.left ++ more) = ap (λ l. l ++ more) q.are_first ∙ append_assoc q.given q.left more in
    record {
      given = es ++ q.given;
      left = q.left ++ more;
      are_first = ap (λ l. es ++ l) rest ∙ sym (append_assoc es q.given (q.left ++ more));
      outcomes = p.outcomes ++ q.outcomes;
      reached = q.reached;
      stretch = stretches_joined job s t q.reached es q.given p.outcomes q.outcomes p.stretch q.stretch;
      begun = begun_behind es p.outcomes q.outcomes a b x y z p.records q.begun;
    }

-- no event was processed yet
pub nothing_recorded : (job : Job) (s : State) (a : Recorder) (x : Option (List ℕ)) → IsRecorded job s s a a x x []
nothing_recorded job s a x = record {
  outcomes = [];
  stretch = record { states = []; runs = tt; goes_on = tt; last = refl };
  records = none_recorded a x;
}

abbrev pub one_step : (job : Job) (s t : State) (e : Event) (o : Outcome) → Step job s e o t → GoesOn job s e t → Stretch job s t (e ∷ []) (o ∷ [])
one_step job s t e o does goes = record { states = t ∷ []; runs = (does, tt); goes_on = (goes, tt); last = refl }

-- one event
pub one_recorded : (job : Job) (s t : State) (a b : Recorder) (x y : Option (List ℕ)) (e : Event) (o : Outcome) → Step job s e o t → GoesOn job s e t
    → Records (e ∷ []) (o ∷ []) a b x y → IsRecorded job s t a b x y (e ∷ [])
one_recorded job s t a b x y e o does goes recorded = record { outcomes = o ∷ []; stretch = one_step job s t e o does goes; records = recorded }

-- one event, whose text can't be collected
pub one_cut : (job : Job) (s t : State) (a : Recorder) (x y : Option (List ℕ)) (e : Event) (o : Outcome) → Step job s e o t → GoesOn job s e t
    → AppendsPrefix x y (a.chunk ++ next_text a (o ∷ [])) → IsCutShort job s a x y (e ∷ [])
one_cut job s t a x y e o does goes wrote = record {
  given = e ∷ [];
  left = [];
  are_first = refl;
  outcomes = o ∷ [];
  reached = t;
  stretch = one_step job s t e o does goes;
  begun = wrote;
}

-- ---- the size of the counts

one_position : (o : Outcome) → length (position_in o) ≤ 1
one_position (Ok (Ticked (Some p) ending)) = lit≤ tt
one_position (Ok (Ticked None ending)) = lit≤ tt
one_position (Ok (Loaded k)) = lit≤ tt
one_position (Ok Held) = lit≤ tt
one_position (Ok Resumed) = lit≤ tt
one_position (Ok (Overridden n)) = lit≤ tt
one_position (Ok (Switched on)) = lit≤ tt
one_position (Ok Started) = lit≤ tt
one_position (Err e) = lit≤ tt

pub few_recorded : (a b : Recorder) (x y : Option (List ℕ)) (es : List Event) (os : List Outcome) (n m : ℕ) → Records es os a b x y → length os ≡ length es →
    HasFew n a → n + length es ≤ m → HasFew m b
few_recorded a b x y es os n m p lengths few h = record {
  report = record {
    ticks = omega (arith, p.counts.ticks, few.report.ticks, count_by-le-length is_tick es);
    path_steps = omega (arith, p.counts.path_steps, few.report.path_steps, few_positions os one_position, lengths);
    refused = omega (arith, p.counts.refused, few.report.refused, count_by-le-length is_refusal os, lengths);
  };
  ticks =
      omega (arith, ap ticks_of p.trace, few_ticks a.trace (told_by a os), counted-length a.motors a.report.position os, few.ticks, lengths);
}

pub few_more : (job : Job) (s t : State) (a b : Recorder) (x y : Option (List ℕ)) (es : List Event) (n m : ℕ) → IsRecorded job s t a b x y es → HasFew n a →
    n + length es ≤ m → HasFew m b
few_more job s t a b x y es n m p few h =
    few_recorded a b x y es p.outcomes n m p.records (same_lengths job s es p.outcomes p.stretch.states p.stretch.runs) few h
