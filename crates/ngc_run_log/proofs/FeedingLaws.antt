-- The processed events for sent ones, if a ring is fed.
use Rattle.std.proofs.Common.{◌≡◌, ◌+◌, ◌-◌, ◌≤◌, ◌<◌, ℕ, zero, suc, List, [], ◌∷◌, ◌++◌, length, replicate, Option, Some, None, Bool, true, false, ◌&&◌, Ok, Err, refl, ap, sym, subst, ◌∙◌, arith}
use Rattle.std.specs.Prelude.{MatchBool, nat_lt, slice_get}
use Rattle.std.proofs.lemmas.Bool.Decides.{nat_tests}
use Rattle.std.proofs.lemmas.List.{append_assoc, length-append, length-replicate, replicate_more}
use Rattle.std.proofs.lemmas.Option.{slice_get_within}
use Rattle.ngc_text.specs.Written.{AppendsPrefix}
use Rattle.ngc_commands.specs.declared.command.Command.{Command}
use Rattle.ngc_events.specs.declared.event.Event.{Event}
use Rattle.ngc_events.specs.declared.event.Event.TheVariants.{Load, Tick, Hold, Resume, Override, StopSwitch, Start}
use Rattle.ngc_events.specs.declared.event_fault.EventFault.{EventFault}
use Rattle.ngc_events.specs.declared.event_fault.EventFault.TheVariants.{AllLoaded, RingFull}
use Rattle.ngc_events.specs.declared.reply.Reply.{Reply}
use Rattle.ngc_events.specs.declared.reply.Reply.TheVariants.{Loaded}
use Rattle.ngc_fixed_length.specs.declared.points.StepPos.{StepPos}
use Rattle.ngc_machine_model.specs.State.{Job, State, command_at, loaded}
use Rattle.ngc_machine_model.specs.Step.{LoadCommand, MayTake, Outcome, Step}
use Rattle.ngc_machine_model.specs.Run.{Run}
use Rattle.ngc_machine_model.specs.Progress.{GoesOn, is_tick}
use Rattle.ngc_machine_model.specs.Stretch.{last_state, Stretch}
use Rattle.ngc_run_through.specs.declared.recorder.Recorder.{Recorder}
use Rattle.ngc_run_log.specs.Feeding.{AreBegun, AreSent, IsFed, IsFedShort, IsLoaded, loads_first}
use Rattle.ngc_run_through.specs.Policy.{can_load}
use Rattle.ngc_run_through.specs.Recording.{HasFew, IsCutShort, IsRecorded, Records, next_text}
use Rattle.ngc_run_log.proofs.EventProgress.{turns_left}
use Rattle.ngc_run_through.proofs.RunParts.{begun_behind, few_recorded, none_recorded, one_step, records_joined, same_lengths, stretches_joined}

match_map : {P Q R S : Type 0} (b : Bool) → (P → R) → (Q → S) → MatchBool b P Q → MatchBool b R S
match_map true f g p = f p
match_map false f g q = g q

match_true : {P : Type 0} (Q : Type 0) (b : Bool) → b ≡ true → P → MatchBool b P Q
match_true {P} Q b is p = subst (λ c. MatchBool c P Q) (sym is) p

match_false : {Q : Type 0} (P : Type 0) (b : Bool) → b ≡ false → Q → MatchBool b P Q
match_false {Q} P b is q = subst (λ c. MatchBool c P Q) (sym is) q

-- ---- two lists of events in order

pub given_joined : (feeds : Bool) (job : Job) (s : State) (es fs gs hs : List Event) (xs ys : List State) → AreSent feeds job s es gs xs →
    AreSent feeds job (last_state s xs) fs hs ys → AreSent feeds job s (es ++ fs) (gs ++ hs) (xs ++ ys)
given_joined feeds job s [] fs [] hs [] ys p q = q
given_joined feeds job s [] fs [] hs (x ∷ xs) ys p q = absurd p
given_joined feeds job s (e ∷ es) fs [] hs xs ys p q = absurd p
given_joined feeds job s [] fs (g ∷ gs) hs xs ys p q = absurd p
given_joined feeds job s (e ∷ es) fs (g ∷ gs) hs [] ys p q = absurd p
given_joined feeds job s (e ∷ es) fs (g ∷ gs) hs (x ∷ xs) ys p q =
    match_map (loads_first feeds job s e) (λ r. (r.0, given_joined feeds job x (e ∷ es) fs gs hs xs ys r.1 q))
    (λ r. (r.0, given_joined feeds job x es fs gs hs xs ys r.1 q)) p

pub begun_joined : (feeds : Bool) (job : Job) (s : State) (es fs gs hs : List Event) (xs ys : List State) → AreSent feeds job s es gs xs →
    AreBegun feeds job (last_state s xs) fs hs ys → AreBegun feeds job s (es ++ fs) (gs ++ hs) (xs ++ ys)
begun_joined feeds job s [] fs [] hs [] ys p q = q
begun_joined feeds job s [] fs [] hs (x ∷ xs) ys p q = absurd p
begun_joined feeds job s (e ∷ es) fs [] hs xs ys p q = absurd p
begun_joined feeds job s [] fs (g ∷ gs) hs xs ys p q = absurd p
begun_joined feeds job s (e ∷ es) fs (g ∷ gs) hs [] ys p q = absurd p
begun_joined feeds job s (e ∷ es) fs (g ∷ gs) hs (x ∷ xs) ys p q =
    match_map (loads_first feeds job s e) (λ r. (r.0, begun_joined feeds job x (e ∷ es) fs gs hs xs ys r.1 q))
    (λ r. (r.0, begun_joined feeds job x es fs gs hs xs ys r.1 q)) p

pub begun_all : (feeds : Bool) (job : Job) (s : State) (es gs : List Event) (xs : List State) → AreSent feeds job s es gs xs → AreBegun feeds job s es gs xs
begun_all feeds job s [] [] [] p = tt
begun_all feeds job s [] [] (x ∷ xs) p = absurd p
begun_all feeds job s (e ∷ es) [] xs p = absurd p
begun_all feeds job s [] (g ∷ gs) xs p = absurd p
begun_all feeds job s (e ∷ es) (g ∷ gs) [] p = absurd p
begun_all feeds job s (e ∷ es) (g ∷ gs) (x ∷ xs) p =
    match_map (loads_first feeds job s e) (λ r. (r.0, begun_all feeds job x (e ∷ es) gs xs r.1)) (λ r. (r.0, begun_all feeds job x es gs xs r.1)) p

-- ---- events before which nothing is loaded

none_loads : (a b : Bool) → a ≡ false → (a && b) ≡ false
none_loads a b h = ap (λ c. c && b) h

pub plain_given : (feeds : Bool) (job : Job) (e : Event) (n : ℕ) (s : State) (os : List Outcome) (xs : List State) → (is_tick e && feeds) ≡ false →
    Run job s (replicate n e) os xs → AreSent feeds job s (replicate n e) (replicate n e) xs
plain_given feeds job e zero s [] [] plain r = tt
plain_given feeds job e zero s [] (x ∷ xs) plain r = absurd r
plain_given feeds job e zero s (o ∷ os) xs plain r = absurd r
plain_given feeds job e (suc n) s [] xs plain r = absurd r
plain_given feeds job e (suc n) s (o ∷ os) [] plain r = absurd r
plain_given feeds job e (suc n) s (o ∷ os) (x ∷ xs) plain r =
    match_false _ (loads_first feeds job s e) (none_loads (is_tick e && feeds) (can_load job s) plain) (refl, plain_given feeds job e n x os xs plain r.1)

same_first : (x y : Event) (xs ys : List Event) → x ∷ xs ≡ y ∷ ys → (x ≡ y) × (xs ≡ ys)
same_first x y xs ys e = (cc e, cc e)

pub plain_begun : (feeds : Bool) (job : Job) (e : Event) (n : ℕ) (given left : List Event) (s : State) (os : List Outcome) (xs : List State) →
    (is_tick e && feeds) ≡ false → replicate n e ≡ given ++ left → Run job s given os xs → AreBegun feeds job s (replicate n e) given xs
plain_begun feeds job e n [] left s os xs plain are r = tt
plain_begun feeds job e zero (g ∷ given) left s os xs plain are r = let bad : [] ≡ g ∷ (given ++ left) = are in cc
plain_begun feeds job e (suc n) (g ∷ given) left s [] xs plain are r = absurd r
plain_begun feeds job e (suc n) (g ∷ given) left s (o ∷ os) [] plain are r = absurd r
plain_begun feeds job e (suc n) (g ∷ given) left s (o ∷ os) (x ∷ xs) plain are r =
    let same = same_first e g (replicate n e) (given ++ left) are in
    match_false _ (loads_first feeds job s e) (none_loads (is_tick e && feeds) (can_load job s) plain)
    (sym same.0, plain_begun feeds job e n given left x os xs plain same.1 r.1)

pub plain_fed : (feeds : Bool) (job : Job) (s t : State) (a b : Recorder) (x y : Option (List ℕ)) (e : Event) (n : ℕ) → (is_tick e && feeds) ≡ false →
    IsRecorded job s t a b x y (replicate n e) → IsFed feeds job s t a b x y (replicate n e)
plain_fed feeds job s t a b x y e n plain done = record {
  given = replicate n e;
  outcomes = done.outcomes;
  stretch = done.stretch;
  are_sent = plain_given feeds job e n s done.outcomes done.stretch.states plain done.stretch.runs;
  records = done.records;
}

pub plain_cut : (feeds : Bool) (job : Job) (s : State) (a : Recorder) (x y : Option (List ℕ)) (e : Event) (n : ℕ) → (is_tick e && feeds) ≡ false →
    IsCutShort job s a x y (replicate n e) → IsFedShort feeds job s a x y (replicate n e)
plain_cut feeds job s a x y e n plain cut = record {
  given = cut.given;
  outcomes = cut.outcomes;
  reached = cut.reached;
  stretch = cut.stretch;
  are_begun = plain_begun feeds job e n cut.given cut.left s cut.outcomes cut.stretch.states plain cut.are_first cut.stretch.runs;
  begun = cut.begun;
}

-- ---- events that were sent, in order

pub nothing_fed_yet : (feeds : Bool) (job : Job) (s : State) (a : Recorder) (x : Option (List ℕ)) → IsFed feeds job s s a a x x []
nothing_fed_yet feeds job s a x = record {
  given = [];
  outcomes = [];
  stretch = record { states = []; runs = tt; goes_on = tt; last = refl };
  are_sent = tt;
  records = none_recorded a x;
}

pub fed_both : (feeds : Bool) (job : Job) (s t u : State) (a b c : Recorder) (x y z : Option (List ℕ)) (es fs : List Event) → IsFed feeds job s t a b x y es →
    IsFed feeds job t u b c y z fs → IsFed feeds job s u a c x z (es ++ fs)
fed_both feeds job s t u a b c x y z es fs p q =
    let G : State → Type 0 = λ k. AreSent feeds job k fs q.given q.stretch.states in
    record {
      given = p.given ++ q.given;
      outcomes = p.outcomes ++ q.outcomes;
      stretch = stretches_joined job s t u p.given q.given p.outcomes q.outcomes p.stretch q.stretch;
      are_sent = given_joined feeds job s es fs p.given q.given p.stretch.states q.stretch.states p.are_sent (subst G p.stretch.last q.are_sent);
      records = records_joined p.given q.given p.outcomes q.outcomes a b c x y z p.records q.records;
    }

begun_longer : (feeds : Bool) (job : Job) (s : State) (es more gs : List Event) (xs : List State) → AreBegun feeds job s es gs xs →
    AreBegun feeds job s (es ++ more) gs xs
begun_longer feeds job s es more [] xs p = tt
begun_longer feeds job s [] more (g ∷ gs) xs p = absurd p
begun_longer feeds job s (e ∷ es) more (g ∷ gs) [] p = absurd p
begun_longer feeds job s (e ∷ es) more (g ∷ gs) (x ∷ xs) p =
    match_map (loads_first feeds job s e) (λ r. (r.0, begun_longer feeds job x (e ∷ es) more gs xs r.1))
    (λ r. (r.0, begun_longer feeds job x es more gs xs r.1)) p

-- and then a prefix of the following events
pub fed_cut : (feeds : Bool) (job : Job) (s t : State) (a b : Recorder) (x y z : Option (List ℕ)) (es fs more : List Event) → IsFed feeds job s t a b x y es →
    IsFedShort feeds job t b y z fs → IsFedShort feeds job s a x z (es ++ (fs ++ more))
fed_cut feeds job s t a b x y z es fs more p q =
    let G : State → Type 0 = λ k. AreBegun feeds job k (fs ++ more) q.given q.stretch.states in
    record {
      given = p.given ++ q.given;
      outcomes = p.outcomes ++ q.outcomes;
      reached = q.reached;
      stretch = stretches_joined job s t q.reached p.given q.given p.outcomes q.outcomes p.stretch q.stretch;
      are_begun =
          begun_joined feeds job s es (fs ++ more) p.given q.given p.stretch.states q.stretch.states p.are_sent
          (subst G p.stretch.last (begun_longer feeds job t fs more q.given q.stretch.states q.are_begun));
      begun = begun_behind p.given p.outcomes q.outcomes a b x y z p.records q.begun;
    }

-- ---- loads

-- a load is taken exactly if one is possible
pub record TakesLoad (job : Job) (s t : State) : Type 0 where
  pub possible : can_load job s ≡ true
  pub longer : length t.ring ≡ length s.ring + 1

within : (m n : ℕ) → m < n → nat_lt m n ≡ true
within m n h = grind (arith, nat_tests)

not_within : (m n : ℕ) → n ≤ m → nat_lt m n ≡ false
not_within m n h = grind (arith, nat_tests)

both_true : (a b : Bool) → a ≡ true → b ≡ true → (a && b) ≡ true
both_true a b p q = ap (λ c. c && b) p ∙ q

no_both : (o : Outcome) (r : Reply) (e : EventFault) → o ≡ Ok r → o ≡ Err e → ⊥
no_both o r e p q = cc

room_by : (b : Bool) (job : Job) (s : State) (c : Command) (o : Outcome) (r : Reply) (t : State) → o ≡ Ok r → nat_lt (length s.ring) job.machine.ring ≡ b →
    MatchBool b ((path : List StepPos) × MayTake job c.action path × (o ≡ Ok (Loaded (loaded s))) ×
    (t ≡ record s { ring = s.ring ++ record { command = c; path = path } ∷ [] })) ((o ≡ Err RingFull) × (t ≡ s)) →
    (nat_lt (length s.ring) job.machine.ring ≡ true) × (length t.ring ≡ length s.ring + 1)
room_by true job s c o r t done is p = (is, ap (λ (k : State). length k.ring) p.3 ∙ length-append s.ring (record { command = c; path = p.0 } ∷ []))
room_by false job s c o r t done is p = absurd (no_both o r RingFull done p.0)

taken_by : (n : Option Command) (job : Job) (s : State) (o : Outcome) (r : Reply) (t : State) → o ≡ Ok r → command_at job (loaded s) ≡ n →
    LoadCommand job s n o t → TakesLoad job s t
taken_by None job s o r t done is p = absurd (no_both o r AllLoaded done p.0)
taken_by (Some c) job s o r t done is p =
    let room = room_by (nat_lt (length s.ring) job.machine.ring) job s c o r t done refl p in
    record {
      possible = both_true _ _ room.0 (within (loaded s) (length job.commands) (slice_get_within job.commands (loaded s) c is));
      longer = room.1;
    }

pub load_taken : (job : Job) (s : State) (r : Reply) (t : State) → Step job s Load (Ok r) t → TakesLoad job s t
load_taken job s r t p = taken_by (command_at job (loaded s)) job s (Ok r) r t refl refl p

right_false : (a b : Bool) → b ≡ false → (a && b) ≡ false
right_false true b h = h
right_false false b h = refl

-- and if none is taken, none is possible
none_left : (cs : List Command) (k : ℕ) → slice_get cs k ≡ None → length cs ≤ k
none_left [] k h = omega arith
none_left (c ∷ cs) zero h = let bad : Some c ≡ None = h in cc
none_left (c ∷ cs) (suc k) h = omega (arith, none_left cs k h)

full_by : (b : Bool) (job : Job) (s : State) (c : Command) (o : Outcome) (e : EventFault) (t : State) → o ≡ Err e → nat_lt (length s.ring) job.machine.ring ≡ b →
    MatchBool b ((path : List StepPos) × MayTake job c.action path × (o ≡ Ok (Loaded (loaded s))) ×
    (t ≡ record s { ring = s.ring ++ record { command = c; path = path } ∷ [] })) ((o ≡ Err RingFull) × (t ≡ s)) → can_load job s ≡ false
full_by true job s c o e t refused is p = absurd (no_both o (Loaded (loaded s)) e p.2 refused)
full_by false job s c o e t refused is p = none_loads (nat_lt (length s.ring) job.machine.ring) _ is

refused_by : (n : Option Command) (job : Job) (s : State) (o : Outcome) (e : EventFault) (t : State) → o ≡ Err e → command_at job (loaded s) ≡ n →
    LoadCommand job s n o t → can_load job s ≡ false
refused_by None job s o e t refused is p =
    right_false (nat_lt (length s.ring) job.machine.ring) _ (not_within (loaded s) (length job.commands) (none_left job.commands (loaded s) is))
refused_by (Some c) job s o e t refused is p = full_by (nat_lt (length s.ring) job.machine.ring) job s c o e t refused refl p

pub load_refused : (job : Job) (s : State) (e : EventFault) (t : State) → Step job s Load (Err e) t → can_load job s ≡ false
load_refused job s e t p = refused_by (command_at job (loaded s)) job s (Err e) e t refl refl p

pub ring_full : (job : Job) (s : State) → job.machine.ring ≤ length s.ring → can_load job s ≡ false
ring_full job s full = none_loads (nat_lt (length s.ring) job.machine.ring) _ (not_within (length s.ring) job.machine.ring full)

pub none_loaded_yet : (job : Job) (s : State) (a : Recorder) (x : Option (List ℕ)) → IsLoaded job s s a a x x 0
none_loaded_yet job s a x = record {
  few = omega arith;
  outcomes = [];
  stretch = record { states = []; runs = tt; goes_on = tt; last = refl };
  records = none_recorded a x;
  given = λ sent given states g. g;
  begun = λ sent given states g. g;
}

-- one more is taken
load_gives : (job : Job) (t u : State) (sent given : List Event) (states : List State) → can_load job t ≡ true → AreSent true job u (Tick ∷ sent) given states →
    AreSent true job t (Tick ∷ sent) (Load ∷ given) (u ∷ states)
load_gives job t u sent given states possible g = match_true _ (loads_first true job t Tick) possible (refl, g)

load_begins : (job : Job) (t u : State) (sent given : List Event) (states : List State) → can_load job t ≡ true → AreBegun true job u (Tick ∷ sent) given states →
    AreBegun true job t (Tick ∷ sent) (Load ∷ given) (u ∷ states)
load_begins job t u sent given states possible g = match_true _ (loads_first true job t Tick) possible (refl, g)

one_behind : (k : ℕ) (given : List Event) → replicate k Load ++ (Load ∷ given) ≡ (replicate k Load ++ Load ∷ []) ++ given
one_behind k given = sym (append_assoc (replicate k Load) (Load ∷ []) given)

-- the same of events that are these loads
record IsLoadedBy (job : Job) (old new : State) (before after : Recorder) (written now : Option (List ℕ)) (events : List Event) (count : ℕ) : Type 0 where
  few : count ≤ 1024
  outcomes : List Outcome
  stretch : Stretch job old new events outcomes
  records : Records events outcomes before after written now
  given : (sent given : List Event) (states : List State) → AreSent true job new (Tick ∷ sent) given states →
      AreSent true job old (Tick ∷ sent) (events ++ given) (stretch.states ++ states)
  begun : (sent given : List Event) (states : List State) → AreBegun true job new (Tick ∷ sent) given states →
      AreBegun true job old (Tick ∷ sent) (events ++ given) (stretch.states ++ states)

loaded_by : (job : Job) (s u : State) (a c : Recorder) (x z : Option (List ℕ)) (k : ℕ) → IsLoadedBy job s u a c x z (replicate k Load) k →
    IsLoaded job s u a c x z k
loaded_by job s u a c x z k p = record {
  few = p.few;
  outcomes = p.outcomes;
  stretch = p.stretch;
  records = p.records;
  given = p.given;
  begun = p.begun;
}

pub load_more : (job at : Job) (s t u : State) (a b c : Recorder) (x y z : Option (List ℕ)) (k : ℕ) (r : Reply) → at ≡ job → IsLoaded job s t a b x y k →
    Step at t Load (Ok r) u → GoesOn at t Load u → Records (Load ∷ []) (Ok r ∷ []) b c y z → k < 1024 → IsLoaded job s u a c x z (k + 1)
load_more job at s t u a b c x y z k r same p does goes recorded small =
    let S : Job → Type 0 = λ j. Step j t Load (Ok r) u in
    let G : Job → Type 0 = λ j. GoesOn j t Load u in
    let load : Step job t Load (Ok r) u = subst S same does in
    let one : Stretch job t u (Load ∷ []) (Ok r ∷ []) = one_step job t u Load (Ok r) load (subst G same goes) in
    let possible : can_load job t ≡ true = (load_taken job t r u load).possible in
    let both = stretches_joined job s t u (replicate k Load) (Load ∷ []) p.outcomes (Ok r ∷ []) p.stretch one in
    let more : replicate k Load ++ Load ∷ [] ≡ replicate (k + 1) Load = replicate_more k Load in
    let states : List State → List State = λ l. p.stretch.states ++ (u ∷ l) in
    let R : List Event → Type 0 = λ es. Records es (p.outcomes ++ Ok r ∷ []) a c x z in
    with_events job s u a c x z k (p.outcomes ++ Ok r ∷ []) (replicate k Load ++ Load ∷ []) more (omega (arith, small)) both
    (records_joined (replicate k Load) (Load ∷ []) p.outcomes (Ok r ∷ []) a b c x y z p.records recorded)
    (λ sent given ys g.
    let E : List Event → Type 0 = λ es. AreSent true job s (Tick ∷ sent) es (p.stretch.states ++ (u ∷ ys)) in
    let Y : List State → Type 0 = λ l. AreSent true job s (Tick ∷ sent) ((replicate k Load ++ Load ∷ []) ++ given) l in
    subst Y (sym (append_assoc p.stretch.states (u ∷ []) ys))
    (subst E (one_behind k given) (p.given sent (Load ∷ given) (u ∷ ys) (load_gives job t u sent given ys possible g))))
    (λ sent given ys g.
    let E : List Event → Type 0 = λ es. AreBegun true job s (Tick ∷ sent) es (p.stretch.states ++ (u ∷ ys)) in
    let Y : List State → Type 0 = λ l. AreBegun true job s (Tick ∷ sent) ((replicate k Load ++ Load ∷ []) ++ given) l in
    subst Y (sym (append_assoc p.stretch.states (u ∷ []) ys))
    (subst E (one_behind k given) (p.begun sent (Load ∷ given) (u ∷ ys) (load_begins job t u sent given ys possible g))))
  where
    with_events : (job : Job) (s u : State) (a c : Recorder) (x z : Option (List ℕ)) (k : ℕ) (outcomes : List Outcome) (events : List Event) →
        events ≡ replicate (k + 1) Load → k + 1 ≤ 1024 → (stretch : Stretch job s u events outcomes) → Records events outcomes a c x z →
        ((sent given : List Event) (states : List State) → AreSent true job u (Tick ∷ sent) given states →
        AreSent true job s (Tick ∷ sent) (events ++ given) (stretch.states ++ states)) →
        ((sent given : List Event) (states : List State) → AreBegun true job u (Tick ∷ sent) given states →
        AreBegun true job s (Tick ∷ sent) (events ++ given) (stretch.states ++ states)) → IsLoaded job s u a c x z (k + 1)
    with_events job s u a c x z k outcomes events is few stretch records given begun =
        let E : List Event → Type 0 = λ es. IsLoadedBy job s u a c x z es (k + 1) in
        loaded_by job s u a c x z (k + 1) (subst E is (record {
          few = few;
          outcomes = outcomes;
          stretch = stretch;
          records = records;
          given = given;
          begun = begun;
        }))

-- ---- a tick after loads

pub tick_fed : (job at : Job) (s t u : State) (a b c : Recorder) (x y z : Option (List ℕ)) (k : ℕ) (o : Outcome) → at ≡ job → IsLoaded job s t a b x y k →
    can_load job t ≡ false → Step at t Tick o u → GoesOn at t Tick u → Records (Tick ∷ []) (o ∷ []) b c y z →
    IsFed true job s u a c x z (Tick ∷ [])
tick_fed job at s t u a b c x y z k o same p full does goes recorded =
    let S : Job → Type 0 = λ j. Step j t Tick o u in
    let G : Job → Type 0 = λ j. GoesOn j t Tick u in
    let one : Stretch job t u (Tick ∷ []) (o ∷ []) = one_step job t u Tick o (subst S same does) (subst G same goes) in
    record {
      given = replicate k Load ++ Tick ∷ [];
      outcomes = p.outcomes ++ o ∷ [];
      stretch = stretches_joined job s t u (replicate k Load) (Tick ∷ []) p.outcomes (o ∷ []) p.stretch one;
      are_sent = p.given [] (Tick ∷ []) (u ∷ []) (match_false _ (loads_first true job t Tick) full (refl, tt));
      records = records_joined (replicate k Load) (Tick ∷ []) p.outcomes (o ∷ []) a b c x y z p.records recorded;
    }

pub tick_cut : (job at : Job) (s t u : State) (a b : Recorder) (x y z : Option (List ℕ)) (k : ℕ) (o : Outcome) → at ≡ job → IsLoaded job s t a b x y k →
    can_load job t ≡ false → Step at t Tick o u → GoesOn at t Tick u → AppendsPrefix y z (b.chunk ++ next_text b (o ∷ [])) →
    IsFedShort true job s a x z (Tick ∷ [])
tick_cut job at s t u a b x y z k o same p full does goes wrote =
    let S : Job → Type 0 = λ j. Step j t Tick o u in
    let G : Job → Type 0 = λ j. GoesOn j t Tick u in
    let one : Stretch job t u (Tick ∷ []) (o ∷ []) = one_step job t u Tick o (subst S same does) (subst G same goes) in
    record {
      given = replicate k Load ++ Tick ∷ [];
      outcomes = p.outcomes ++ o ∷ [];
      reached = u;
      stretch = stretches_joined job s t u (replicate k Load) (Tick ∷ []) p.outcomes (o ∷ []) p.stretch one;
      are_begun = p.begun [] (Tick ∷ []) (u ∷ []) (match_false _ (loads_first true job t Tick) full (refl, tt));
      begun = begun_behind (replicate k Load) p.outcomes (o ∷ []) a b x y z p.records wrote;
    }

-- a load that comes before it, and then a write fails
pub load_cut : (job at : Job) (s t u : State) (a b : Recorder) (x y z : Option (List ℕ)) (k : ℕ) (r : Reply) → at ≡ job → IsLoaded job s t a b x y k →
    Step at t Load (Ok r) u → GoesOn at t Load u → AppendsPrefix y z (b.chunk ++ next_text b (Ok r ∷ [])) →
    IsFedShort true job s a x z (Tick ∷ [])
load_cut job at s t u a b x y z k r same p does goes wrote =
    let S : Job → Type 0 = λ j. Step j t Load (Ok r) u in
    let G : Job → Type 0 = λ j. GoesOn j t Load u in
    let load : Step job t Load (Ok r) u = subst S same does in
    let one : Stretch job t u (Load ∷ []) (Ok r ∷ []) = one_step job t u Load (Ok r) load (subst G same goes) in
    record {
      given = replicate k Load ++ Load ∷ [];
      outcomes = p.outcomes ++ Ok r ∷ [];
      reached = u;
      stretch = stretches_joined job s t u (replicate k Load) (Load ∷ []) p.outcomes (Ok r ∷ []) p.stretch one;
      are_begun = p.begun [] (Load ∷ []) (u ∷ []) (load_begins job t u [] [] [] (load_taken job t r u load).possible tt);
      begun = begun_behind (replicate k Load) p.outcomes (Ok r ∷ []) a b x y z p.records wrote;
    }

-- ---- the size of the counts

pub few_loaded : (job : Job) (s t : State) (a b : Recorder) (x y : Option (List ℕ)) (k n m : ℕ) → IsLoaded job s t a b x y k → HasFew n a → n + 1024 ≤ m → HasFew m b
few_loaded job s t a b x y k n m p few h =
    few_recorded a b x y (replicate k Load) p.outcomes n m p.records (same_lengths job s (replicate k Load) p.outcomes p.stretch.states p.stretch.runs) few
    (omega (arith, h, p.few, length-replicate k Load))

pub few_with_tick : (job : Job) (s t : State) (a b c : Recorder) (x y z : Option (List ℕ)) (k : ℕ) (o : Outcome) (n : ℕ) → IsLoaded job s t a b x y k →
    Records (Tick ∷ []) (o ∷ []) b c y z → HasFew n a → HasFew (n + 2048) c
few_with_tick job s t a b c x y z k o n p recorded few =
    few_recorded b c y z (Tick ∷ []) (o ∷ []) (n + 1024) (n + 2048) recorded refl (few_loaded job s t a b x y k n (n + 1024) p few (omega arith)) (omega arith)

-- ---- the same at another controller's job and state

pub loaded_still : (job : Job) (s t u : State) (a b : Recorder) (x y : Option (List ℕ)) (k : ℕ) → u ≡ t → IsLoaded job s t a b x y k → IsLoaded job s u a b x y k
loaded_still job s t u a b x y k same p = subst (λ (v : State). IsLoaded job s v a b x y k) (sym same) p

pub full_now : (job at : Job) (t u : State) (e : EventFault) → at ≡ job → u ≡ t → Step at t Load (Err e) u → can_load job u ≡ false
full_now job at t u e same still p =
    ap (λ (v : State). can_load job v) still ∙ ap (λ (j : Job). can_load j t) (sym same) ∙ load_refused at t e u p

pub ring_full_now : (job at : Job) (s : State) (n k : ℕ) → at ≡ job → n ≡ at.machine.ring → n ≤ k → k ≤ length s.ring → can_load job s ≡ false
ring_full_now job at s n k same is few h = ring_full job s (omega (arith, is, few, h, ap (λ (j : Job). j.machine.ring) same))

pub ring_longer : (at : Job) (s t : State) (r : Reply) → Step at s Load (Ok r) t → length t.ring ≡ length s.ring + 1
ring_longer at s t r p = (load_taken at s r t p).longer

-- ---- ticks, in order

pub ticks_more : (job at : Job) (s t u : State) (a b c : Recorder) (x y z : Option (List ℕ)) (k : ℕ) → at ≡ job → IsFed true job s t a b x y (replicate k Tick) →
    IsFed true at t u b c y z (Tick ∷ []) → IsFed true job s u a c x z (replicate (k + 1) Tick)
ticks_more job at s t u a b c x y z k same p q =
    let J : Job → Type 0 = λ j. IsFed true j t u b c y z (Tick ∷ []) in
    subst (λ es. IsFed true job s u a c x z es) (replicate_more k Tick) (fed_both true job s t u a b c x y z (replicate k Tick) (Tick ∷ []) p (subst J same q))

pub ticks_cut : (job at : Job) (s t : State) (a b : Recorder) (x y z : Option (List ℕ)) (k n : ℕ) → at ≡ job → k < n →
    IsFed true job s t a b x y (replicate k Tick) → IsFedShort true at t b y z (Tick ∷ []) → IsFedShort true job s a x z (replicate n Tick)
ticks_cut job at s t a b x y z k n same h p q =
    let J : Job → Type 0 = λ j. IsFedShort true j t b y z (Tick ∷ []) in
    subst (λ es. IsFedShort true job s a x z es) (turns_left Tick k n h)
    (fed_cut true job s t a b x y z (replicate k Tick) (Tick ∷ []) (replicate (n - k - 1) Tick) p (subst J same q))

pub ticks_all : (job : Job) (s t : State) (a b : Recorder) (x y : Option (List ℕ)) (k n : ℕ) → k ≤ n → n ≤ k → IsFed true job s t a b x y (replicate k Tick) →
    IsFed true job s t a b x y (replicate n Tick)
ticks_all job s t a b x y k n h l p =
    let same : k ≡ n = omega (arith, h, l) in
    subst (λ m. IsFed true job s t a b x y (replicate m Tick)) same p

-- ---- a line

tick_and : (e : Event) (b : Bool) → (is_tick e && b) ≡ true → (e ≡ Tick) × (b ≡ true)
tick_and Tick b h = (refl, h)
tick_and Load b h = let bad : false ≡ true = h in cc
tick_and Hold b h = let bad : false ≡ true = h in cc
tick_and Resume b h = let bad : false ≡ true = h in cc
tick_and (Override n) b h = let bad : false ≡ true = h in cc
tick_and (StopSwitch on) b h = let bad : false ≡ true = h in cc
tick_and Start b h = let bad : false ≡ true = h in cc

pub line_fed : (feeds : Bool) (job : Job) (s t : State) (a b : Recorder) (x y : Option (List ℕ)) (e : Event) (n : ℕ) → (is_tick e && feeds) ≡ true →
    IsFed true job s t a b x y (replicate n Tick) → IsFed feeds job s t a b x y (replicate n e)
line_fed feeds job s t a b x y e n is p =
    let both = tick_and e feeds is in
    subst (λ k. IsFed k job s t a b x y (replicate n e)) (sym both.1) (subst (λ k. IsFed true job s t a b x y (replicate n k)) (sym both.0) p)

pub line_fed_short : (feeds : Bool) (job : Job) (s : State) (a : Recorder) (x y : Option (List ℕ)) (e : Event) (n : ℕ) → (is_tick e && feeds) ≡ true →
    IsFedShort true job s a x y (replicate n Tick) → IsFedShort feeds job s a x y (replicate n e)
line_fed_short feeds job s a x y e n is p =
    let both = tick_and e feeds is in
    subst (λ k. IsFedShort k job s a x y (replicate n e)) (sym both.1) (subst (λ k. IsFedShort true job s a x y (replicate n k)) (sym both.0) p)
