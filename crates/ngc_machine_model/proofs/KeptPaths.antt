-- A loaded command that reaches the head keeps its path.
use Rattle.std.proofs.Common.{◌≡◌, ◌⊎◌, inl, inr, ℕ, zero, suc, ◌+◌, ◌-◌, ◌≤◌, ap, subst, sym, ◌∙◌, arith, refl, List, [], ◌∷◌, ◌++◌, length, drop, Some}
use Rattle.std.specs.Prelude.{slice_get, Any}
use Rattle.std.specs.List.{AllByRecursion}
use Rattle.std.proofs.lemmas.List.Elements.{All-from_recursion}
use Rattle.ngc_events.specs.declared.event.Event.{Event}
use Rattle.ngc_machine_model.specs.State.{Job, Queued, State, opening, command_at}
use Rattle.ngc_machine_model.specs.Step.{Outcome, MayTake}
use Rattle.ngc_machine_model.specs.Run.{Run}
use Rattle.ngc_machine_model.specs.Progress.{IsHead, BecomesHead}
use Rattle.ngc_machine_model.specs.Headline.{KeepPaths}
use Rattle.ngc_machine_model.proofs.Rings.{RingAfter, stays, grows, shrinks, ring_after}

-- ---- lists

get_more : (xs ys : List Queued) (i : ℕ) (x : Queued) → slice_get xs i ≡ Some x → slice_get (xs ++ ys) i ≡ Some x
get_more [] ys i x e = cc
get_more (y ∷ xs) ys zero x e = e
get_more (y ∷ xs) ys (suc i) x e = get_more xs ys i x e

get_next : (xs : List Queued) (i : ℕ) → slice_get (drop 1 xs) i ≡ slice_get xs (suc i)
get_next [] i = refl
get_next (x ∷ xs) i = refl

get_cases : (xs : List Queued) (x : Queued) (i : ℕ) (l : Queued) → slice_get (xs ++ x ∷ []) i ≡ Some l → (slice_get xs i ≡ Some l) ⊎ ((i ≡ length xs) × (x ≡ l))
get_cases [] x zero l e = inr (refl, cc)
get_cases [] x (suc i) l e = cc
get_cases (y ∷ xs) x zero l e = inl e
get_cases (y ∷ xs) x (suc i) l e = elim (get_cases xs x i l e) [ inl g ↦ inl g | inr g ↦ inr (omega (arith, g.0), g.1) ]

any_cases : (P : State → Type 0) (s : State) (states : List State) → Any P (s ∷ states) → P s ⊎ Any P states
any_cases P s states (zero, x, lt, e, p) = inl (subst P (sym e) p)
any_cases P s states (suc i, x, lt, e, p) = inr (i, x, omega (arith, lt), e, p)

at_any : (P Q : State → Type 0) (states : List State) → AllByRecursion P states → Any Q states → (s : State) × P s × Q s
at_any P Q states h (i, s, lt, e, q) = (s, subst P e (All-from_recursion P states h i s lt), q)

-- ---- until it is done, command k is the one that was loaded

abbrev IsKnown : ℕ → Queued → State → Type 0
IsKnown k l s = s.done ≤ k → slice_get s.ring (k - s.done) ≡ Some l

stays_known : (job : Job) (old new : State) (k : ℕ) (l : Queued) → RingAfter job old new → IsKnown k l old → IsKnown k l new
stays_known job old new k l (stays e) h = λ le. let d = e.0 in
    ap (λ xs. slice_get xs (k - new.done)) e.1 ∙ ap (λ n. slice_get old.ring (k - n)) d ∙ h (omega (arith, d, le))
stays_known job old new k l (grows g) h = λ le. let d = g.done in
    ap (λ xs. slice_get xs (k - new.done)) g.ring ∙ ap (λ n. slice_get (old.ring ++ record { command = g.command; path = g.path } ∷ []) (k - n)) d
    ∙ get_more old.ring (record { command = g.command; path = g.path } ∷ []) (k - old.done) l (h (omega (arith, d, le)))
stays_known job old new k l (shrinks e) h = λ le. let d = e.0 in
    let n : suc (k - new.done) ≡ k - old.done = omega (arith, d, le) in
    ap (λ xs. slice_get xs (k - new.done)) e.1 ∙ get_next old.ring (k - new.done) ∙ ap (slice_get old.ring) n ∙ h (omega (arith, d, le))

all_known : (job : Job) (old : State) (es : List Event) (os : List Outcome) (states : List State) (k : ℕ) (l : Queued) → Run job old es os states →
    IsKnown k l old →
    AllByRecursion (IsKnown k l) states
all_known job old [] [] [] k l r h = tt
all_known job old [] [] (new ∷ states) k l r h = absurd r
all_known job old [] (o ∷ os) states k l r h = absurd r
all_known job old (e ∷ es) [] states k l r h = absurd r
all_known job old (e ∷ es) (o ∷ os) [] k l r h = absurd r
all_known job old (e ∷ es) (o ∷ os) (new ∷ states) k l r h =
    let next = stays_known job old new k l (ring_after job old e o new r.0) h in (next, all_known job new es os states k l r.1 next)

head_known : (k : ℕ) (l : Queued) (s : State) → IsHead k l s → IsKnown k l s
head_known k l s h = λ le. let d = h.0 in let z : k - s.done ≡ 0 = omega (arith, d) in ap (slice_get s.ring) z ∙ h.1

known_head : (k : ℕ) (l m : Queued) (s : State) → IsKnown k l s → IsHead k m s → m ≡ l
known_head k l m s known h =
    let d = h.0 in
    let z : 0 ≡ k - s.done = omega (arith, d) in
    let e : Some m ≡ Some l = sym h.1 ∙ ap (slice_get s.ring) z ∙ known (omega (arith, d)) in cc

no_other : (job : Job) (k : ℕ) (l m : Queued) (old : State) (es : List Event) (os : List Outcome) (states : List State) → Run job old es os states →
    BecomesHead k l states → BecomesHead k m states → m ≡ l
no_other job k l m old es os [] r a b = absurd (omega (arith, a.2))
no_other job k l m old [] [] (new ∷ states) r a b = absurd r
no_other job k l m old [] (o ∷ os) (new ∷ states) r a b = absurd r
no_other job k l m old (e ∷ es) [] (new ∷ states) r a b = absurd r
no_other job k l m old (e ∷ es) (o ∷ os) (new ∷ states) r a b =
    elim (any_cases (IsHead k l) new states a) [
      | inl now ↦ agree k l m new states (head_known k l new now, all_known job new es os states k l r.1 (head_known k l new now)) b
      | inr later ↦ elim (any_cases (IsHead k m) new states b) [
        | inl now ↦ sym (agree k m l new states (head_known k m new now, all_known job new es os states k m r.1 (head_known k m new now)) a)
        | inr both ↦ no_other job k l m new es os states r.1 later both
      ]
    ]
  where
    agree : (k : ℕ) (l m : Queued) (s : State) (states : List State) → AllByRecursion (IsKnown k l) (s ∷ states) → BecomesHead k m (s ∷ states) → m ≡ l
    agree k l m s states h c = let x = at_any (IsKnown k l) (IsHead k m) (s ∷ states) h c in known_head k l m x.0 x.1 x.2

-- ---- the loaded commands are the job's, on paths that they may take

pub record IsLoadedAs (job : Job) (k : ℕ) (l : Queued) : Type 0 where
  pub command : command_at job k ≡ Some l.command
  pub path : MayTake job l.command.action l.path

abbrev AreCommands : Job → State → Type 0
AreCommands job s = (i : ℕ) (l : Queued) → slice_get s.ring i ≡ Some l → IsLoadedAs job (s.done + i) l

stay_commands : (job : Job) (old new : State) → RingAfter job old new → AreCommands job old → AreCommands job new
stay_commands job old new (stays e) h = λ i l at.
    subst (λ n. IsLoadedAs job (n + i) l) (sym e.0) (h i l (ap (λ xs. slice_get xs i) (sym e.1) ∙ at))
stay_commands job old new (grows g) h = λ i l at.
    subst (λ n. IsLoadedAs job (n + i) l) (sym g.done)
    (elim (get_cases old.ring (record { command = g.command; path = g.path }) i l (ap (λ xs. slice_get xs i) (sym g.ring) ∙ at)) [
      | inl was ↦ h i l was
      | inr is ↦ subst (λ m. IsLoadedAs job (old.done + i) m) is.1
          (subst (λ n. IsLoadedAs job (old.done + n) (record { command = g.command; path = g.path })) (sym is.0) (record { command = g.next; path = g.takes }))
    ])
stay_commands job old new (shrinks e) h = λ i l at.
    let n : old.done + suc i ≡ new.done + i = let d = e.0 in omega (arith, d) in
    subst (λ n. IsLoadedAs job n l) n (h (suc i) l (sym (get_next old.ring i) ∙ ap (λ xs. slice_get xs i) (sym e.1) ∙ at))

all_commands : (job : Job) (old : State) (es : List Event) (os : List Outcome) (states : List State) → Run job old es os states → AreCommands job old →
    AllByRecursion (AreCommands job) states
all_commands job old [] [] [] r h = tt
all_commands job old [] [] (new ∷ states) r h = absurd r
all_commands job old [] (o ∷ os) states r h = absurd r
all_commands job old (e ∷ es) [] states r h = absurd r
all_commands job old (e ∷ es) (o ∷ os) [] r h = absurd r
all_commands job old (e ∷ es) (o ∷ os) (new ∷ states) r h =
    let next = stay_commands job old new (ring_after job old e o new r.0) h in (next, all_commands job new es os states r.1 next)

none_loaded : (job : Job) → AreCommands job (opening job.machine)
none_loaded job i l e = cc

loaded_as : (job : Job) (es : List Event) (os : List Outcome) (states : List State) (k : ℕ) (l : Queued) → Run job (opening job.machine) es os states →
    BecomesHead k l states → IsLoadedAs job k l
loaded_as job es os states k l r c =
    let x = at_any (AreCommands job) (IsHead k l) states (all_commands job (opening job.machine) es os states r (none_loaded job)) c in
    let d = x.2.0 in
    let n : x.0.done + 0 ≡ k = omega (arith, d) in
    subst (λ n. IsLoadedAs job n l) n (x.1 0 l x.2.1)

pub keep_paths : KeepPaths
keep_paths job es os states r k l c =
    let is = loaded_as job es os states k l r c in
    record {
      command = is.command;
      path = is.path;
      no_other = λ m d. no_other job k l m (opening job.machine) es os states r c d;
    }
