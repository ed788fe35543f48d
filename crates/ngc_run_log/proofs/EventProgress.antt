-- One more event of a line, and one more line.
use Rattle.std.proofs.Common.{◌≡◌, ◌+◌, ◌-◌, ◌<◌, ◌≤◌, ℕ, List, [], ◌∷◌, ◌++◌, length, replicate, take, drop, get_or, Option, ap, sym, subst, ◌∙◌, arith}
use Rattle.std.proofs.lemmas.List.{append-nil, length-replicate, replicate_more, replicate-append-replicate, take_more, take-append-drop, drop_more}
use Rattle.std.proofs.lemmas.Grind.{flat_map-append}
use Rattle.ngc_text.specs.Written.{AppendsPrefix}
use Rattle.ngc_events.specs.declared.event.Event.{Event}
use Rattle.ngc_events.specs.declared.event.EventLine.{EventLine}
use Rattle.ngc_machine_model.specs.State.{Job, State}
use Rattle.ngc_machine_model.specs.Step.{Outcome, Step}
use Rattle.ngc_machine_model.specs.Run.{events_of}
use Rattle.ngc_machine_model.specs.Progress.{GoesOn}
use Rattle.ngc_run_through.specs.declared.recorder.Recorder.{Recorder}
use Rattle.ngc_run_through.specs.Recording.{HasFew, Records, IsRecorded, IsCutShort, next_text}
use Rattle.ngc_run_through.proofs.RunParts.{recorded_both, cut_after, one_recorded, one_cut, few_more}

-- ---- one more event of a line

pub turn_recorded : (job at : Job) (s t u : State) (a b c : Recorder) (x y z : Option (List ℕ)) (e : Event) (o : Outcome) (k : ℕ) → at ≡ job
    → IsRecorded job s t a b x y (replicate k e) → Step at t e o u → GoesOn at t e u → Records (e ∷ []) (o ∷ []) b c y z
    → IsRecorded job s u a c x z (replicate (k + 1) e)
turn_recorded job at s t u a b c x y z e o k same done does goes recorded =
    let S : Job → Type 0 = λ j. Step j t e o u in
    let G : Job → Type 0 = λ j. GoesOn j t e u in
    let P : List Event → Type 0 = λ es. IsRecorded job s u a c x z es in
    subst P (replicate_more k e)
    (recorded_both job s t u a b c x y z (replicate k e) (e ∷ []) done (one_recorded job t u b c y z e o (subst S same does) (subst G same goes) recorded))

pub turns_left : (e : Event) (k n : ℕ) → k < n → replicate k e ++ (replicate 1 e ++ replicate (n - k - 1) e) ≡ replicate n e
turns_left e k n h =
    let more : 1 + (n - k - 1) ≡ n - k = omega arith in
    let all : k + (n - k) ≡ n = omega arith in
    ap (λ l. replicate k e ++ l) (replicate-append-replicate 1 (n - k - 1) e ∙ ap (λ m. replicate m e) more) ∙ replicate-append-replicate k (n - k) e
    ∙ ap (λ m. replicate m e) all

pub turn_cut : (job at : Job) (s t u : State) (a b : Recorder) (x y z : Option (List ℕ)) (e : Event) (o : Outcome) (k n : ℕ) → at ≡ job → k < n
    → IsRecorded job s t a b x y (replicate k e) → Step at t e o u → GoesOn at t e u → AppendsPrefix y z (b.chunk ++ next_text b (o ∷ [])) →
    IsCutShort job s a x z (replicate n e)
turn_cut job at s t u a b x y z e o k n same h done does goes wrote =
    let S : Job → Type 0 = λ j. Step j t e o u in
    let G : Job → Type 0 = λ j. GoesOn j t e u in
    let P : List Event → Type 0 = λ es. IsCutShort job s a x z es in
    subst P (turns_left e k n h)
    (cut_after job s t a b x y z (replicate k e) (e ∷ []) (replicate (n - k - 1) e) done
    (one_cut job t u b y z e o (subst S same does) (subst G same goes) wrote))

-- and immediately following ones
pub turns_recorded : (job at now : Job) (s t u v : State) (a b c d : Recorder) (x y z : Option (List ℕ)) (e : Event) (o : Outcome) (k n m : ℕ) → at ≡ job
    → IsRecorded job s t a b x y (replicate k e) → Step at t e o u → GoesOn at t e u → Records (e ∷ []) (o ∷ []) b c y z → now ≡ at →
    IsRecorded now u v c d z z (replicate n e) → k + 1 + n ≡ m
    → IsRecorded job s v a d x z (replicate m e)
turns_recorded job at now s t u v a b c d x y z e o k n m same done does goes recorded still others all =
    let J : Job → Type 0 = λ j. IsRecorded j u v c d z z (replicate n e) in
    let P : List Event → Type 0 = λ es. IsRecorded job s v a d x z es in
    subst P (replicate-append-replicate (k + 1) n e ∙ ap (λ i. replicate i e) all)
    (recorded_both job s u v a c d x z z (replicate (k + 1) e) (replicate n e) (turn_recorded job at s t u a b c x y z e o k same done does goes recorded)
    (subst J (still ∙ same) others))

pub few_turns : (job : Job) (s t : State) (a b : Recorder) (x y : Option (List ℕ)) (e : Event) (k n m : ℕ) → IsRecorded job s t a b x y (replicate k e) →
    HasFew n a → n + k ≤ m → HasFew m b
few_turns job s t a b x y e k n m done few h = few_more job s t a b x y (replicate k e) n m done few (omega (arith, length-replicate k e))

-- ---- one more line

-- the events of a line
abbrev pub of_line : EventLine → List Event
of_line line = replicate line.times line.event

events_more : (lines : List EventLine) (i : ℕ) (d : EventLine) → i < length lines →
    events_of (take i lines) ++ of_line (get_or lines i d) ≡ events_of (take (i + 1) lines)
events_more lines i d h =
    let line : EventLine = get_or lines i d in
    ap (λ l. events_of (take i lines) ++ l) (sym (append-nil (of_line line))) ∙ sym (flat_map-append of_line (take i lines) (line ∷ []))
    ∙ ap events_of (sym (take_more lines i d h))

events_left : (lines : List EventLine) (i : ℕ) (d : EventLine) → i < length lines →
    events_of (take i lines) ++ (of_line (get_or lines i d) ++ events_of (drop (i + 1) lines)) ≡ events_of lines
events_left lines i d h =
    ap (λ l. events_of (take i lines) ++ events_of l) (sym (drop_more lines i d h)) ∙ sym (flat_map-append of_line (take i lines) (drop i lines))
    ∙ ap events_of (take-append-drop i lines)

pub line_recorded : (job at : Job) (s t u : State) (a b c : Recorder) (x y z : Option (List ℕ)) (lines : List EventLine) (i : ℕ) (d : EventLine) → at ≡ job →
    i < length lines
    → IsRecorded job s t a b x y (events_of (take i lines)) → IsRecorded at t u b c y z (of_line (get_or lines i d)) →
    IsRecorded job s u a c x z (events_of (take (i + 1) lines))
line_recorded job at s t u a b c x y z lines i d same h done next =
    let line : List Event = of_line (get_or lines i d) in
    let J : Job → Type 0 = λ j. IsRecorded j t u b c y z line in
    let P : List Event → Type 0 = λ es. IsRecorded job s u a c x z es in
    subst P (events_more lines i d h) (recorded_both job s t u a b c x y z (events_of (take i lines)) line done (subst J same next))

pub line_cut : (job at : Job) (s t : State) (a b : Recorder) (x y z : Option (List ℕ)) (lines : List EventLine) (i : ℕ) (d : EventLine) → at ≡ job →
    i < length lines
    → IsRecorded job s t a b x y (events_of (take i lines)) → IsCutShort at t b y z (of_line (get_or lines i d)) → IsCutShort job s a x z (events_of lines)
line_cut job at s t a b x y z lines i d same h done cut =
    let line : List Event = of_line (get_or lines i d) in
    let J : Job → Type 0 = λ j. IsCutShort j t b y z line in
    let P : List Event → Type 0 = λ es. IsCutShort job s a x z es in
    subst P (events_left lines i d h) (cut_after job s t a b x y z (events_of (take i lines)) line (events_of (drop (i + 1) lines)) done (subst J same cut))
