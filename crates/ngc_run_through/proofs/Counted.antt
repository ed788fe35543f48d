-- Outcomes by the counts of motors.
use Rattle.std.proofs.Common.{◌≡◌, ℕ, suc, ℤ, List, [], ◌∷◌, ◌++◌, length, Option, Some, None, Ok, Err, Bool, true, false, refl, ap, sym, ◌∙◌}
use Rattle.std.specs.Prelude.{◌&&◌, if◌then◌else◌, unsigned_abs}
use Rattle.std.specs.Ordering.{int_eq}
use Rattle.std.proofs.lemmas.Bool.{and_parts}
use Rattle.std.proofs.lemmas.Bool.Decides.{Decides-int_eq}
use Rattle.std.proofs.lemmas.List.{map-append}
use Rattle.ngc_fixed_length.specs.declared.points.StepPos.{StepPos}
use Rattle.ngc_motors.specs.Counts.{MotorData, counts, whole_step}
use Rattle.ngc_motors.specs.declared.step.MotorStep.{MotorStep}
use Rattle.ngc_events.specs.declared.reply.Reply.TheVariants.{Loaded, Ticked, Held, Resumed, Overridden, Switched, Started}
use Rattle.ngc_machine_model.specs.Step.{Outcome}
use Rattle.ngc_machine_model.specs.Run.{position_in, positions}
use Rattle.ngc_pulses.specs.declared.samples.Switch.{Switch}
use Rattle.ngc_pulses.specs.Sampling.{SampleTick, switches_of}
use Rattle.ngc_fixed_length.specs.Length.{IsStep}
use Rattle.ngc_motors.proofs.Sizes.{count_same, whole_is_grid}
use Rattle.ngc_run_through.specs.Counting.{EqualMotorsKeep, counted, counted_outcome, equal_motors, is_same, last_position}
use Rattle.ngc_run_through.specs.Tracing.{sample_in, samples_in, switches_in, tick_in}

-- ---- positions

pub last_position-append : (p : StepPos) (xs ys : List StepPos) → last_position p (xs ++ ys) ≡ last_position (last_position p xs) ys
last_position-append p [] ys = refl
last_position-append p (x ∷ xs) ys = last_position-append x xs ys

point_is : (p q : StepPos) → p.x ≡ q.x → p.y ≡ q.y → p.z ≡ q.z → p ≡ q
point_is p q x y z =
    let X : ℤ → StepPos = λ i. record { x = i; y = p.y; z = p.z } in
    let Y : ℤ → StepPos = λ i. record { x = q.x; y = i; z = p.z } in
    let Z : ℤ → StepPos = λ i. record { x = q.x; y = q.y; z = i } in
    ap X x ∙ ap Y y ∙ ap Z z

-- the same coordinates are the same point
pub same_place : (p q : StepPos) → is_same p q ≡ true → p ≡ q
same_place p q h =
    let (x, yz) = and_parts (int_eq p.x q.x) (int_eq p.y q.y && int_eq p.z q.z) h in
    let (y, z) = and_parts (int_eq p.y q.y) (int_eq p.z q.z) yz in
    point_is p q ((Decides-int_eq p.x q.x).0 x) ((Decides-int_eq p.y q.y).0 y) ((Decides-int_eq p.z q.z).0 z)

-- ---- lists of outcomes

pub counted-append : (m : MotorData) (p : StepPos) (os ps : List Outcome) →
    counted m p (os ++ ps) ≡ counted m p os ++ counted m (last_position p (positions os)) ps
counted-append m p [] ps = refl
counted-append m p (o ∷ os) ps =
    let next : StepPos = last_position p (position_in o) in
    ap (λ l. counted_outcome m p o ∷ l)
    (counted-append m next os ps ∙ ap (λ q. counted m next os ++ counted m q ps) (sym (last_position-append p (position_in o) (positions os))))

pub counted-length : (m : MotorData) (p : StepPos) (os : List Outcome) → length (counted m p os) ≡ length os
counted-length m p [] = refl
counted-length m p (o ∷ os) = ap suc (counted-length m (last_position p (position_in o)) os)

-- ---- what is switched

switch_kept : (list : List Switch) (m : MotorData) (p : StepPos) (o : Outcome) →
    switches_of (sample_in list (counted_outcome m p o)) ≡ switches_of (sample_in list o)
switch_kept list m p (Ok (Ticked position ending)) = refl
switch_kept list m p (Ok (Loaded k)) = refl
switch_kept list m p (Ok Held) = refl
switch_kept list m p (Ok Resumed) = refl
switch_kept list m p (Ok (Overridden n)) = refl
switch_kept list m p (Ok (Switched on)) = refl
switch_kept list m p (Ok Started) = refl
switch_kept list m p (Err e) = refl

pub switches_kept : (list : List Switch) (m : MotorData) (p : StepPos) (os : List Outcome) → switches_in list (counted m p os) ≡ switches_in list os
switches_kept list m p [] = refl
switches_kept list m p (o ∷ os) =
    let next : StepPos = last_position p (position_in o) in
    map-append (λ (t : SampleTick). t.switch) (sample_in list (counted_outcome m p o)) (samples_in list (counted m next os))
    ∙ ap (λ l. l ++ switches_in list (counted m next os)) (switch_kept list m p o)
    ∙ ap (λ l. switches_of (sample_in list o) ++ l) (switches_kept list m next os)
    ∙ sym (map-append (λ (t : SampleTick). t.switch) (sample_in list o) (samples_in list os))

-- ---- an event that is no tick

pub still_counted : (m : MotorData) (p : StepPos) (o : Outcome) → tick_in o ≡ [] → (tick_in (counted_outcome m p o) ≡ []) × (position_in o ≡ [])
still_counted m p (Ok (Ticked position ending)) h = cc
still_counted m p (Ok (Loaded k)) h = (refl, refl)
still_counted m p (Ok Held) h = (refl, refl)
still_counted m p (Ok Resumed) h = (refl, refl)
still_counted m p (Ok (Overridden n)) h = (refl, refl)
still_counted m p (Ok (Switched on)) h = (refl, refl)
still_counted m p (Ok Started) h = (refl, refl)
still_counted m p (Err e) h = (refl, refl)

-- ---- motors that all have the grid's step

same_counts : (step : ℤ) (p : StepPos) → IsStep step → counts (equal_motors step) p ≡ p
same_counts step p is =
    let m : MotorStep = whole_step (unsigned_abs step) in
    let same = whole_is_grid step is in
    let x = count_same p.x step m is same in
    let y = count_same p.y step m is same in
    let z = count_same p.z step m is same in
    point_is (counts (equal_motors step) p) p x y z

kept_outcome : (step : ℤ) (p : StepPos) (o : Outcome) → IsStep step → ((q : StepPos) → position_in o ≡ q ∷ [] → is_same p q ≡ false) →
    counted_outcome (equal_motors step) p o ≡ o
kept_outcome step p (Ok (Ticked None ending)) is moves = refl
kept_outcome step p (Ok (Ticked (Some q) ending)) is moves =
    let F : StepPos → StepPos → Outcome = λ a b. Ok (Ticked (if is_same a b then None else Some b) ending) in
    let G : Bool → Outcome = λ b. Ok (Ticked (if b then None else Some q) ending) in
    ap (λ a. F a (counts (equal_motors step) q)) (same_counts step p is) ∙ ap (λ b. F p b) (same_counts step q is) ∙ ap G (moves q refl)
kept_outcome step p (Ok (Loaded k)) is moves = refl
kept_outcome step p (Ok Held) is moves = refl
kept_outcome step p (Ok Resumed) is moves = refl
kept_outcome step p (Ok (Overridden n)) is moves = refl
kept_outcome step p (Ok (Switched on)) is moves = refl
kept_outcome step p (Ok Started) is moves = refl
kept_outcome step p (Err e) is moves = refl

pub equal_law : EqualMotorsKeep
equal_law step p [] is moves = refl
equal_law step p (o ∷ os) is moves =
    let next : StepPos = last_position p (position_in o) in
    ap (λ (x : Outcome). x ∷ counted (equal_motors step) next os) (kept_outcome step p o is moves.0) ∙ ap (λ l. o ∷ l) (equal_law step next os is moves.1)
