-- Plain lines are executed in order, and their commands are lawful, whatever they are.
use Rattle.std.proofs.Common.{◌≡◌, List, [], ◌∷◌, ◌++◌, Bool, true, false, Result, Ok, Err, refl, sym, ◌∙◌, ap}
use Rattle.std.proofs.lemmas.Result.{IfOk-at_ok}
use Rattle.std.specs.Prelude.{IfOk, if◌then◌else◌}
use Rattle.ngc_fixed_length.specs.declared.points.Point3.{Point3}
use Rattle.ngc_canonical.specs.declared.fault.Fault.{Fault}
use Rattle.ngc_canonical.specs.State.{Setup, State, start_state}
use Rattle.ngc_canonical.specs.Steps.{◌>>=◌}
use Rattle.ngc_canonical.proofs.EndingLines.{start_open, words_left}
use Rattle.ngc_canonical.proofs.EndingSteps.{Left, left_open}
use Rattle.ngc_canonical.proofs.JoinedLines.{start_holds, words_hold}
use Rattle.ngc_canonical.proofs.JoinedMotions.{Holds, onward}
use Rattle.ngc_dialect_execution.specs.Executed.{PlainLine, execute_plain, executed}
use Rattle.ngc_dialect_execution.specs.Laws.{PlainLinesAreLawful, ListsAreInOrder}

executed_holds : (p : Point3) (setup : Setup) (lines : List PlainLine) (s : State) → Holds p s → IfOk (executed setup lines s) (Holds p)
unfolding executed
executed_holds p setup [] s h = h
executed_holds p setup (l ∷ ls) s h =
    by_ended s.ended
    (onward (Holds p) (Holds p) (execute_plain setup l s) (λ t. executed setup ls t) (words_hold p setup l.words (record s { line = l.line }) h)
    (λ t h_t. executed_holds p setup ls t h_t)) where
      by_ended : (b : Bool) → IfOk (execute_plain setup l s >>= λ t. executed setup ls t) (Holds p)
          → (let same : Result State Fault = Ok s in IfOk (if b then same else (execute_plain setup l s >>= λ t. executed setup ls t)) (Holds p))
      by_ended true on = h
      by_ended false on = on

executed_left : (setup : Setup) (lines : List PlainLine) (s : State) → Left s → IfOk (executed setup lines s) Left
unfolding executed
executed_left setup [] s h = h
executed_left setup (l ∷ ls) s h =
    by_ended s.ended refl
    (λ e. onward Left Left (execute_plain setup l s) (λ t. executed setup ls t)
    (words_left setup l.words (record s { line = l.line }) (record { running = e; no_end = h.no_end e }))
    (λ t h_t. executed_left setup ls t h_t)) where
      by_ended : (b : Bool) → s.ended ≡ b → (s.ended ≡ false → IfOk (execute_plain setup l s >>= λ t. executed setup ls t) Left)
          → (let same : Result State Fault = Ok s in IfOk (if b then same else (execute_plain setup l s >>= λ t. executed setup ls t)) Left)
      by_ended true e on = h
      by_ended false e on = on e

pub are_lawful : PlainLinesAreLawful
are_lawful setup lines s e =
    let holds : Holds setup.machine.start s =
    IfOk-at_ok (Holds setup.machine.start) e (executed_holds setup.machine.start setup lines (start_state setup.machine) (start_holds setup.machine)) in
    let left : Left s = IfOk-at_ok Left e (executed_left setup lines (start_state setup.machine) (left_open (start_state setup.machine) (start_open setup.machine))) in
    record { joined = holds.leads.joined; radii = holds.leads.radii; count = holds.few; ended = left.last; has_end = left.has_end }

-- ---- in order

-- after an end nothing is executed
stays : (setup : Setup) (lines : List PlainLine) (s : State) → s.ended ≡ true → executed setup lines s ≡ Ok s
unfolding executed
stays setup [] s e = refl
stays setup (l ∷ ls) s e = rw e refl

chained : (r : Result State Fault) (f g h : State → Result State Fault) → ((t : State) → f t ≡ (g t >>= h)) → (r >>= f) ≡ ((r >>= g) >>= h)
chained (Ok t) f g h same = same t
chained (Err e) f g h same = refl

pub in_order : ListsAreInOrder
unfolding executed
in_order setup [] rest s = refl
in_order setup (l ∷ first) rest s =
    by_ended s.ended refl
    (chained (execute_plain setup l s) (λ t. executed setup (first ++ rest) t) (λ t. executed setup first t) (λ t. executed setup rest t)
    (λ t. in_order setup first rest t)) where
      by_ended : (b : Bool) → s.ended ≡ b
          → (execute_plain setup l s >>= λ t. executed setup (first ++ rest) t)
          ≡ ((execute_plain setup l s >>= λ t. executed setup first t) >>= λ t. executed setup rest t)
          → executed setup (l ∷ (first ++ rest)) s ≡ (executed setup (l ∷ first) s >>= λ t. executed setup rest t)
      by_ended true e on =
          let same : Result State Fault = Ok s in
          ap (λ (b : Bool). if b then same else (execute_plain setup l s >>= λ t. executed setup (first ++ rest) t)) e ∙ sym (stays setup rest s e)
          ∙ sym (ap (λ (b : Bool). (if b then same else (execute_plain setup l s >>= λ t. executed setup first t)) >>= λ t. executed setup rest t) e)
      by_ended false e on =
          let same : Result State Fault = Ok s in
          ap (λ (b : Bool). if b then same else (execute_plain setup l s >>= λ t. executed setup (first ++ rest) t)) e ∙ on
          ∙ sym (ap (λ (b : Bool). (if b then same else (execute_plain setup l s >>= λ t. executed setup first t)) >>= λ t. executed setup rest t) e)
