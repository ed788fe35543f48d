-- One line of a program's flow after another.
use Rattle.std.proofs.Common.{◌≡◌, ◌<◌, ◌≤◌, ◌+◌, ◌-◌, ◌==◌, ◌&&◌, ℕ, zero, suc, List, [], ◌∷◌, ◌++◌, length, map, get_or, slice_get, Bool, true, false, not, Option, Some, None, Result, Ok, Err, IfOk, refl, sym, ◌∙◌, ap, subst, arith}
use Rattle.std.specs.Prelude.{if◌then◌else◌}
use Rattle.std.proofs.lemmas.Bool.Decides.{nat_tests}
use Rattle.ngc_canonical.specs.State.{Setup}
use Rattle.ngc_frames.specs.declared.change.FrameChange.{FrameChange}
use Rattle.ngc_dialect_reader.specs.declared.part.Part.{Part}
use Rattle.ngc_dialect_reader.specs.Text.{text}
use Rattle.ngc_dialect_flow.specs.declared.effect.Effect.{Effect}
use Rattle.ngc_dialect_flow.specs.declared.effect.Effect.TheVariants as effects
use Rattle.ngc_dialect_flow.specs.declared.fault.Cause.{Cause as FlowCause}
use Rattle.ngc_dialect_flow.specs.declared.fault.Cause.TheVariants.{TooManyLines}
use Rattle.ngc_dialect_flow.specs.Next.{next}
use Rattle.ngc_dialect_flow.specs.Places.{Plan}
use Rattle.ngc_dialect_flow.specs.State.{Flow, burnt}
use Rattle.ngc_dialect_flow.specs.Loops as l
use Rattle.ngc_dialect_flow.proofs.FuelLaws.{fuel_falls}
use Rattle.ngc_line_reader.specs.Scan.{◌>>=◌ as ◌>>=f◌}
use Rattle.ngc_dialect_execution.specs.declared.fault.Cause.{Cause}
use Rattle.ngc_dialect_execution.specs.declared.fault.Cause.TheVariants as causes
use Rattle.ngc_dialect_execution.specs.declared.fault.DialectFault.{DialectFault}
use Rattle.ngc_dialect_execution.specs.declared.fault.DialectFault.TheVariants as faults
use Rattle.ngc_dialect_execution.specs.declared.fault.Refusal.{Refusal}
use Rattle.ngc_dialect_execution.specs.Ending.{Outcome, at, changed_by, finished, with_changes}
use Rattle.ngc_dialect_execution.specs.Faults.{◌>>=◌, FailsBy, Says, at_line, caused}
use Rattle.ngc_dialect_execution.specs.Flow.{FlowProgress, depths, effect_done, ends, flow_line_taken, flow_statements_taken, flow_taken, line_or_end, number_at, on_from, others_taken, passed_over, stepped, then_on, turned, values_from}
use Rattle.ngc_dialect_execution.specs.Taken.{Progress, Said, is_deleted}
use Rattle.ngc_dialect_execution.specs.Text.{ProgramLines, number_of}
use Rattle.ngc_dialect_execution.proofs.TextSteps.{fails_first, refused_at}

-- ---- each line takes one unit of fuel

abbrev Step : Type 0
Step = Result (Effect × FlowProgress) Cause

abbrev Falls : Flow → Step → Type 0
Falls s r = IfOk r (λ x. ends x.0 ≡ false → x.1.flow.fuel + 1 ≡ s.fuel)

after_any : {A : Type 0} (s : Flow) (r : Result A Cause) (f : A → Step) → ((a : A) → Falls s (f a)) → Falls s (r >>= f)
after_any s (Ok a) f rest = rest a
after_any s (Err e) f rest = tt

effect_kept : (s t : Flow) (r : Result (Effect × Progress) Cause) → t.fuel + 1 ≡ s.fuel
    → Falls s (r >>= λ done. Ok (done.0, record { progress = done.1; flow = t }))
effect_kept s t (Ok x) less = λ on. less
effect_kept s t (Err e) less = tt

next_falls : (s : Flow) (r : Result (Flow × Effect) FlowCause) (f : Flow × Effect → Result (Effect × Progress) Cause) → IfOk r (λ x. x.0.fuel + 1 ≡ s.fuel)
    → Falls s (caused causes.Flow r >>= λ step. f step >>= λ done. Ok (done.0, record { progress = done.1; flow = step.0 }))
next_falls s (Ok x) f less = effect_kept s x.0 (f x) less
next_falls s (Err e) f less = tt

stepped_falls : (setup : Setup) (line : ℕ) (plan : Plan) (text : List ℕ) (said : Said) (s : Flow) (p : Progress) → Falls s (stepped setup line plan text said s p)
unfolding stepped
stepped_falls setup line plan text said s p =
    next_falls s (next plan (values_from text said) s) (λ step. effect_done setup line (depths s step.0 said.statements) step.1 said.arguments p) (fuel_falls plan (values_from text said) s)

ended_step : (s : Flow) (p : Progress) → (let over : Step = Ok (effects.End, record { progress = p; flow = s }) in Falls s over)
ended_step s p = λ on. absurd (cc on)

either : (s : Flow) (b : Bool) (x y : Step) → Falls s x → Falls s y → Falls s (if b then x else y)
either s true x y h k = h
either s false x y h k = k

turned_falls : (setup : Setup) (line : ℕ) (plan : Plan) (text : List ℕ) (said : Said) (s : Flow) (p : Progress) → Falls s (turned setup line plan text said s p)
turned_falls setup line plan text said s p = either s p.between.state.ended _ _ (ended_step s p) (stepped_falls setup line plan text said s p)

others_fall : (setup : Setup) (plan : Plan) (line : ℕ) (text : List ℕ) (said : Said) (r : FlowProgress) → Falls r.flow (others_taken setup plan line text said r)
unfolding others_taken
others_fall setup plan line text said r = after_any r.flow _ _ (λ p. turned_falls setup line plan text said r.flow p)

statements_fall : (setup : Setup) (plan : Plan) (line : ℕ) (text : List ℕ) (parts : List Part) (r : FlowProgress) →
    Falls r.flow (flow_statements_taken setup plan line text parts r)
unfolding flow_statements_taken
statements_fall setup plan line text parts r = after_any r.flow _ _ (λ said. others_fall setup plan line text said r)

one_less : (f : ℕ) → (f == 0) ≡ false → f - 1 + 1 ≡ f
one_less f e = grind (arith, nat_tests)

passed_falls : (r : FlowProgress) → Falls r.flow (passed_over r)
passed_falls r = by (r.flow.fuel == 0) refl where
  by : (b : Bool) → (r.flow.fuel == 0) ≡ b →
      Falls r.flow (caused causes.Flow ((if b then Err TooManyLines else Ok (burnt r.flow)) >>=f λ t. Ok (l.on t)) >>= λ s.
      Ok (effects.Stay, record { progress = r.progress; flow = s }))
  by true e = tt
  by false e = λ on. one_less r.flow.fuel e

line_falls : (setup : Setup) (block_delete : Bool) (plan : Plan) (line : ℕ) (bytes : List ℕ) (r : FlowProgress) →
    Falls r.flow (flow_line_taken setup block_delete plan line bytes r)
unfolding flow_line_taken
line_falls setup block_delete plan line bytes r =
    after_any r.flow _ _ (λ parts. either r.flow (block_delete && is_deleted parts) _ _ (passed_falls r)
    (statements_fall setup plan line (text bytes) parts r))

-- ---- a line of a program, in the words of a call

pub line_there : {R : Type 0} (now : R → List ℕ) (lines : List R) (i : ℕ) (x e : R) → i < length lines → x ≡ get_or lines i e
    → slice_get (map now lines) i ≡ Some (now x)
line_there now [] i x e within is = absurd (omega (arith, within))
line_there now (y ∷ lines) zero x e within is = ap (λ (z : _). Some (now z)) (sym is)
line_there now (y ∷ lines) (suc i) x e within is = line_there now lines i x e (omega (arith, within)) is

any_there : {R : Type 0} (now : R → List ℕ) (lines : List R) (i : ℕ) → i < length lines → (x : List ℕ) × (slice_get (map now lines) i ≡ Some x)
any_there now [] i within = absurd (omega (arith, within))
any_there now (y ∷ lines) zero within = (now y, refl)
any_there now (y ∷ lines) (suc i) within = any_there now lines i (omega (arith, within))

pub no_line_there : {R : Type 0} (now : R → List ℕ) (lines : List R) (i : ℕ) → length lines ≤ i → slice_get (map now lines) i ≡ None
no_line_there now [] i past = refl
no_line_there now (y ∷ lines) zero past = absurd (omega (arith, past))
no_line_there now (y ∷ lines) (suc i) past = no_line_there now lines i (omega (arith, past))

abbrev number_is : ℕ → FlowProgress → Type 0
number_is line r = line ≡ number_at r

one_line : (setup : Setup) (block_delete : Bool) (plan : Plan) (program : ProgramLines) (fuel : ℕ) (r : FlowProgress) (cs : List FrameChange)
    (bytes : List ℕ) → slice_get program.lines r.flow.line ≡ Some bytes → (fuel == 0) ≡ false
    → flow_taken setup block_delete plan program fuel r cs
    ≡ then_on setup (number_at r) r.progress cs (at (number_at r) (flow_line_taken setup block_delete plan (number_at r) bytes r))
    (λ q more. flow_taken setup block_delete plan program (fuel - 1) q more)
unfolding flow_taken
one_line setup block_delete plan program zero r cs bytes there some = absurd (cc some)
one_line setup block_delete plan program (suc fuel) r cs bytes there some =
    let less : fuel ≡ suc fuel - 1 = omega arith in
    let on : ℕ → List ℕ → Outcome = λ f b. then_on setup (number_at r) r.progress cs (at (number_at r) (flow_line_taken setup block_delete plan (number_at r) b r))
    (λ q more. flow_taken setup block_delete plan program f q more) in
    ap (λ (o : Option (List ℕ)). line_or_end o (with_changes cs (finished setup program.last r.progress)) (on fuel)) there
    ∙ ap (λ (f : ℕ). on f bytes) less

-- the program is over
pub flow_over : (setup : Setup) (block_delete : Bool) (plan : Plan) (program : ProgramLines) (fuel : ℕ) (r : FlowProgress) (cs : List FrameChange)
    (whole : Outcome) → slice_get program.lines r.flow.line ≡ None → flow_taken setup block_delete plan program fuel r cs ≡ whole
    → whole ≡ with_changes cs (finished setup program.last r.progress)
unfolding flow_taken
flow_over setup block_delete plan program zero r cs whole none leads =
    sym leads ∙ ap (λ (o : Option (List ℕ)). line_or_end o (with_changes cs (finished setup program.last r.progress))
    (λ bytes. Err (faults.At (number_at r) (causes.Flow TooManyLines)))) none
flow_over setup block_delete plan program (suc fuel) r cs whole none leads =
    sym leads ∙ ap (λ (o : Option (List ℕ)). line_or_end o (with_changes cs (finished setup program.last r.progress))
    (λ bytes. then_on setup (number_at r) r.progress cs (at (number_at r) (flow_line_taken setup block_delete plan (number_at r) bytes r))
    (λ q more. flow_taken setup block_delete plan program fuel q more))) none

not_spent : (n : ℕ) → (suc n == 0) ≡ true → ⊥
not_spent n e = grind (arith, nat_tests)

-- no more line may be executed
pub flow_spent : (setup : Setup) (block_delete : Bool) (plan : Plan) (program : ProgramLines) (fuel line : ℕ) (r : FlowProgress) (cs : List FrameChange)
    (bytes : List ℕ) (whole : Outcome) → slice_get program.lines r.flow.line ≡ Some bytes → (fuel == 0) ≡ true → line ≡ number_at r
    → flow_taken setup block_delete plan program fuel r cs ≡ whole → whole ≡ Err (faults.At line (causes.Flow TooManyLines))
unfolding flow_taken
flow_spent setup block_delete plan program zero line r cs bytes whole there none number leads =
    sym leads ∙ ap (λ (o : Option (List ℕ)). line_or_end o (with_changes cs (finished setup program.last r.progress))
    (λ bytes. Err (faults.At (number_at r) (causes.Flow TooManyLines)))) there
    ∙ ap (λ (n : ℕ). Err (faults.At n (causes.Flow TooManyLines))) (sym number)
flow_spent setup block_delete plan program (suc fuel) line r cs bytes whole there none number leads = absurd (not_spent fuel none)

-- what the line that is next does
pub record Goes (setup : Setup) (block_delete : Bool) (plan : Plan) (program : ProgramLines) (fuel line : ℕ) (r : FlowProgress) (cs : List FrameChange)
    (bytes : List ℕ) (whole : Outcome) : Type 0 where
  pub there : slice_get program.lines r.flow.line ≡ Some bytes
  pub some : (fuel == 0) ≡ false
  pub number : line ≡ number_at r
  pub leads : flow_taken setup block_delete plan program fuel r cs ≡ whole

goes_as : (setup : Setup) (block_delete : Bool) (plan : Plan) (program : ProgramLines) (fuel line : ℕ) (r : FlowProgress) (cs : List FrameChange)
    (bytes : List ℕ) (whole : Outcome) → Goes setup block_delete plan program fuel line r cs bytes whole
    → whole ≡ then_on setup line r.progress cs (at line (flow_line_taken setup block_delete plan line bytes r))
    (λ q more. flow_taken setup block_delete plan program (fuel - 1) q more)
goes_as setup block_delete plan program fuel line r cs bytes whole g =
    sym g.leads ∙ one_line setup block_delete plan program fuel r cs bytes g.there g.some
    ∙ ap (λ (n : ℕ). then_on setup n r.progress cs (at n (flow_line_taken setup block_delete plan n bytes r))
    (λ q more. flow_taken setup block_delete plan program (fuel - 1) q more))
    (sym g.number)

pub flow_refused : {B : Type 0} (setup : Setup) (block_delete : Bool) (plan : Plan) (program : ProgramLines) (fuel line : ℕ) (r : FlowProgress)
    (cs : List FrameChange) (bytes : List ℕ) (whole : Outcome) (view : B → Effect × FlowProgress) (refusal : Refusal) (found : DialectFault) →
    Goes setup block_delete plan program fuel line r cs bytes whole → found ≡ at_line line refusal
    → Says view (Err refusal) (flow_line_taken setup block_delete plan line bytes r)
    → FailsBy found whole
flow_refused setup block_delete plan program fuel line r cs bytes whole view refusal found g is says =
    subst (λ (f : DialectFault). FailsBy f whole) (sym is)
    (subst (FailsBy (at_line line refusal)) (sym (goes_as setup block_delete plan program fuel line r cs bytes whole g))
    (fails_first (at_line line refusal) (at line (flow_line_taken setup block_delete plan line bytes r))
    (λ s. then_on setup line r.progress cs s (λ q more. flow_taken setup block_delete plan program (fuel - 1) q more)) (λ e. refl)
    (refused_at line view refusal (flow_line_taken setup block_delete plan line bytes r) says)))

went : (setup : Setup) (block_delete : Bool) (plan : Plan) (program : ProgramLines) (fuel line : ℕ) (r : FlowProgress) (cs more : List FrameChange)
    (bytes : List ℕ) (whole : Outcome) (x : Effect × FlowProgress) → Goes setup block_delete plan program fuel line r cs bytes whole
    → flow_line_taken setup block_delete plan line bytes r ≡ Ok x → more ≡ cs ++ changed_by line r.progress x.1.progress
    → whole ≡ on_from setup line x more (λ q now. flow_taken setup block_delete plan program (fuel - 1) q now)
went setup block_delete plan program fuel line r cs more bytes whole x g e are =
    goes_as setup block_delete plan program fuel line r cs bytes whole g
    ∙ ap (λ (s : Step). then_on setup line r.progress cs (at line s) (λ q now. flow_taken setup block_delete plan program (fuel - 1) q now)) e
    ∙ ap (λ (l : List FrameChange). on_from setup line x l (λ q now. flow_taken setup block_delete plan program (fuel - 1) q now)) (sym are)

yes : {A : Type 0} (b : Bool) (x y : A) → b ≡ true → (if b then x else y) ≡ x
yes true x y e = refl
yes false x y e = absurd (cc e)

-- the line ends the program
pub flow_ends : (setup : Setup) (block_delete : Bool) (plan : Plan) (program : ProgramLines) (fuel line : ℕ) (r q : FlowProgress)
    (cs more : List FrameChange) (bytes : List ℕ) (whole : Outcome) (effect : Effect) → Goes setup block_delete plan program fuel line r cs bytes whole
    → flow_line_taken setup block_delete plan line bytes r ≡ Ok (effect, q) → more ≡ cs ++ changed_by line r.progress q.progress → ends effect ≡ true
    → whole ≡ with_changes more (finished setup line q.progress)
flow_ends setup block_delete plan program fuel line r q cs more bytes whole effect g e are over =
    went setup block_delete plan program fuel line r cs more bytes whole (effect, q) g e are ∙ yes (ends effect) _ _ over

no : {A : Type 0} (b : Bool) (x y : A) → b ≡ false → (if b then x else y) ≡ y
no true x y e = absurd (cc e)
no false x y e = refl

-- fuel falls by one
pub fuel_less : (setup : Setup) (block_delete : Bool) (plan : Plan) (line : ℕ) (r q : FlowProgress) (bytes : List ℕ) (effect : Effect) →
    flow_line_taken setup block_delete plan line bytes r ≡ Ok (effect, q) → ends effect ≡ false → q.flow.fuel + 1 ≡ r.flow.fuel
fuel_less setup block_delete plan line r q bytes effect e on =
    subst (Falls r.flow) e (line_falls setup block_delete plan line bytes r) on

-- the flow goes on
pub flow_goes_on : (setup : Setup) (block_delete : Bool) (plan : Plan) (program : ProgramLines) (line : ℕ) (r q : FlowProgress)
    (cs more : List FrameChange) (bytes : List ℕ) (whole : Outcome) (effect : Effect) →
    Goes setup block_delete plan program r.flow.fuel line r cs bytes whole
    → flow_line_taken setup block_delete plan line bytes r ≡ Ok (effect, q) → more ≡ cs ++ changed_by line r.progress q.progress → ends effect ≡ false
    → flow_taken setup block_delete plan program q.flow.fuel q more ≡ whole
flow_goes_on setup block_delete plan program line r q cs more bytes whole effect g e are on =
    let less : q.flow.fuel + 1 ≡ r.flow.fuel = fuel_less setup block_delete plan line r q bytes effect e on in
    let same : q.flow.fuel ≡ r.flow.fuel - 1 = omega (arith, less) in
    ap (λ (f : ℕ). flow_taken setup block_delete plan program f q more) same
    ∙ sym (went setup block_delete plan program r.flow.fuel line r cs more bytes whole (effect, q) g e are ∙ no (ends effect) _ _ on)

-- ---- the same of lines that a call has

abbrev pub program_with : {R : Type 0} → (R → List ℕ) → Plan → List R → ℕ → ProgramLines
program_with now plan lines last = record { dialect = plan.dialect; lines = map now lines; last = last }

pub goes_here : {R : Type 0} (now : R → List ℕ) (setup : Setup) (block_delete : Bool) (plan : Plan) (lines : List R) (last : ℕ) (r : FlowProgress)
    (cs : List FrameChange) (e : R) (i j line : ℕ) (some : Bool) (whole : Outcome) → j ≡ r.flow.line → i ≡ r.flow.line → j < length lines → some ≡ not (r.flow.fuel == 0)
    → some ≡ true → line ≡ number_of (i + 1) → flow_taken setup block_delete plan (program_with now plan lines last) r.flow.fuel r cs ≡ whole
    → Goes setup block_delete plan (program_with now plan lines last) r.flow.fuel line r cs (now (get_or lines i e)) whole
goes_here now setup block_delete plan lines last r cs e i j line some whole there here within is holds number leads = record {
  there = ap (slice_get (map now lines)) (sym here) ∙ line_there now lines i (get_or lines i e) e (omega (arith, there, here, within)) refl;
  some = not_true (r.flow.fuel == 0) (sym is ∙ holds);
  number = number ∙ ap (λ (n : ℕ). number_of (n + 1)) here;
  leads = leads;
} where
  not_true : (b : Bool) → not b ≡ true → b ≡ false
  not_true true h = absurd (cc h)
  not_true false h = refl

pub spent_here : {R : Type 0} (now : R → List ℕ) (setup : Setup) (block_delete : Bool) (plan : Plan) (lines : List R) (last : ℕ) (r : FlowProgress)
    (cs : List FrameChange) (i j line : ℕ) (some : Bool) (whole : Outcome) → j ≡ r.flow.line → i ≡ r.flow.line → j < length lines → some ≡ not (r.flow.fuel == 0)
    → some ≡ false → line ≡ number_of (i + 1) → flow_taken setup block_delete plan (program_with now plan lines last) r.flow.fuel r cs ≡ whole
    → whole ≡ Err (faults.At line (causes.Flow TooManyLines))
spent_here now setup block_delete plan lines last r cs i j line some whole there here within is none number leads =
    let found = any_there now lines i (omega (arith, there, here, within)) in
    flow_spent setup block_delete plan (program_with now plan lines last) r.flow.fuel line r cs found.0 whole
    (ap (slice_get (map now lines)) (sym here) ∙ found.1)
    (not_false (r.flow.fuel == 0) (sym is ∙ none)) (number ∙ ap (λ (n : ℕ). number_of (n + 1)) here) leads
  where
    not_false : (b : Bool) → not b ≡ false → b ≡ true
    not_false true h = refl
    not_false false h = absurd (cc h)

pub over_here : {R : Type 0} (now : R → List ℕ) (setup : Setup) (block_delete : Bool) (plan : Plan) (lines : List R) (last : ℕ) (r : FlowProgress)
    (cs : List FrameChange) (j : ℕ) (whole : Outcome) → j ≡ r.flow.line → length lines ≤ j
    → flow_taken setup block_delete plan (program_with now plan lines last) r.flow.fuel r cs ≡ whole → whole ≡ with_changes cs (finished setup last r.progress)
over_here now setup block_delete plan lines last r cs j whole there past leads =
    flow_over setup block_delete plan (program_with now plan lines last) r.flow.fuel r cs whole (no_line_there now lines r.flow.line (omega (arith, there, past))) leads
