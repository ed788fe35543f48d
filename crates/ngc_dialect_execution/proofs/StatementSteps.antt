-- A line of statements: it has flow, or it takes effect.
use Rattle.std.proofs.Common.{◌≡◌, ℕ, List, Bool, true, false, Result, Ok, Err, refl, sym, ◌∙◌, ap}
use Rattle.std.specs.Prelude.{if◌then◌else◌}
use Rattle.ngc_canonical.specs.State.{Setup}
use Rattle.ngc_dialect_names.specs.declared.dialect.Dialect.{Dialect}
use Rattle.ngc_dialect_reader.specs.declared.part.Part.{Part}
use Rattle.ngc_dialect_parameters.specs.declared.statement.Statement.{Statement}
use Rattle.ngc_dialect_parameters.specs.declared.statement.Word.{Word}
use Rattle.ngc_dialect_execution.specs.declared.fault.Cause.{Cause}
use Rattle.ngc_dialect_execution.specs.declared.fault.Refusal.{Refusal}
use Rattle.ngc_dialect_execution.specs.declared.fault.Refusal.TheVariants.{Because, Memory}
use Rattle.ngc_dialect_execution.specs.declared.lines.Taken.{Taken}
use Rattle.ngc_dialect_execution.specs.declared.lines.Taken.TheVariants.{Done, HasFlow}
use Rattle.ngc_dialect_execution.specs.Faults.{◌>>=◌, Says}
use Rattle.ngc_dialect_execution.specs.Taken.{Progress, Said, as_done, done_at, has_flow, said_at, statements_taken, words_of}

abbrev Both : Type 0
Both = Result (Taken × Progress) Cause

-- after what the line says
abbrev by_flow : Setup → ℕ → List ℕ → Progress → Said → Both
by_flow setup line text p said =
    let flow : Both = Ok (HasFlow, p) in
    if has_flow p.between.dialect said.statements then flow else as_done (done_at setup line text said.statements (words_of said.statements) p)

said_first : (setup : Setup) (line : ℕ) (text : List ℕ) (parts : List Part) (p : Progress) (said : Said) → said_at p.values text parts ≡ Ok said
    → statements_taken setup line text parts p ≡ by_flow setup line text p said
unfolding statements_taken
said_first setup line text parts p said e = ap (λ (r : Result Said Cause). r >>= by_flow setup line text p) e

-- the test of the flow, in the words of a call
pub tested : (d e : Dialect) (said found : List Statement) (b : Bool) → b ≡ has_flow d found → d ≡ e → found ≡ said → b ≡ has_flow e said
tested d e said found b is same are = is ∙ ap (λ (x : Dialect). has_flow x found) same ∙ ap (has_flow e) are

yes : {A : Type 0} (b : Bool) (x y : A) → b ≡ true → (if b then x else y) ≡ x
yes true x y e = refl
yes false x y e = absurd (cc e)

no : {A : Type 0} (b : Bool) (x y : A) → b ≡ false → (if b then x else y) ≡ y
no true x y e = absurd (cc e)
no false x y e = refl

pub flow_begins : (setup : Setup) (line : ℕ) (text : List ℕ) (parts : List Part) (p : Progress) (said : Said) (b : Bool) → said_at p.values text parts ≡ Ok said
    → b ≡ has_flow p.between.dialect said.statements → b ≡ true
    → statements_taken setup line text parts p ≡ Ok (HasFlow, p)
flow_begins setup line text parts p said b e is holds = said_first setup line text parts p said e ∙ yes (has_flow p.between.dialect said.statements) _ _ (sym is ∙ holds)

plainly : (setup : Setup) (line : ℕ) (text : List ℕ) (parts : List Part) (p : Progress) (said : Said) (b : Bool) (words : List Word) →
    said_at p.values text parts ≡ Ok said → b ≡ has_flow p.between.dialect said.statements → b ≡ false → words ≡ words_of said.statements
    → statements_taken setup line text parts p ≡ as_done (done_at setup line text said.statements words p)
plainly setup line text parts p said b words e is none are =
    said_first setup line text parts p said e ∙ no (has_flow p.between.dialect said.statements) _ _ (sym is ∙ none)
    ∙ ap (λ (ws : List Word). as_done (done_at setup line text said.statements ws p)) (sym are)

pub effect_follows : (setup : Setup) (line : ℕ) (text : List ℕ) (parts : List Part) (p q : Progress) (said : Said) (b : Bool) (words : List Word) →
    said_at p.values text parts ≡ Ok said → b ≡ has_flow p.between.dialect said.statements → b ≡ false → words ≡ words_of said.statements
    → done_at setup line text said.statements words p ≡ Ok q
    → statements_taken setup line text parts p ≡ Ok (Done, q)
effect_follows setup line text parts p q said b words e is none are done = plainly setup line text parts p said b words e is none are ∙ ap as_done done

pub effect_refused : {X Y : Type 0} (view : X → Progress) (seen : Y → Taken × Progress) (refusal : Refusal) (setup : Setup) (line : ℕ) (text : List ℕ)
    (parts : List Part) (p : Progress) (said : Said) (b : Bool) (words : List Word) →
    said_at p.values text parts ≡ Ok said → b ≡ has_flow p.between.dialect said.statements → b ≡ false → words ≡ words_of said.statements
    → Says view (Err refusal) (done_at setup line text said.statements words p)
    → Says seen (Err refusal) (statements_taken setup line text parts p)
effect_refused view seen (Because c) setup line text parts p said b words e is none are says =
    plainly setup line text parts p said b words e is none are ∙ ap as_done says
effect_refused view seen Memory setup line text parts p said b words e is none are says = tt
