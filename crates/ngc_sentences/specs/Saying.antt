-- What a page has said. Our own.
use Rattle.std.specs.Prelude.{◌≡◌, ℕ, List, [], ◌++◌, Option, Result, Ok, Err, MatchResult, Bool, true, false}
use Rattle.std.specs.Io.KnownBytes.{Appends}
use Rattle.ngc_text.specs.Written.{AppendsPrefix}
use Rattle.ngc_text.specs.Failures.{Rises}
use Rattle.ngc_text.specs.Collected.{WritesPrefix}
use Rattle.ngc_text.specs.declared.writing.WriteFault.{WriteFault}
use Rattle.ngc_sentences.specs.declared.page.Page.{Page}

-- a text is added to what was collected: the front of both is written and the rest is still
-- collected, or a prefix is written
abbrev pub Collects : Option (List ℕ) → Option (List ℕ) → List ℕ → List ℕ →
    Result (Unit {0}) WriteFault → List ℕ → Type 0
Collects old new before after result text =
    MatchResult result (λ _. WritesPrefix old new (before ++ text) after)
    (λ _. AppendsPrefix old new (before ++ text))

-- nothing is said yet
pub record IsFresh (page : Page) : Type 0 where
  pub nothing : page.chunk ≡ []
  pub works : page.failed ≡ false

abbrev pub SaysBy : Bool → Bool → Option (List ℕ) → Option (List ℕ) → ℕ → ℕ → List ℕ → List ℕ →
    List ℕ → Type 0
SaysBy false false old new count more before after text =
    WritesPrefix old new (before ++ text) after × (more ≡ count)
SaysBy false true old new count more before after text =
    AppendsPrefix old new (before ++ text) × Rises count more
SaysBy true true old new count more before after text = (new ≡ old) × (more ≡ count)
SaysBy true false old new count more before after text = ⊥

-- a text is said: it is added to what was collected, whose front is written. If a write fails, a
-- prefix is written, and from then on nothing
pub record Says (old new : Option (List ℕ)) (count more : ℕ) (page then : Page) (text : List ℕ) : Type 0 where
  pub by : SaysBy page.failed then.failed old new count more page.chunk then.chunk text

abbrev pub FinishesBy : Bool → Option (List ℕ) → Option (List ℕ) → ℕ → ℕ → List ℕ →
    Result (Unit {0}) WriteFault → Type 0
FinishesBy false old new count more text (Ok u) = Appends old new text × (more ≡ count)
FinishesBy false old new count more text (Err e) = AppendsPrefix old new text × Rises count more
FinishesBy true old new count more text (Ok u) = ⊥
FinishesBy true old new count more text (Err e) = (new ≡ old) × (more ≡ count)

-- what is still collected is written
abbrev pub Finishes : Option (List ℕ) → Option (List ℕ) → ℕ → ℕ → Page →
    Result (Unit {0}) WriteFault → Type 0
Finishes old new count more page result = FinishesBy page.failed old new count more page.chunk result
