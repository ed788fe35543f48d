-- Text that is collected, and written from the front when space is needed. Our own.
use Rattle.std.specs.Prelude.{ℕ, List, ◌++◌, Option, Result, MatchResult}
use Rattle.ngc_text.specs.Written.{AppendsPrefix}
use Rattle.ngc_text.specs.declared.writing.WriteFault.{WriteFault}
use Rattle.ngc_text.specs.Collected.{WritesPrefix}

-- a text is added to what was collected: the front of both is written and the rest is still
-- collected, or a prefix is written
abbrev pub Collects : Option (List ℕ) → Option (List ℕ) → List ℕ → List ℕ →
    Result (Unit {0}) WriteFault → List ℕ → Type 0
Collects old new before after result text =
    MatchResult result (λ _. WritesPrefix old new (before ++ text) after)
    (λ _. AppendsPrefix old new (before ++ text))
