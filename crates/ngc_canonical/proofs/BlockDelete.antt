-- If no line begins with /, block delete changes nothing.
use Rattle.std.proofs.Common.{◌≡◌, ℕ, zero, suc, ◌+◌, ◌<◌, ◌≤◌, List, [], ◌∷◌, length, drop, Some, Bool, true, false, refl, ap, sym, ◌∙◌, arith}
use Rattle.std.proofs.Math.ListN.{drop_of_length-le}
use Rattle.std.specs.Prelude.{slice_get, ◌||◌, if◌then◌else◌}
use Rattle.ngc_line_reader.specs.Grammar.{Reading}
use Rattle.ngc_line_reader.specs.Program.{Line}
use Rattle.ngc_line_reader.specs.ProgramText.{AreReadings}
use Rattle.ngc_line_reader.specs.Words.{SaysDeleted}
use Rattle.ngc_line_reader.proofs.UniqueLine.{one_reading}
use Rattle.ngc_canonical.specs.Joined.{SameAtBoth}
use Rattle.ngc_canonical.specs.Meaning.{NumberedLine, commands_of, from_state, has_deleted, remaining, with_readings}
use Rattle.ngc_canonical.specs.State.{start_state}
use Rattle.ngc_canonical.proofs.Lines.{NextLine, next_line}

-- ---- the law

pub all_stay_off : (lines : List NumberedLine) → remaining false lines ≡ lines
all_stay_off [] = refl
all_stay_off (line ∷ lines) = ap (λ (rest : List NumberedLine). line ∷ rest) (all_stay_off lines)

one_more_stays : (line : NumberedLine) (lines : List NumberedLine) (b : Bool) → line.reading.deleted ≡ b → has_deleted (line ∷ lines) ≡ false →
    (has_deleted lines ≡ false → remaining true lines ≡ lines)
    → remaining true (line ∷ lines) ≡ line ∷ lines
one_more_stays line lines true e none rest = absurd (cc (none, ap (λ (x : Bool). x || has_deleted lines) e))
one_more_stays line lines false e none rest =
    let afterwards : List NumberedLine = remaining true lines in
    ap (λ (x : Bool). if x then afterwards else line ∷ afterwards) e ∙ ap (λ (l : List NumberedLine). line ∷ l)
    (rest (sym (ap (λ (x : Bool). x || has_deleted lines) e) ∙ none))

pub all_stay : (lines : List NumberedLine) → has_deleted lines ≡ false → remaining true lines ≡ lines
all_stay [] none = refl
all_stay (line ∷ lines) none = one_more_stays line lines line.reading.deleted refl none (all_stay lines)

pub same_at_both : SameAtBoth
same_at_both program setup none =
    ap (λ (lines : List NumberedLine). commands_of (from_state setup program lines (start_state setup.machine)))
    (all_stay program.lines none ∙ sym (all_stay_off program.lines))

-- ---- line by line

line_within : (lines : List Line) (i : ℕ) → i < length lines → (line : Line) × (slice_get lines i ≡ Some line)
line_within [] i h = absurd (omega (arith, h))
line_within (x ∷ lines) zero h = (x, refl)
line_within (x ∷ lines) (suc i) h = line_within lines i (omega (arith, h))

-- one of the remaining lines
pub record SeenLine (lines : List Line) (i : ℕ) : Type 0 where
  pub line : Line
  pub at : slice_get lines i ≡ Some line

pub next_seen : (lines : List Line) (rs : List Reading) (i : ℕ) (h : SeenLine lines i) → AreReadings lines rs → NextLine lines rs i h.line.number h.line.bytes
next_seen lines rs i h are = next_line lines rs i h.line.number h.line are h.at refl

pub seen_line : (lines : List Line) (i : ℕ) → i < length lines → SeenLine lines i
seen_line lines i h = let found = line_within lines i h in record { line = found.0; at = found.1 }

-- whether a line is deleted from here on: this one, or one after it
pub deleted_from : (lines : List Line) (rs : List Reading) (i : ℕ) (bytes : List ℕ) (deleted : Bool) (number : ℕ) →
    SaysDeleted bytes deleted → NextLine lines rs i number bytes
    → has_deleted (with_readings (drop i lines) (drop i rs)) ≡ (deleted || has_deleted (with_readings (drop (i + 1) lines) (drop (i + 1) rs)))
deleted_from lines rs i bytes deleted number h next =
    let rest : Bool = has_deleted (with_readings (drop (i + 1) lines) (drop (i + 1) rs)) in
    let same : next.reading ≡ h.reading = one_reading bytes next.reading h.reading next.reads h.reads in
    ap has_deleted next.afterwards ∙ ap (λ (x : Bool). x || rest) (ap (λ (x : Reading). x.deleted) same ∙ sym h.says)

pub none_from : (lines : List Line) (rs : List Reading) (i : ℕ) → length lines ≤ i → has_deleted (with_readings (drop i lines) (drop i rs)) ≡ false
none_from lines rs i h = ap (λ (l : List Line). has_deleted (with_readings l (drop i rs))) (drop_of_length-le lines h)
