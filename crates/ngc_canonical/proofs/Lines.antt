-- A program's lines, in order.
use Rattle.std.proofs.Common.{◌≡◌, ℕ, zero, suc, ◌+◌, ◌≤◌, List, [], ◌∷◌, length, drop, Option, Some, Bool, true, false, Result, Ok, Err, refl, ap, sym}
use Rattle.std.proofs.Common.{subst, ◌∙◌, arith}
use Rattle.std.proofs.lemmas.Option.{same_Some}
use Rattle.std.proofs.Math.ListN.{drop_of_length-le}
use Rattle.std.specs.Prelude.{slice_get, ◌&&◌, ℤ}
use Rattle.std.specs.Option.{option_map}
use Rattle.ngc_line_reader.specs.Grammar.{Reading, Reads}
use Rattle.ngc_line_reader.specs.Grammar.{Item}
use Rattle.ngc_line_reader.specs.ScanLine.{Parts}
use Rattle.ngc_line_reader.specs.Shown.{ShowsReading}
use Rattle.ngc_line_reader.specs.Held.{AllWithinLimit}
use Rattle.ngc_line_reader.specs.Words.{number_words, SaysDeleted}
use Rattle.ngc_line_reader.specs.declared.letter.Letter.{Letter}
use Rattle.ngc_parameters.specs.declared.fault.EvalFault.{EvalFault}
use Rattle.ngc_parameters.proofs.NumberValues.{number_values}
use Rattle.ngc_canonical.specs.declared.fault.Fault.TheVariants.{Value}
use Rattle.ngc_canonical.specs.Meaning.{execute_words, with_settings}
use Rattle.ngc_canonical.specs.Steps.{◌>>=◌, faulted}
use Rattle.ngc_canonical.specs.Taken.{IsTaken}
use Rattle.ngc_line_reader.proofs.UniqueLine.{one_reading}
use Rattle.ngc_line_reader.specs.Program.{Line}
use Rattle.ngc_line_reader.specs.ProgramText.{AreReadings}
use Rattle.ngc_canonical.specs.declared.fault.Fault.{Fault}
use Rattle.ngc_canonical.specs.declared.fault.ProgramFault.{ProgramFault}
use Rattle.ngc_canonical.specs.declared.fault.ProgramFault.TheVariants.{At, Memory}
use Rattle.ngc_canonical.specs.Interpreter.{BecomesAt}
use Rattle.ngc_canonical.specs.State.{Setup, State}
use Rattle.ngc_canonical.specs.Meaning.{NumberedLine, Program, execute, at_line, after_line, go_on, then_lines, past_last, commands_of, Fails, remaining}
use Rattle.ngc_canonical.specs.Meaning.{from_state, with_readings}

-- the line at an index has a reading, and precedes the remaining lines
pub record NextLine (lines : List Line) (rs : List Reading) (i number : ℕ) (bytes : List ℕ) : Type 0 where
  pub reading : Reading
  pub reads : Reads bytes reading
  pub afterwards : with_readings (drop i lines) (drop i rs) ≡ record { number = number; reading = reading } ∷ with_readings (drop (i + 1) lines) (drop (i + 1) rs)

pub next_line : (lines : List Line) (rs : List Reading) (i number : ℕ) (line : Line) → AreReadings lines rs → slice_get lines i ≡ Some line →
    line.number ≡ number → NextLine lines rs i number line.bytes
next_line [] rs i number line are at n = absurd (cc at)
next_line (x ∷ lines) [] i number line are at n = absurd are
next_line (x ∷ lines) (r ∷ rs) zero number line are at n =
    let same : x ≡ line = same_Some _ _ at in
    record {
      reading = r;
      reads = subst (λ (l : Line). Reads l.bytes r) same are.0;
      afterwards = ap (λ (k : ℕ). record { number = k; reading = r } ∷ with_readings lines rs) (ap (λ (l : Line). l.number) same ∙ n);
    }
next_line (x ∷ lines) (r ∷ rs) (suc i) number line are at n =
    let further = next_line lines rs i number line are.2 at n in
    let e : suc i + 1 ≡ suc (i + 1) = omega arith in
    record { reading = further.reading; reads = further.reads; afterwards = rw e further.afterwards }

-- a line that block delete takes out changes nothing, another leads to the lines after it
pub step_remaining : (setup : Setup) (p : Program) (block_delete : Bool) (number : ℕ) (r : Reading) (rest : List NumberedLine) (s : State) → s.ended ≡ false
    → from_state setup p (remaining block_delete (record { number = number; reading = r } ∷ rest)) s
    ≡ then_lines (after_line setup block_delete number r s) (λ t. from_state setup p (remaining block_delete rest) t)
unfolding from_state
step_remaining setup p block_delete number r rest s running = by_test (block_delete && r.deleted) refl where
  by_test : (b : Bool) → (block_delete && r.deleted) ≡ b
      → from_state setup p (remaining block_delete (record { number = number; reading = r } ∷ rest)) s
      ≡ then_lines (after_line setup block_delete number r s) (λ t. from_state setup p (remaining block_delete rest) t)
  by_test true e = rw (e, running) refl
  by_test false e = rw e refl

-- ---- a line that was read

abbrev pub bytes_in : List Line → ℕ → Option (List ℕ)
bytes_in lines i = option_map (λ (l : Line). l.bytes) (slice_get lines i)

pub bytes_are : (lines : List Line) (i : ℕ) (line : Line) → slice_get lines i ≡ Some line → bytes_in lines i ≡ Some line.bytes
bytes_are lines i line at = ap (option_map (λ (l : Line). l.bytes)) at

pub number_is : (lines : List Line) (i number : ℕ) (line : Line) → slice_get lines i ≡ Some line → option_map (λ (l : Line). l.number) (slice_get lines i) ≡ Some number
    → line.number ≡ number
number_is lines i number line at n = same_Some _ _ (sym (ap (option_map (λ (l : Line). l.number)) at) ∙ n)

-- equal results show the same reading
pub seen : (bytes : List ℕ) {d e : Bool} {p q : Parts} → ShowsReading bytes d p → e ≡ d → q ≡ p → ShowsReading bytes e q
seen bytes {d} {e} {p} {q} h same parts = subst (λ (x : Bool). ShowsReading bytes x q) (sym same) (subst (λ (x : Parts). ShowsReading bytes d x) (sym parts) h)

then_same : (x : Result State Fault) → (x >>= λ (t : State). Ok (with_settings [] t)) ≡ x
then_same (Ok t) = refl
then_same (Err e) = refl

-- executing words whose values are numbers equals executing their line
pub words_do : (setup : Setup) (items : List Item) (words : List (Letter × ℤ)) (s : State) → AllWithinLimit items → Some words ≡ number_words items
    → execute_words setup words s ≡ execute setup items s
words_do setup items words s limit is =
    sym (
    ap (λ (v : Result (List (Letter × ℤ) × List (ℕ × ℤ)) EvalFault). faulted Value v >>= λ values. execute_words setup values.0 s >>= λ t.
    Ok (with_settings values.1 t)) (number_values s.parameters items words limit (sym is))
    ∙ then_same (execute_words setup words s))

-- block delete takes the line out
pub left_out : (setup : Setup) (block_delete deleted : Bool) (line : Line) (s : State) → SaysDeleted line.bytes deleted → block_delete ≡ true → deleted ≡ true
    → IsTaken setup block_delete line (Ok tt) s s
left_out setup block_delete deleted line s h on out =
    let d : h.reading.deleted ≡ true = sym h.says ∙ out in
    record { reading = h.reading; reads = h.reads; becomes = rw (on, d) refl }

pub not_out_off : (block_delete deleted : Bool) → block_delete ≡ false → (block_delete && deleted) ≡ false
not_out_off block_delete deleted off = rw off refl

pub not_out_kept : (block_delete deleted : Bool) → block_delete ≡ true → deleted ≡ false → (block_delete && deleted) ≡ false
not_out_kept block_delete deleted on kept = rw (on, kept) refl

pub at_same_line : (s t : State) (number : ℕ) {line : ℕ} → line ≡ number → t ≡ record s { line = number } → t ≡ record s { line = line }
at_same_line s t number same at = at ∙ ap (λ (n : ℕ). record s { line = n }) (sym same)

-- the line is executed
pub executed_line : (setup : Setup) (block_delete deleted : Bool) (line : Line) (s t : State) (r : Reading) → SaysDeleted line.bytes deleted
    → (block_delete && deleted) ≡ false → t ≡ record s { line = line.number } → Reads line.bytes r
    → after_line setup block_delete line.number r s ≡ at_line line.number (execute setup r.items t)
executed_line setup block_delete deleted line s t r h kept at reads =
    let same : r ≡ h.reading = one_reading line.bytes r h.reading reads h.reads in
    let d : (block_delete && r.deleted) ≡ false = ap (λ (y : Bool). block_delete && y) (ap (λ (y : Reading). y.deleted) same ∙ sym h.says) ∙ kept in
    rw d (ap (λ (u : State). at_line line.number (execute setup r.items u)) (sym at))

-- every reading of a line has the same result
pub taken_as : (setup : Setup) (block_delete : Bool) (line : Line) (answer : Result (Unit {0}) ProgramFault) (old new : State) (r : Reading)
    → IsTaken setup block_delete line answer old new → Reads line.bytes r → BecomesAt answer new (after_line setup block_delete line.number r old)
taken_as setup block_delete line answer old new r h reads =
    subst (λ (x : Reading). BecomesAt answer new (after_line setup block_delete line.number x old)) (one_reading line.bytes h.reading r h.reads reads) h.becomes

-- ---- from line to line

-- the result of the remaining lines from an index on
abbrev pub left : Setup → Program → Bool → List Line → List Reading → ℕ → State → Result State ProgramFault
left setup p block_delete lines rs i s = from_state setup p (remaining block_delete (with_readings (drop i lines) (drop i rs))) s

pub left_step : (setup : Setup) (p : Program) (block_delete : Bool) (lines : List Line) (rs : List Reading) (i number : ℕ) (bytes : List ℕ) (s : State) →
    s.ended ≡ false
    → (next : NextLine lines rs i number bytes)
    → left setup p block_delete lines rs i s ≡ then_lines (after_line setup block_delete number next.reading s)
    (λ t. left setup p block_delete lines rs (i + 1) t)
left_step setup p block_delete lines rs i number bytes s running next =
    ap (λ (l : List NumberedLine). from_state setup p (remaining block_delete l) s) next.afterwards
    ∙ step_remaining setup p block_delete number next.reading (with_readings (drop (i + 1) lines) (drop (i + 1) rs)) s running

pub left_refused : (setup : Setup) (p : Program) (block_delete : Bool) (lines : List Line) (rs : List Reading) (i number : ℕ) (bytes : List ℕ) (s : State)
    (e : ProgramFault) → s.ended ≡ false
    → (next : NextLine lines rs i number bytes) → after_line setup block_delete number next.reading s ≡ Err e → left setup p block_delete lines rs i s ≡ Err e
left_refused setup p block_delete lines rs i number bytes s e running next refused =
    left_step setup p block_delete lines rs i number bytes s running next
    ∙ ap (λ (x : Result State ProgramFault). then_lines x (λ t. left setup p block_delete lines rs (i + 1) t)) refused

left_done : (setup : Setup) (p : Program) (block_delete : Bool) (lines : List Line) (rs : List Reading) (i number : ℕ) (bytes : List ℕ) (s t : State) →
    s.ended ≡ false
    → (next : NextLine lines rs i number bytes) → after_line setup block_delete number next.reading s ≡ Ok t → (b : Bool) → t.ended ≡ b
    → left setup p block_delete lines rs i s ≡ go_on b t (λ u. left setup p block_delete lines rs (i + 1) u)
left_done setup p block_delete lines rs i number bytes s t running next done b e =
    left_step setup p block_delete lines rs i number bytes s running next
    ∙ ap (λ (x : Result State ProgramFault). then_lines x (λ u. left setup p block_delete lines rs (i + 1) u)) done
    ∙ ap (λ (x : Bool). go_on x t (λ u. left setup p block_delete lines rs (i + 1) u)) e

pub left_ended : (setup : Setup) (p : Program) (block_delete : Bool) (lines : List Line) (rs : List Reading) (i number : ℕ) (bytes : List ℕ) (s t : State) →
    s.ended ≡ false
    → (next : NextLine lines rs i number bytes) → after_line setup block_delete number next.reading s ≡ Ok t → t.ended ≡ true →
    left setup p block_delete lines rs i s ≡ Ok t
left_ended setup p block_delete lines rs i number bytes s t running next done e =
    left_done setup p block_delete lines rs i number bytes s t running next done true e

pub left_on : (setup : Setup) (p : Program) (block_delete : Bool) (lines : List Line) (rs : List Reading) (i number : ℕ) (bytes : List ℕ) (s t : State) →
    s.ended ≡ false
    → (next : NextLine lines rs i number bytes) → after_line setup block_delete number next.reading s ≡ Ok t → t.ended ≡ false
    → left setup p block_delete lines rs i s ≡ left setup p block_delete lines rs (i + 1) t
left_on setup p block_delete lines rs i number bytes s t running next done e =
    left_done setup p block_delete lines rs i number bytes s t running next done false e

no_lines : (lines : List Line) (rs : List Reading) → lines ≡ [] → with_readings lines rs ≡ []
no_lines lines rs e = ap (λ (l : List Line). with_readings l rs) e

pub left_none : (setup : Setup) (p : Program) (block_delete : Bool) (lines : List Line) (rs : List Reading) (i : ℕ) (s : State) → length lines ≤ i →
    left setup p block_delete lines rs i s ≡ past_last p.mark p.count s
unfolding from_state
left_none setup p block_delete lines rs i s h =
    ap (λ (l : List NumberedLine). from_state setup p (remaining block_delete l) s) (no_lines (drop i lines) (drop i rs) (drop_of_length-le lines h))

-- the refusal of a line is the program's
pub refused_fails : (fault : ProgramFault) (new : State) (says whole : Result State ProgramFault) → ((e : ProgramFault) → says ≡ Err e → whole ≡ Err e) →
    BecomesAt (Err fault) new says → Fails fault (commands_of whole)
refused_fails (At line e) new says whole on h = ap commands_of (on (At line e) h)
refused_fails Memory new says whole on h = tt
