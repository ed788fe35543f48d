-- One plain line after another.
use Rattle.std.proofs.Common.{◌≡◌, ℕ, ℤ, suc, ◌+◌, ◌<◌, ◌≤◌, true, false, List, [], ◌∷◌, ◌++◌, length, drop, get_or, Option, Result, Ok, Err, refl, ap, sym, subst, ◌∙◌, arith}
use Rattle.std.proofs.Math.Seq.{drop-cons}
use Rattle.std.proofs.Math.ListN.{drop_of_length-le}
use Rattle.std.proofs.lemmas.List.{length-append, map-append}
use Rattle.ngc_line_reader.specs.declared.letter.Letter.{Letter}
use Rattle.ngc_line_reader.specs.declared.word.Word.{Word}
use Rattle.ngc_line_reader.specs.Words.{pair_of, pairs_of}
use Rattle.ngc_canonical.specs.declared.fault.Fault.{Fault}
use Rattle.ngc_canonical.specs.State.{Setup, State}
use Rattle.ngc_canonical.specs.declared.fault.ProgramFault.TheVariants.{At}
use Rattle.ngc_canonical.specs.Meaning.{at_line}
use Rattle.ngc_canonical.specs.Steps.{◌>>=◌}
use Rattle.ngc_dialect_rules.specs.declared.plain.Plain.{Plain}
use Rattle.ngc_dialect_rules.specs.declared.plain.Plain.TheVariants as plain
use Rattle.ngc_dialect_execution.specs.declared.fault.Cause.{Cause}
use Rattle.ngc_dialect_execution.specs.declared.fault.Cause.TheVariants as causes
use Rattle.ngc_dialect_execution.specs.declared.fault.Refusal.{Refusal}
use Rattle.ngc_dialect_execution.specs.declared.fault.Refusal.TheVariants.{Because, Memory}
use Rattle.ngc_dialect_execution.specs.Executed.{PlainLine, Run, execute_plain, kept_with, line_run, lines_from, run}
use Rattle.ngc_dialect_execution.specs.Faults.{Says, caused}

abbrev pub plain_line : ℕ → List Word → PlainLine
plain_line line words = record { line = line; words = pairs_of words }

-- ---- one plain line, by what its words do

abbrev pub run_with : State → Option (List PlainLine) → Run
run_with s kept = record { state = s; kept = kept }

done_by : (x : Result State Fault) (at : ℕ) (more kept : Option (List PlainLine)) (s : State) → at_line at x ≡ Ok s → kept ≡ more
    → caused causes.Plain (x >>= λ (t : State). Ok (run_with t more)) ≡ Ok (run_with s kept)
done_by (Ok t) at more kept s is keeps = cc
done_by (Err e) at more kept s is keeps = cc

pub line_ran : (setup : Setup) (line : ℕ) (ws vs : List Word) (r : Run) (s : State) (kept : Option (List PlainLine)) → ws ≡ vs
    → at_line line (execute_plain setup (plain_line line ws) r.state) ≡ Ok s → kept ≡ kept_with (plain_line line ws) r.kept
    → caused causes.Plain (line_run setup (plain_line line vs) r) ≡ Ok (run_with s kept)
line_ran setup line ws vs r s kept same is keeps =
    subst (λ (us : List Word). caused causes.Plain (line_run setup (plain_line line us) r) ≡ Ok (run_with s kept)) same
    (done_by (execute_plain setup (plain_line line ws) r.state) line (kept_with (plain_line line ws) r.kept) kept s is keeps)

broken_by : (x : Result State Fault) (at line : ℕ) (e : Fault) (more : Option (List PlainLine)) → at_line at x ≡ Err (At line e)
    → caused causes.Plain (x >>= λ (t : State). Ok (run_with t more)) ≡ Err (causes.Plain e)
broken_by (Ok t) at line e more is = cc
broken_by (Err d) at line e more is = cc

pub line_stopped : (setup : Setup) (line number : ℕ) (ws vs : List Word) (r : Run) (e : Fault) → ws ≡ vs
    → at_line line (execute_plain setup (plain_line line ws) r.state) ≡ Err (At number e)
    → caused causes.Plain (line_run setup (plain_line line vs) r) ≡ Err (causes.Plain e)
line_stopped setup line number ws vs r e same is =
    subst (λ (us : List Word). caused causes.Plain (line_run setup (plain_line line us) r) ≡ Err (causes.Plain e)) same
    (broken_by (execute_plain setup (plain_line line ws) r.state) line number e (kept_with (plain_line line ws) r.kept) is)

-- ---- the parts that are left

-- executing the parts from an index on, where some words are begun
abbrev pub left : Setup → ℕ → List Plain → ℕ → List Word → Run → Result Run Fault
left setup line ps i words s = run setup (lines_from line (pairs_of words) (drop i ps)) s

-- the part at an index, and the parts after it
from_here : (ps : List Plain) (i : ℕ) (d p : Plain) → i < length ps → p ≡ get_or ps i d → drop i ps ≡ p ∷ drop (i + 1) ps
from_here ps i d p h e =
    let one : i + 1 ≡ suc i = omega arith in
    drop-cons ps i d h ∙ ap (λ (q : Plain). q ∷ drop (suc i) ps) (sym e) ∙ ap (λ (n : ℕ). p ∷ drop n ps) (sym one)

pub word_begun : (setup : Setup) (line : ℕ) (ps : List Plain) (i : ℕ) (d p : Plain) (w : Word) (words : List Word) (s : Run) → i < length ps →
    p ≡ get_or ps i d → p ≡ plain.Word w
    → left setup line ps i words s ≡ left setup line ps (i + 1) (words ++ w ∷ []) s
unfolding lines_from
word_begun setup line ps i d p w words s h at is =
    let here : drop i ps ≡ plain.Word w ∷ drop (i + 1) ps = from_here ps i d p h at ∙ ap (λ (q : Plain). q ∷ drop (i + 1) ps) is in
    ap (λ (qs : List Plain). run setup (lines_from line (pairs_of words) qs) s) here
    ∙ ap (λ (begun : List (Letter × ℤ)). run setup (lines_from line begun (drop (i + 1) ps)) s) (sym (map-append pair_of words (w ∷ [])))

line_here : (setup : Setup) (line : ℕ) (ps : List Plain) (i : ℕ) (d p : Plain) (words : List Word) (s : Run) → i < length ps → p ≡ get_or ps i d →
    p ≡ plain.End
    → left setup line ps i words s ≡ run setup (record { line = line; words = pairs_of words } ∷ lines_from line [] (drop (i + 1) ps)) s
unfolding lines_from
line_here setup line ps i d p words s h at is =
    let here : drop i ps ≡ plain.End ∷ drop (i + 1) ps = from_here ps i d p h at ∙ ap (λ (q : Plain). q ∷ drop (i + 1) ps) is in
    ap (λ (qs : List Plain). run setup (lines_from line (pairs_of words) qs) s) here

-- after an end nothing is executed
pub line_over : (setup : Setup) (line : ℕ) (ps : List Plain) (i : ℕ) (d p : Plain) (words : List Word) (s : Run) → i < length ps → p ≡ get_or ps i d →
    p ≡ plain.End → s.state.ended ≡ true
    → left setup line ps i words s ≡ Ok s
unfolding run
line_over setup line ps i d p words s h at is over = line_here setup line ps i d p words s h at is ∙ rw over refl

line_next : (setup : Setup) (line : ℕ) (ps : List Plain) (i : ℕ) (d p : Plain) (words : List Word) (s : Run) → i < length ps → p ≡ get_or ps i d →
    p ≡ plain.End → s.state.ended ≡ false
    → left setup line ps i words s
    ≡ (line_run setup (plain_line line words) s >>= λ t. left setup line ps (i + 1) [] t)
unfolding run
line_next setup line ps i d p words s h at is on = line_here setup line ps i d p words s h at is ∙ rw on refl

same_state : (r : Result Run Fault) (t : Run) → (let x : Result Run Cause = Ok t in caused causes.Plain r ≡ x) → r ≡ Ok t
same_state (Ok s) t e = cc
same_state (Err fault) t e = absurd (cc e)

pub line_done : (setup : Setup) (line : ℕ) (ps : List Plain) (i : ℕ) (d p : Plain) (words : List Word) (s t : Run) → i < length ps → p ≡ get_or ps i d →
    p ≡ plain.End → s.state.ended ≡ false
    → caused causes.Plain (line_run setup (plain_line line words) s) ≡ Ok t
    → left setup line ps i words s ≡ left setup line ps (i + 1) [] t
line_done setup line ps i d p words s t h at is on done =
    line_next setup line ps i d p words s h at is on
    ∙ ap (λ (r : Result Run Fault). r >>= λ u. left setup line ps (i + 1) [] u) (same_state _ t done)

refused_first : (r : Result Run Fault) (f : Run → Result Run Fault) (e : Cause) → caused causes.Plain r ≡ Err e → caused causes.Plain (r >>= f) ≡ Err e
refused_first (Ok s) f e is = absurd (cc is)
refused_first (Err fault) f e is = is

pub line_refused : (setup : Setup) (line : ℕ) (ps : List Plain) (i : ℕ) (d p : Plain) (words : List Word) (s : Run) (refusal : Refusal)
    (view : Unit {0} → Run) (whole : Result Run Fault) → i < length ps
    → p ≡ get_or ps i d → p ≡ plain.End → s.state.ended ≡ false → left setup line ps i words s ≡ whole
    → Says view (Err refusal) (caused causes.Plain (line_run setup (plain_line line words) s))
    → Says view (Err refusal) (caused causes.Plain whole)
line_refused setup line ps i d p words s (Because e) view whole h at is on leads says =
    ap (caused causes.Plain) (sym leads ∙ line_next setup line ps i d p words s h at is on)
    ∙ refused_first (line_run setup (plain_line line words) s) (λ t. left setup line ps (i + 1) [] t) e says
line_refused setup line ps i d p words s Memory view whole h at is on leads says = tt

-- after the last part nothing is left
pub none_left : (setup : Setup) (line : ℕ) (ps : List Plain) (i : ℕ) (words : List Word) (s : Run) → length ps ≤ i → left setup line ps i words s ≡ Ok s
unfolding run lines_from
none_left setup line ps i words s h = ap (λ (qs : List Plain). run setup (lines_from line (pairs_of words) qs) s) (drop_of_length-le ps h)

-- ---- in the words of the loop

pub with_word : (setup : Setup) (line : ℕ) (ps : List Plain) (i : ℕ) (d p : Plain) (w : Word) (words more : List Word) (s t : Run)
    (whole : Result Run Fault) → i < length ps → p ≡ get_or ps i d → p ≡ plain.Word w → more ≡ words ++ w ∷ [] → t ≡ s
    → left setup line ps i words s ≡ whole
    → left setup line ps (i + 1) more t ≡ whole
with_word setup line ps i d p w words more s t whole h at is grown same leads =
    ap (λ (ws : List Word). left setup line ps (i + 1) ws t) grown ∙ ap (λ (u : Run). left setup line ps (i + 1) (words ++ w ∷ []) u) same
    ∙ sym (word_begun setup line ps i d p w words s h at is) ∙ leads

pub with_line : (setup : Setup) (line : ℕ) (ps : List Plain) (i : ℕ) (d p : Plain) (words given more : List Word) (s t u : Run)
    (whole : Result Run Fault) → i < length ps → p ≡ get_or ps i d → p ≡ plain.End → s.state.ended ≡ false → given ≡ words → more ≡ [] → u ≡ t
    → caused causes.Plain (line_run setup (plain_line line given) s) ≡ Ok t → left setup line ps i words s ≡ whole
    → left setup line ps (i + 1) more u ≡ whole
with_line setup line ps i d p words given more s t u whole h at is on same none there done leads =
    ap (λ (ws : List Word). left setup line ps (i + 1) ws u) none ∙ ap (λ (x : Run). left setup line ps (i + 1) [] x) there
    ∙ sym (line_done setup line ps i d p words s t h at is on
    (ap (λ (ws : List Word). caused causes.Plain (line_run setup (plain_line line ws) s)) (sym same) ∙ done))
    ∙ leads

pub refused_line : (setup : Setup) (line : ℕ) (ps qs : List Plain) (i : ℕ) (d p : Plain) (words given : List Word) (s start : Run) (refusal : Refusal)
    (view other : Unit {0} → Run) → i < length ps → p ≡ get_or ps i d → p ≡ plain.End → s.state.ended ≡ false → given ≡ words → ps ≡ qs
    → left setup line ps i words s ≡ run setup (lines_from line [] ps) start
    → Says view (Err refusal) (caused causes.Plain (line_run setup (plain_line line given) s))
    → Says other (Err refusal) (caused causes.Plain (run setup (lines_from line [] qs) start))
refused_line setup line ps qs i d p words given s start (Because e) view other h at is on same all leads says =
    ap (λ (xs : List Plain). caused causes.Plain (run setup (lines_from line [] xs) start)) (sym all)
    ∙ line_refused setup line ps i d p words s (Because e) view (run setup (lines_from line [] ps) start) h at is on leads
    (ap (λ (ws : List Word). caused causes.Plain (line_run setup (plain_line line ws) s)) (sym same) ∙ says)
refused_line setup line ps qs i d p words given s start Memory view other h at is on same all leads says = tt

-- the whole result, once nothing is left
pub all_done : (setup : Setup) (line : ℕ) (ps qs : List Plain) (start t : Run) (here : Result Run Fault) → ps ≡ qs
    → here ≡ run setup (lines_from line [] ps) start → here ≡ Ok t
    → caused causes.Plain (run setup (lines_from line [] qs) start) ≡ Ok t
all_done setup line ps qs start t here all leads done =
    ap (λ (xs : List Plain). caused causes.Plain (run setup (lines_from line [] xs) start)) (sym all) ∙ ap (caused causes.Plain) (sym leads ∙ done)

pub one_more : (words more : List Word) (w : Word) (n : ℕ) → more ≡ words ++ w ∷ [] → length words ≤ n → length more ≤ n + 1
one_more words more w n grown h =
    let longer : length more ≡ length words + 1 = ap length grown ∙ length-append words (w ∷ []) in
    omega (arith, longer, h)

pub none_more : (more : List Word) (n : ℕ) → more ≡ [] → length more ≤ n + 1
none_more more n none =
    let empty : length more ≡ 0 = ap length none in
    omega (arith, empty)
