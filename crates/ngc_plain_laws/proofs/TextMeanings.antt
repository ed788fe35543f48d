-- The text of plain lines does what the plain lines do.
use Rattle.std.proofs.Common.{◌≡◌, ℕ, suc, ◌+◌, List, [], ◌∷◌, ◌++◌, length, map, Bool, true, false, Result, Ok, Err, refl, ap, sym, subst, ◌∙◌, arith}
use Rattle.std.proofs.lemmas.Bool.{and_parts}
use Rattle.std.specs.Prelude.{ℤ, nat_le, if◌then◌else◌}
use Rattle.std.specs.List.{AllByRecursion, list_all}
use Rattle.ngc_line_reader.specs.declared.letter.Letter.{Letter}
use Rattle.ngc_line_reader.specs.Grammar.{Reading, Reads}
use Rattle.ngc_line_reader.specs.Program.{Line, numbered}
use Rattle.ngc_line_reader.specs.ProgramText.{AreReadings, HaveReadings}
use Rattle.ngc_line_reader.proofs.UniqueLine.{one_reading}
use Rattle.ngc_commands.specs.declared.command.Command.{Command}
use Rattle.ngc_commands.specs.Movement.{actions_of}
use Rattle.ngc_canonical.specs.declared.fault.Fault.{Fault}
use Rattle.ngc_canonical.specs.declared.fault.Fault.TheVariants.{NoEnd}
use Rattle.ngc_canonical.specs.declared.fault.ProgramFault.{ProgramFault}
use Rattle.ngc_canonical.specs.declared.fault.ProgramFault.TheVariants.{At}
use Rattle.ngc_canonical.specs.Meaning.{Program, after_line, at_line, execute_words, remaining, past_last, go_on, then_lines, from_state, commands_of}
use Rattle.ngc_canonical.specs.Meaning.{parsed_program, with_readings}
use Rattle.ngc_canonical.specs.State.{Setup, State, start_state}
use Rattle.ngc_canonical.specs.Steps.{◌>>=◌}
use Rattle.ngc_canonical.proofs.Lines.{step_remaining, words_do}
use Rattle.ngc_plain_text.specs.Text.{line_text}
use Rattle.ngc_plain_text.specs.Limits.{AreValues, is_short}
use Rattle.ngc_plain_text.proofs.LineTexts.{reading_of, items_of, line_reads, line_says, within_limit, line_reads_back}
use Rattle.ngc_plain_text.proofs.ProgramTexts.{texts_read_back}
use Rattle.ngc_dialect_execution.specs.Executed.{PlainLine, execute_plain, executed}
use Rattle.ngc_plain_laws.specs.Laws.{LinesDoWords, Means, words_in, text_of, IsPrintable, in_text, TextsHaveCommands, TextsLackEnd, TextsHaveFaults}
use Rattle.ngc_plain_laws.proofs.LineNumbers.{bare, bared, same_actions, words_same}

-- ---- a line

line_does : (setup : Setup) (block_delete : Bool) (number : ℕ) (words : List (Letter × ℤ)) (s : State) → AreValues words →
    after_line setup block_delete number (reading_of words) s ≡ at_line number (execute_words setup words (record s { line = number }))
line_does setup true number words s h =
    ap (at_line number) (sym (words_do setup (items_of words) words (record s { line = number }) (within_limit words h) (sym (line_says words h))))
line_does setup false number words s h =
    ap (at_line number) (sym (words_do setup (items_of words) words (record s { line = number }) (within_limit words h) (sym (line_says words h))))

pub lines_do_words : LinesDoWords
lines_do_words setup block_delete number words r s h reads =
    let same : r ≡ reading_of words = one_reading (line_text words) r (reading_of words) reads (line_reads words h) in
    ap (λ (x : Reading). after_line setup block_delete number x s) same ∙ line_does setup block_delete number words s h

-- ---- plain lines in order

state_of_ok : (s t : State) → (let x : Result State Fault = Ok s in let y : Result State Fault = Ok t in x ≡ y) → s ≡ t
state_of_ok s t e = cc

fault_of_err : (e f : Fault) → (let x : Result State Fault = Err e in let y : Result State Fault = Err f in x ≡ y) → e ≡ f
fault_of_err e f h = cc

-- after an end nothing is executed
stays : (setup : Setup) (ls : List PlainLine) (s : State) → s.ended ≡ true → executed setup ls s ≡ Ok s
unfolding executed
stays setup [] s e = refl
stays setup (l ∷ ls) s e = rw e refl

next_executed : (setup : Setup) (l : PlainLine) (ls : List PlainLine) (s : State) → s.ended ≡ false →
    executed setup (l ∷ ls) s ≡ (execute_plain setup l s >>= λ t. executed setup ls t)
unfolding executed
next_executed setup l ls s running = rw running refl

next_done : (setup : Setup) (l : PlainLine) (ls : List PlainLine) (s t : State) → s.ended ≡ false → execute_plain setup l s ≡ Ok t →
    executed setup (l ∷ ls) s ≡ executed setup ls t
next_done setup l ls s t running done =
    next_executed setup l ls s running ∙ ap (λ (x : Result State Fault). x >>= λ u. executed setup ls u) done

none_executed : (setup : Setup) (s : State) → executed setup [] s ≡ Ok s
unfolding executed
none_executed setup s = refl

-- the text's state after plain lines that weren't refused, from this line number and state on
record Reaches (setup : Setup) (p : Program) (number : ℕ) (ls : List PlainLine) (from to : State) (said : Result State ProgramFault) : Type 0 where
  other : State
  alike : bare other ≡ bare to
  numbers : executed setup (in_text number ls) from ≡ Ok other
  says : said ≡ (if other.ended then Ok other else past_last p.mark p.count other)

-- the plain line that was refused, and the text's fault
record Refuses (setup : Setup) (number : ℕ) (ls : List PlainLine) (from : State) (e : Fault) (said : Result State ProgramFault) : Type 0 where
  before : List PlainLine
  line : PlainLine
  rest : List PlainLine
  are : ls ≡ before ++ (line ∷ rest)
  state : State
  reaches : executed setup before from ≡ Ok state
  running : state.ended ≡ false
  refused : execute_plain setup line state ≡ Err e
  says : said ≡ Err (At (length before + number) e)

-- what the text does, by what the plain lines do: s is the state before them, and u that of the text
abbrev Does : Setup → Program → ℕ → List PlainLine → State → State → Result State Fault → Result State ProgramFault → Type 0
Does setup p number ls s u (Ok t) said = Reaches setup p number ls u t said
Does setup p number ls s u (Err e) said = Refuses setup number ls s e said

-- one more line in front
further : (setup : Setup) (p : Program) (number : ℕ) (l : PlainLine) (ls : List PlainLine) (s u t v : State) (x : Result State Fault)
    (said : Result State ProgramFault) → s.ended ≡ false → u.ended ≡ false → execute_plain setup l s ≡ Ok t
    → execute_words setup l.words (record u { line = number }) ≡ Ok v → Does setup p (number + 1) ls t v x said → Does setup p number (l ∷ ls) s u x said
further setup p number l ls s u t v (Ok w) said run_s run_u done_s done_u h = record {
  other = h.other;
  alike = h.alike;
  numbers = next_done setup (record { line = number; words = l.words }) (in_text (number + 1) ls) u v run_u done_u ∙ h.numbers;
  says = h.says;
}
further setup p number l ls s u t v (Err e) said run_s run_u done_s done_u h = record {
  before = l ∷ h.before;
  line = h.line;
  rest = h.rest;
  are = ap (λ (x : List PlainLine). l ∷ x) h.are;
  state = h.state;
  reaches = next_done setup l h.before s t run_s done_s ∙ h.reaches;
  running = h.running;
  refused = h.refused;
  says = let one : length h.before + (number + 1) ≡ length (l ∷ h.before) + number = omega arith in
      h.says ∙ ap (λ (n : ℕ). let r : Result State ProgramFault = Err (At n e) in r) one;
}

-- a line that ends the program
over : (setup : Setup) (p : Program) (number : ℕ) (l : PlainLine) (ls : List PlainLine) (s u t v : State) → u.ended ≡ false → bare v ≡ bare t → v.ended ≡ true
    → execute_words setup l.words (record u { line = number }) ≡ Ok v → Does setup p number (l ∷ ls) s u (Ok t) (Ok v)
over setup p number l ls s u t v run_u alike e done_u = record {
  other = v;
  alike = alike;
  numbers = next_done setup (record { line = number; words = l.words }) (in_text (number + 1) ls) u v run_u done_u ∙ stays setup (in_text (number + 1) ls) v e;
  says = rw e refl;
}

-- the text after a line that wasn't refused
after_one : (setup : Setup) (p : Program) (number : ℕ) (l : PlainLine) (ls : List PlainLine) (s u t v : State) (rest : State → Result State ProgramFault)
    → s.ended ≡ false → u.ended ≡ false → execute_plain setup l s ≡ Ok t → execute_words setup l.words (record u { line = number }) ≡ Ok v → bare v ≡ bare t
    → (t.ended ≡ false → Does setup p (number + 1) ls t v (executed setup ls t) (rest v))
    → Does setup p number (l ∷ ls) s u (executed setup ls t) (go_on v.ended v rest)
after_one setup p number l ls s u t v rest run_s run_u done_s done_u alike more = by_end t.ended refl where
  by_end : (b : Bool) → t.ended ≡ b → Does setup p number (l ∷ ls) s u (executed setup ls t) (go_on v.ended v rest)
  by_end true e =
      let f : v.ended ≡ true = ap (λ (x : State). x.ended) alike ∙ e in
      subst (λ (r : Result State ProgramFault). Does setup p number (l ∷ ls) s u (executed setup ls t) r) (sym (ap (λ (x : Bool). go_on x v rest) f))
      (subst (λ (r : Result State Fault). Does setup p number (l ∷ ls) s u r (Ok v)) (sym (stays setup ls t e))
      (over setup p number l ls s u t v run_u alike f done_u))
  by_end false e =
      let f : v.ended ≡ false = ap (λ (x : State). x.ended) alike ∙ e in
      subst (λ (r : Result State ProgramFault). Does setup p number (l ∷ ls) s u (executed setup ls t) r) (sym (ap (λ (x : Bool). go_on x v rest) f))
      (further setup p number l ls s u t v (executed setup ls t) (rest v) run_s run_u done_s done_u (more e))

-- the text's line, by the result of the plain line and its own
by_results : (setup : Setup) (p : Program) (number : ℕ) (l : PlainLine) (ls : List PlainLine) (s u : State) (rest : State → Result State ProgramFault)
    (x y : Result State Fault) → s.ended ≡ false → u.ended ≡ false → execute_plain setup l s ≡ x → execute_words setup l.words (record u { line = number }) ≡ y
    → bared y ≡ bared x
    → ((t v : State) → t.ended ≡ false → bare v ≡ bare t → Does setup p (number + 1) ls t v (executed setup ls t) (rest v))
    → Does setup p number (l ∷ ls) s u (x >>= λ t. executed setup ls t) (then_lines (at_line number y) rest)
by_results setup p number l ls s u rest (Ok t) (Ok v) run_s run_u done_s done_u same more =
    let alike : bare v ≡ bare t = state_of_ok (bare v) (bare t) same in
    after_one setup p number l ls s u t v rest run_s run_u done_s done_u alike (λ e. more t v e alike)
by_results setup p number l ls s u rest (Err e) (Err f) run_s run_u done_s done_u same more = record {
  before = [];
  line = l;
  rest = ls;
  are = refl;
  state = s;
  reaches = none_executed setup s;
  running = run_s;
  refused = done_s;
  says = let nothing : List PlainLine = [] in let here : number ≡ length nothing + number = omega arith in
      ap (λ (x : Fault). let r : Result State ProgramFault = Err (At number x) in r) (fault_of_err f e same)
      ∙ ap (λ (n : ℕ). let r : Result State ProgramFault = Err (At n e) in r) here;
}
by_results setup p number l ls s u rest (Ok t) (Err f) run_s run_u done_s done_u same more = absurd (cc same)
by_results setup p number l ls s u rest (Err e) (Ok v) run_s run_u done_s done_u same more = absurd (cc same)

same_results : (setup : Setup) (words : List (Letter × ℤ)) (number line : ℕ) (s u : State) → bare u ≡ bare s →
    bared (execute_words setup words (record u { line = number })) ≡ bared (execute_words setup words (record s { line = line }))
same_results setup words number line s u alike =
    sym (words_same setup words (record u { line = number })) ∙ ap (execute_words setup words) alike ∙ words_same setup words (record s { line = line })

-- the lines that are the text of plain lines, from this number on
abbrev lines_at : ℕ → List PlainLine → List Line
lines_at number ls = numbered number (map line_text (words_in ls))

abbrev left : Setup → Program → Bool → ℕ → List PlainLine → List Reading → State → Result State ProgramFault
left setup p block_delete number ls rs u = from_state setup p (remaining block_delete (with_readings (lines_at number ls) rs)) u

none_left : (setup : Setup) (p : Program) (block_delete : Bool) (u : State) → from_state setup p (remaining block_delete []) u ≡ past_last p.mark p.count u
unfolding from_state
none_left setup p block_delete u = refl

line_left : (setup : Setup) (p : Program) (block_delete : Bool) (number : ℕ) (l : PlainLine) (ls : List PlainLine) (r : Reading) (rs : List Reading) (u : State)
    → AreValues l.words → Reads (line_text l.words) r → u.ended ≡ false
    → left setup p block_delete number (l ∷ ls) (r ∷ rs) u
    ≡ then_lines (at_line number (execute_words setup l.words (record u { line = number }))) (λ v. left setup p block_delete (number + 1) ls rs v)
line_left setup p block_delete number l ls r rs u values reads run_u =
    step_remaining setup p block_delete number r (with_readings (lines_at (number + 1) ls) rs) u run_u
    ∙ ap (λ (x : Result State ProgramFault). then_lines x (λ v. left setup p block_delete (number + 1) ls rs v))
    (lines_do_words setup block_delete number l.words r u values reads)

does : (setup : Setup) (p : Program) (block_delete : Bool) (number : ℕ) (ls : List PlainLine) (rs : List Reading) (s u : State)
    → AllByRecursion AreValues (words_in ls) → AreReadings (lines_at number ls) rs → s.ended ≡ false → bare u ≡ bare s
    → Does setup p number ls s u (executed setup ls s) (left setup p block_delete number ls rs u)
does setup p block_delete number [] [] s u values are run_s alike =
    let run_u : u.ended ≡ false = ap (λ (x : State). x.ended) alike ∙ run_s in
    subst (λ (x : Result State Fault). Does setup p number [] s u x (left setup p block_delete number [] [] u)) (sym (none_executed setup s)) (record {
      other = u;
      alike = alike;
      numbers = none_executed setup u;
      says = none_left setup p block_delete u
          ∙ sym (ap (λ (b : Bool). let r : Result State ProgramFault = Ok u in if b then r else past_last p.mark p.count u) run_u);
    })
does setup p block_delete number [] (r ∷ rs) s u values are run_s alike = absurd are
does setup p block_delete number (l ∷ ls) [] s u values are run_s alike = absurd are
does setup p block_delete number (l ∷ ls) (r ∷ rs) s u values are run_s alike =
    let run_u : u.ended ≡ false = ap (λ (x : State). x.ended) alike ∙ run_s in
    subst (λ (x : Result State Fault). Does setup p number (l ∷ ls) s u x (left setup p block_delete number (l ∷ ls) (r ∷ rs) u))
    (sym (next_executed setup l ls s run_s))
    (subst (λ (y : Result State ProgramFault). Does setup p number (l ∷ ls) s u (execute_plain setup l s >>= λ t. executed setup ls t) y)
    (sym (line_left setup p block_delete number l ls r rs u values.0 are.0 run_u))
    (by_results setup p number l ls s u (λ v. left setup p block_delete (number + 1) ls rs v) (execute_plain setup l s)
    (execute_words setup l.words (record u { line = number })) run_s run_u refl refl (same_results setup l.words number l.line s u alike)
    (λ t v run_t same. does setup p block_delete (number + 1) ls rs t v values.1 are.2 run_t same)))

-- ---- the text as a program

-- the text's lines have readings
have_readings : (number : ℕ) (lines : List (List (Letter × ℤ))) → AllByRecursion AreValues lines → list_all is_short lines ≡ true →
    HaveReadings (numbered number (map line_text lines))
have_readings number [] values short = record { readings = []; are = tt }
have_readings number (words ∷ lines) values short =
    let parts = and_parts (is_short words) (list_all is_short lines) short in
    let first = line_reads_back words values.0 parts.0 in
    let more = have_readings (number + 1) lines values.1 parts.1 in
    record { readings = first.reading ∷ more.readings; are = (first.reads, first.limits, more.are) }

abbrev program_in : List PlainLine → List Reading → Program
program_in ls rs = parsed_program (record { lines = lines_at 1 ls; marked = false }) rs

readings_of : (ls : List PlainLine) → IsPrintable ls → HaveReadings (lines_at 1 ls)
readings_of ls h = have_readings 1 (words_in ls) h.values (and_parts (nat_le (length (words_in ls)) 100000) (list_all is_short (words_in ls)) h.few).1

-- lines have only one reading each
one_list : (lines : List Line) (rs qs : List Reading) → AreReadings lines rs → AreReadings lines qs → rs ≡ qs
one_list [] [] [] h k = refl
one_list [] [] (q ∷ qs) h k = absurd k
one_list [] (r ∷ rs) qs h k = absurd h
one_list (line ∷ lines) [] qs h k = absurd h
one_list (line ∷ lines) (r ∷ rs) [] h k = absurd k
one_list (line ∷ lines) (r ∷ rs) (q ∷ qs) h k =
    ap (λ (x : Reading). x ∷ rs) (one_reading line.bytes r q h.0 k.0) ∙ ap (λ (xs : List Reading). q ∷ xs) (one_list lines rs qs h.2 k.2)

-- what the text says with a list of readings
abbrev said_with : Setup → Bool → List PlainLine → List Reading → Result State ProgramFault
said_with setup block_delete ls rs = left setup (program_in ls rs) block_delete 1 ls rs (start_state setup.machine)

-- a meaning with some readings is the text's
means : (setup : Setup) (block_delete : Bool) (ls : List PlainLine) (says : Result (List Command) ProgramFault) (rs : List Reading) → IsPrintable ls
    → AreReadings (lines_at 1 ls) rs → commands_of (said_with setup block_delete ls rs) ≡ says → Means (text_of ls) setup block_delete says
means setup block_delete ls says rs h are e = record {
  text = record { lines = lines_at 1 ls; marked = false };
  reads = texts_read_back (words_in ls) h.values h.few;
  readings = record { readings = rs; are = are };
  means = λ qs others. ap (λ (xs : List Reading). commands_of (said_with setup block_delete ls xs)) (one_list (lines_at 1 ls) qs rs others are) ∙ e;
}

from_start : (setup : Setup) (block_delete : Bool) (ls : List PlainLine) (rs : List Reading) → IsPrintable ls → AreReadings (lines_at 1 ls) rs
    → Does setup (program_in ls rs) 1 ls (start_state setup.machine) (start_state setup.machine) (executed setup ls (start_state setup.machine))
    (said_with setup block_delete ls rs)
from_start setup block_delete ls rs h are =
    does setup (program_in ls rs) block_delete 1 ls rs (start_state setup.machine) (start_state setup.machine) h.values are refl refl

-- the plain lines weren't refused
reached : (setup : Setup) (block_delete : Bool) (ls : List PlainLine) (s : State) (rs : List Reading) → IsPrintable ls → AreReadings (lines_at 1 ls) rs
    → executed setup ls (start_state setup.machine) ≡ Ok s
    → Reaches setup (program_in ls rs) 1 ls (start_state setup.machine) s
    (said_with setup block_delete ls rs)
reached setup block_delete ls s rs h are e =
    subst (λ (x : Result State Fault). Does setup (program_in ls rs) 1 ls (start_state setup.machine) (start_state setup.machine) x
    (said_with setup block_delete ls rs)) e (from_start setup block_delete ls rs h are)

refused : (setup : Setup) (block_delete : Bool) (ls : List PlainLine) (e : Fault) (rs : List Reading) → IsPrintable ls → AreReadings (lines_at 1 ls) rs
    → executed setup ls (start_state setup.machine) ≡ Err e
    → Refuses setup 1 ls (start_state setup.machine) e (said_with setup block_delete ls rs)
refused setup block_delete ls e rs h are is =
    subst (λ (x : Result State Fault). Does setup (program_in ls rs) 1 ls (start_state setup.machine) (start_state setup.machine) x
    (said_with setup block_delete ls rs)) is (from_start setup block_delete ls rs h are)

actions_kept : (s t : State) → bare s ≡ bare t → actions_of s.commands ≡ actions_of t.commands
actions_kept s t alike =
    sym (same_actions s.commands) ∙ ap (λ (x : State). actions_of x.commands) alike ∙ same_actions t.commands

ended_as : (s t : State) → bare s ≡ bare t → s.ended ≡ t.ended
ended_as s t alike = ap (λ (x : State). x.ended) alike

says_by : (b : Bool) (s : State) (past : Result State ProgramFault) → s.ended ≡ b →
    (let done : Result State ProgramFault = Ok s in (if s.ended then done else past) ≡ (if b then done else past))
says_by b s past e = ap (λ (x : Bool). let done : Result State ProgramFault = Ok s in if x then done else past) e

pub texts_have_commands : TextsHaveCommands
texts_have_commands setup block_delete ls s h e over =
    let first = readings_of ls h in
    let rs = first.readings in
    let r = reached setup block_delete ls s rs h first.are e in
    record {
      state = r.other;
      numbers = r.numbers;
      actions = actions_kept r.other s r.alike;
      means = means setup block_delete ls (Ok r.other.commands) rs h first.are
          (ap commands_of
          (r.says ∙ says_by true r.other (past_last (program_in ls rs).mark (program_in ls rs).count r.other) (ended_as r.other s r.alike ∙ over)));
    }

lines_count : (number : ℕ) (ls : List PlainLine) → length (lines_at number ls) ≡ length ls
lines_count number [] = refl
lines_count number (l ∷ ls) = ap suc (lines_count (number + 1) ls)

pub texts_lack_end : TextsLackEnd
texts_lack_end setup block_delete ls s h e on =
    let first = readings_of ls h in
    let rs = first.readings in
    let r = reached setup block_delete ls s rs h first.are e in
    means setup block_delete ls (Err (At (length ls) NoEnd)) rs h first.are
    (ap commands_of (r.says ∙ says_by false r.other (past_last (program_in ls rs).mark (program_in ls rs).count r.other) (ended_as r.other s r.alike ∙ on))
    ∙ ap (λ (n : ℕ). let said : Result (List Command) ProgramFault = Err (At n NoEnd) in said) (lines_count 1 ls))

pub texts_have_faults : TextsHaveFaults
texts_have_faults setup block_delete ls e h is =
    let first = readings_of ls h in
    let r = refused setup block_delete ls e first.readings h first.are is in
    record {
      before = r.before;
      line = r.line;
      rest = r.rest;
      are = r.are;
      state = r.state;
      reaches = r.reaches;
      running = r.running;
      refused = r.refused;
      means = means setup block_delete ls (Err (At (length r.before + 1) e)) first.readings h first.are (ap commands_of r.says);
    }
