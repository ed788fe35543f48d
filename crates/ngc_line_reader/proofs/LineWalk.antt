-- The lines of a file, one by one, and the result of the whole file.
use Rattle.std.proofs.Common.{◌≡◌, ℕ, suc, ◌+◌, ap, subst, Bool, true, false, Option, Some, None, List, [], ◌∷◌, ◌++◌, length, take, Result, Ok, Err, refl, sym}
use Rattle.std.proofs.Common.{◌∙◌, append_assoc, arith}
use Rattle.std.specs.Prelude.{if◌then◌else◌, ◌&&◌, nat_le, not, take_while}
use Rattle.std.specs.List.{list_any, prefix_len}
use Rattle.std.specs.Option.{option_or}
use Rattle.std.proofs.lemmas.List.{append-nil}
use Rattle.ngc_line_reader.specs.declared.fault.LineFault.{LineFault}
use Rattle.ngc_line_reader.specs.declared.program.fault.ReadFault.{ReadFault}
use Rattle.ngc_line_reader.specs.declared.program.fault.ReadFault.TheVariants as faults
use Rattle.ngc_line_reader.specs.declared.program.phase.Phase.{Phase}
use Rattle.ngc_line_reader.specs.declared.program.phase.Phase.TheVariants.{Start, Marked, Unmarked}
use Rattle.ngc_line_reader.specs.Text.{text}
use Rattle.ngc_line_reader.specs.Program.{Line, split_lines, numbered, is_percent_line, is_marked, without_mark, read_lines, lacks_end, is_percent_text}
use Rattle.ngc_line_reader.specs.Program.{is_blank_text}
use Rattle.ngc_line_reader.specs.ScanLine.{ParsedLine}
use Rattle.ngc_line_reader.specs.ReadLine.{line_read}
use Rattle.ngc_line_reader.specs.ProgramText.{Outcome, refusal_in, fault_of, first_fault, fault_or, text_of_lines, program_of}
use Rattle.ngc_line_reader.specs.Pieces.{firm_lines, fault_so_far}
use Rattle.ngc_line_reader.specs.Stored.{line_of}
use Rattle.ngc_line_reader.specs.Load.{is_percent, is_blank, number_in, phase_after, at_end, at_percent, with_line, walk, standing}

pub walk_end : (phase : Phase) (done : ℕ) (found : List Line) → walk phase done found [] ≡ at_end phase found
unfolding walk
walk_end phase done found = refl

pub walk_percent : (phase : Phase) (done : ℕ) (found : List Line) (b : List ℕ) (ls : List (List ℕ)) → is_percent b ≡ true →
    walk phase done found (b ∷ ls) ≡ at_percent phase found (walk Marked done found ls)
unfolding walk
walk_percent phase done found b ls e = rw e refl

pub walk_line : (phase : Phase) (done : ℕ) (found : List Line) (b : List ℕ) (ls : List (List ℕ)) → is_percent b ≡ false →
    fault_of done (line_of (number_in phase done) b) ≡ None
    → walk phase done found (b ∷ ls) ≡ walk (phase_after phase b) (done + 1) (with_line found (line_of (number_in phase done) b)) ls
unfolding walk
walk_line phase done found b ls e f = rw (e, f) refl

pub walk_refused : (phase : Phase) (done : ℕ) (found : List Line) (b : List ℕ) (ls : List (List ℕ)) (fault : ReadFault) → is_percent b ≡ false →
    fault_of done (line_of (number_in phase done) b) ≡ Some fault
    → walk phase done found (b ∷ ls) ≡ Err fault
unfolding walk
walk_refused phase done found b ls fault e f = rw (e, f) refl

-- the result of lines that are read after others: the first fault, or a missing end, or all of them
abbrev pub concluded : ℕ → List Line → List Line → Bool → Bool → Outcome
concluded done found read lacks marked =
    fault_or (first_fault done read) (if lacks then Err faults.NoEnd else Ok (record { lines = found ++ read; marked = marked }))

abbrev pub to_percent : List Line → List Line
to_percent lines = take_while (λ line. not (is_percent_line line)) lines

-- one more line in front
conclude_line : (done : ℕ) (found read : List Line) (line : Line) (lacks marked : Bool) → fault_of done line ≡ None
    → concluded (done + 1) (with_line found line) read lacks marked ≡ concluded done found (line ∷ read) lacks marked
conclude_line done found read line lacks marked e =
    rw (e, append_assoc found (line ∷ []) read) refl

conclude_refused : (done : ℕ) (found read : List Line) (line : Line) (lacks marked : Bool) (fault : ReadFault) → fault_of done line ≡ Some fault
    → concluded done found (line ∷ read) lacks marked ≡ Err fault
conclude_refused done found read line lacks marked fault e = rw e refl

take_one : (n : ℕ) (line : Line) (lines : List Line) → take (1 + n) (line ∷ lines) ≡ line ∷ take n lines
take_one n line lines = let e : 1 + n ≡ suc n = omega arith in rw e refl

to_percent_line : (line : Line) (lines : List Line) → is_percent_line line ≡ false → to_percent (line ∷ lines) ≡ line ∷ to_percent lines
to_percent_line line lines e = rw e (take_one (prefix_len (λ x. not (is_percent_line x)) lines) line lines)

at_percent_line : (line : Line) (lines : List Line) → is_percent_line line ≡ true → to_percent (line ∷ lines) ≡ []
at_percent_line line lines e = rw e refl

any_line : (line : Line) (lines : List Line) (x : Bool) → is_percent_line line ≡ x →
    list_any is_percent_line (line ∷ lines) ≡ (if x then true else list_any is_percent_line lines)
any_line line lines true e = rw e refl
any_line line lines false e = rw e refl

-- in a file that is not marked, the lines up to the first percent line are read
abbrev pub Unmarks : ℕ → List Line → List (List ℕ) → Type 0
Unmarks done found ls = walk Unmarked done found ls ≡ concluded done found (to_percent (numbered (done + 1) ls)) false false

unmarked_step : (b : List ℕ) (ls : List (List ℕ)) (done : ℕ) (found : List Line) (x : Bool) (f : Option ReadFault) → is_percent b ≡ x →
    fault_of done (line_of (done + 1) b) ≡ f
    → Unmarks (done + 1) (with_line found (line_of (done + 1) b)) ls → Unmarks done found (b ∷ ls)
unmarked_step b ls done found true f p q next =
    walk_percent Unmarked done found b ls p ∙ rw (at_percent_line (line_of (done + 1) b) (numbered (done + 1 + 1) ls) p, append-nil found) refl
unmarked_step b ls done found false (Some fault) p q next =
    walk_refused Unmarked done found b ls fault p q
    ∙ rw (to_percent_line (line_of (done + 1) b) (numbered (done + 1 + 1) ls) p) (sym (conclude_refused done found _ _ false false fault q))
unmarked_step b ls done found false None p q next =
    walk_line Unmarked done found b ls p q ∙ next
    ∙ rw (to_percent_line (line_of (done + 1) b) (numbered (done + 1 + 1) ls) p) (conclude_line done found _ _ false false q)

unmarked_walk : (ls : List (List ℕ)) (done : ℕ) (found : List Line) → Unmarks done found ls
unmarked_walk [] done found = walk_end Unmarked done found ∙ ap (λ (l : List Line). Ok (record { lines = l; marked = false })) (sym (append-nil found))
unmarked_walk (b ∷ ls) done found =
    unmarked_step b ls done found (is_percent b) (fault_of done (line_of (done + 1) b)) refl refl
    (unmarked_walk ls (done + 1) (with_line found (line_of (done + 1) b)))

-- in a marked file, those up to the second one, which must be present
abbrev pub Marks : ℕ → ℕ → List Line → List (List ℕ) → Type 0
Marks n done found ls =
    walk Marked done found ls ≡ concluded done found (to_percent (numbered n ls)) (not (list_any is_percent_line (numbered n ls))) true

marked_step : (b : List ℕ) (ls : List (List ℕ)) (done : ℕ) (found : List Line) (x : Bool) (f : Option ReadFault) → is_percent b ≡ x →
    fault_of done (line_of (done + 2) b) ≡ f
    → Marks (done + 2 + 1) (done + 1) (with_line found (line_of (done + 2) b)) ls → Marks (done + 2) done found (b ∷ ls)
marked_step b ls done found true f p q next =
    walk_percent Marked done found b ls p
    ∙ rw (
      at_percent_line (line_of (done + 2) b) (numbered (done + 2 + 1) ls) p,
      any_line (line_of (done + 2) b) (numbered (done + 2 + 1) ls) true p,
      append-nil found,
    ) refl
marked_step b ls done found false (Some fault) p q next =
    walk_refused Marked done found b ls fault p q
    ∙ rw (to_percent_line (line_of (done + 2) b) (numbered (done + 2 + 1) ls) p, q) refl
marked_step b ls done found false None p q next =
    walk_line Marked done found b ls p q ∙ next
    ∙ rw (to_percent_line (line_of (done + 2) b) (numbered (done + 2 + 1) ls) p, any_line (line_of (done + 2) b) (numbered (done + 2 + 1) ls) false p)
    (conclude_line done found _ _ (not (list_any is_percent_line (numbered (done + 2 + 1) ls))) true q)

marked_walk : (ls : List (List ℕ)) (n done : ℕ) (found : List Line) → n ≡ done + 2 → Marks n done found ls
marked_walk [] n done found e = walk_end Marked done found
marked_walk (b ∷ ls) n done found e =
    let at : Marks (done + 2) done found (b ∷ ls) =
    marked_step b ls done found (is_percent b) (fault_of done (line_of (done + 2) b)) refl refl
    (marked_walk ls (done + 2 + 1) (done + 1) (with_line found (line_of (done + 2) b)) (omega arith)) in
    subst (λ (k : ℕ). Marks k done found (b ∷ ls)) (sym e) at

-- the result of the lines as long as the leading ones are blank
abbrev pub Starts : ℕ → List Line → List (List ℕ) → Type 0
Starts done found ls =
    walk Start done found ls ≡ concluded done found (read_lines (numbered (done + 1) ls)) (lacks_end (numbered (done + 1) ls))
    (is_marked (numbered (done + 1) ls))

blank_percent : (b : List ℕ) → is_percent b ≡ true → is_blank b ≡ false
blank_percent b p = by_text (text b) (nat_le (length b) 256) p where
  by_text : (t : List ℕ) (short : Bool) → (short && is_percent_text t) ≡ true → is_blank_text t ≡ false
  by_text [] true h = absurd (cc h)
  by_text [] false h = absurd (cc h)
  by_text (x ∷ t) short h = refl

start_step : (b : List ℕ) (ls : List (List ℕ)) (done : ℕ) (found : List Line) (x y : Bool) (f : Option ReadFault) → is_percent b ≡ x → is_blank b ≡ y
    → fault_of done (line_of (done + 1) b) ≡ f → Starts (done + 1) (with_line found (line_of (done + 1) b)) ls → Starts done found (b ∷ ls)
start_step b ls done found true y f p k q next =
    let no = blank_percent b p in
    walk_percent Start done found b ls p ∙ marked_walk ls (done + 1 + 1) done found (omega arith) ∙ rw (no, p) refl
start_step b ls done found false true (Some fault) p k q next =
    walk_refused Start done found b ls fault p q
    ∙ rw (k, to_percent_line (line_of (done + 1) b) (without_mark (numbered (done + 1 + 1) ls)) p, q) refl
start_step b ls done found false false (Some fault) p k q next =
    walk_refused Start done found b ls fault p q
    ∙ rw (k, p, to_percent_line (line_of (done + 1) b) (numbered (done + 1 + 1) ls) p, q) refl
start_step b ls done found false true None p k q next =
    let line = line_of (done + 1) b in
    let rest = numbered (done + 1 + 1) ls in
    walk_line Start done found b ls p q ∙ phase_is Start k ∙ next
    ∙ rw (k, to_percent_line line (without_mark rest) p, any_line line (without_mark rest) false p)
    (conclude_line done found (read_lines rest) line (lacks_end rest) (is_marked rest) q) where
      phase_is : (phase : Phase) → is_blank b ≡ true → walk (phase_after Start b) (done + 1) (with_line found (line_of (done + 1) b)) ls
          ≡ walk Start (done + 1) (with_line found (line_of (done + 1) b)) ls
      phase_is phase k = rw k refl
start_step b ls done found false false None p k q next =
    let line = line_of (done + 1) b in
    let rest = numbered (done + 1 + 1) ls in
    walk_line Start done found b ls p q ∙ phase_is Unmarked k ∙ unmarked_walk ls (done + 1) (with_line found line)
    ∙ rw (k, p, to_percent_line line rest p) (conclude_line done found (to_percent rest) line false false q) where
      phase_is : (phase : Phase) → is_blank b ≡ false → walk (phase_after Start b) (done + 1) (with_line found (line_of (done + 1) b)) ls
          ≡ walk Unmarked (done + 1) (with_line found (line_of (done + 1) b)) ls
      phase_is phase k = rw k refl

start_walk : (ls : List (List ℕ)) (done : ℕ) (found : List Line) → Starts done found ls
start_walk [] done found = walk_end Start done found ∙ ap (λ (l : List Line). Ok (record { lines = l; marked = false })) (sym (append-nil found))
start_walk (b ∷ ls) done found =
    start_step b ls done found (is_percent b) (is_blank b) (fault_of done (line_of (done + 1) b)) refl refl refl
    (start_walk ls (done + 1) (with_line found (line_of (done + 1) b)))

-- the walk over lines returns the first fault of those that are read, or their text
pub walk_lines : (ls : List (List ℕ)) → walk Start 0 [] ls ≡ fault_or (first_fault 0 (read_lines (numbered 1 ls))) (text_of_lines (numbered 1 ls))
walk_lines ls = start_walk ls 0 []

-- over all lines of a file, the walk returns the result of the file
pub walk_program : (bytes : List ℕ) → walk Start 0 [] (split_lines bytes) ≡ program_of bytes
walk_program bytes = walk_lines (split_lines bytes)

-- the certain fault is the first one
standing_first : (done : ℕ) (lines : List Line) (o : Outcome) → standing o ≡ None → standing (fault_or (first_fault done lines) o) ≡ first_fault done lines
standing_first done [] o h = h
standing_first done (line ∷ lines) o h = by_line (nat_le 100000 done) (line_read line.bytes) (standing_first (done + 1) lines o h) where
  by_line : (x : Bool) (r : Result ParsedLine LineFault) → standing (fault_or (first_fault (done + 1) lines) o) ≡ first_fault (done + 1) lines
      → standing (fault_or (option_or (if x then Some faults.TooManyLines else refusal_in line.number r) (first_fault (done + 1) lines)) o)
      ≡ option_or (if x then Some faults.TooManyLines else refusal_in line.number r) (first_fault (done + 1) lines)
  by_line true r next = refl
  by_line false (Ok said) next = next
  by_line false (Err fault) next = refl

standing_text : (lines : List Line) → standing (text_of_lines lines) ≡ None
standing_text lines = by_end (lacks_end lines) where
  by_end : (x : Bool) → standing (if x then Err faults.NoEnd else Ok (record { lines = read_lines lines; marked = is_marked lines })) ≡ None
  by_end true = refl
  by_end false = refl

-- the certain fault of the certain lines
pub walk_firm : (bytes : List ℕ) → fault_so_far bytes ≡ standing (walk Start 0 [] (firm_lines bytes))
walk_firm bytes =
    let lines = numbered 1 (firm_lines bytes) in
    sym (ap standing (walk_lines (firm_lines bytes)) ∙ standing_first 0 (read_lines lines) (text_of_lines lines) (standing_text lines))
