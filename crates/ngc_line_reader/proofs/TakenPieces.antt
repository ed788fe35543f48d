-- The result of reading a line or a piece of one.
use Rattle.std.proofs.Common.{◌≡◌, ◌≢◌, ◌⊎◌, inl, inr, ℕ, ◌+◌, ◌<◌, ◌≤◌, ap, subst, Bool, true, false, List, [], ◌∷◌, ◌++◌, length, Result, Ok, Err, refl, sym}
use Rattle.std.proofs.Common.{◌∙◌, append_assoc, length-append, arith}
use Rattle.std.specs.Prelude.{◌==◌, nat_le, ◌&&◌, OnOk}
use Rattle.std.proofs.lemmas.Bool.Decides.{nat_tests}
use Rattle.std.proofs.lemmas.List.{append-nil}
use Rattle.ngc_line_reader.specs.declared.fault.FaultKind.TheVariants.{LineTooLong}
use Rattle.ngc_line_reader.specs.declared.program.fault.ReadFault.{ReadFault}
use Rattle.ngc_line_reader.specs.declared.program.fault.ReadFault.TheVariants as faults
use Rattle.ngc_line_reader.specs.declared.program.phase.Phase.{Phase}
use Rattle.ngc_line_reader.specs.declared.program.phase.Phase.TheVariants.{Start, Marked, Unmarked}
use Rattle.ngc_line_reader.specs.declared.program.loader.Step.{Step}
use Rattle.ngc_line_reader.specs.declared.program.loader.Step.TheVariants.{More, End}
use Rattle.ngc_line_reader.specs.declared.program.loader.LinesSoFar.{LinesSoFar}
use Rattle.ngc_line_reader.specs.declared.program.loader.Loader.{Loader}
use Rattle.ngc_line_reader.specs.declared.program.Program.{Program}
use Rattle.ngc_line_reader.specs.Text.{text}
use Rattle.ngc_line_reader.specs.Program.{Line, split_lines, is_percent_text}
use Rattle.ngc_line_reader.specs.ScanLine.{fault_at}
use Rattle.ngc_line_reader.specs.ReadLine.{line_read}
use Rattle.ngc_line_reader.specs.ProgramText.{ProgramText, Outcome, fault_of, program_of}
use Rattle.ngc_line_reader.specs.ProgramView.{lines_in, FaultIs, OutcomeIs}
use Rattle.ngc_line_reader.specs.Pieces.{firm_lines, fault_so_far}
use Rattle.ngc_line_reader.specs.Load.{phase_after, is_percent, is_blank, next_line, TakesLine, RefusedBy, at_percent, ended_in, walk, ended, walked, resumed}
use Rattle.ngc_line_reader.specs.Load.{standing, PartsLines, HasNoLineFeed, IsLoading, StepResultIs, phase_space, space_after}
use Rattle.ngc_line_reader.proofs.LinesInStore.{length-lines_from}
use Rattle.ngc_line_reader.proofs.LineWalk.{walk_line, walk_refused, walk_percent, walk_program, walk_firm}
use Rattle.ngc_line_reader.proofs.Feeds.{split_last, feedless_both}

-- a line of more than 256 bytes is refused for that reason
pub long_read : (bytes : List ℕ) → 256 < length bytes → line_read bytes ≡ Err (fault_at LineTooLong 257)
long_read bytes h = let e : nat_le 257 (length bytes) ≡ true = grind (arith, nat_tests) in rw e refl

phase_room_falls : (phase : Phase) (bytes : List ℕ) (x : Bool) → is_blank bytes ≡ x → phase_space (phase_after phase bytes) ≤ phase_space phase
phase_room_falls Start bytes true e = rw e (omega arith)
phase_room_falls Start bytes false e = rw e (omega arith)
phase_room_falls Marked bytes x e = omega arith
phase_room_falls Unmarked bytes x e = omega arith

long_percent : (n : ℕ) (t : Bool) → 256 < n → (nat_le n 256 && t) ≡ false
long_percent n true h = grind (arith, nat_tests)
long_percent n false h = grind (arith, nat_tests)

marks : (phase : Phase) (done : ℕ) (found : List Line) (b : List ℕ) (ls : List (List ℕ)) → phase ≡ Start → is_percent b ≡ true →
    walk phase done found (b ∷ ls) ≡ walk Marked done found ls
marks phase done found b ls e p = walk_percent phase done found b ls p ∙ ap (λ (f : Phase). at_percent f found (walk Marked done found ls)) e

ends_at : (phase : Phase) (done : ℕ) (found : List Line) (b : List ℕ) (ls : List (List ℕ)) → phase ≢ Start → is_percent b ≡ true →
    walk phase done found (b ∷ ls) ≡ Ok (ended_in phase found)
ends_at Start done found b ls e p = absurd (e refl)
ends_at Marked done found b ls e p = walk_percent Marked done found b ls p
ends_at Unmarked done found b ls e p = walk_percent Unmarked done found b ls p

-- a step between equal outcomes
step_is : (result : Result Step ReadFault) (a b c d : Outcome) (t : ProgramText) → a ≡ b → (result ≡ Ok More → c ≡ d) → StepResultIs result b d t →
    StepResultIs result a c t
step_is (Ok More) a b c d t e f h = e ∙ h ∙ sym (f refl)
step_is (Ok End) a b c d t e f h = e ∙ h
step_is (Err fault) a b c d t e f h = subst (λ (o : Outcome). FaultIs fault o) (sym e) h

last_of : (cur : List ℕ) → HasNoLineFeed cur → 0 < length cur → split_lines (cur ++ []) ≡ cur ∷ []
last_of [] h some = absurd (omega (arith, some))
last_of (b ∷ cur) h some = ap split_lines (append-nil (b ∷ cur)) ∙ split_last b cur h

no_items : (xs : List ℕ) → (length xs == 0) ≡ true → xs ≡ []
no_items [] e = refl
no_items (x ∷ xs) e = absurd (grind (arith, nat_tests))

pub empty_items : (b : Bool) (xs : List ℕ) → b ≡ (length xs == 0) → b ≡ true → xs ≡ []
empty_items b xs e f = no_items xs (sym e ∙ f)

pub some_items : (b : Bool) (xs : List ℕ) → b ≡ (length xs == 0) → b ≡ false → 0 < length xs
some_items b xs e f = let g : (length xs == 0) ≡ false = sym e ∙ f in grind (arith, nat_tests)

pub not_start : (phase : Phase) → (phase ≡ Marked) ⊎ (phase ≡ Unmarked) → phase ≢ Start
not_start phase (inl e) h = cc (e, h)
not_start phase (inr e) h = cc (e, h)

pub no_room : (n : ℕ) → (n ≤ 256 → ⊥) → 256 < n
no_room n h = omega arith

module _ {A : Type 0} where
  -- the lines continue after a line that was accepted
  pub took_line : (old new : LinesSoFar A) (bytes : List ℕ) (ls : List (List ℕ)) → is_percent bytes ≡ false → TakesLine old new bytes →
      walked old (bytes ∷ ls) ≡ walked new ls
  took_line old new bytes ls p t =
      let count : length (lines_in new.lines) ≡ length (lines_in old.lines) + 1 =
      ap length t.lines ∙ length-append (lines_in old.lines) (next_line old bytes ∷ []) in
      walk_line old.phase (length (lines_in old.lines)) (lines_in old.lines) bytes ls p t.sound ∙ cc (t.phase, t.lines, count)

  pub refused_line : (old : LinesSoFar A) (bytes : List ℕ) (ls : List (List ℕ)) (fault : ReadFault) → is_percent bytes ≡ false
      → RefusedBy (fault_of (length (lines_in old.lines)) (next_line old bytes)) fault → FaultIs fault (walked old (bytes ∷ ls))
  refused_line old bytes ls (faults.Line n f) p r = walk_refused old.phase (length (lines_in old.lines)) (lines_in old.lines) bytes ls _ p r
  refused_line old bytes ls faults.TooManyLines p r = walk_refused old.phase (length (lines_in old.lines)) (lines_in old.lines) bytes ls _ p r
  refused_line old bytes ls faults.NoEnd p r = absurd r
  refused_line old bytes ls faults.Memory p r = tt
  refused_line old bytes ls faults.Device p r = absurd r

  pub took_room : (old new : LinesSoFar A) (bytes : List ℕ) → TakesLine old new bytes → space_after new + length bytes + 1 ≤ space_after old
  took_room old new bytes t =
      let count : length (lines_in new.lines) ≡ length (lines_in old.lines) + 1 =
      ap length t.lines ∙ length-append (lines_in old.lines) (next_line old bytes ∷ []) in
      let phase : phase_space new.phase ≡ phase_space (phase_after old.phase bytes) = ap phase_space t.phase in
      omega (arith, count, phase, phase_room_falls old.phase bytes (is_blank bytes) refl, t.few, t.short)

  -- the stored lines leave space for one more
  pub line_room : (l : LinesSoFar A) → 257 ≤ space_after l
  line_room l = omega (arith, length-lines_from l.lines.bytes.items 0 l.lines.ends.items, l.lines.few)

  -- the first % line
  pub marking_line : (old : LinesSoFar A) (bytes : List ℕ) (ls : List (List ℕ)) → is_percent bytes ≡ true → old.phase ≡ Start
      → walked old (bytes ∷ ls) ≡ walk Marked (length (lines_in old.lines)) (lines_in old.lines) ls
  marking_line old bytes ls p e = marks old.phase (length (lines_in old.lines)) (lines_in old.lines) bytes ls e p

  -- a later % line
  pub ending_line : (old : LinesSoFar A) (bytes : List ℕ) (ls : List (List ℕ)) → is_percent bytes ≡ true → old.phase ≢ Start →
      walked old (bytes ∷ ls) ≡ Ok (ended old)
  ending_line old bytes ls p e = ends_at old.phase (length (lines_in old.lines)) (lines_in old.lines) bytes ls e p

  -- a line that is too long whatever follows
  pub long_cut : (lines : List ℕ → List (List ℕ)) (l : Loader A) (piece rest : List ℕ) (fault : ReadFault) → PartsLines lines → IsLoading l → HasNoLineFeed piece →
      256 < length l.cut.items + length piece
      → ((bytes : List ℕ) → 256 < length bytes → RefusedBy (fault_of (length (lines_in l.found.lines)) (next_line l.found bytes)) fault) →
      FaultIs fault (resumed lines l (piece ++ rest))
  long_cut lines l piece rest fault parts loading feedless long refused =
      let line = l.cut.items ++ piece in
      let size : 256 < length line = omega (arith, length-append l.cut.items piece, long) in
      let g = parts.long line rest (feedless_both l.cut.items piece loading.feedless feedless) size in
      let more : 256 < length (line ++ g.more) = omega (arith, length-append line g.more, size) in
      let no_percent = long_percent (length (line ++ g.more)) (is_percent_text (text (line ++ g.more))) more in
      subst (λ (bytes : List ℕ). FaultIs fault (walked l.found (lines bytes))) (append_assoc l.cut.items piece rest)
      (subst (λ (ls : List (List ℕ)). FaultIs fault (walked l.found ls)) (sym g.split)
      (refused_line l.found (line ++ g.more) g.afterwards fault no_percent (refused (line ++ g.more) more)))

  emptied : (lines : List ℕ → List (List ℕ)) (result : Result Step ReadFault) (l : Loader A) (rest : List ℕ) → OnOk result (l.cut.items ≡ []) → result ≡ Ok More
      → resumed lines l rest ≡ walked l.found (lines rest)
  emptied lines (Ok x) l rest h e = ap (λ (c : List ℕ). walked l.found (lines (c ++ rest))) h
  emptied lines (Err fault) l rest h e = absurd (cc e)

  -- a line that is whole in a chunk
  pub whole_line : (lines : List ℕ → List (List ℕ)) (old new : Loader A) (result : Result Step ReadFault) (piece rest : List ℕ) → PartsLines lines →
      old.cut.items ≡ [] → new.cut.items ≡ [] → HasNoLineFeed piece
      → ((ls : List (List ℕ)) → StepResultIs result (walked old.found (piece ∷ ls)) (walked new.found ls) (ended new.found))
      → StepResultIs result (resumed lines old (piece ++ (10 ∷ rest))) (resumed lines new rest) (ended new.found)
  whole_line lines old new result piece rest parts e f feedless step =
      step_is result _ (walked old.found (piece ∷ lines rest)) _ (walked new.found (lines rest)) (ended new.found)
      (ap (λ (c : List ℕ). walked old.found (lines (c ++ (piece ++ (10 ∷ rest))))) e
      ∙ ap (λ (ls : List (List ℕ)). walked old.found ls) (parts.ends piece rest feedless))
      (λ (_ : result ≡ Ok More). ap (λ (c : List ℕ). walked new.found (lines (c ++ rest))) f)
      (step (lines rest))

  -- a line that an earlier chunk began
  pub cut_line : (lines : List ℕ → List (List ℕ)) (old mid new : Loader A) (result : Result Step ReadFault) (piece rest : List ℕ) → PartsLines lines →
      HasNoLineFeed mid.cut.items
      → resumed lines old (piece ++ (10 ∷ rest)) ≡ resumed lines mid (10 ∷ rest) → OnOk result (new.cut.items ≡ [])
      → ((ls : List (List ℕ)) → StepResultIs result (walked mid.found (mid.cut.items ∷ ls)) (walked new.found ls) (ended new.found))
      → StepResultIs result (resumed lines old (piece ++ (10 ∷ rest))) (resumed lines new rest) (ended new.found)
  cut_line lines old mid new result piece rest parts feedless same empty step =
      step_is result _ (walked mid.found (mid.cut.items ∷ lines rest)) _ (walked new.found (lines rest)) (ended new.found)
      (same ∙ ap (λ (ls : List (List ℕ)). walked mid.found ls) (parts.ends mid.cut.items rest feedless))
      (emptied lines result new rest empty)
      (step (lines rest))

  -- the last line, without a line feed
  pub last_line : (l : Loader A) → HasNoLineFeed l.cut.items → 0 < length l.cut.items → resumed split_lines l [] ≡ walked l.found (l.cut.items ∷ [])
  last_line l h some = ap (λ (ls : List (List ℕ)). walked l.found ls) (last_of l.cut.items h some)

  pub outcome_after : (result : Result (Program A) ReadFault) (a b : Outcome) → a ≡ b → OutcomeIs result b → OutcomeIs result a
  outcome_after (Ok p) a b e h = e ∙ h
  outcome_after (Err fault) a b e h = subst (λ (o : Outcome). FaultIs fault o) (sym e) h

  -- nothing has been read yet
  begun : (lines : List ℕ → List (List ℕ)) (l : Loader A) (bytes : List ℕ) → lines_in l.found.lines ≡ [] → l.found.phase ≡ Start → l.cut.items ≡ []
      → walk Start 0 [] (lines bytes) ≡ resumed lines l bytes
  begun lines l bytes e f g = cc (e, f, g)

  pub begun_program : (l : Loader A) (bytes : List ℕ) → lines_in l.found.lines ≡ [] → l.found.phase ≡ Start → l.cut.items ≡ [] →
      program_of bytes ≡ resumed split_lines l bytes
  begun_program l bytes e f g = sym (walk_program bytes) ∙ begun split_lines l bytes e f g

  pub begun_firm : (l : Loader A) (bytes : List ℕ) → lines_in l.found.lines ≡ [] → l.found.phase ≡ Start → l.cut.items ≡ [] →
      fault_so_far bytes ≡ standing (resumed firm_lines l bytes)
  begun_firm l bytes e f g = walk_firm bytes ∙ ap standing (begun firm_lines l bytes e f g)

  -- the step of the last line
  abbrev pub LastStep : Loader A → Loader A → Result Step ReadFault → Type 0
  LastStep old new result = (ls : List (List ℕ)) → StepResultIs result (walked old.found (old.cut.items ∷ ls)) (walked new.found ls) (ended new.found)

  step_at : (old new : Loader A) (result other : Result Step ReadFault) → LastStep old new result → result ≡ other
      → StepResultIs other (walked old.found (old.cut.items ∷ [])) (walked new.found []) (ended new.found)
  step_at old new result other step e =
      subst (λ (r : Result Step ReadFault). StepResultIs r (walked old.found (old.cut.items ∷ [])) (walked new.found []) (ended new.found)) e (step [])

  pub last_more : (old new : Loader A) (result : Result Step ReadFault) (out : Result (Program A) ReadFault) (x : Step) → HasNoLineFeed old.cut.items →
      0 < length old.cut.items
      → LastStep old new result → result ≡ Ok x → x ≡ More → OutcomeIs out (walked new.found []) → OutcomeIs out (resumed split_lines old [])
  last_more old new result out x feedless some step e f h =
      outcome_after out _ _ (last_line old feedless some ∙ step_at old new result (Ok More) step (e ∙ ap Ok f)) h

  pub last_end : (old new : Loader A) (result : Result Step ReadFault) (t : ProgramText) (x : Step) → HasNoLineFeed old.cut.items → 0 < length old.cut.items
      → LastStep old new result → result ≡ Ok x → x ≡ End → t ≡ ended new.found → resumed split_lines old [] ≡ Ok t
  last_end old new result t x feedless some step e f h =
      last_line old feedless some ∙ step_at old new result (Ok End) step (e ∙ ap Ok f) ∙ ap Ok (sym h)

  pub last_fault : (old new : Loader A) (result : Result Step ReadFault) (fault : ReadFault) → HasNoLineFeed old.cut.items → 0 < length old.cut.items
      → LastStep old new result → result ≡ Err fault → FaultIs fault (resumed split_lines old [])
  last_fault old new result fault feedless some step e =
      subst (λ (o : Outcome). FaultIs fault o) (sym (last_line old feedless some)) (step_at old new result (Err fault) step e)
