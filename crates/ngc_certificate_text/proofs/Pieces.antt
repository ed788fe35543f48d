-- The effect of a piece on a reader of a certificate's text.
use Rattle.std.proofs.Common.{◌≡◌, ℕ, ◌+◌, ◌≤◌, ap, subst, Bool, true, false, Option, None, Result, Ok, Err, List, [], ◌∷◌, ◌++◌, length, refl, sym, ◌∙◌, arith}
use Rattle.std.specs.Prelude.{codes, ◌==◌, ◌||◌, not, nat_lt}
use Rattle.std.proofs.lemmas.Bool.{and_from}
use Rattle.std.proofs.lemmas.Bool.Decides.{nat_tests}
use Rattle.std.proofs.lemmas.List.{append-nil}
use Rattle.ngc_certificate_text.specs.declared.certificate_lines.CertificateLines.{CertificateLines}
use Rattle.ngc_certificate_text.specs.declared.expected.RemainingEntries.{RemainingEntries}
use Rattle.ngc_certificate_text.specs.declared.expected.Expected.{Expected}
use Rattle.ngc_certificate_text.specs.declared.expected.Expected.TheVariants as next
use Rattle.ngc_certificate_text.specs.declared.expected.Indices.TheVariants as of
use Rattle.ngc_certificate_text.specs.declared.expected.RemainingMotions.TheVariants.{Parted, Joined}
use Rattle.ngc_certificate_text.specs.declared.fault.CertificateFault.{CertificateFault}
use Rattle.ngc_certificate_text.specs.declared.fault.CertificateFault.TheVariants as faults
use Rattle.ngc_certificate_text.specs.declared.lines.LineFlaw.TheVariants.{Spelling, Range}
use Rattle.ngc_certificate_text.specs.declared.piece.Setting.{Setting}
use Rattle.ngc_certificate_text.specs.declared.piece.Setting.TheVariants.{Off, On}
use Rattle.ngc_certificate_text.specs.declared.line_content.Version.TheVariants.{One}
use Rattle.ngc_certificate_text.specs.Ahead.{Rest, Left, left_from, made_with, of_version, name_of, index_at, wrong_line, go_on, IsSound}
use Rattle.ngc_certificate_text.specs.EntryLines.{parsed_version, parsed_counts, may_still_follow, parsed_entry, of_setting}
use Rattle.ngc_certificate_text.specs.Lines.{numbers_in, parsed_setting, parsed_motion, parsed_piece}
use Rattle.ngc_certificate_text.specs.LinesView.{left_by, IsReading}
use Rattle.ngc_certificate_text.specs.Number.{number_in}
use Rattle.ngc_certificate_text.specs.Parted.{firm, firm_lines, PartsLines}
use Rattle.ngc_certificate_text.specs.Reader.{Saying, outcome_by, firm_by, FaultIs, StepResultIs, Stands, AnswerIs}
use Rattle.ngc_certificate_text.specs.ParsedPart.{lines_of}
use Rattle.ngc_certificate_text.proofs.LinesAhead.{wrong_said, ended_said, header_read, header_ended, setting_flawed, counts_flawed, motion_flawed}
use Rattle.ngc_certificate_text.proofs.LinesAhead.{piece_flawed}
use Rattle.ngc_certificate_text.proofs.LinesAhead.{end_read}
use Rattle.ngc_certificate_text.proofs.RemainingEntryLaws.{if_taken}
use Rattle.ngc_certificate_text.proofs.SpelledLines.{end_reads}
use Rattle.ngc_certificate_text.proofs.LineSplitting.{lines_parts, firm_parts, firm_begun}

-- ---- whatever is expected, one following text has a fault, and another has none or a different
-- one

huge_setting : (s : Setting) → parsed_setting (name_of s) (codes "setting " ++ name_of s ++ codes " 9999999") ≡ Err Range
unfolding parsed_setting numbers_in number_in
huge_setting Off = refl
huge_setting On = refl

huge_motion : parsed_motion (codes "motion 9999999 1") ≡ Err Range
unfolding parsed_motion numbers_in number_in
huge_motion = refl

huge_counts : parsed_counts (codes "motions 9999999 0") ≡ Err Range
unfolding parsed_counts numbers_in number_in
huge_counts = refl

first_version : parsed_version (codes "ngc-certificate 1") ≡ Ok One
unfolding parsed_version
first_version = refl

no_part : parsed_piece (codes "line 0 0 0 0 0 0 0") ≡ Err Range
unfolding parsed_piece numbers_in number_in
no_part = refl

huge_both : (left : RemainingEntries) → may_still_follow left (of.Both 0 0) ≡ true → parsed_entry left (codes "both 9999999 0 1") ≡ Err Range
unfolding parsed_entry numbers_in number_in
huge_both left h = if_taken (may_still_follow left (of.Both 0 0)) (Err Range) (Err Spelling) h

huge_off : (left : RemainingEntries) → may_still_follow left (of.Off 0) ≡ true → parsed_entry left (codes "off 9999999 1") ≡ Err Range
unfolding parsed_entry numbers_in number_in
huge_off left h = if_taken (may_still_follow left (of.Off 0)) (Err Range) (Err Spelling) h

huge_on : (left : RemainingEntries) → may_still_follow left (of.On 0) ≡ true → parsed_entry left (codes "on 9999999 1") ≡ Err Range
unfolding parsed_entry numbers_in number_in
huge_on left h = if_taken (may_still_follow left (of.On 0)) (Err Range) (Err Spelling) h

-- a line that is out of its range if these entries remain
record HugeEntry (left : RemainingEntries) : Type 0 where
  line : List ℕ
  short : length line ≤ 256
  out : parsed_entry left line ≡ Err Range
  alone : lines_of (line ++ codes "\n") ≡ line ∷ [] ∷ []

some_huge : (left : RemainingEntries) (b c : Bool) → (left.off == 0) ≡ b → (left.on == 0) ≡ c → 1 ≤ left.off + left.on → go_on (Joined left) ≡ true → HugeEntry left
some_huge left false false e f some going =
    let off : nat_lt 0 left.off ≡ true = grind (arith, nat_tests) in
    let on : nat_lt 0 left.on ≡ true = grind (arith, nat_tests) in
    record { line = codes "both 9999999 0 1"; short = omega arith; out = huge_both left (and_from _ _ off on); alone = refl }
some_huge left false true e f some going =
    let off : nat_lt 0 left.off ≡ true = grind (arith, nat_tests) in
    let none : nat_lt 0 left.on ≡ false = grind (arith, nat_tests) in
    record {
      line = codes "off 9999999 1";
      short = omega arith;
      out =
          huge_off left (and_from _ _ off (by_behind left.after_on (left.off == 0) (nat_lt 0 left.on) e none going));
      alone = refl;
    } where
      by_behind : (b c d : Bool) → c ≡ false → d ≡ false → (not b || (c || d)) ≡ true → not b ≡ true
      by_behind false c d g k h = refl
      by_behind true c d g k h = let no : (c || d) ≡ false = rw (g, k) refl in absurd (cc (no, h))
some_huge left true false e f some going =
    let on : nat_lt 0 left.on ≡ true = grind (arith, nat_tests) in
    record {
      line = codes "on 9999999 1";
      short = omega arith;
      out = huge_on left on;
      alone = refl;
    }
some_huge left true true e f some going =
    let off : left.off ≡ 0 = grind (arith, nat_tests) in
    let on : left.on ≡ 0 = grind (arith, nat_tests) in
    absurd (omega (arith, some, off, on))

two_faults : (o p : Left) (fault a b : CertificateFault) → o ≡ Err a → p ≡ Err b → o ≡ Err fault → p ≡ Err fault → a ≡ b
two_faults o p fault a b e f h k = cc (e, f, h, k)

-- the next line is missing, or is out of its range
differ : (n : ℕ) → faults.BadLine n ≡ faults.OutOfRange n → ⊥
differ n e = cc e

bad : (e : Expected) (number : ℕ) (fault : CertificateFault) (line : List ℕ) → wrong_line e number ≡ faults.BadLine number → IsSound e number
    → (e ≡ next.Nothing → ⊥) → left_from e number (line ∷ [] ∷ []) ≡ Err (faults.OutOfRange number) → lines_of (line ++ codes "\n") ≡ line ∷ [] ∷ []
    → ((rest : List ℕ) → left_from e number (lines_of rest) ≡ Err fault) → ⊥
bad e number fault line is sound never out lines all =
    let missing : left_from e number (lines_of []) ≡ Err (faults.BadLine number) =
    wrong_said e number ([] ∷ []) sound tt (λ x. absurd (never x)) ∙ ap (λ (f : CertificateFault). wrong f) is in
    let huge : left_from e number (lines_of (line ++ codes "\n")) ≡ Err (faults.OutOfRange number) =
    ap (λ (ls : List (List ℕ)). left_from e number ls) lines ∙ out in
    differ number (two_faults _ _ fault (faults.BadLine number) (faults.OutOfRange number) missing huge (all []) (all (line ++ codes "\n"))) where
      wrong : CertificateFault → Left
      wrong f = Err f

none_stands : (e : Expected) (number : ℕ) (fault : CertificateFault) → IsSound e number → ((rest : List ℕ) → left_from e number (lines_of rest) ≡ Err fault) → ⊥
none_stands next.Header number fault sound all =
    let missing = wrong_said next.Header number ([] ∷ []) sound tt (λ x. absurd (cc x)) in
    let afterwards =
    header_read (codes "ngc-certificate 1") [] [] number One first_version
    ∙ ap (made_with (of_version One)) (header_ended One 2 ([] ∷ []) ∙ wrong_said (next.Setting Off) 2 ([] ∷ []) setting_sound tt (λ x. absurd (cc x))) in
    let same = two_faults _ _ fault faults.WrongHeader (faults.BadLine 2) missing afterwards (all []) (all (codes "ngc-certificate 1\n")) in absurd (cc same) where
      setting_sound : IsSound (next.Setting Off) 2
      setting_sound = record {
        first = λ x. absurd (cc x);
        motion = λ k x. absurd (cc x);
        piece = λ b x. absurd (cc x);
        going = refl;
      }
none_stands (next.Setting Off) number fault sound all =
    bad (next.Setting Off) number fault (codes "setting off 9999999") refl sound (λ x. cc x)
    (setting_flawed number (codes "setting off 9999999") [] [] Range (omega arith) Off (huge_setting Off)) refl all
none_stands (next.Setting On) number fault sound all =
    bad (next.Setting On) number fault (codes "setting on 9999999") refl sound (λ x. cc x)
    (setting_flawed number (codes "setting on 9999999") [] [] Range (omega arith) On (huge_setting On)) refl all
none_stands next.Counts number fault sound all =
    bad next.Counts number fault (codes "motions 9999999 0") refl sound (λ x. cc x)
    (counts_flawed number (codes "motions 9999999 0") [] [] Range (omega arith) huge_counts) refl all
none_stands (next.Motion (Parted s n)) number fault sound all =
    bad (next.Motion (Parted s n)) number fault (codes "motion 9999999 1") refl sound (λ x. cc x)
    (motion_flawed number (codes "motion 9999999 1") [] [] Range (omega arith) (Parted s n) (sound.motion (Parted s n) refl)
    (ap (of_setting (index_at s)) huge_motion)) refl all
none_stands (next.Motion (Joined left)) number fault sound all =
    let some = sound.motion (Joined left) refl in
    let huge = some_huge left (left.off == 0) (left.on == 0) refl refl some sound.going in
    bad (next.Motion (Joined left)) number fault huge.line refl sound (λ x. cc x)
    (motion_flawed number huge.line [] [] Range huge.short (Joined left) some huge.out) huge.alone all
none_stands (next.Piece b) number fault sound all =
    bad (next.Piece b) number fault (codes "line 0 0 0 0 0 0 0") refl sound (λ x. cc x)
    (piece_flawed number (codes "line 0 0 0 0 0 0 0") [] [] Range (omega arith) b (sound.piece b refl) no_part) refl all
none_stands next.End number fault sound all =
    let good = end_read (codes "end") [] [] number (omega arith) end_reads ∙ ended_said next.Nothing _ refl in
    absurd (cc (sym good ∙ all (codes "end\n")))
none_stands next.Nothing number fault sound all = absurd (cc (sym (ended_said next.Nothing number refl) ∙ all []))

made_err : {X : Type 0} (f : Rest → X) (o : Left) (fault : CertificateFault) → made_with f o ≡ Err fault → o ≡ Err fault
made_err f (Ok r) fault h = absurd (cc h)
made_err f (Err other) fault h = let same : other ≡ fault = cc h in ap (λ (x : CertificateFault). refused x) same where
  refused : CertificateFault → Left
  refused x = Err x

-- after whole lines no fault is certain
abbrev pub IsQuiet : {X : Type 0} → Saying X → Type 0
IsQuiet says = (fault : CertificateFault) → ((rest : List ℕ) → says (firm_lines rest) [] ≡ Err fault) → ⊥

pub lines_quiet : {X : Type 0} (r : CertificateLines) (f : Rest → X) → IsReading r → IsQuiet (λ lines bytes. made_with f (left_by lines r bytes))
lines_quiet r f reading fault all =
    let none : firm (r.cut.items ++ []) ≡ [] = ap firm (append-nil r.cut.items) ∙ firm_begun r.cut.items reading.feedless reading.short in
    none_stands r.next.expected r.next.number fault reading.sound
    (λ rest. ap (λ (b : List ℕ). left_from r.next.expected r.next.number (lines_of (b ++ rest))) (sym none) ∙ made_err f _ fault (all rest))

-- ---- a piece

abbrev failed_as : CertificateFault → Result (Unit {0}) CertificateFault
failed_as fault = Err fault

-- a fault that is the text's whatever follows
stands_as : {X : Type 0} (fault : CertificateFault) (says : List ℕ → Result X CertificateFault) → (fault ≡ faults.ReadFailed → ⊥) →
    ((rest : List ℕ) → FaultIs fault (says rest)) → AnswerIs (Err fault) says
stands_as faults.WrongHeader says h is = is
stands_as (faults.BadLine n) says h is = is
stands_as (faults.OutOfRange n) says h is = is
stands_as faults.Memory says h is = tt
stands_as faults.ReadFailed says h is = absurd (h refl)

module _ {X : Type 0} where
  -- a piece leads from a text to another
  abbrev pub Leads : Saying X → Saying X → List ℕ → Result (Unit {0}) CertificateFault → Type 0
  Leads old new piece result =
      (lines : List ℕ → List (List ℕ)) → PartsLines lines → (rest : List ℕ) → StepResultIs result (old lines (piece ++ rest)) (new lines rest)

  at_step : (old new : Saying X) (piece : List ℕ) (result other : Result (Unit {0}) CertificateFault) → Leads old new piece result → result ≡ other →
      Leads old new piece other
  at_step old new piece result other leads e = λ lines parts rest.
      subst (λ (r : Result (Unit {0}) CertificateFault). StepResultIs r (old lines (piece ++ rest)) (new lines rest)) e (leads lines parts rest)

  module _ (refusal : Option CertificateFault) (old new : Saying X) (piece : List ℕ) (result : Result (Unit {0}) CertificateFault) (going : refusal ≡ None)
      (leads : Leads old new piece result) where
    pub more_answer : result ≡ Ok tt → IsQuiet new → (fault : CertificateFault) → Stands fault (firm_by refusal old piece) → ⊥
    more_answer is quiet fault all = quiet fault (λ rest.
        sym (at_step old new piece result (Ok tt) leads is (firm_lines rest) (firm_parts rest) [])
        ∙ ap (λ (bytes : List ℕ). old (firm_lines rest) bytes) (append-nil piece)
        ∙ ap (λ (r : Option CertificateFault). firm_by r old piece rest) (sym going) ∙ all rest)

    pub more_firm : result ≡ Ok tt → (more rest : List ℕ) → firm_by refusal old (piece ++ more) rest ≡ firm_by refusal new more rest
    more_firm is more rest =
        ap (λ (r : Option CertificateFault). firm_by r old (piece ++ more) rest) going
        ∙ at_step old new piece result (Ok tt) leads is (firm_lines rest) (firm_parts rest) more
        ∙ ap (λ (r : Option CertificateFault). firm_by r new more rest) (sym going)

    pub more_text : result ≡ Ok tt → (rest : List ℕ) → outcome_by refusal old (piece ++ rest) ≡ outcome_by refusal new rest
    more_text is rest =
        ap (λ (r : Option CertificateFault). outcome_by r old (piece ++ rest)) going ∙ at_step old new piece result (Ok tt) leads is lines_of lines_parts rest
        ∙ ap (λ (r : Option CertificateFault). outcome_by r new rest) (sym going)

    pub fault_answer : (fault : CertificateFault) → result ≡ Err fault → (result ≡ Err faults.ReadFailed → ⊥) → AnswerIs (Err fault) (firm_by refusal old piece)
    fault_answer fault is quiet = stands_as fault (firm_by refusal old piece) (λ e. quiet (is ∙ ap (λ (f : CertificateFault). failed_as f) e)) (λ rest.
        subst (λ (r : Option CertificateFault). FaultIs fault (firm_by r old piece rest)) (sym going)
        (subst (λ (bytes : List ℕ). FaultIs fault (old (firm_lines rest) bytes)) (append-nil piece)
        (at_step old new piece result (Err fault) leads is (firm_lines rest) (firm_parts rest) [])))

    pub fault_text : (fault : CertificateFault) → result ≡ Err fault → (rest : List ℕ) → FaultIs fault (outcome_by refusal old (piece ++ rest))
    fault_text fault is rest =
        subst (λ (r : Option CertificateFault). FaultIs fault (outcome_by r old (piece ++ rest))) (sym going)
        (at_step old new piece result (Err fault) leads is lines_of lines_parts rest)
