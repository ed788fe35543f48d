-- The text of a list of events is read as the list, and only that text is.
use Rattle.std.proofs.Common.{◌≡◌, ℕ, ◌+◌, ◌≤◌, ap, subst, Bool, true, false, Option, Some, None, Result, Ok, Err, List, [], ◌∷◌, ◌++◌, length, append_assoc}
use Rattle.std.proofs.Common.{refl, sym, ◌∙◌, arith}
use Rattle.std.specs.Prelude.{◌==◌, nat_le, if◌then◌else◌}
use Rattle.std.specs.List.{list_all, join_with_byte}
use Rattle.std.specs.Option.{ok_or}
use Rattle.std.proofs.lemmas.Bool.{and_parts, and_from}
use Rattle.std.proofs.lemmas.Bool.Decides.{nat_tests}
use Rattle.std.proofs.lemmas.List.{nil_from_length}
use Rattle.std.proofs.lemmas.List.Splits.{join_with_byte-slice_split}
use Rattle.ngc_text.proofs.SplitTexts.{split_here}
use Rattle.ngc_events.specs.declared.event.EventLine.{EventLine}
use Rattle.ngc_events.specs.declared.fault.EventsFault.{EventsFault}
use Rattle.ngc_events.specs.declared.fault.EventsFault.TheVariants.{BadLine, TooManyLines}
use Rattle.ngc_events.specs.Events.{parsed_event, parsed_line, prefixed, parsed_lines, parsed_events}
use Rattle.ngc_events.specs.Reading.{parsed_from}
use Rattle.ngc_events.specs.Spelling.{words_of, events_text, is_given, AreEvents, IsOneWriting}
use Rattle.ngc_events.proofs.LineFeeds.{lines_of}
use Rattle.ngc_events.proofs.EventLaws.{event_reads, words_feedless, event_spelled}
use Rattle.ngc_events.proofs.ReadLaws.{line_few, more_said, nothing_said}

abbrev Said : Type 0
Said = Result (List EventLine) EventsFault

abbrev are_sent : List EventLine → Bool
are_sent lines = list_all (λ (line : EventLine). is_given line.event line.times) lines

-- ---- the text of events is read as the events

reads : (number : ℕ) (lines : List EventLine) → are_sent lines ≡ true → number + length lines ≤ 1000001 → parsed_from number (events_text lines) ≡ Ok lines
reads number [] given few = nothing_said number
reads number (line ∷ lines) given few =
    let parts = and_parts (is_given line.event line.times) (are_sent lines) given in
    let words = words_of line.event line.times in
    ap (parsed_from number) (append_assoc words (10 ∷ []) (events_text lines))
    ∙ ap (parsed_lines number) (split_here 10 words (events_text lines) (words_feedless line.event line.times parts.0))
    ∙ more_said number words (events_text lines)
    ∙ ap (λ (r : Result EventLine EventsFault). prefixed r (parsed_from (number + 1) (events_text lines)))
    (line_few number (parsed_event words) (omega (arith, few)) ∙ ap (λ (o : Option EventLine). ok_or o (BadLine number))
    (event_reads line.event line.times parts.0))
    ∙ ap (prefixed (Ok line)) (reads (number + 1) lines parts.1 (omega (arith, few)))

-- ---- a text that is read as events is the text of these events

record Spelled (number : ℕ) (parts : List (List ℕ)) (lines : List EventLine) : Type 0 where
  text : join_with_byte 10 parts ≡ events_text lines
  given : are_sent lines ≡ true
  few : number + length lines ≤ 1000001

ok_same : (x y : List EventLine) → (let a : Said = Ok x in let b : Said = Ok y in a ≡ b) → x ≡ y
ok_same x y e = cc e

spelled_none : (number : ℕ) (parts : List (List ℕ)) (lines : List EventLine) → number ≤ 1000001 → join_with_byte 10 parts ≡ [] → [] ≡ lines →
    Spelled number parts lines
spelled_none number parts lines few text e = subst (Spelled number parts) e (record { text = text; given = refl; few = omega (arith, few) })

none_said : (number : ℕ) (b : Bool) (lines : List EventLine) → prefixed (if b then Err (BadLine number) else Err TooManyLines) (Ok []) ≡ Ok lines → ⊥
none_said number true lines h = cc h
none_said number false lines h = cc h

last_spelled : (number : ℕ) (last : List ℕ) (lines : List EventLine) (b : Bool) → (length last == 0) ≡ b → number ≤ 1000001
    → (if b then Ok [] else prefixed (parsed_line number None) (Ok [])) ≡ Ok lines → Spelled number (last ∷ []) lines
last_spelled number last lines true e few h =
    spelled_none number (last ∷ []) lines few (nil_from_length last (is_zero (length last) e)) (ok_same [] lines h) where
      is_zero : (n : ℕ) → (n == 0) ≡ true → n ≡ 0
      is_zero n h = grind (arith, nat_tests)
last_spelled number last lines false e few h = absurd (none_said number (nat_le number 1000000) lines h)

-- a line and the lines after it
record Parted (first : Result EventLine EventsFault) (others : Said) (lines : List EventLine) : Type 0 where
  line : EventLine
  afterwards : List EventLine
  first_is : first ≡ Ok line
  others_are : others ≡ Ok afterwards
  are : line ∷ afterwards ≡ lines

parted : (first : Result EventLine EventsFault) (others : Said) (lines : List EventLine) → prefixed first others ≡ Ok lines → Parted first others lines
parted (Ok line) (Ok afterwards) lines h = record { line = line; afterwards = afterwards; first_is = refl; others_are = refl; are = ok_same (line ∷ afterwards) lines h }
parted (Ok line) (Err fault) lines h = absurd (cc h)
parted (Err fault) others lines h = absurd (cc h)

said_by : (number : ℕ) (b : Bool) (o : Option EventLine) (line : EventLine) → (if b then ok_or o (BadLine number) else Err TooManyLines) ≡ Ok line →
    (b ≡ true) × (o ≡ Some line)
said_by number true None line h = absurd (cc h)
said_by number true (Some x) line h = (refl, cc h)
said_by number false o line h = absurd (cc h)

no_more : (n : ℕ) → nat_le n 1000000 ≡ true → n ≤ 1000000
no_more n h = grind (arith, nat_tests)

spelled : (number : ℕ) (parts : List (List ℕ)) (lines : List EventLine) → number ≤ 1000001 → parsed_lines number parts ≡ Ok lines → Spelled number parts lines
unfolding parsed_lines
spelled number [] lines few h = spelled_none number [] lines few refl (ok_same [] lines h)
spelled number (last ∷ []) lines few h = last_spelled number last lines (length last == 0) refl few h
spelled number (part ∷ next ∷ parts) lines few h =
    let p = parted (parsed_line number (parsed_event part)) (parsed_lines (number + 1) (next ∷ parts)) lines h in
    let s = said_by number (nat_le number 1000000) (parsed_event part) p.line p.first_is in
    let first = event_spelled part p.line s.1 in
    let small : number ≤ 1000000 = no_more number s.0 in
    let more = spelled (number + 1) (next ∷ parts) p.afterwards (omega (arith, small)) p.others_are in
    let words = words_of p.line.event p.line.times in
    subst (Spelled number (part ∷ next ∷ parts)) p.are (record {
      text =
          ap (λ (l : List ℕ). l ++ (10 ∷ join_with_byte 10 (next ∷ parts))) first.is ∙ ap (λ (l : List ℕ). words ++ (10 ∷ l)) more.text
          ∙ sym (append_assoc words (10 ∷ []) (events_text p.afterwards));
      given = and_from (is_given p.line.event p.line.times) (are_sent p.afterwards) first.given more.given;
      few = omega (arith, more.few);
    })

-- ---- both directions

pub text_said : (lines : List EventLine) → AreEvents lines → parsed_events (events_text lines) ≡ Ok lines
unfolding parsed_events
text_said lines are = reads 1 lines are.each (omega (arith, are.count))

pub said_spelled : (text : List ℕ) (lines : List EventLine) → parsed_events text ≡ Ok lines → AreEvents lines × (text ≡ events_text lines)
unfolding parsed_events
said_spelled text lines h =
    let s = spelled 1 (lines_of text) lines (omega arith) h in
    (record { count = omega (arith, s.few); each = s.given }, sym (join_with_byte-slice_split 10 text) ∙ s.text)

pub one_writing : IsOneWriting
one_writing text lines = (said_spelled text lines, λ h. ap parsed_events h.1 ∙ text_said lines h.0)
