-- The lines that a piece of a text completes.
use Rattle.std.proofs.Common.{◌≡◌, ◌⊎◌, inl, inr, ℕ, ◌+◌, ◌<◌, ◌≤◌, ◌^◌, ap, Bool, true, false, Some, None, List, [], ◌∷◌, ◌++◌, length, subst, append_assoc}
use Rattle.std.proofs.Common.{refl, sym, ◌∙◌, arith}
use Rattle.std.specs.Prelude.{codes, decimal, ◌==◌, nat_le}
use Rattle.std.specs.List.{list_all}
use Rattle.std.proofs.lemmas.Bool.{and_parts, and_from}
use Rattle.std.proofs.lemmas.Bool.Decides.{nat_tests}
use Rattle.std.proofs.lemmas.Fmt.{length-decimal-le}
use Rattle.std.proofs.lemmas.List.{append-nil, length-append}
use Rattle.std.proofs.lemmas.List.Folds.{list_all-append}
use Rattle.std.proofs.lemmas.Grind.{flat_map-append}
use Rattle.ngc_events.specs.declared.event.Event.{Event}
use Rattle.ngc_events.specs.declared.event.Event.TheVariants.{Load, Tick, Hold, Resume, Override, StopSwitch, Start}
use Rattle.ngc_events.specs.declared.event.EventLine.{EventLine}
use Rattle.ngc_events.specs.declared.fault.EventsFault.{EventsFault}
use Rattle.ngc_events.specs.declared.fault.EventsFault.TheVariants.{BadLine, TooManyLines, Memory}
use Rattle.ngc_events.specs.Arriving.{Arriving, Begins, HaveArrived, IsNoEvent, IsSplit, IsWrongAfter, LONGEST_LINE, MOST_LINES, StopsAfter, TakesOne, is_feedless}
use Rattle.ngc_events.specs.Events.{parsed_event}
use Rattle.ngc_events.specs.Spelling.{words_of, event_text, events_text, is_given}
use Rattle.ngc_events.proofs.EventLaws.{event_spelled}

-- ---- the longest line

few_digits : (k n : ℕ) → 0 < k → n < 10 ^ k → n < 2 ^ 64 → length (decimal n) ≤ k
few_digits k n some small fits = length-decimal-le k n some small fits

at_most : (n limit : ℕ) → nat_le n limit ≡ true → n ≤ limit
at_most n limit h = grind (arith, nat_tests)

short_words : (event : Event) (times : ℕ) → is_given event times ≡ true → length (words_of event times) ≤ LONGEST_LINE
short_words Load times h = omega arith
short_words Tick times h =
    let range = and_parts (nat_le 1 times) (nat_le times 1000000) h in
    let small : times ≤ 1000000 = at_most times 1000000 range.1 in
    omega (arith, length-append (codes "tick ") (decimal times), few_digits 7 times (omega arith) (omega (arith, small)) (omega (arith, small)))
short_words Hold times h = omega arith
short_words Resume times h = omega arith
short_words (Override percent) times h =
    let range = and_parts (nat_le percent 255) (times == 1) h in
    let small : percent ≤ 255 = at_most percent 255 range.0 in
    omega (arith, length-append (codes "override ") (decimal percent), few_digits 3 percent (omega arith) (omega (arith, small)) (omega (arith, small)))
short_words (StopSwitch true) times h = omega arith
short_words (StopSwitch false) times h = omega arith
short_words Start times h = omega arith

pub longest_line : (line : List ℕ) (said : EventLine) → parsed_event line ≡ Some said → length line ≤ LONGEST_LINE
longest_line line said h =
    let spells = event_spelled line said h in
    omega (arith, ap length spells.is, short_words said.event said.times spells.given)

-- ---- one more line

are_sent : List EventLine → Bool
are_sent lines = list_all (λ (line : EventLine). is_given line.event line.times) lines

-- the bytes that follow the lines that have arrived
pub follows : (text piece : List ℕ) (lines : List EventLine) (now : Arriving) → HaveArrived text lines now →
    text ++ piece ≡ events_text lines ++ (now.begun ++ piece)
follows text piece lines now h = ap (λ l. l ++ piece) h.spelled ∙ append_assoc (events_text lines) now.begun piece

one_line : (line : EventLine) → events_text (line ∷ []) ≡ words_of line.event line.times ++ (10 ∷ [])
one_line line = append-nil (event_text line)

pub one_more : (text piece part rest : List ℕ) (lines : List EventLine) (line : EventLine) (old new : Arriving) → HaveArrived text lines old →
    IsSplit piece part rest → Some line ≡ parsed_event (old.begun ++ part) → new ≡ record { complete = old.complete + 1; begun = [] } →
    TakesOne text piece lines line rest new
one_more text piece part rest lines line old new h split said is =
    let spells = event_spelled (old.begun ++ part) line (sym said) in
    let words : List ℕ = words_of line.event line.times in
    let before : List ℕ = events_text lines in
    let arrived : HaveArrived (text ++ (part ++ (10 ∷ []))) (lines ++ (line ∷ [])) (record { complete = old.complete + 1; begun = [] }) = record {
      spelled =
          follows text (part ++ (10 ∷ [])) lines old h
          ∙ ap (λ l. before ++ l) (sym (append_assoc old.begun part (10 ∷ [])) ∙ ap (λ l. l ++ (10 ∷ [])) spells.is ∙ sym (one_line line))
          ∙ sym (flat_map-append event_text lines (line ∷ [])) ∙ sym (append-nil (events_text (lines ++ (line ∷ []))));
      given =
          list_all-append (λ (l : EventLine). is_given l.event l.times) lines (line ∷ [])
          ∙ and_from _ _ h.given (and_from _ _ spells.given refl);
      feedless = refl;
      counted = omega (arith, h.counted, length-append lines (line ∷ []));
    } in
    record {
      front = part ++ (10 ∷ []);
      splits = split.parts ∙ sym (append_assoc part (10 ∷ []) rest);
      arrived = subst (HaveArrived (text ++ (part ++ (10 ∷ []))) (lines ++ (line ∷ []))) (sym is) arrived;
      shorter = omega (arith, ap length split.parts, length-append part (10 ∷ rest));
    }

-- ---- more of a line

both_feedless : (xs ys : List ℕ) → is_feedless xs ≡ true → is_feedless ys ≡ true → is_feedless (xs ++ ys) ≡ true
both_feedless xs ys h k = list_all-append _ xs ys ∙ and_from _ _ h k

pub more_begun : (text piece : List ℕ) (lines : List EventLine) (old new : Arriving) → HaveArrived text lines old → is_feedless piece ≡ true →
    new ≡ record old { begun = old.begun ++ piece } → HaveArrived (text ++ piece) lines new
more_begun text piece lines old new h feedless is =
    let arrived : HaveArrived (text ++ piece) lines (record old { begun = old.begun ++ piece }) = record {
      spelled = follows text piece lines old h;
      given = h.given;
      feedless = both_feedless old.begun piece h.feedless feedless;
      counted = h.counted;
    } in subst (HaveArrived (text ++ piece) lines) (sym is) arrived

-- ---- a line that is no event

wrong_line : (text piece : List ℕ) (lines : List EventLine) (old : Arriving) → HaveArrived text lines old → IsNoEvent (old.begun ++ piece) →
    IsWrongAfter (text ++ piece) lines (old.complete + 1)
wrong_line text piece lines old h none = record {
  wrong = old.begun ++ piece;
  spelled = follows text piece lines old h;
  given = h.given;
  no_event = none;
  number = omega (arith, h.counted);
}

-- the line is too long before its line feed arrives
pub long_begun : (text piece : List ℕ) (lines : List EventLine) (old : Arriving) (at : ℕ) → HaveArrived text lines old → is_feedless piece ≡ true →
    LONGEST_LINE < length (old.begun ++ piece) → at ≡ old.complete + 1 → IsWrongAfter (text ++ piece) lines at
long_begun text piece lines old at h feedless long is =
    subst (IsWrongAfter (text ++ piece) lines) (sym is) (wrong_line text piece lines old h (record {
      line = old.begun ++ piece;
      after = [];
      splits = sym (append-nil (old.begun ++ piece));
      feedless = both_feedless old.begun piece h.feedless feedless;
      wrong = inl long;
    }))

no_event : (begun piece part rest : List ℕ) → is_feedless begun ≡ true → IsSplit piece part rest →
    (LONGEST_LINE < length (begun ++ part)) ⊎ (parsed_event (begun ++ part) ≡ None) → IsNoEvent (begun ++ piece)
no_event begun piece part rest feedless split wrong = record {
  line = begun ++ part;
  after = 10 ∷ rest;
  splits = ap (λ l. begun ++ l) split.parts ∙ sym (append_assoc begun part (10 ∷ rest));
  feedless = both_feedless begun part feedless split.feedless;
  wrong = elim wrong [ inl long ↦ inl long | inr none ↦ inr (none, rest, refl) ];
}

pub wrong_ended : (text piece part rest : List ℕ) (lines : List EventLine) (old : Arriving) (at : ℕ) → HaveArrived text lines old → IsSplit piece part rest →
    (LONGEST_LINE < length (old.begun ++ part)) ⊎ (parsed_event (old.begun ++ part) ≡ None) → at ≡ old.complete + 1 → IsWrongAfter (text ++ piece) lines at
wrong_ended text piece part rest lines old at h split wrong is =
    subst (IsWrongAfter (text ++ piece) lines) (sym is) (wrong_line text piece lines old h (no_event old.begun piece part rest h.feedless split wrong))

-- ---- the complete lines at the front of a text

pub arrived_begins : (text : List ℕ) (lines : List EventLine) (now : Arriving) → HaveArrived text lines now → Begins text lines
arrived_begins text lines now h = record { after = now.begun; spelled = h.spelled; given = h.given }

pub longer_begins : (text more : List ℕ) (lines : List EventLine) → Begins text lines → Begins (text ++ more) lines
longer_begins text more lines h = record {
  after = h.after ++ more;
  spelled = ap (λ l. l ++ more) h.spelled ∙ append_assoc (events_text lines) h.after more;
  given = h.given;
}

pub stopped_begins : (text : List ℕ) (lines : List EventLine) (fault : EventsFault) → StopsAfter text lines fault → Begins text lines
stopped_begins text lines (BadLine number) h = record { after = h.wrong; spelled = h.spelled; given = h.given }
stopped_begins text lines TooManyLines h = h.0
stopped_begins text lines Memory h = absurd h

pub full_after : (text piece : List ℕ) (lines : List EventLine) (now : Arriving) → HaveArrived text lines now → now.complete ≡ MOST_LINES →
    StopsAfter (text ++ piece) lines TooManyLines
full_after text piece lines now h full = (longer_begins text piece lines (arrived_begins text lines now h), sym h.counted ∙ full)
