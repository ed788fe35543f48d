-- The text of an event is read as the event, and only that text is.
use Rattle.std.proofs.Common.{◌≡◌, ◌⊎◌, inl, inr, ℕ, zero, suc, ◌<◌, ◌≤◌, ◌^◌, ap, subst, Bool, true, false, Option, Some, None, List, ◌++◌, length, take, drop}
use Rattle.std.proofs.Common.{refl, sym, ◌∙◌, arith}
use Rattle.std.specs.Prelude.{codes, decimal, ◌==◌, nat_le, if◌then◌else◌}
use Rattle.std.specs.Option.{option_map}
use Rattle.std.specs.Str.{bytes_eq}
use Rattle.std.proofs.lemmas.Bool.{and_parts, and_from}
use Rattle.std.proofs.lemmas.Bool.Decides.{nat_tests}
use Rattle.std.proofs.lemmas.List.{take-append-drop}
use Rattle.std.proofs.lemmas.Slice.Eq.{bytes_eq-Decides}
use Rattle.ngc_events.specs.declared.event.Event.{Event}
use Rattle.ngc_events.specs.declared.event.Event.TheVariants.{Load, Tick, Hold, Resume, Override, StopSwitch, Start}
use Rattle.ngc_events.specs.declared.event.EventLine.{EventLine}
use Rattle.ngc_text.specs.Decimals.{decimal_in}
use Rattle.ngc_text.proofs.SplitTexts.{lacks}
use Rattle.ngc_text.proofs.DecimalLaws.{decimal_in-decimal, decimal_spelled, decimal_lacks}
use Rattle.ngc_events.specs.Events.{up_to, number_to, once, ticks, begins, parsed_word, parsed_event}
use Rattle.ngc_events.specs.Spelling.{words_of, is_given}

abbrev line_with : Event → ℕ → EventLine
line_with event times = record { event = event; times = times }

-- ---- numbers up to a limit

at_most : (n limit : ℕ) → nat_le n limit ≡ true → n ≤ limit
at_most n limit h = grind (arith, nat_tests)

within : (n limit : ℕ) → n ≤ limit → nat_le n limit ≡ true
within n limit h = grind (arith, nat_tests)

number_reads : (limit n : ℕ) → n ≤ limit → limit < 2 ^ 64 → number_to limit (decimal n) ≡ Some n
number_reads limit n small fits = ap (up_to limit) (decimal_in-decimal n (omega (arith, small, fits))) ∙ rw (within n limit small) refl

if_within : (b : Bool) (m n : ℕ) → (if b then Some m else None) ≡ Some n → (b ≡ true) × (m ≡ n)
if_within true m n e = (refl, cc e)
if_within false m n e = absurd (cc e)

kept : (limit : ℕ) (o : Option ℕ) (n : ℕ) → up_to limit o ≡ Some n → (o ≡ Some n) × (n ≤ limit)
kept limit None n e = absurd (cc e)
kept limit (Some m) n e = let k = if_within (nat_le m limit) m n e in (ap Some k.1, subst (λ (x : ℕ). x ≤ limit) k.1 (at_most m limit k.0))

number_spelled : (limit : ℕ) (t : List ℕ) (n : ℕ) → number_to limit t ≡ Some n → limit < 2 ^ 64 → (t ≡ decimal n) × (n ≤ limit)
number_spelled limit t n e fits = let k = kept limit (decimal_in t) n e in (decimal_spelled t n k.0 (omega (arith, k.1, fits)), k.1)

-- ---- the text of an event is read as the event

one : (n : ℕ) → (n == 1) ≡ true → n ≡ 1
one n h = grind (arith, nat_tests)

some_ticks : (n : ℕ) → 1 ≤ n → ticks (Some n) ≡ Some (line_with Tick n)
some_ticks zero h = absurd (omega (arith, h))
some_ticks (suc n) h = refl

is_once : (event : Event) (times : ℕ) → (times == 1) ≡ true → Some (once event) ≡ Some (line_with event times)
is_once event times h = ap (λ (n : ℕ). Some (line_with event n)) (sym (one times h))

tick_said : (text : List ℕ) → parsed_event (codes "tick " ++ text) ≡ ticks (number_to 1000000 text)
unfolding parsed_event
tick_said text = refl

override_said : (text : List ℕ) → parsed_event (codes "override " ++ text) ≡ option_map (λ n. once (Override n)) (number_to 255 text)
unfolding parsed_event
override_said text = refl

pub event_reads : (event : Event) (times : ℕ) → is_given event times ≡ true → parsed_event (words_of event times) ≡ Some (line_with event times)
unfolding parsed_event parsed_word
event_reads Load times h = is_once Load times h
event_reads Tick times h =
    let range = and_parts (nat_le 1 times) (nat_le times 1000000) h in
    tick_said (decimal times) ∙ ap ticks (number_reads 1000000 times (at_most times 1000000 range.1) (omega arith)) ∙ some_ticks times (at_most 1 times range.0)
event_reads Hold times h = is_once Hold times h
event_reads Resume times h = is_once Resume times h
event_reads (Override percent) times h =
    let range = and_parts (nat_le percent 255) (times == 1) h in
    override_said (decimal percent) ∙ ap (option_map (λ n. once (Override n))) (number_reads 255 percent (at_most percent 255 range.0) (omega arith))
    ∙ is_once (Override percent) times range.1
event_reads (StopSwitch true) times h = is_once (StopSwitch true) times h
event_reads (StopSwitch false) times h = is_once (StopSwitch false) times h
event_reads Start times h = is_once Start times h

pub words_feedless : (event : Event) (times : ℕ) → is_given event times ≡ true → lacks 10 (words_of event times) ≡ true
words_feedless Load times h = refl
words_feedless Tick times h =
    let range = and_parts (nat_le 1 times) (nat_le times 1000000) h in
    let small = at_most times 1000000 range.1 in
    decimal_lacks 10 times (omega arith) (omega (arith, small))
words_feedless Hold times h = refl
words_feedless Resume times h = refl
words_feedless (Override percent) times h =
    let range = and_parts (nat_le percent 255) (times == 1) h in
    let small = at_most percent 255 range.0 in
    decimal_lacks 10 percent (omega arith) (omega (arith, small))
words_feedless (StopSwitch true) times h = refl
words_feedless (StopSwitch false) times h = refl
words_feedless Start times h = refl

-- ---- a line that is read as an event is the event's text

pub record Spells (line : List ℕ) (said : EventLine) : Type 0 where
  pub is : line ≡ words_of said.event said.times
  pub given : is_given said.event said.times ≡ true

by_test : {A : Type 0} (c : Bool) (x y : Option A) (z : A) → (if c then x else y) ≡ Some z → ((c ≡ true) × (x ≡ Some z)) ⊎ ((c ≡ false) × (y ≡ Some z))
by_test true x y z e = inl (refl, e)
by_test false x y z e = inr (refl, e)

bytes_same : (xs ys : List ℕ) → bytes_eq xs ys ≡ true → xs ≡ ys
bytes_same xs ys h = (bytes_eq-Decides xs ys).0 h

some_same : {A : Type 0} (x y : A) → Some x ≡ Some y → x ≡ y
some_same x y e = cc e

-- one word among several
word_or : (line word : List ℕ) (event : Event) (others : Option Event) (said : Event) → word ≡ words_of event 1 → is_given event 1 ≡ true
    → (others ≡ Some said → Spells line (once said)) → (if bytes_eq line word then Some event else others) ≡ Some said → Spells line (once said)
word_or line word event others said is given other h = elim (by_test (bytes_eq line word) (Some event) others said h) [
  | inl p ↦ subst (λ (e : Event). Spells line (once e)) (some_same event said p.1) (record { is = bytes_same line word p.0 ∙ is; given = given })
  | inr p ↦ other p.1
]

word_spelled : (line : List ℕ) (said : Event) → parsed_word line ≡ Some said → Spells line (once said)
unfolding parsed_word
word_spelled line said =
    word_or line (codes "load") Load _ said refl refl
    (word_or line (codes "hold") Hold _ said refl refl
    (word_or line (codes "resume") Resume _ said refl refl
    (word_or line (codes "start") Start _ said refl refl
    (word_or line (codes "switch on") (StopSwitch true) _ said refl refl
    (word_or line (codes "switch off") (StopSwitch false) None said refl refl (λ h. absurd (cc h)))))))

mapped : {A B : Type 0} (f : A → B) (o : Option A) (y : B) → option_map f o ≡ Some y → (x : A) × (o ≡ Some x) × (f x ≡ y)
mapped f None y h = absurd (cc h)
mapped f (Some x) y h = (x, refl, some_same (f x) y h)

ticked : (o : Option ℕ) (said : EventLine) → ticks o ≡ Some said → (n : ℕ) × (o ≡ Some (suc n)) × (line_with Tick (suc n) ≡ said)
ticked None said h = absurd (cc h)
ticked (Some zero) said h = absurd (cc h)
ticked (Some (suc n)) said h = (n, refl, some_same (line_with Tick (suc n)) said h)

begun : (front line : List ℕ) → begins front line ≡ true → line ≡ front ++ drop (length front) line
begun front line h =
    sym (take-append-drop (length front) line) ∙ ap (λ (l : List ℕ). l ++ drop (length front) line) (bytes_same (take (length front) line) front h)

tick_spelled : (line : List ℕ) (said : EventLine) → begins (codes "tick ") line ≡ true → ticks (number_to 1000000 (drop 5 line)) ≡ Some said → Spells line said
tick_spelled line said front h =
    let t = ticked (number_to 1000000 (drop 5 line)) said h in
    let number = number_spelled 1000000 (drop 5 line) (suc t.0) t.1 (omega arith) in
    subst (Spells line) t.2 (record {
      is = begun (codes "tick ") line front ∙ ap (λ (l : List ℕ). codes "tick " ++ l) number.0;
      given = and_from (nat_le 1 (suc t.0)) (nat_le (suc t.0) 1000000) (within 1 (suc t.0) (omega arith)) (within (suc t.0) 1000000 number.1);
    })

override_spelled : (line : List ℕ) (said : EventLine) → begins (codes "override ") line ≡ true →
    option_map (λ n. once (Override n)) (number_to 255 (drop 9 line)) ≡ Some said → Spells line said
override_spelled line said front h =
    let m = mapped (λ n. once (Override n)) (number_to 255 (drop 9 line)) said h in
    let number = number_spelled 255 (drop 9 line) m.0 m.1 (omega arith) in
    subst (Spells line) m.2 (record {
      is = begun (codes "override ") line front ∙ ap (λ (l : List ℕ). codes "override " ++ l) number.0;
      given = and_from (nat_le m.0 255) true (within m.0 255 number.1) refl;
    })

other_spelled : (line : List ℕ) (said : EventLine) → option_map once (parsed_word line) ≡ Some said → Spells line said
other_spelled line said h =
    let m = mapped once (parsed_word line) said h in
    subst (Spells line) m.2 (word_spelled line m.0 m.1)

pub event_spelled : (line : List ℕ) (said : EventLine) → parsed_event line ≡ Some said → Spells line said
unfolding parsed_event
event_spelled line said h = elim (by_test (begins (codes "tick ") line) _ _ said h) [
  | inl p ↦ tick_spelled line said p.0 p.1
  | inr p ↦ elim (by_test (begins (codes "override ") line) _ _ said p.1) [
    | inl q ↦ override_spelled line said q.0 q.1
    | inr q ↦ other_spelled line said q.1
  ]
]
