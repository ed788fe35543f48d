-- Events from a source, turn by turn.
use Rattle.std.proofs.Common.{◌≡◌, ◌++◌, ◌∷◌, [], ◌+◌, ◌-◌, ℕ, List, Option, true, false, Ok, Err, length, drop, take, ◌≤◌, inl, inr, refl, ap, sym, subst, ◌∙◌, arith}
use Rattle.std.proofs.lemmas.List.{append_assoc, append-nil, drop-drop, drop-take, length-append, length-drop, length-take-le}
use Rattle.std.proofs.KnownBytes.{Consumes-nil, Consumes-trans}
use Rattle.std.specs.Io.KnownBytes.{Consumes}
use Rattle.ngc_events.specs.Arriving.{Arriving, StopsAfter, TakesOne}
use Rattle.ngc_events.specs.declared.event.EventLine.{EventLine}
use Rattle.ngc_run_log.specs.declared.live_fault.LiveFault.{LiveFault}
use Rattle.ngc_run_log.specs.declared.live_fault.LiveFault.TheVariants.{Events, Read, Write}
use Rattle.ngc_run_log.specs.declared.live_form.LiveForm.{LiveForm}
use Rattle.ngc_run_log.specs.Living.{FeedsLine, IsBrokenLive, IsLive, LiveData, LivesOn, LivesSoFar, TakesTurn, Turns}

-- ---- the bytes that are left

-- the last bytes of some, by their number
pub last_bytes : (bytes front rest : List ℕ) → bytes ≡ front ++ rest → drop (length bytes - length rest) bytes ≡ rest
last_bytes bytes front rest splits =
    let size : length bytes - length rest ≡ length front = omega (arith, ap length splits ∙ length-append front rest) in
    ap (λ n. drop n bytes) size ∙ ap (drop (length front)) splits ∙ drop_front front rest
  where
    drop_front : (front rest : List ℕ) → drop (length front) (front ++ rest) ≡ rest
    drop_front [] rest = refl
    drop_front (x ∷ front) rest = drop_front front rest

-- the last of the bytes of an array that are left
pub kept : (bytes : List ℕ) (start end count : ℕ) → start ≤ end → end ≤ length bytes → count ≤ length (take (end - start) (drop start bytes)) →
    take (end - (end - count)) (drop (end - count) bytes)
    ≡ drop (length (take (end - start) (drop start bytes)) - count) (take (end - start) (drop start bytes))
kept bytes start end count before within few =
    let left : List ℕ = drop start bytes in
    let k : ℕ = end - start - count in
    let size : length (take (end - start) left) ≡ end - start =
    length-take-le (end - start) left (omega (arith, within, length-drop start bytes)) in
    let enough : count ≤ end - start = omega (arith, few, size) in
    let first : end - (end - count) ≡ count = omega (arith, enough) in
    let from : end - count ≡ start + k = omega (arith, enough, before) in
    let all : end - start ≡ k + count = omega (arith, enough) in
    ap (λ n. take n (drop (end - count) bytes)) first ∙ ap (λ n. take count (drop n bytes)) from ∙ ap (take count) (sym (drop-drop k start bytes))
    ∙ sym (drop-take k count left) ∙ ap (λ n. drop k (take n left)) (sym all) ∙ ap (λ n. drop (n - count) (take (end - start) left)) (sym size)

-- ---- the turns so far

pub lives_yet : (form : LiveForm) (live : LiveData) (source first now : Option (List ℕ)) → IsLive form live [] first now →
    LivesSoFar form live [] source source first now
lives_yet form live source first now h = record { text = []; read = Consumes-nil source; is_live = h }

-- what was read and then more
read_on : (source mid rest : Option (List ℕ)) (text waiting read : List ℕ) → Consumes source mid (text ++ waiting) → Consumes mid rest read →
    Consumes source rest (text ++ (waiting ++ read))
read_on source mid rest text waiting read old new =
    subst (Consumes source rest) (append_assoc text waiting read) (Consumes-trans source mid rest (text ++ waiting) read old new)

-- one more turn
pub lives_more : (form : LiveForm) (old new : LiveData) (waiting left : List ℕ) (source mid rest first x y : Option (List ℕ)) →
    (h : LivesSoFar form old waiting source mid first x) → TakesTurn form new h.text waiting h.is_live.lines left mid rest first y (Ok true) →
    LivesSoFar form new left source rest first y
lives_more form old new waiting left source mid rest first x y h turn = by_turn turn.turns where
  all : Consumes source rest (h.text ++ (waiting ++ turn.read))
  all = read_on source mid rest h.text waiting turn.read h.read turn.reads

  by_turn : Turns form new h.text (waiting ++ turn.read) h.is_live.lines left first y (Ok true) → LivesSoFar form new left source rest first y
  by_turn (inl (line, one, has)) = record {
    text = h.text ++ one.front;
    read = subst (Consumes source rest) (ap (λ l. h.text ++ l) one.splits ∙ sym (append_assoc h.text one.front left)) all;
    is_live = record { lines = h.is_live.lines ++ line ∷ []; arrived = one.arrived; has_run = has };
  }
  by_turn (inr (none, arrived, has)) = record {
    text = h.text ++ (waiting ++ turn.read);
    read = subst (Consumes source rest) (sym (ap (λ l. (h.text ++ (waiting ++ turn.read)) ++ l) none ∙ append-nil (h.text ++ (waiting ++ turn.read)))) all;
    is_live = record { lines = h.is_live.lines; arrived = arrived; has_run = has };
  }

-- the text before bytes of which there are none
same_text : (text piece : List ℕ) → piece ≡ [] → text ++ piece ≡ text
same_text text piece none = ap (λ l. text ++ l) none ∙ append-nil text

-- the source ended
pub lives_done : (form : LiveForm) (old new : LiveData) (waiting left : List ℕ) (source mid rest first x y : Option (List ℕ)) →
    (h : LivesSoFar form old waiting source mid first x) → TakesTurn form new h.text waiting h.is_live.lines left mid rest first y (Ok false) →
    LivesOn form new source rest first y (Ok tt)
lives_done form old new waiting left source mid rest first x y h turn = record {
  text = h.text;
  read = subst (Consumes source rest) (same_text h.text (waiting ++ turn.read) turn.turns.0)
      (read_on source mid rest h.text waiting turn.read h.read turn.reads);
  ends = (h.is_live.lines, turn.turns.2, turn.turns.1);
}

-- a turn that ends the run
pub lives_fails : (form : LiveForm) (old new : LiveData) (waiting left : List ℕ) (source mid rest first x y : Option (List ℕ)) (fault : LiveFault) →
    (h : LivesSoFar form old waiting source mid first x) → TakesTurn form new h.text waiting h.is_live.lines left mid rest first y (Err fault) →
    LivesOn form new source rest first y (Err fault)
lives_fails form old new waiting left source mid rest first x y fault h turn = by_fault fault turn.turns where
  piece : List ℕ
  piece = waiting ++ turn.read

  all : Consumes source rest (h.text ++ piece)
  all = read_on source mid rest h.text waiting turn.read h.read turn.reads

  before : piece ≡ [] → Consumes source rest h.text
  before none = subst (Consumes source rest) (same_text h.text piece none) all

  by_fault : (fault : LiveFault) → Turns form new h.text piece h.is_live.lines left first y (Err fault) → LivesOn form new source rest first y (Err fault)
  by_fault (Events e) (inl stops, has) =
      record { text = h.text ++ piece; read = all; ends = inl (record { lines = h.is_live.lines; stops = stops; has_run = has }) }
  by_fault (Events e) (inr (none, ends), has) = record { text = h.text; read = before none; ends = inr (h.is_live.lines, has, ends) }
  by_fault Read turns =
      record { text = h.text; read = before turns.0; ends = record { lines = h.is_live.lines; arrived = turns.1; has_run = turns.2 } }
  by_fault (Write e) broken = record { text = h.text ++ piece; read = all; ends = broken }

-- ---- a turn

-- a line of the bytes that were read, and those after it are left
pub one_left : (text fed bytes piece left rest : List ℕ) (lines : List EventLine) (line : EventLine) (new : Arriving) → fed ≡ bytes → bytes ≡ piece →
    left ≡ drop (length bytes - length rest) bytes → TakesOne text fed lines line rest new → TakesOne text piece lines line left new
one_left text fed bytes piece left rest lines line new read are keeps one =
    let same : rest ≡ left = sym (keeps ∙ last_bytes bytes one.front rest (sym read ∙ one.splits)) in
    subst (λ r. TakesOne text piece lines line r new) same (subst (λ p. TakesOne text p lines line rest new) (read ∙ are) one)

pub none_kept : (bytes : List ℕ) → drop (length bytes - 0) bytes ≡ []
none_kept bytes = last_bytes bytes bytes [] (sym (append-nil bytes))

-- a fault that ends the turn
pub turn_fails : (form : LiveForm) (live : LiveData) (text fed piece left : List ℕ) (lines : List EventLine) (first now : Option (List ℕ)) (fault : LiveFault) →
    fed ≡ piece → FeedsLine form live text fed lines first now (Err fault) → Turns form live text piece lines left first now (Err fault)
turn_fails form live text fed piece left lines first now (Events e) same h =
    (inl (subst (λ p. StopsAfter (text ++ p) lines e) same h.0), h.1)
turn_fails form live text fed piece left lines first now Read same h = absurd h
turn_fails form live text fed piece left lines first now (Write e) same h =
    subst (λ p. IsBrokenLive form live.feeds live.job (text ++ p) first now) same h
