-- Data in blocks, as they come.
use Rattle.std.proofs.Common.{◌≡◌, ℕ, zero, suc, ◌+◌, ◌-◌, ◌*◌, ◌/◌, ◌<◌, ◌≤◌, Option, Some, None, List, [], ◌∷◌, ◌++◌, length, take, drop, refl, ap, sym, ◌∙◌, subst, arith, append_assoc, append-nil, length-append}
use Rattle.std.proofs.lemmas.List.{length-drop, drop-drop, drop-append-le, take-append-le, take_all, drop_all}
use Rattle.std.specs.Io.KnownBytes.{Appends}
use Rattle.ngc_text.specs.Written.{AppendsPrefix}
use Rattle.ngc_text.proofs.AppendedTexts.{appends_both, begins_after}
use Rattle.std.specs.Prelude.{codes}
use Rattle.std.specs.Int.{w32, to_be_bytes}
use Rattle.ngc_map_picture.specs.Checks.{adler}
use Rattle.ngc_map_picture.specs.Blocks.{block, blocks, chunk, ended, full_blocks, rest}
use Rattle.ngc_map_picture.specs.Streams.{AreSums, AddsData}
use Rattle.ngc_map_picture.specs.declared.stream.Stream.{Stream}
use Rattle.ngc_map_picture.proofs.Written.{prefix_longer, begins_last}

blocks_split : (q m : ℕ) (d e : List ℕ) → q * 16000 ≤ length d → blocks (q + m) (d ++ e) ≡ blocks q d ++ blocks m (drop (q * 16000) d ++ e)
unfolding blocks
blocks_split zero m d e h = rw (none m) refl where
  none : (m : ℕ) → zero + m ≡ m
  none m = omega arith
blocks_split (suc q) m d e h =
    let enough : 16000 ≤ length d = omega (arith, h) in
    let more : q * 16000 ≤ length (drop 16000 d) = omega (arith, h, length-drop 16000 d) in
    let place : drop (q * 16000) (drop 16000 d) ≡ drop (suc q * 16000) d = drop-drop (q * 16000) 16000 d ∙ ap (λ n. drop n d) (omega arith) in
    rw (count q m) (rw (take-append-le 16000 d e enough, drop-append-le 16000 d e enough) (rw (blocks_split q m (drop 16000 d) e more, place) (
    sym (append_assoc (block 0 (take 16000 d)) (blocks q (drop 16000 d)) (blocks m (drop (suc q * 16000) d ++ e)))))) where
      count : (q m : ℕ) → suc q + m ≡ suc (q + m)
      count q m = omega arith

fit : (d : List ℕ) → length d / 16000 * 16000 ≤ length d
fit d = omega arith

-- the rest of some data is shorter than a block
pub rest_short : (d : List ℕ) → length (rest d) < 16000
rest_short d = omega (arith, length-drop (length d / 16000 * 16000) d)

count_of : (d e : List ℕ) → length (d ++ e) / 16000 ≡ length d / 16000 + length (rest d ++ e) / 16000
count_of d e =
    let whole : length (d ++ e) ≡ length d + length e = length-append d e in
    let part : length (rest d ++ e) ≡ length (rest d) + length e = length-append (rest d) e in
    let left : length (rest d) ≡ length d - length d / 16000 * 16000 = length-drop (length d / 16000 * 16000) d in
    omega (arith, whole, part, left)

-- the full blocks of more data are those of the first data, and then those of the rest with the others
pub full_of_both : (d e : List ℕ) → full_blocks (d ++ e) ≡ full_blocks d ++ full_blocks (rest d ++ e)
full_of_both d e =
    ap (λ n. blocks n (d ++ e)) (count_of d e) ∙ blocks_split (length d / 16000) (length (rest d ++ e) / 16000) d e (fit d)

pub rest_of_both : (d e : List ℕ) → rest (d ++ e) ≡ rest (rest d ++ e)
rest_of_both d e =
    let q : ℕ = length d / 16000 in
    let m : ℕ = length (rest d ++ e) / 16000 in
    let split : (length (d ++ e) / 16000) * 16000 ≡ q * 16000 + m * 16000 = omega (arith, count_of d e) in
    ap (λ n. drop n (d ++ e)) split ∙ sym (drop-drop (m * 16000) (q * 16000) (d ++ e))
    ∙ ap (drop (m * 16000)) (drop-append-le (q * 16000) d e (fit d))

pub appends_nothing : (known : Option (List ℕ)) → Appends known known []
appends_nothing None = tt
appends_nothing (Some xs) = sym (append-nil xs)

-- too few bytes for a block
pub none_full : (d : List ℕ) → length d < 16000 → (full_blocks d ≡ []) × (rest d ≡ d)
unfolding blocks
none_full d h =
    let none : length d / 16000 ≡ 0 = omega (arith, h) in
    (ap (λ n. blocks n d) none, ap (λ n. drop (n * 16000) d) none)

-- as many bytes as a block has
pub one_full : (d : List ℕ) → length d ≡ 16000 → (full_blocks d ≡ block 0 d) × (rest d ≡ [])
unfolding blocks
one_full d h =
    let one : length d / 16000 ≡ 1 = omega (arith, h) in (
      ap (λ n. blocks n d) one ∙ append-nil (block 0 (take 16000 d)) ∙ ap (block 0) (take_all 16000 d (omega (arith, h))),
      ap (λ n. drop (n * 16000) d) one ∙ drop_all 16000 d (omega (arith, h)),
    )

-- some data, and then others
pub adds_both : (old mid new : Option (List ℕ)) (before between after : Stream) (a b : List ℕ) → AddsData old mid before between a →
    AddsData mid new between after b → AddsData old new before after (a ++ b)
adds_both old mid new before between after a b first second =
    let start : List ℕ = before.waiting.items in
    let P : List ℕ → Type 0 = λ bs. Appends mid new (full_blocks (bs ++ b)) in
    let Q : List ℕ → Type 0 = λ bs. Appends old new bs in
    let joined : full_blocks (start ++ (a ++ b)) ≡ full_blocks (start ++ a) ++ full_blocks (rest (start ++ a) ++ b) =
    ap full_blocks (sym (append_assoc start a b)) ∙ full_of_both (start ++ a) b in
    record {
      wrote = subst Q (sym joined) (appends_both old mid new (full_blocks (start ++ a)) (full_blocks (rest (start ++ a) ++ b)) first.wrote (subst P first.left second.wrote));
      left = second.left ∙ ap (λ bs. rest (bs ++ b)) first.left ∙ sym (ap rest (sym (append_assoc start a b)) ∙ rest_of_both (start ++ a) b);
      short = second.short;
      summed = λ earlier are.
          let R : List ℕ → Type 0 = λ bs. AreSums after.sums bs in
          subst R (append_assoc earlier a b) (second.summed (earlier ++ a) (first.summed earlier are));
    }

-- some data, and then a prefix of the blocks that are full with others; more data follow
pub adds_then_stops : (old mid new : Option (List ℕ)) (before between : Stream) (a b more : List ℕ) → AddsData old mid before between a →
    AppendsPrefix mid new (full_blocks (between.waiting.items ++ b)) → AppendsPrefix old new (full_blocks (before.waiting.items ++ (a ++ (b ++ more))))
adds_then_stops old mid new before between a b more first stop =
    let start : List ℕ = before.waiting.items in
    let here : List ℕ = rest (start ++ a) in
    let P : List ℕ → Type 0 = λ bs. AppendsPrefix mid new (full_blocks (bs ++ b)) in
    let Q : List ℕ → Type 0 = λ bs. AppendsPrefix old new bs in
    let joined : full_blocks (start ++ (a ++ (b ++ more)))
    ≡ full_blocks (start ++ a) ++ (full_blocks (here ++ b) ++ full_blocks (rest (here ++ b) ++ more)) =
    ap full_blocks (sym (append_assoc start a (b ++ more))) ∙ full_of_both (start ++ a) (b ++ more)
    ∙ ap (λ bs. full_blocks (start ++ a) ++ bs) (ap full_blocks (sym (append_assoc here b more)) ∙ full_of_both (here ++ b) more) in
    subst Q (sym joined) (begins_after old mid new (full_blocks (start ++ a)) (full_blocks (here ++ b)) (full_blocks (rest (here ++ b) ++ more)) first.wrote
    (subst P first.left stop))

-- no data
pub adds_none : (known : Option (List ℕ)) (s : Stream) → length s.waiting.items < 16000 → AddsData known known s s []
adds_none known s h =
    let same : s.waiting.items ++ [] ≡ s.waiting.items = append-nil s.waiting.items in
    let P : List ℕ → Type 0 = λ bs. Appends known known bs in
    let none = none_full s.waiting.items h in
    record {
      wrote = subst P (sym (ap full_blocks same ∙ none.0)) (appends_nothing known);
      left = sym (ap rest same ∙ none.1);
      short = h;
      summed = λ earlier are. let R : List ℕ → Type 0 = λ bs. AreSums s.sums bs in subst R (sym (append-nil earlier)) are;
    }

-- some data are added, and others follow
abbrev pub AddsUpTo : Option (List ℕ) → Option (List ℕ) → Stream → Stream → List ℕ → List ℕ → Type 0
AddsUpTo old now before between whole later = (done : List ℕ) × AddsData old now before between done × (whole ≡ done ++ later)

pub up_to_more : (old mid new : Option (List ℕ)) (before between after : Stream) (whole later a others : List ℕ) → AddsUpTo old mid before between whole later →
    later ≡ a ++ others → AddsData mid new between after a → AddsUpTo old new before after whole others
up_to_more old mid new before between after whole later a others done is more = (
  done.0 ++ a,
  adds_both old mid new before between after done.0 a done.1 more,
  done.2 ∙ ap (λ l. done.0 ++ l) is ∙ sym (append_assoc done.0 a others),
)

pub up_to_stops : (old mid new : Option (List ℕ)) (before between : Stream) (whole later a others : List ℕ) → AddsUpTo old mid before between whole later →
    later ≡ a ++ others → AppendsPrefix mid new (full_blocks (between.waiting.items ++ a)) → AppendsPrefix old new (full_blocks (before.waiting.items ++ whole))
up_to_stops old mid new before between whole later a others done is stop =
    let P : List ℕ → Type 0 = λ bs. AppendsPrefix old new (full_blocks (before.waiting.items ++ bs)) in
    subst P (sym (done.2 ∙ ap (λ l. done.0 ++ l) is)) (adds_then_stops old mid new before between done.0 a others done.1 stop)

pub up_to_all : (old new : Option (List ℕ)) (before after : Stream) (whole later : List ℕ) → AddsUpTo old new before after whole later → later ≡ [] →
    AddsData old new before after whole
up_to_all old new before after whole later done none =
    let P : List ℕ → Type 0 = λ bs. AddsData old new before after bs in
    subst P (sym (done.2 ∙ ap (λ l. done.0 ++ l) none ∙ append-nil done.0)) done.1

pub up_to_short : (old new : Option (List ℕ)) (before after : Stream) (whole later : List ℕ) → AddsUpTo old new before after whole later →
    length after.waiting.items < 16000
up_to_short old new before after whole later done = done.1.short

-- no data yet
pub up_to_none : (known : Option (List ℕ)) (s : Stream) (whole later : List ℕ) → length s.waiting.items < 16000 → whole ≡ later → AddsUpTo known known s s whole later
up_to_none known s whole later h is = ([], adds_none known s h, is)

-- a byte is added, and others follow
pub up_to_byte : (old mid new : Option (List ℕ)) (before between after : Stream) (whole later others : List ℕ) (b byte : ℕ) →
    AddsUpTo old mid before between whole later → later ≡ (b ∷ []) ++ others → byte ≡ b → AddsData mid new between after (byte ∷ []) →
    AddsUpTo old new before after whole others
up_to_byte old mid new before between after whole later others b byte done is same more =
    let P : ℕ → Type 0 = λ x. AddsData mid new between after (x ∷ []) in
    up_to_more old mid new before between after whole later (b ∷ []) others done is (subst P same more)

pub up_to_byte_stops : (old mid new : Option (List ℕ)) (before between : Stream) (whole later others : List ℕ) (b byte : ℕ) →
    AddsUpTo old mid before between whole later → later ≡ (b ∷ []) ++ others → byte ≡ b →
    AppendsPrefix mid new (full_blocks (between.waiting.items ++ byte ∷ [])) → AppendsPrefix old new (full_blocks (before.waiting.items ++ whole))
up_to_byte_stops old mid new before between whole later others b byte done is same stop =
    let P : ℕ → Type 0 = λ x. AppendsPrefix mid new (full_blocks (between.waiting.items ++ x ∷ [])) in
    up_to_stops old mid new before between whole later (b ∷ []) others done is (subst P same stop)

-- some data, and then a prefix of the blocks that are full with others
pub adds_then_stops_last : (old mid new : Option (List ℕ)) (before between : Stream) (a b : List ℕ) → AddsData old mid before between a →
    AppendsPrefix mid new (full_blocks (between.waiting.items ++ b)) → AppendsPrefix old new (full_blocks (before.waiting.items ++ (a ++ b)))
adds_then_stops_last old mid new before between a b first stop =
    let P : List ℕ → Type 0 = λ bs. AppendsPrefix old new (full_blocks (before.waiting.items ++ (a ++ bs))) in
    subst P (append-nil b) (adds_then_stops old mid new before between a b [] first stop)

-- a prefix of the blocks that are full with the first of some data
pub stops_first : (old new : Option (List ℕ)) (start a more : List ℕ) → AppendsPrefix old new (full_blocks (start ++ a)) →
    AppendsPrefix old new (full_blocks (start ++ (a ++ more)))
stops_first old new start a more stop =
    let P : List ℕ → Type 0 = λ bs. AppendsPrefix old new bs in
    subst P (sym (ap full_blocks (sym (append_assoc start a more)) ∙ full_of_both (start ++ a) more))
    (prefix_longer old new (full_blocks (start ++ a)) (full_blocks (rest (start ++ a) ++ more)) stop)

-- a byte waits
pub adds_waiting : (known : Option (List ℕ)) (s t : Stream) (b : ℕ) → length (s.waiting.items ++ b ∷ []) < 16000 → t.waiting.items ≡ s.waiting.items ++ b ∷ [] →
    ((earlier : List ℕ) → AreSums s.sums earlier → AreSums t.sums (earlier ++ b ∷ [])) → AddsData known known s t (b ∷ [])
adds_waiting known s t b h is sums =
    let P : List ℕ → Type 0 = λ bs. Appends known known bs in
    let none = none_full (s.waiting.items ++ b ∷ []) h in
    record {
      wrote = subst P (sym none.0) (appends_nothing known);
      left = is ∙ sym none.1;
      short = rw is h;
      summed = sums;
    }

-- a byte fills a block, which is written
pub adds_block : (old new : Option (List ℕ)) (s t : Stream) (b : ℕ) → length (s.waiting.items ++ b ∷ []) ≡ 16000 → t.waiting.items ≡ [] →
    ((earlier : List ℕ) → AreSums s.sums earlier → AreSums t.sums (earlier ++ b ∷ [])) → Appends old new (block 0 (s.waiting.items ++ b ∷ [])) →
    AddsData old new s t (b ∷ [])
adds_block old new s t b h none sums wrote =
    let P : List ℕ → Type 0 = λ bs. Appends old new bs in
    let one = one_full (s.waiting.items ++ b ∷ []) h in
    record {
      wrote = subst P (sym one.0) wrote;
      left = none ∙ sym one.1;
      short = rw none (omega arith);
      summed = sums;
    }

-- a prefix of a block that is full is written
pub stops_in_block : (old new : Option (List ℕ)) (bytes : List ℕ) → length bytes ≡ 16000 → AppendsPrefix old new (block 0 bytes) → AppendsPrefix old new (full_blocks bytes)
stops_in_block old new bytes h stop =
    let P : List ℕ → Type 0 = λ bs. AppendsPrefix old new bs in subst P (sym (one_full bytes h).0) stop

-- what a stream ends with, after the waiting bytes of some data
abbrev pub last_of : List ℕ → List ℕ → List ℕ
last_of waiting bytes = block 1 waiting ++ chunk (codes "IDAT") (to_be_bytes w32 (adler bytes))

-- all data are added to a stream without data, and then the stream ends
pub all_then_end : (old mid new : Option (List ℕ)) (before after : Stream) (bytes : List ℕ) → before.waiting.items ≡ [] → AreSums before.sums [] →
    AddsData old mid before after bytes →
    ((all : List ℕ) → AreSums after.sums all → Appends mid new (last_of after.waiting.items all)) → Appends old new (ended bytes)
unfolding ended
all_then_end old mid new before after bytes none sums added end =
    let P : List ℕ → Type 0 = λ start. Appends old mid (full_blocks (start ++ bytes)) in
    let Q : List ℕ → Type 0 = λ waiting. Appends mid new (last_of waiting bytes) in
    let is : after.waiting.items ≡ rest bytes = added.left ∙ ap (λ start. rest (start ++ bytes)) none in
    appends_both old mid new (full_blocks bytes) (last_of (rest bytes) bytes) (subst P none added.wrote) (subst Q is (end bytes (added.summed [] sums)))

pub all_then_stops : (old mid new : Option (List ℕ)) (before after : Stream) (bytes : List ℕ) → before.waiting.items ≡ [] → AreSums before.sums [] →
    AddsData old mid before after bytes →
    ((all : List ℕ) → AreSums after.sums all → AppendsPrefix mid new (last_of after.waiting.items all)) → AppendsPrefix old new (ended bytes)
unfolding ended
all_then_stops old mid new before after bytes none sums added stop =
    let P : List ℕ → Type 0 = λ start. Appends old mid (full_blocks (start ++ bytes)) in
    let Q : List ℕ → Type 0 = λ waiting. AppendsPrefix mid new (last_of waiting bytes) in
    let is : after.waiting.items ≡ rest bytes = added.left ∙ ap (λ start. rest (start ++ bytes)) none in
    begins_last old mid new (full_blocks bytes) (last_of (rest bytes) bytes) (subst P none added.wrote) (subst Q is (stop bytes (added.summed [] sums)))

pub stops_before_end : (old new : Option (List ℕ)) (start bytes : List ℕ) → start ≡ [] → AppendsPrefix old new (full_blocks (start ++ bytes)) →
    AppendsPrefix old new (ended bytes)
unfolding ended
stops_before_end old new start bytes none stop =
    let P : List ℕ → Type 0 = λ s. AppendsPrefix old new (full_blocks (s ++ bytes)) in
    prefix_longer old new (full_blocks bytes) (last_of (rest bytes) bytes) (subst P none stop)
