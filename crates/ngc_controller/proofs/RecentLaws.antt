-- The latest replies, and the one at a position before the last.
use Rattle.std.proofs.Common.{◌≡◌, ℕ, suc, ◌+◌, ◌-◌, ◌≤◌, ◌<◌, min, cond, List, [], ◌∷◌, ◌++◌, length, get_or, nat_lt, take, drop, Some, None, ap, sym, ◌∙◌}
use Rattle.std.proofs.Common.{inl, inr, arith, append_assoc, length-append, length-drop}
use Rattle.std.specs.Prelude.{replicate, slice_get}
use Rattle.std.proofs.lemmas.Bool.{cases_lt, lt-ltb, le-ltb}
use Rattle.std.proofs.lemmas.Grind.{flat_map-append}
use Rattle.std.proofs.lemmas.List.{append-nil, get_or-replicate, length-replicate, replicate-append-replicate, take-append-drop}
use Rattle.std.proofs.lemmas.Option.{get_or_from_slice_get, slice_get-get_or}
use Rattle.std.proofs.Math.Seq.{take-suc}
use Rattle.circular_buffer.specs.Buffer.{keep_last}
use Rattle.circular_buffer.proofs.Places.{slice_get-append_left, slice_get-append_right}
use Rattle.ngc_events.specs.declared.reply.Reply.{Reply}
use Rattle.ngc_events.specs.declared.reply.Reply.TheVariants.{Ticked}
use Rattle.ngc_controller.specs.declared.recent.CountedReply.{CountedReply}
use Rattle.ngc_controller.specs.Controller.{KEPT, from_the_last}
use Rattle.ngc_controller.specs.Recent.{with_quiet, replies, latest}
use Rattle.ngc_controller.proofs.KeptLaws.{kept_twice, kept_min, kept_given}

-- ---- a position before the last of a list

at_place : (i : ℕ) (xs : List Reply) → i < length xs → from_the_last i xs ≡ slice_get xs (length xs - i - 1)
at_place i xs within = ap (λ b. cond b (slice_get xs (length xs - i - 1)) None) (lt-ltb i (length xs) within)

past_all : (i : ℕ) (xs : List Reply) → length xs ≤ i → from_the_last i xs ≡ None
past_all i xs past = ap (λ b. cond b (slice_get xs (length xs - i - 1)) None) (le-ltb i (length xs) past)

in_last : (i : ℕ) (xs ys : List Reply) → i < length ys → from_the_last i (xs ++ ys) ≡ from_the_last i ys
in_last i xs ys within =
    let long = length-append xs ys in
    at_place i (xs ++ ys) (omega arith) ∙ slice_get-append_right xs ys (length (xs ++ ys) - i - 1) (length ys - i - 1) (omega arith)
    ∙ sym (at_place i ys within)

in_first : (i j : ℕ) (xs ys : List Reply) → i ≡ length ys + j → from_the_last i (xs ++ ys) ≡ from_the_last j xs
in_first i j xs ys is =
    let long = length-append xs ys in
    elim (cases_lt j (length xs)) [
      | inl within ↦ (
          let same : length (xs ++ ys) - i - 1 ≡ length xs - j - 1 = omega arith in
          at_place i (xs ++ ys) (omega arith) ∙ ap (λ n. slice_get (xs ++ ys) n) same ∙ slice_get-append_left xs ys (length xs - j - 1) (omega arith)
          ∙ sym (at_place j xs within))
      | inr past ↦ (past_all i (xs ++ ys) (omega arith) ∙ sym (past_all j xs past))
    ]

in_equal : (i n : ℕ) (r : Reply) → i < n → from_the_last i (replicate n r) ≡ Some r
in_equal i n r within =
    let many = length-replicate n r in
    let k : ℕ = length (replicate n r) - i - 1 in
    at_place i (replicate n r) (omega arith) ∙ slice_get-get_or (replicate n r) k r (omega arith) ∙ ap (λ x. Some x) (get_or-replicate n k r r (omega arith))

in_kept : (i k : ℕ) (xs : List Reply) → i < k → from_the_last i (keep_last k xs) ≡ from_the_last i xs
in_kept i k xs within =
    let d : ℕ = length xs - k in
    let short = length-drop d xs in
    elim (cases_lt i (length (drop d xs))) [
      | inl there ↦ (sym (in_last i (take d xs) (drop d xs) there) ∙ ap (λ ys. from_the_last i ys) (take-append-drop d xs))
      | inr past ↦ (past_all i (drop d xs) past ∙ sym (past_all i xs (omega arith)))
    ]

-- ---- the latest replies

-- none further back are stored
pub not_kept : (i q : ℕ) (told : List CountedReply) → KEPT ≤ i → from_the_last i (latest told q) ≡ None
not_kept i q told past =
    let all : List Reply = replies told ++ replicate q (Ticked None None) in
    past_all i (latest told q) (omega (arith, length-drop (length all - KEPT) all))

pub quiet_last : (i q : ℕ) (told : List CountedReply) → i < KEPT → i < q → from_the_last i (latest told q) ≡ Some (Ticked None None)
quiet_last i q told kept within =
    let quiet : List Reply = replicate q (Ticked None None) in
    in_kept i KEPT (replies told ++ quiet) kept ∙ in_last i (replies told) quiet (omega (arith, length-replicate q (Ticked None None)))
    ∙ in_equal i q (Ticked None None) within

pub behind_quiet : (i q : ℕ) (told : List CountedReply) → i < KEPT → q ≤ i → from_the_last i (latest told q) ≡ from_the_last (i - q) (replies told)
behind_quiet i q told kept past =
    let quiet : List Reply = replicate q (Ticked None None) in
    in_kept i KEPT (replies told ++ quiet) kept ∙ in_first i (i - q) (replies told) quiet (omega (arith, length-replicate q (Ticked None None)))

-- the last reply, and the quiet ones before it
one_more : (told : List CountedReply) (t : CountedReply) → replies (told ++ t ∷ []) ≡ (replies told ++ replicate t.before (Ticked None None)) ++ t.reply ∷ []
one_more told t =
    flat_map-append with_quiet told (t ∷ [])
    ∙ ap (λ xs. replies told ++ xs) (append-nil (with_quiet t))
    ∙ sym (append_assoc (replies told) (replicate t.before (Ticked None None)) (t.reply ∷ []))

last_of : (j : ℕ) (told : List CountedReply) (t : CountedReply) → from_the_last (suc j) (replies (told ++ t ∷ []))
    ≡ from_the_last j (replies told ++ replicate t.before (Ticked None None))
last_of j told t =
    let before : List Reply = replies told ++ replicate t.before (Ticked None None) in
    ap (λ xs. from_the_last (suc j) xs) (one_more told t) ∙ in_first (suc j) j before (t.reply ∷ []) (omega arith)

told_last : (told : List CountedReply) (t : CountedReply) → from_the_last 0 (replies (told ++ t ∷ [])) ≡ Some t.reply
told_last told t =
    let before : List Reply = replies told ++ replicate t.before (Ticked None None) in
    ap (λ xs. from_the_last 0 xs) (one_more told t) ∙ in_last 0 before (t.reply ∷ []) (omega arith) ∙ at_place 0 (t.reply ∷ []) (omega arith)

quiet_before : (j : ℕ) (told : List CountedReply) (t : CountedReply) → j < t.before → from_the_last (suc j) (replies (told ++ t ∷ [])) ≡ Some (Ticked None None)
quiet_before j told t within =
    let quiet : List Reply = replicate t.before (Ticked None None) in
    last_of j told t ∙ in_last j (replies told) quiet (omega (arith, length-replicate t.before (Ticked None None)))
    ∙ in_equal j t.before (Ticked None None) within

told_before_it : (j : ℕ) (told : List CountedReply) (t : CountedReply) → t.before ≤ j →
    from_the_last (suc j) (replies (told ++ t ∷ [])) ≡ from_the_last (j - t.before) (replies told)
told_before_it j told t past =
    let quiet : List Reply = replicate t.before (Ticked None None) in
    last_of j told t ∙ in_first j (j - t.before) (replies told) quiet (omega (arith, length-replicate t.before (Ticked None None)))

-- the reply at a position before the last
pub record IsTold (place k : ℕ) (told : List CountedReply) (t : CountedReply) : Type 0 where
  pub within : place < length told
  pub found : Some t ≡ cond (nat_lt place (length told)) (slice_get told (length told - place - 1)) None
  pub first : k ≡ length told - place - 1

cut : (place k : ℕ) (told : List CountedReply) (t : CountedReply) → IsTold place k told t → take (length told - place) told ≡ take k told ++ t ∷ []
cut place k told t h =
    let within = h.within in
    let first = h.first in
    let next : length told - place ≡ suc k = omega arith in
    let there : slice_get told (length told - place - 1) ≡ Some t =
    sym (h.found ∙ ap (λ b. cond b (slice_get told (length told - place - 1)) None) (lt-ltb place (length told) within)) in
    let item : get_or told k t ≡ t = ap (λ i. get_or told i t) first ∙ get_or_from_slice_get told (length told - place - 1) t t there in
    ap (λ n. take n told) next ∙ take-suc told k t (omega arith) ∙ ap (λ x. take k told ++ x ∷ []) item

pub at_told : (i place k : ℕ) (told : List CountedReply) (t : CountedReply) → IsTold place k told t → i ≡ 0 →
    from_the_last i (replies (take (length told - place) told)) ≡ Some t.reply
at_told i place k told t h none = ap (λ n. from_the_last n (replies (take (length told - place) told))) none
    ∙ ap (λ ts. from_the_last 0 (replies ts)) (cut place k told t h) ∙ told_last (take k told) t

pub at_quiet : (i place k : ℕ) (told : List CountedReply) (t : CountedReply) → IsTold place k told t → 1 ≤ i → i - 1 < t.before →
    from_the_last i (replies (take (length told - place) told)) ≡ Some (Ticked None None)
at_quiet i place k told t h some within =
    let next : i ≡ suc (i - 1) = omega arith in
    ap (λ n. from_the_last n (replies (take (length told - place) told))) next ∙ ap (λ ts. from_the_last (suc (i - 1)) (replies ts)) (cut place k told t h)
    ∙ quiet_before (i - 1) (take k told) t within

pub further : (i place k : ℕ) (told : List CountedReply) (t : CountedReply) → IsTold place k told t → 1 ≤ i → t.before ≤ i - 1 →
    from_the_last i (replies (take (length told - place) told)) ≡ from_the_last (i - 1 - t.before) (replies (take k told))
further i place k told t h some past =
    let next : i ≡ suc (i - 1) = omega arith in
    ap (λ n. from_the_last n (replies (take (length told - place) told))) next ∙ ap (λ ts. from_the_last (suc (i - 1)) (replies ts)) (cut place k told t h)
    ∙ told_before_it (i - 1) (take k told) t past

-- ---- more of them

pub rests : (told : List CountedReply) (q n m : ℕ) → m ≡ min (q + n) KEPT → latest told m ≡ keep_last KEPT (latest told q ++ replicate n (Ticked None None))
rests told q n m is =
    let r : Reply = Ticked None None in
    kept_min KEPT (q + n) m (replies told) r is
    ∙ ap (λ xs. keep_last KEPT (replies told ++ xs)) (sym (replicate-append-replicate q n r))
    ∙ ap (λ xs. keep_last KEPT xs) (sym (append_assoc (replies told) (replicate q r) (replicate n r)))
    ∙ sym (kept_twice KEPT (replies told ++ replicate q r) (replicate n r))

gives_some : (t : CountedReply) → 1 ≤ length (with_quiet t)
gives_some t = omega (arith, length-append (replicate t.before (Ticked None None)) (t.reply ∷ []))

pub tells : (told kept : List CountedReply) (t : CountedReply) → kept ≡ keep_last KEPT (told ++ t ∷ []) → latest kept 0 ≡ keep_last KEPT (latest told t.before ++ t.reply ∷ [])
tells told kept t is =
    ap (λ xs. keep_last KEPT xs) (append-nil (replies kept))
    ∙ ap (λ ts. keep_last KEPT (replies ts)) is
    ∙ kept_given with_quiet gives_some KEPT (told ++ t ∷ [])
    ∙ ap (λ xs. keep_last KEPT xs) (one_more told t)
    ∙ sym (kept_twice KEPT (replies told ++ replicate t.before (Ticked None None)) (t.reply ∷ []))
