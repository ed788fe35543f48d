-- A number out of every range may be replaced with another such number.
use Rattle.std.proofs.Common.{◌≡◌, ◌⊎◌, inl, inr, ℕ, suc, ◌<◌, ◌≤◌, min, ap, Bool, true, false, Option, Some, None, Result, Ok, Err, List, [], ◌∷◌, length}
use Rattle.std.proofs.Common.{refl, sym, ◌∙◌, arith}
use Rattle.std.specs.Prelude.{ℤ, pos, negsuc, unsigned_abs, map, ◌&&◌, nat_le, if◌then◌else◌}
use Rattle.std.proofs.lemmas.Bool.{and_parts, cases_lt}
use Rattle.std.proofs.lemmas.Bool.Decides.{nat_tests}
use Rattle.ngc_fixed_length.specs.Signed.{is_within}
use Rattle.ngc_fixed_length.specs.declared.points.GridBox.{GridBox}
use Rattle.ngc_certificate_text.specs.declared.piece.Cut.{Cut}
use Rattle.ngc_certificate_text.specs.declared.piece.Cut.TheVariants.{Part, Place}
use Rattle.ngc_certificate_text.specs.declared.piece.Piece.{Piece}
use Rattle.ngc_certificate_text.specs.declared.lines.LineFlaw.{LineFlaw}
use Rattle.ngc_certificate_text.specs.declared.lines.LineFlaw.TheVariants.{Spelling}
use Rattle.ngc_certificate_text.specs.declared.lines.MotionLine.{MotionLine}
use Rattle.ngc_certificate_text.specs.Certificate.{WHOLE, INDEX_LIMIT, PIECE_LIMIT, MOTION_LIMIT, CUT_LIMIT}
use Rattle.ngc_certificate_text.specs.Clamped.{clamped, at_most_eight}
use Rattle.ngc_certificate_text.specs.Lines.{is_count, is_step, are_steps, good_box, ranged, boxed, one_count, two_counts, line_piece, arc_piece}

-- a test whose result is the same for a clamped number; if it holds, the number is not clamped
pub record Same (test : ℤ → Bool) (z : ℤ) : Type 0 where
  pub same : test (clamped z) ≡ test z
  pub kept : test z ≡ true → clamped z ≡ z

-- ---- sizes

small_size : (n : ℕ) → n ≤ 10000000000 → min n 10000000000 ≡ n
small_size n h = omega arith

smaller_size : (n : ℕ) → n ≤ 9999999999 → min n 9999999999 ≡ n
smaller_size n h = omega arith

count_false : (least greatest n m : ℕ) → greatest < n → greatest < m → (nat_le least n && nat_le n greatest) ≡ (nat_le least m && nat_le m greatest)
count_false least greatest n m h k = grind (arith, nat_tests)

count_at : (least greatest n : ℕ) → greatest ≤ 9000000000 → (n ≤ 10000000000) ⊎ (10000000000 < n) → Same (is_count least greatest) (pos n)
count_at least greatest n low (inl h) = let e = small_size n h in record { same = ap (λ (k : ℕ). is_count least greatest (pos k)) e; kept = λ _. ap pos e }
count_at least greatest n low (inr h) = record {
  same = count_false least greatest (min n 10000000000) n (omega arith) (omega arith);
  kept = λ t. absurd (let p = and_parts (nat_le least n) (nat_le n greatest) t in grind (arith, nat_tests, p.1));
}

at_most : (n m : ℕ) → (n ≤ m) ⊎ (m < n)
at_most n m = swap (cases_lt m n) where
  swap : {A B : Type 0} → A ⊎ B → B ⊎ A
  swap (inl a) = inr a
  swap (inr b) = inl b

pub same_count : (least greatest : ℕ) (z : ℤ) → greatest ≤ 9000000000 → Same (is_count least greatest) z
same_count least greatest (pos n) low = count_at least greatest n low (at_most n 10000000000)
same_count least greatest (negsuc n) low = record { same = refl; kept = λ t. absurd (cc t) }

step_false : (n m k : ℕ) → k < n → k < m → nat_le n k ≡ nat_le m k
step_false n m k h l = grind (arith, nat_tests)

step_pos : (n : ℕ) → (n ≤ 10000000000) ⊎ (10000000000 < n) → Same is_step (pos n)
step_pos n (inl h) = let e = small_size n h in record { same = ap (λ (k : ℕ). is_step (pos k)) e; kept = λ _. ap pos e }
step_pos n (inr h) = record {
  same = step_false (min n 10000000000) n 2147483647 (omega arith) (omega arith);
  kept = λ t. absurd (let p = and_parts true (nat_le n 2147483647) t in grind (arith, nat_tests, p.1));
}

step_neg : (n : ℕ) → (n ≤ 9999999999) ⊎ (9999999999 < n) → Same is_step (negsuc n)
step_neg n (inl h) = let e = smaller_size n h in record { same = ap (λ (k : ℕ). is_step (negsuc k)) e; kept = λ _. ap negsuc e }
step_neg n (inr h) = record {
  same = ap (λ b. b && true) (step_false (min n 9999999999) n 2147483647 (omega arith) (omega arith));
  kept = λ t. absurd (let p = and_parts (nat_le n 2147483647) true t in grind (arith, nat_tests, p.0));
}

same_step : (z : ℤ) → Same is_step z
same_step (pos n) = step_pos n (at_most n 10000000000)
same_step (negsuc n) = step_neg n (at_most n 9999999999)

within_pos : (n : ℕ) → (n ≤ 10000000000) ⊎ (10000000000 < n) → Same (is_within CUT_LIMIT) (pos n)
within_pos n (inl h) = let e = small_size n h in record { same = ap (λ (k : ℕ). is_within CUT_LIMIT (pos k)) e; kept = λ _. ap pos e }
within_pos n (inr h) = record {
  same = step_false (min n 10000000000) n 4000000000 (omega arith) (omega arith);
  kept = λ t. absurd (grind (arith, nat_tests, t));
}

within_neg : (n : ℕ) → (n ≤ 9999999999) ⊎ (9999999999 < n) → Same (is_within CUT_LIMIT) (negsuc n)
within_neg n (inl h) = let e = smaller_size n h in record { same = ap (λ (k : ℕ). is_within CUT_LIMIT (negsuc k)) e; kept = λ _. ap negsuc e }
within_neg n (inr h) = record {
  same = step_false (suc (min n 9999999999)) (suc n) 4000000000 (omega arith) (omega arith);
  kept = λ t. absurd (grind (arith, nat_tests, t));
}

same_within : (z : ℤ) → Same (is_within CUT_LIMIT) z
same_within (pos n) = within_pos n (at_most n 10000000000)
same_within (negsuc n) = within_neg n (at_most n 9999999999)

-- ---- values with a range

pub ranged_same : {X : Type 0} (g h : Bool) (x y : X) → g ≡ h → (h ≡ true → x ≡ y) → ranged g x ≡ ranged h y
ranged_same {X} g true x y e k = rw e (ap ok (k refl)) where
  ok : X → Result X LineFlaw
  ok x = Ok x
ranged_same g false x y e k = rw e refl

-- ---- counts

no_count : (b : Bool) (xs : List ℤ) → (one_count (Some xs) ≡ Err Spelling) → one_count (if b then Some xs else None) ≡ Err Spelling
no_count true xs h = h
no_count false xs h = refl

pub one_clamped : (o : Option (List ℤ)) → one_count (at_most_eight o) ≡ one_count o
one_clamped None = refl
one_clamped (Some []) = refl
one_clamped (Some (z ∷ [])) = let s = same_count 0 MOTION_LIMIT z (omega arith) in ranged_same _ _ _ _ s.same (λ t. ap unsigned_abs (s.kept t))
one_clamped (Some (y ∷ z ∷ zs)) = no_count (nat_le (length (y ∷ z ∷ zs)) 8) (map clamped (y ∷ z ∷ zs)) refl

no_counts : (b : Bool) (xs : List ℤ) → (two_counts (Some xs) ≡ Err Spelling) → two_counts (if b then Some xs else None) ≡ Err Spelling
no_counts true xs h = h
no_counts false xs h = refl

pub two_clamped : (o : Option (List ℤ)) → two_counts (at_most_eight o) ≡ two_counts o
two_clamped None = refl
two_clamped (Some []) = refl
two_clamped (Some (y ∷ [])) = refl
two_clamped (Some (y ∷ z ∷ [])) =
    let s = same_count 0 INDEX_LIMIT y (omega arith) in
    let t = same_count 1 PIECE_LIMIT z (omega arith) in
    ranged_same _ _ _ _ (rw (s.same, t.same) refl)
    (λ h. let p = and_parts (is_count 0 INDEX_LIMIT y) (is_count 1 PIECE_LIMIT z) h in
    ap (λ (k : ℤ). motion_at k (clamped z)) (s.kept p.0) ∙ ap (λ (k : ℤ). motion_at y k) (t.kept p.1)) where
      motion_at : ℤ → ℤ → MotionLine
      motion_at i n = record { index = unsigned_abs i; pieces = unsigned_abs n }
two_clamped (Some (x ∷ y ∷ z ∷ zs)) = no_counts (nat_le (length (x ∷ y ∷ z ∷ zs)) 8) (map clamped (x ∷ y ∷ z ∷ zs)) refl

-- ---- boxes

steps_kept : (x y z : ℤ) → (is_step x && (is_step y && is_step z)) ≡ true → (clamped x ≡ x) × (clamped y ≡ y) × (clamped z ≡ z)
steps_kept x y z h =
    let p = and_parts (is_step x) (is_step y && is_step z) h in
    let q = and_parts (is_step y) (is_step z) p.1 in
    ((same_step x).kept p.0, (same_step y).kept q.0, (same_step z).kept q.1)

steps_same : (x y z : ℤ) → (is_step (clamped x) && (is_step (clamped y) && is_step (clamped z))) ≡ (is_step x && (is_step y && is_step z))
steps_same x y z = rw ((same_step x).same, (same_step y).same, (same_step z).same) refl

abbrev box_at : ℤ → ℤ → ℤ → ℤ → ℤ → ℤ → GridBox
box_at a b c d e f = record { low = record { x = a; y = b; z = c }; high = record { x = d; y = e; z = f } }

box_kept : (a b c d e f : ℤ) → (is_step a && (is_step b && is_step c)) ≡ true → (is_step d && (is_step e && is_step f)) ≡ true
    → box_at (clamped a) (clamped b) (clamped c) (clamped d) (clamped e) (clamped f) ≡ box_at a b c d e f
box_kept a b c d e f h k =
    let p = steps_kept a b c h in
    let q = steps_kept d e f k in
    rw (p.0, p.1, p.2, q.0, q.1, q.2) refl

-- a test that holds of both or of neither
both_or_neither : (p q : Bool) → (p ≡ true → q ≡ true) → (q ≡ true → p ≡ true) → p ≡ q
both_or_neither true true f g = refl
both_or_neither true false f g = sym (f refl)
both_or_neither false true f g = g refl
both_or_neither false false f g = refl

good_parts : (b : GridBox) → good_box b ≡ true → (are_steps b.low ≡ true) × (are_steps b.high ≡ true)
good_parts b h =
    let p = and_parts (are_steps b.low) _ h in
    (p.0, (and_parts (are_steps b.high) _ p.1).0)

good_kept : (a b c d e f : ℤ) → good_box (box_at a b c d e f) ≡ true →
    box_at (clamped a) (clamped b) (clamped c) (clamped d) (clamped e) (clamped f) ≡ box_at a b c d e f
good_kept a b c d e f h = let p = good_parts (box_at a b c d e f) h in box_kept a b c d e f p.0 p.1

good_same : (a b c d e f : ℤ) → good_box (box_at (clamped a) (clamped b) (clamped c) (clamped d) (clamped e) (clamped f)) ≡ good_box (box_at a b c d e f)
good_same a b c d e f = both_or_neither _ _
    (λ h. let p = good_parts (box_at (clamped a) (clamped b) (clamped c) (clamped d) (clamped e) (clamped f)) h in
    let k = box_kept a b c d e f (sym (steps_same a b c) ∙ p.0) (sym (steps_same d e f) ∙ p.1) in
    ap good_box (sym k) ∙ h)
    (λ h. ap good_box (good_kept a b c d e f h) ∙ h)

abbrev piece_at : Cut → GridBox → Piece
piece_at e b = record { end = e; bounds = b }

-- six numbers in a list that may have more or fewer
boxed_clamped : (g h : Bool) (x y : Cut) (zs : List ℤ) → g ≡ h → (h ≡ true → x ≡ y) → boxed g x (map clamped zs) ≡ boxed h y zs
boxed_clamped g h x y [] same kept = refl
boxed_clamped g h x y (a ∷ []) same kept = refl
boxed_clamped g h x y (a ∷ b ∷ []) same kept = refl
boxed_clamped g h x y (a ∷ b ∷ c ∷ []) same kept = refl
boxed_clamped g h x y (a ∷ b ∷ c ∷ d ∷ []) same kept = refl
boxed_clamped g h x y (a ∷ b ∷ c ∷ d ∷ e ∷ []) same kept = refl
boxed_clamped g h x y (a ∷ b ∷ c ∷ d ∷ e ∷ f ∷ []) same kept =
    ranged_same _ _ _ _ (rw (same, good_same a b c d e f) refl)
    (λ t. let p = and_parts h (good_box (box_at a b c d e f)) t in
    ap (λ (u : Cut). piece_at u (box_at (clamped a) (clamped b) (clamped c) (clamped d) (clamped e) (clamped f))) (kept p.0)
    ∙ ap (piece_at y) (good_kept a b c d e f p.1))
boxed_clamped g h x y (a ∷ b ∷ c ∷ d ∷ e ∷ f ∷ z ∷ zs) same kept = refl

too_many : (g : Bool) (x : Cut) (zs : List ℤ) → 6 < length zs → boxed g x zs ≡ Err Spelling
too_many g x [] h = absurd (omega (arith, h))
too_many g x (a ∷ []) h = absurd (omega (arith, h))
too_many g x (a ∷ b ∷ []) h = absurd (omega (arith, h))
too_many g x (a ∷ b ∷ c ∷ []) h = absurd (omega (arith, h))
too_many g x (a ∷ b ∷ c ∷ d ∷ []) h = absurd (omega (arith, h))
too_many g x (a ∷ b ∷ c ∷ d ∷ e ∷ []) h = absurd (omega (arith, h))
too_many g x (a ∷ b ∷ c ∷ d ∷ e ∷ f ∷ []) h = absurd (omega (arith, h))
too_many g x (a ∷ b ∷ c ∷ d ∷ e ∷ f ∷ z ∷ zs) h = refl

more_than : (n m : ℕ) → nat_le n m ≡ false → m < n
more_than n m h = grind (arith, nat_tests)

line_all : (t : ℤ) (zs : List ℤ) → line_piece (Some (map clamped (t ∷ zs))) ≡ line_piece (Some (t ∷ zs))
line_all t zs = let s = same_count 1 WHOLE t (omega arith) in boxed_clamped _ _ _ _ zs s.same (λ h. ap (λ (k : ℤ). Part (unsigned_abs k)) (s.kept h))

line_if : (t : ℤ) (zs : List ℤ) (b : Bool) → nat_le (length (t ∷ zs)) 8 ≡ b →
    line_piece (if b then Some (map clamped (t ∷ zs)) else None) ≡ line_piece (Some (t ∷ zs))
line_if t zs true e = line_all t zs
line_if t zs false e = sym (too_many (is_count 1 WHOLE t) (Part (unsigned_abs t)) zs (omega (arith, more_than (length (t ∷ zs)) 8 e)))

pub line_clamped : (o : Option (List ℤ)) → line_piece (at_most_eight o) ≡ line_piece o
line_clamped None = refl
line_clamped (Some []) = refl
line_clamped (Some (t ∷ zs)) = line_if t zs (nat_le (length (t ∷ zs)) 8) refl

place_at : ℤ → ℤ → Cut
place_at u v = Place (record { u = u; v = v })

arc_all : (u v : ℤ) (zs : List ℤ) → arc_piece (Some (map clamped (u ∷ v ∷ zs))) ≡ arc_piece (Some (u ∷ v ∷ zs))
unfolding place_at
arc_all u v zs =
    let s = same_within u in
    let t = same_within v in
    boxed_clamped _ _ _ _ zs (rw (s.same, t.same) refl)
    (λ h. let p = and_parts (is_within CUT_LIMIT u) (is_within CUT_LIMIT v) h in
    ap (λ (k : ℤ). place_at k (clamped v)) (s.kept p.0) ∙ ap (λ (k : ℤ). place_at u k) (t.kept p.1))

arc_if : (u v : ℤ) (zs : List ℤ) (b : Bool) → nat_le (length (u ∷ v ∷ zs)) 8 ≡ b →
    arc_piece (if b then Some (map clamped (u ∷ v ∷ zs)) else None) ≡ arc_piece (Some (u ∷ v ∷ zs))
arc_if u v zs true e = arc_all u v zs
arc_if u v zs false e =
    sym (too_many (is_within CUT_LIMIT u && is_within CUT_LIMIT v) (Place (record { u = u; v = v })) zs (omega (arith, more_than (length (u ∷ v ∷ zs)) 8 e)))

pub arc_clamped : (o : Option (List ℤ)) → arc_piece (at_most_eight o) ≡ arc_piece o
arc_clamped None = refl
arc_clamped (Some []) = refl
arc_clamped (Some (u ∷ [])) = refl
arc_clamped (Some (u ∷ v ∷ zs)) = arc_if u v zs (nat_le (length (u ∷ v ∷ zs)) 8) refl

-- ---- numbers that were gathered

pub numbers_say : {X : Type 0} (said : Option (List ℤ) → Result X LineFlaw) → ((o : Option (List ℤ)) → said (at_most_eight o) ≡ said o)
    → (all : Option (List ℤ)) (items slice : List ℤ) (found : Result X LineFlaw) → Some items ≡ at_most_eight all → slice ≡ items → found ≡ said (Some slice) →
    found ≡ said all
numbers_say said law all items slice found h same is = is ∙ ap (λ (l : List ℤ). said (Some l)) same ∙ ap said h ∙ law all

pub no_numbers_say : {X : Type 0} (said : Option (List ℤ) → Result X LineFlaw) → ((o : Option (List ℤ)) → said (at_most_eight o) ≡ said o)
    → (all : Option (List ℤ)) → None ≡ at_most_eight all → said None ≡ said all
no_numbers_say said law all h = ap said h ∙ law all
