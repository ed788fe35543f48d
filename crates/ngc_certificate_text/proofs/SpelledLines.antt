-- A line's text has the line's content, and a text with this content is the line's text.
use Rattle.std.proofs.Common.{◌≡◌, ℕ, ◌+◌, ◌*◌, ◌<◌, ◌≤◌, ◌^◌, ap, subst, Bool, true, false, Option, Some, None, Ok, Err, List, [], ◌∷◌, ◌++◌, length, refl}
use Rattle.std.proofs.Common.{sym, ◌∙◌, append_assoc, length-append, arith}
use Rattle.std.specs.Prelude.{ℤ, pos, negsuc, unsigned_abs, codes, decimal, map, ◌==◌, ◌&&◌, not, nat_le, if◌then◌else◌}
use Rattle.std.specs.Fmt.{signed_decimal}
use Rattle.std.specs.Int.Signed.{mag}
use Rattle.std.specs.List.{list_all, join_with_byte}
use Rattle.std.specs.Str.{bytes_eq}
use Rattle.std.proofs.lemmas.Bool.{and_from, and_parts}
use Rattle.std.proofs.lemmas.Bool.Decides.{nat_tests}
use Rattle.std.proofs.lemmas.Fmt.{length_signed_le}
use Rattle.std.proofs.lemmas.List.Folds.{list_all-append}
use Rattle.ngc_fixed_length.specs.Boxes.{is_below}
use Rattle.ngc_fixed_length.specs.Signed.{is_within}
use Rattle.ngc_fixed_length.specs.declared.points.GridBox.{GridBox}
use Rattle.ngc_certificate_text.specs.declared.piece.Cut.{Cut}
use Rattle.ngc_certificate_text.specs.declared.piece.Cut.TheVariants.{Part, Place}
use Rattle.ngc_certificate_text.specs.declared.piece.Piece.{Piece}
use Rattle.ngc_certificate_text.specs.declared.lines.LineFlaw.TheVariants.{Spelling}
use Rattle.ngc_certificate_text.specs.declared.lines.MotionLine.{MotionLine}
use Rattle.ngc_certificate_text.specs.Certificate.{WHOLE, INDEX_LIMIT, PIECE_LIMIT, MOTION_LIMIT, CUT_LIMIT, good_cut, good_piece}
use Rattle.ngc_certificate_text.specs.Spelling.{piece_line, motion_line}
use Rattle.ngc_certificate_text.specs.Number.{fields}
use Rattle.ngc_certificate_text.specs.Lines.{numbers_in, numbers_in_rest, is_count, ranged, one_count, parsed_setting, two_counts, parsed_motion, is_step, are_steps}
use Rattle.ngc_certificate_text.specs.Lines.{good_box, boxed, line_piece, arc_piece, piece_in, parsed_piece, parsed_end}
use Rattle.ngc_text.proofs.SplitTexts.{lacks}
use Rattle.ngc_certificate_text.proofs.Fields.{AreSmall, line_text, line_fields, line_numbers, line_spelled, numbers_lack, numbers_in-signed}
use Rattle.ngc_certificate_text.proofs.Fields.{numbers_spelled, bytes_same, joined_split}

-- ---- a line is short, and has no line feed

pub record IsLine (line : List ℕ) : Type 0 where
  pub feedless : lacks 10 line ≡ true
  pub short : length line ≤ 256

joined_lacks : (x : List ℕ) (xs : List (List ℕ)) → list_all (lacks 10) (x ∷ xs) ≡ true → lacks 10 (join_with_byte 32 (x ∷ xs)) ≡ true
joined_lacks x [] h = (and_parts (lacks 10 x) true h).0
joined_lacks x (y ∷ ys) h =
    let parts = and_parts (lacks 10 x) (list_all (lacks 10) (y ∷ ys)) h in
    list_all-append (λ b. not (b == 10)) x (32 ∷ join_with_byte 32 (y ∷ ys)) ∙ and_from _ _ parts.0 (joined_lacks y ys parts.1)

-- each after a space
unfoldable pub behind_length : List (List ℕ) → ℕ
behind_length [] = 0
behind_length (x ∷ xs) = 1 + length x + behind_length xs

joined_length : (x : List ℕ) (xs : List (List ℕ)) → length (join_with_byte 32 (x ∷ xs)) ≡ length x + behind_length xs
unfolding behind_length
joined_length x [] = omega arith
joined_length x (y ∷ ys) = length-append x (32 ∷ join_with_byte 32 (y ∷ ys)) ∙ omega (arith, joined_length y ys)

behind_both : (xs ys : List (List ℕ)) → behind_length (xs ++ ys) ≡ behind_length xs + behind_length ys
unfolding behind_length
behind_both [] ys = omega arith
behind_both (x ∷ xs) ys = omega (arith, behind_both xs ys)

signed_length : (z : ℤ) → mag z < 2 ^ 63 → length (signed_decimal z) ≤ 20
signed_length z h = length_signed_le 19 z (omega arith) h

behind_numbers : (zs : List ℤ) → AreSmall zs → behind_length (map signed_decimal zs) ≤ 21 * length zs
unfolding behind_length
behind_numbers [] h = omega arith
behind_numbers (z ∷ zs) h = omega (arith, signed_length z h.0, behind_numbers zs h.1)

-- words of a line
pub record AreWords (w : List ℕ) (ws : List (List ℕ)) : Type 0 where
  pub whole : list_all (lacks 32) (w ∷ ws) ≡ true
  pub feedless : list_all (lacks 10) (w ∷ ws) ≡ true
  pub short : length w + behind_length ws ≤ 80

pub text_is_line : (w : List ℕ) (ws : List (List ℕ)) (zs : List ℤ) → AreWords w ws → AreSmall zs → length zs ≤ 8 → IsLine (line_text w ws zs)
text_is_line w ws zs words small few =
    let parts = and_parts (lacks 10 w) (list_all (lacks 10) ws) words.feedless in
    record {
      feedless = joined_lacks w (ws ++ map signed_decimal zs)
          (and_from _ _ parts.0 (list_all-append (lacks 10) ws (map signed_decimal zs) ∙ and_from _ _ parts.1 (numbers_lack 10 zs (omega arith) small)));
      short = omega (arith, joined_length w (ws ++ map signed_decimal zs), behind_both ws (map signed_decimal zs), behind_numbers zs small, words.short, few);
    }

-- ---- ranges

pub ranged_ok : {X : Type 0} (good : Bool) (x y : X) → ranged good x ≡ Ok y → (good ≡ true) × (x ≡ y)
ranged_ok true x y h = (refl, cc h)
ranged_ok false x y h = absurd (cc h)

pub count_from : (least greatest n : ℕ) → least ≤ n → n ≤ greatest → is_count least greatest (pos n) ≡ true
count_from least greatest n low high = grind (arith, nat_tests)

pub record Counted (least greatest : ℕ) (z : ℤ) : Type 0 where
  pub is : z ≡ pos (unsigned_abs z)
  pub low : least ≤ unsigned_abs z
  pub high : unsigned_abs z ≤ greatest

pub counted : (least greatest : ℕ) (z : ℤ) → is_count least greatest z ≡ true → Counted least greatest z
counted least greatest (pos n) h = let p = and_parts (nat_le least n) (nat_le n greatest) h in
    record { is = refl; low = grind (arith, nat_tests, p.0); high = grind (arith, nat_tests, p.1) }
counted least greatest (negsuc n) h = absurd (cc h)

count_small : (least greatest : ℕ) (z : ℤ) → greatest < 2 ^ 63 → is_count least greatest z ≡ true → mag z < 2 ^ 63
count_small least greatest (pos n) low h = let p = and_parts (nat_le least n) (nat_le n greatest) h in grind (arith, nat_tests, p.1)
count_small least greatest (negsuc n) low h = absurd (cc h)

step_small : (z : ℤ) → is_step z ≡ true → mag z < 2 ^ 63
step_small (pos n) h = let p = and_parts true (nat_le n 2147483647) h in grind (arith, nat_tests, p.1)
step_small (negsuc n) h = let p = and_parts (nat_le n 2147483647) true h in grind (arith, nat_tests, p.0)

within_small : (z : ℤ) → is_within CUT_LIMIT z ≡ true → mag z < 2 ^ 63
within_small (pos n) h = grind (arith, nat_tests)
within_small (negsuc n) h = grind (arith, nat_tests)

-- ---- settings

pub setting_text : List ℕ → ℕ → List ℕ
setting_text name n = line_text (codes "setting") (name ∷ []) (pos n ∷ [])

-- the name of a setting
pub record IsName (name : List ℕ) : Type 0 where
  pub whole : lacks 32 name ≡ true
  pub feedless : lacks 10 name ≡ true
  pub short : length name ≤ 16

setting_words : (name : List ℕ) → IsName name → AreWords (codes "setting") (name ∷ [])
unfolding behind_length
setting_words name h = record { whole = and_from _ _ h.whole refl; feedless = and_from _ _ h.feedless refl; short = omega (arith, h.short) }

pub setting_is_line : (name : List ℕ) (n : ℕ) → IsName name → n ≤ MOTION_LIMIT → IsLine (setting_text name n)
unfolding setting_text
setting_is_line name n h few = text_is_line (codes "setting") (name ∷ []) (pos n ∷ []) (setting_words name h) (omega arith, tt) (omega arith)

pub setting_reads : (name : List ℕ) (n : ℕ) → IsName name → n ≤ MOTION_LIMIT → parsed_setting name (setting_text name n) ≡ Ok n
unfolding setting_text parsed_setting
setting_reads name n h few =
    ap one_count (line_numbers (codes "setting") (name ∷ []) (pos n ∷ []) (setting_words name h).whole (omega arith, tt))
    ∙ ap (λ (b : Bool). ranged b n) (count_from 0 MOTION_LIMIT n (omega arith) few)

-- one number in range
record OneCount (o : Option (List ℤ)) (n : ℕ) : Type 0 where
  is : o ≡ Some (pos n ∷ [])
  few : n ≤ MOTION_LIMIT

one_count_ok : (o : Option (List ℤ)) (n : ℕ) → one_count o ≡ Ok n → OneCount o n
one_count_ok None n h = absurd (cc h)
one_count_ok (Some []) n h = absurd (cc h)
one_count_ok (Some (z ∷ [])) n h =
    let r = ranged_ok (is_count 0 MOTION_LIMIT z) (unsigned_abs z) n h in
    let c = counted 0 MOTION_LIMIT z r.0 in
    record { is = ap (λ (x : ℤ). Some (x ∷ [])) (c.is ∙ ap pos r.1); few = omega (arith, c.high, r.1) }
one_count_ok (Some (z ∷ y ∷ zs)) n h = absurd (cc h)

pub setting_spelled : (name line : List ℕ) (n : ℕ) → parsed_setting name line ≡ Ok n → (line ≡ setting_text name n) × (n ≤ MOTION_LIMIT)
unfolding setting_text parsed_setting
setting_spelled name line n h =
    let c = one_count_ok (numbers_in_rest (codes "setting" ∷ name ∷ []) (fields line)) n h in
    (line_spelled (codes "setting") (name ∷ []) (pos n ∷ []) line c.is (omega (arith, c.few), tt), c.few)

pub setting_line_is : (name : List ℕ) (n : ℕ) → codes "setting " ++ name ++ codes " " ++ decimal n ++ codes "\n" ≡ setting_text name n ++ (10 ∷ [])
unfolding setting_text
setting_line_is name n = flat (codes "setting") (32 ∷ []) name (decimal n) (10 ∷ []) where
  flat : (w s a b n : List ℕ) → w ++ s ++ a ++ s ++ b ++ n ≡ (w ++ (s ++ (a ++ (s ++ b)))) ++ n
  flat w s a b n = simp append_assoc

-- ---- motions

pub motion_text : ℕ → ℕ → List ℕ
motion_text i n = line_text (codes "motion") [] (pos i ∷ pos n ∷ [])

motion_words : AreWords (codes "motion") []
unfolding behind_length
motion_words = record { whole = refl; feedless = refl; short = omega arith }

pub motion_is_line : (i n : ℕ) → i ≤ INDEX_LIMIT → n ≤ PIECE_LIMIT → IsLine (motion_text i n)
unfolding motion_text
motion_is_line i n hi hn = text_is_line (codes "motion") [] (pos i ∷ pos n ∷ []) motion_words (omega arith, (omega arith, tt)) (omega arith)

pub motion_reads : (i n : ℕ) → i ≤ INDEX_LIMIT → 1 ≤ n → n ≤ PIECE_LIMIT → parsed_motion (motion_text i n) ≡ Ok (record { index = i; pieces = n })
unfolding motion_text parsed_motion
motion_reads i n hi some hn =
    ap two_counts (line_numbers (codes "motion") [] (pos i ∷ pos n ∷ []) refl (omega arith, (omega arith, tt)))
    ∙ ap (λ (b : Bool). ranged b (record { index = i; pieces = n }))
    (and_from _ _ (count_from 0 INDEX_LIMIT i (omega arith) hi) (count_from 1 PIECE_LIMIT n some hn))

pub record TwoCounts (o : Option (List ℤ)) (m : MotionLine) : Type 0 where
  pub is : o ≡ Some (pos m.index ∷ pos m.pieces ∷ [])
  pub index : m.index ≤ INDEX_LIMIT
  pub some : 1 ≤ m.pieces
  pub few : m.pieces ≤ PIECE_LIMIT

pub two_counts_ok : (o : Option (List ℤ)) (m : MotionLine) → two_counts o ≡ Ok m → TwoCounts o m
two_counts_ok None m h = absurd (cc h)
two_counts_ok (Some []) m h = absurd (cc h)
two_counts_ok (Some (x ∷ [])) m h = absurd (cc h)
two_counts_ok (Some (x ∷ y ∷ [])) m h =
    let r = ranged_ok (is_count 0 INDEX_LIMIT x && is_count 1 PIECE_LIMIT y) (record { index = unsigned_abs x; pieces = unsigned_abs y }) m h in
    let p = and_parts (is_count 0 INDEX_LIMIT x) (is_count 1 PIECE_LIMIT y) r.0 in
    let cx = counted 0 INDEX_LIMIT x p.0 in
    let cy = counted 1 PIECE_LIMIT y p.1 in
    let ex : unsigned_abs x ≡ m.index = ap (λ (k : MotionLine). k.index) r.1 in
    let ey : unsigned_abs y ≡ m.pieces = ap (λ (k : MotionLine). k.pieces) r.1 in
    record {
      is = ap (λ (k : ℤ). Some (k ∷ y ∷ [])) (cx.is ∙ ap pos ex) ∙ ap (λ (k : ℤ). Some (pos m.index ∷ k ∷ [])) (cy.is ∙ ap pos ey);
      index = omega (arith, cx.high, ex);
      some = omega (arith, cy.low, ey);
      few = omega (arith, cy.high, ey);
    }
two_counts_ok (Some (x ∷ y ∷ z ∷ zs)) m h = absurd (cc h)

pub record MotionSpelled (line : List ℕ) (m : MotionLine) : Type 0 where
  pub is : line ≡ motion_text m.index m.pieces
  pub index : m.index ≤ INDEX_LIMIT
  pub some : 1 ≤ m.pieces
  pub few : m.pieces ≤ PIECE_LIMIT

pub motion_spelled : (line : List ℕ) (m : MotionLine) → parsed_motion line ≡ Ok m → MotionSpelled line m
unfolding motion_text parsed_motion
motion_spelled line m h =
    let c = two_counts_ok (numbers_in_rest (codes "motion" ∷ []) (fields line)) m h in
    record {
      is = line_spelled (codes "motion") [] (pos m.index ∷ pos m.pieces ∷ []) line c.is (omega (arith, c.index), (omega (arith, c.few), tt));
      index = c.index;
      some = c.some;
      few = c.few;
    }

pub motion_line_is : (i n : ℕ) → motion_line i n ≡ motion_text i n ++ (10 ∷ [])
unfolding motion_text
motion_line_is i n = simp append_assoc

-- ---- pieces

abbrev cut_word : Cut → List ℕ
cut_word (Part t) = codes "line"
cut_word (Place q) = codes "arc"

abbrev cut_numbers : Cut → List ℤ → List ℤ
cut_numbers (Part t) zs = pos t ∷ zs
cut_numbers (Place q) zs = q.u ∷ q.v ∷ zs

abbrev six : GridBox → List ℤ
six b = b.low.x ∷ b.low.y ∷ b.low.z ∷ b.high.x ∷ b.high.y ∷ b.high.z ∷ []

pub piece_text : Piece → List ℕ
piece_text p = line_text (cut_word p.end) [] (cut_numbers p.end (six p.bounds))

-- a piece that a line can have
pub record IsHeld (p : Piece) : Type 0 where
  pub good : good_piece p ≡ true
  pub steps : (are_steps p.bounds.low && are_steps p.bounds.high) ≡ true

cut_words : (e : Cut) → AreWords (cut_word e) []
unfolding behind_length
cut_words (Part t) = record { whole = refl; feedless = refl; short = omega arith }
cut_words (Place q) = record { whole = refl; feedless = refl; short = omega arith }

abbrev BoxSmall : GridBox → Type 0
BoxSmall b = AreSmall (six b)

box_small : (b : GridBox) → (are_steps b.low && are_steps b.high) ≡ true → BoxSmall b
box_small b h =
    let p = and_parts (are_steps b.low) (are_steps b.high) h in
    let l = and_parts (is_step b.low.x) (is_step b.low.y && is_step b.low.z) p.0 in
    let m = and_parts (is_step b.low.y) (is_step b.low.z) l.1 in
    let g = and_parts (is_step b.high.x) (is_step b.high.y && is_step b.high.z) p.1 in
    let k = and_parts (is_step b.high.y) (is_step b.high.z) g.1 in (
      step_small b.low.x l.0,
      (step_small b.low.y m.0, (step_small b.low.z m.1, (step_small b.high.x g.0, (step_small b.high.y k.0, (step_small b.high.z k.1, tt))))),
    )

cut_small : (e : Cut) (b : GridBox) → good_cut e ≡ true → BoxSmall b → AreSmall (cut_numbers e (six b))
cut_small (Part t) b h small = let p = and_parts (nat_le 1 t) (nat_le t WHOLE) h in (grind (arith, nat_tests, p.1), small)
cut_small (Place q) b h small = let p = and_parts (is_within CUT_LIMIT q.u) (is_within CUT_LIMIT q.v) h in (within_small q.u p.0, (within_small q.v p.1, small))

piece_small : (p : Piece) → IsHeld p → AreSmall (cut_numbers p.end (six p.bounds))
piece_small p h = cut_small p.end p.bounds (and_parts (good_cut p.end) (is_below p.bounds.low p.bounds.high) h.good).0 (box_small p.bounds h.steps)

few_numbers : (e : Cut) (b : GridBox) → length (cut_numbers e (six b)) ≤ 8
few_numbers (Part t) b = omega arith
few_numbers (Place q) b = omega arith

pub piece_is_line : (p : Piece) → IsHeld p → IsLine (piece_text p)
unfolding piece_text
piece_is_line p h = text_is_line (cut_word p.end) [] (cut_numbers p.end (six p.bounds)) (cut_words p.end) (piece_small p h) (few_numbers p.end p.bounds)

good_steps : (p : Piece) → IsHeld p → good_box p.bounds ≡ true
good_steps p h =
    let s = and_parts (are_steps p.bounds.low) (are_steps p.bounds.high) h.steps in
    and_from _ _ s.0 (and_from _ _ s.1 (and_parts (good_cut p.end) (is_below p.bounds.low p.bounds.high) h.good).1)

-- the fields of a piece's line
piece_fields : (e : Cut) (b : GridBox) → good_cut e ≡ true → good_box b ≡ true → AreSmall (cut_numbers e (six b))
    → piece_in (cut_word e ∷ map signed_decimal (cut_numbers e (six b))) ≡ Ok (record { end = e; bounds = b })
piece_fields (Part t) b cut box small =
    let p = and_parts (nat_le 1 t) (nat_le t WHOLE) cut in
    ap line_piece (numbers_in-signed (cut_numbers (Part t) (six b)) small)
    ∙ ap (λ (g : Bool). ranged g (record { end = Part t; bounds = b })) (and_from _ _ (and_from _ _ p.0 p.1) box)
piece_fields (Place q) b cut box small =
    ap arc_piece (numbers_in-signed (cut_numbers (Place q) (six b)) small)
    ∙ ap (λ (g : Bool). ranged g (record { end = Place q; bounds = b })) (and_from _ _ cut box)

cut_whole : (e : Cut) → list_all (lacks 32) (cut_word e ∷ []) ≡ true
cut_whole (Part t) = refl
cut_whole (Place q) = refl

pub piece_reads : (p : Piece) → IsHeld p → parsed_piece (piece_text p) ≡ Ok p
unfolding piece_text parsed_piece
piece_reads p h =
    ap piece_in (line_fields (cut_word p.end) [] (cut_numbers p.end (six p.bounds)) (cut_whole p.end) (piece_small p h))
    ∙ piece_fields p.end p.bounds (and_parts (good_cut p.end) (is_below p.bounds.low p.bounds.high) h.good).0 (good_steps p h) (piece_small p h)

-- the content of six numbers
record Boxed (good : Bool) (e : Cut) (zs : List ℤ) (p : Piece) : Type 0 where
  numbers : zs ≡ six p.bounds
  end : e ≡ p.end
  sound : good ≡ true
  box : good_box p.bounds ≡ true

boxed_ok : (good : Bool) (e : Cut) (zs : List ℤ) (p : Piece) → boxed good e zs ≡ Ok p → Boxed good e zs p
boxed_ok good e [] p h = absurd (cc h)
boxed_ok good e (a ∷ []) p h = absurd (cc h)
boxed_ok good e (a ∷ b ∷ []) p h = absurd (cc h)
boxed_ok good e (a ∷ b ∷ c ∷ []) p h = absurd (cc h)
boxed_ok good e (a ∷ b ∷ c ∷ d ∷ []) p h = absurd (cc h)
boxed_ok good e (a ∷ b ∷ c ∷ d ∷ f ∷ []) p h = absurd (cc h)
boxed_ok good e (a ∷ b ∷ c ∷ d ∷ f ∷ g ∷ []) p h =
    let bounds : GridBox = record { low = record { x = a; y = b; z = c }; high = record { x = d; y = f; z = g } } in
    let r = ranged_ok (good && good_box bounds) (record { end = e; bounds = bounds }) p h in
    let q = and_parts good (good_box bounds) r.0 in
    record {
      numbers = ap (λ (x : Piece). six x.bounds) r.1;
      end = ap (λ (x : Piece). x.end) r.1;
      sound = q.0;
      box = subst (λ (x : Piece). good_box x.bounds ≡ true) r.1 q.1;
    }
boxed_ok good e (a ∷ b ∷ c ∷ d ∷ f ∷ g ∷ k ∷ zs) p h = absurd (cc h)

-- the content of a piece's fields
record PieceFields (word : List ℕ) (fs : List (List ℕ)) (p : Piece) : Type 0 where
  kind : word ≡ cut_word p.end
  numbers : numbers_in fs ≡ Some (cut_numbers p.end (six p.bounds))
  cut : good_cut p.end ≡ true
  box : good_box p.bounds ≡ true

line_fields_ok : (fs : List (List ℕ)) (o : Option (List ℤ)) (p : Piece) → numbers_in fs ≡ o → line_piece o ≡ Ok p → PieceFields (codes "line") fs p
line_fields_ok fs None p e h = absurd (cc h)
line_fields_ok fs (Some []) p e h = absurd (cc h)
line_fields_ok fs (Some (t ∷ zs)) p e h =
    let b = boxed_ok (is_count 1 WHOLE t) (Part (unsigned_abs t)) zs p h in
    let c = counted 1 WHOLE t b.sound in
    let good : good_cut (Part (unsigned_abs t)) ≡ true = count_from 1 WHOLE (unsigned_abs t) c.low c.high in
    record {
      kind = ap cut_word b.end;
      numbers = e ∙ ap (λ (z : ℤ). Some (z ∷ zs)) c.is ∙ ap (λ (l : List ℤ). Some (pos (unsigned_abs t) ∷ l)) b.numbers
          ∙ ap (λ (x : Cut). Some (cut_numbers x (six p.bounds))) b.end;
      cut = subst (λ (x : Cut). good_cut x ≡ true) b.end good;
      box = b.box;
    }

arc_fields_ok : (fs : List (List ℕ)) (o : Option (List ℤ)) (p : Piece) → numbers_in fs ≡ o → arc_piece o ≡ Ok p → PieceFields (codes "arc") fs p
arc_fields_ok fs None p e h = absurd (cc h)
arc_fields_ok fs (Some []) p e h = absurd (cc h)
arc_fields_ok fs (Some (u ∷ [])) p e h = absurd (cc h)
arc_fields_ok fs (Some (u ∷ v ∷ zs)) p e h =
    let b = boxed_ok (is_within CUT_LIMIT u && is_within CUT_LIMIT v) (Place (record { u = u; v = v })) zs p h in
    record {
      kind = ap cut_word b.end;
      numbers = e ∙ ap (λ (l : List ℤ). Some (u ∷ v ∷ l)) b.numbers ∙ ap (λ (x : Cut). Some (cut_numbers x (six p.bounds))) b.end;
      cut = subst (λ (x : Cut). good_cut x ≡ true) b.end b.sound;
      box = b.box;
    }

by_word : (word : List ℕ) (fs : List (List ℕ)) (p : Piece) (c d : Bool) → bytes_eq word (codes "line") ≡ c → bytes_eq word (codes "arc") ≡ d
    → (if c then line_piece (numbers_in fs) else if d then arc_piece (numbers_in fs) else Err Spelling) ≡ Ok p → PieceFields word fs p
by_word word fs p true d e f h =
    subst (λ (w : List ℕ). PieceFields w fs p) (sym (bytes_same word (codes "line") e)) (line_fields_ok fs (numbers_in fs) p refl h)
by_word word fs p false true e f h =
    subst (λ (w : List ℕ). PieceFields w fs p) (sym (bytes_same word (codes "arc") f)) (arc_fields_ok fs (numbers_in fs) p refl h)
by_word word fs p false false e f h = absurd (cc h)

pub record PieceSpelled (line : List ℕ) (p : Piece) : Type 0 where
  pub is : line ≡ piece_text p
  pub held : IsHeld p

held_from : (word : List ℕ) (fs : List (List ℕ)) (p : Piece) → PieceFields word fs p → IsHeld p
held_from word fs p f =
    let s = and_parts (are_steps p.bounds.low) (are_steps p.bounds.high && is_below p.bounds.low p.bounds.high) f.box in
    let t = and_parts (are_steps p.bounds.high) (is_below p.bounds.low p.bounds.high) s.1 in
    record { good = and_from _ _ f.cut t.1; steps = and_from _ _ s.0 t.0 }

spelled_by_fields : (line : List ℕ) (all : List (List ℕ)) (p : Piece) → fields line ≡ all → piece_in all ≡ Ok p → PieceSpelled line p
unfolding piece_text
spelled_by_fields line [] p e h = absurd (cc h)
spelled_by_fields line (word ∷ fs) p e h =
    let f = by_word word fs p (bytes_eq word (codes "line")) (bytes_eq word (codes "arc")) refl refl h in
    let held = held_from word fs p f in
    let rest = numbers_spelled fs (cut_numbers p.end (six p.bounds)) f.numbers (piece_small p held) in
    record {
      is = sym (joined_split 32 line) ∙ ap (join_with_byte 32) (e ∙ ap (λ (w : List ℕ). w ∷ fs) f.kind ∙ ap (λ (l : List (List ℕ)). cut_word p.end ∷ l) rest);
      held = held;
    }

pub piece_spelled : (line : List ℕ) (p : Piece) → parsed_piece line ≡ Ok p → PieceSpelled line p
unfolding parsed_piece
piece_spelled line p h = spelled_by_fields line (fields line) p refl h

flat_line : (w s t a b c d e f n : List ℕ) → w ++ s ++ t ++ (s ++ a ++ s ++ b ++ s ++ c) ++ (s ++ d ++ s ++ e ++ s ++ f) ++ n
    ≡ (w ++ (s ++ (t ++ (s ++ (a ++ (s ++ (b ++ (s ++ (c ++ (s ++ (d ++ (s ++ (e ++ (s ++ f)))))))))))))) ++ n
flat_line w s t a b c d e f n = simp append_assoc

flat_arc : (w s t u a b c d e f n : List ℕ) → w ++ s ++ t ++ s ++ u ++ (s ++ a ++ s ++ b ++ s ++ c) ++ (s ++ d ++ s ++ e ++ s ++ f) ++ n
    ≡ (w ++ (s ++ (t ++ (s ++ (u ++ (s ++ (a ++ (s ++ (b ++ (s ++ (c ++ (s ++ (d ++ (s ++ (e ++ (s ++ f)))))))))))))))) ++ n
flat_arc w s t u a b c d e f n = simp append_assoc

cut_line_is : (e : Cut) (b : GridBox) → piece_line (record { end = e; bounds = b }) ≡ line_text (cut_word e) [] (cut_numbers e (six b)) ++ (10 ∷ [])
cut_line_is (Part t) b =
    flat_line (codes "line") (32 ∷ []) (decimal t) (signed_decimal b.low.x) (signed_decimal b.low.y) (signed_decimal b.low.z) (signed_decimal b.high.x)
    (signed_decimal b.high.y) (signed_decimal b.high.z) (10 ∷ [])
cut_line_is (Place q) b =
    flat_arc (codes "arc") (32 ∷ []) (signed_decimal q.u) (signed_decimal q.v) (signed_decimal b.low.x) (signed_decimal b.low.y) (signed_decimal b.low.z)
    (signed_decimal b.high.x) (signed_decimal b.high.y) (signed_decimal b.high.z) (10 ∷ [])

pub piece_line_is : (p : Piece) → piece_line p ≡ piece_text p ++ (10 ∷ [])
unfolding piece_text
piece_line_is p = cut_line_is p.end p.bounds

-- ---- the end

pub end_is_line : IsLine (codes "end")
end_is_line = record { feedless = refl; short = omega arith }

pub end_reads : parsed_end (codes "end") ≡ Ok tt
unfolding parsed_end
end_reads = refl

end_by : (line : List ℕ) (c : Bool) (x : Unit {0}) → bytes_eq line (codes "end") ≡ c → (if c then Ok tt else Err Spelling) ≡ Ok x → line ≡ codes "end"
end_by line true x e h = bytes_same line (codes "end") e
end_by line false x e h = absurd (cc h)

pub end_spelled : (line : List ℕ) (x : Unit {0}) → parsed_end line ≡ Ok x → line ≡ codes "end"
unfolding parsed_end
end_spelled line x h = end_by line (bytes_eq line (codes "end")) x refl h
