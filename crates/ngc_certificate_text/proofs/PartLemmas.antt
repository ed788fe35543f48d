-- The contents of numbers, put together from their parts.
use Rattle.std.proofs.Common.{◌≡◌, ℕ, ◌-◌, ◌<◌, ◌≤◌, ap, Bool, true, false, Some, Result, Err, List, [], ◌∷◌, length, take, drop, get_or, refl, ◌∙◌, arith}
use Rattle.std.specs.Prelude.{ℤ, pos, unsigned_abs, ◌&&◌}
use Rattle.std.proofs.lemmas.List.{take_rest}
use Rattle.ngc_fixed_length.specs.Signed.{is_within}
use Rattle.ngc_fixed_length.specs.declared.points.GridBox.{GridBox}
use Rattle.ngc_certificate_text.specs.declared.piece.Cut.{Cut}
use Rattle.ngc_certificate_text.specs.declared.piece.Cut.TheVariants.{Part, Place}
use Rattle.ngc_certificate_text.specs.declared.piece.Piece.{Piece}
use Rattle.ngc_certificate_text.specs.declared.lines.LineFlaw.{LineFlaw}
use Rattle.ngc_certificate_text.specs.declared.lines.MotionLine.{MotionLine}
use Rattle.ngc_certificate_text.specs.Certificate.{WHOLE, INDEX_LIMIT, PIECE_LIMIT, MOTION_LIMIT, CUT_LIMIT}
use Rattle.ngc_certificate_text.specs.Lines.{is_count, good_box, ranged, boxed, one_count, two_counts, line_piece, arc_piece}
use Rattle.ngc_certificate_text.specs.Parts.{parsed_box, place_between, piece_with, motion_of}

abbrev piece_at : Cut → GridBox → Piece
piece_at e b = record { end = e; bounds = b }

with_box : (good held : Bool) (e : Cut) (b : GridBox) → piece_with (ranged good e) (ranged held b) ≡ ranged (good && held) (piece_at e b)
with_box true true e b = refl
with_box true false e b = refl
with_box false true e b = refl
with_box false false e b = refl

with_flaw : (good : Bool) (e : Cut) (flaw : LineFlaw) → piece_with (ranged good e) (Err flaw) ≡ Err flaw
with_flaw true e flaw = refl
with_flaw false e flaw = refl

boxed_is : (good : Bool) (e : Cut) (zs : List ℤ) → piece_with (ranged good e) (parsed_box zs) ≡ boxed good e zs
boxed_is good e [] = with_flaw good e _
boxed_is good e (a ∷ []) = with_flaw good e _
boxed_is good e (a ∷ b ∷ []) = with_flaw good e _
boxed_is good e (a ∷ b ∷ c ∷ []) = with_flaw good e _
boxed_is good e (a ∷ b ∷ c ∷ d ∷ []) = with_flaw good e _
boxed_is good e (a ∷ b ∷ c ∷ d ∷ f ∷ []) = with_flaw good e _
boxed_is good e (a ∷ b ∷ c ∷ d ∷ f ∷ g ∷ []) =
    let bounds : GridBox = record { low = record { x = a; y = b; z = c }; high = record { x = d; y = f; z = g } } in
    with_box good (good_box bounds) e bounds
boxed_is good e (a ∷ b ∷ c ∷ d ∷ f ∷ g ∷ k ∷ zs) = with_flaw good e _

by_parts : (good : Bool) (e : Cut) (zs rest : List ℤ) (end : Result Cut LineFlaw) (bounds : Result GridBox LineFlaw) (found : Result Piece LineFlaw)
    → end ≡ ranged good e → bounds ≡ parsed_box rest → rest ≡ zs → found ≡ piece_with end bounds → found ≡ boxed good e zs
by_parts good e zs rest end bounds found is_end is_box same is =
    is ∙ ap (λ (x : Result Cut LineFlaw). piece_with x bounds) is_end ∙ ap (piece_with (ranged good e)) (is_box ∙ ap parsed_box same) ∙ boxed_is good e zs

pub line_is_said : (xs : List ℤ) (t : ℤ) (end : Result Cut LineFlaw) (bounds : Result GridBox LineFlaw) (found : Result Piece LineFlaw) → 1 ≤ length xs →
    t ≡ get_or xs 0 (pos 0)
    → end ≡ ranged (is_count 1 WHOLE t) (Part (unsigned_abs t)) → bounds ≡ parsed_box (take (length xs - 1) (drop 1 xs)) → found ≡ piece_with end bounds →
    found ≡ line_piece (Some xs)
line_is_said [] t end bounds found some et is_end is_box is = absurd (omega (arith, some))
line_is_said (x ∷ xs) t end bounds found some et is_end is_box is =
    by_parts (is_count 1 WHOLE x) (Part (unsigned_abs x)) xs _ end bounds found
    (is_end ∙ ap (λ (z : ℤ). ranged (is_count 1 WHOLE z) (Part (unsigned_abs z))) et) is_box (take_rest (x ∷ xs) 1) is

places : (b c : Bool) (u v : ℤ) → place_between (ranged b u) (ranged c v) ≡ ranged (b && c) (Place (record { u = u; v = v }))
places true true u v = refl
places true false u v = refl
places false c u v = refl

pub arc_is_said : (xs : List ℤ) (u v : ℤ) (ru rv : Result ℤ LineFlaw) (end : Result Cut LineFlaw) (bounds : Result GridBox LineFlaw)
    (found : Result Piece LineFlaw) → 2 ≤ length xs
    → u ≡ get_or xs 0 (pos 0) → v ≡ get_or xs 1 (pos 0) → ru ≡ ranged (is_within CUT_LIMIT u) u → rv ≡ ranged (is_within CUT_LIMIT v) v →
    end ≡ place_between ru rv
    → bounds ≡ parsed_box (take (length xs - 2) (drop 2 xs)) → found ≡ piece_with end bounds → found ≡ arc_piece (Some xs)
arc_is_said [] u v ru rv end bounds found some eu ev is_u is_v is_end is_box is = absurd (omega (arith, some))
arc_is_said (x ∷ []) u v ru rv end bounds found some eu ev is_u is_v is_end is_box is = absurd (omega (arith, some))
arc_is_said (x ∷ y ∷ xs) u v ru rv end bounds found some eu ev is_u is_v is_end is_box is =
    let pu : ru ≡ ranged (is_within CUT_LIMIT x) x = is_u ∙ ap (λ (z : ℤ). ranged (is_within CUT_LIMIT z) z) eu in
    let pv : rv ≡ ranged (is_within CUT_LIMIT y) y = is_v ∙ ap (λ (z : ℤ). ranged (is_within CUT_LIMIT z) z) ev in
    by_parts (is_within CUT_LIMIT x && is_within CUT_LIMIT y) (Place (record { u = x; v = y })) xs _ end bounds found
    (is_end ∙ ap (λ (r : Result ℤ LineFlaw). place_between r rv) pu ∙ ap (place_between (ranged (is_within CUT_LIMIT x) x)) pv
    ∙ places (is_within CUT_LIMIT x) (is_within CUT_LIMIT y) x y)
    is_box (take_rest (x ∷ y ∷ xs) 2) is

pub one_is_said : (xs : List ℤ) (n : ℤ) (found : Result ℕ LineFlaw) → 1 ≤ length xs → length xs < 2 → n ≡ get_or xs 0 (pos 0) →
    found ≡ ranged (is_count 0 MOTION_LIMIT n) (unsigned_abs n)
    → found ≡ one_count (Some xs)
one_is_said [] n found some few e is = absurd (omega (arith, some))
one_is_said (x ∷ []) n found some few e is = is ∙ ap (λ (z : ℤ). ranged (is_count 0 MOTION_LIMIT z) (unsigned_abs z)) e
one_is_said (x ∷ y ∷ xs) n found some few e is = absurd (omega (arith, few))

motions : (b c : Bool) (i n : ℕ) → motion_of (ranged b i) (ranged c n) ≡ ranged (b && c) (record { index = i; pieces = n })
motions true true i n = refl
motions true false i n = refl
motions false c i n = refl

pub two_are_said : (xs : List ℤ) (i n : ℤ) (ri rn : Result ℕ LineFlaw) (found : Result MotionLine LineFlaw) → 2 ≤ length xs → length xs < 3 →
    i ≡ get_or xs 0 (pos 0) → n ≡ get_or xs 1 (pos 0)
    → ri ≡ ranged (is_count 0 INDEX_LIMIT i) (unsigned_abs i) → rn ≡ ranged (is_count 1 PIECE_LIMIT n) (unsigned_abs n) → found ≡ motion_of ri rn →
    found ≡ two_counts (Some xs)
two_are_said [] i n ri rn found some few ei en is_i is_n is = absurd (omega (arith, some))
two_are_said (x ∷ []) i n ri rn found some few ei en is_i is_n is = absurd (omega (arith, some))
two_are_said (x ∷ y ∷ []) i n ri rn found some few ei en is_i is_n is =
    let pi : ri ≡ ranged (is_count 0 INDEX_LIMIT x) (unsigned_abs x) = is_i ∙ ap (λ (z : ℤ). ranged (is_count 0 INDEX_LIMIT z) (unsigned_abs z)) ei in
    let pn : rn ≡ ranged (is_count 1 PIECE_LIMIT y) (unsigned_abs y) = is_n ∙ ap (λ (z : ℤ). ranged (is_count 1 PIECE_LIMIT z) (unsigned_abs z)) en in
    is ∙ ap (λ (r : Result ℕ LineFlaw). motion_of r rn) pi ∙ ap (motion_of (ranged (is_count 0 INDEX_LIMIT x) (unsigned_abs x))) pn
    ∙ motions (is_count 0 INDEX_LIMIT x) (is_count 1 PIECE_LIMIT y) (unsigned_abs x) (unsigned_abs y)
two_are_said (x ∷ y ∷ z ∷ xs) i n ri rn found some few ei en is_i is_n is = absurd (omega (arith, few))
