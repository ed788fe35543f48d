-- The content of a line of version 2, by its first word.
use Rattle.std.proofs.Common.{◌≡◌, ℕ, ◌<◌, ◌≤◌, ap, Bool, true, false, Option, Some, None, Result, Ok, Err, List, [], ◌∷◌, length, get_or, refl, sym, ◌∙◌}
use Rattle.std.proofs.Common.{arith}
use Rattle.std.specs.Prelude.{ℤ, pos, unsigned_abs, codes, map, ◌&&◌, nat_le, if◌then◌else◌}
use Rattle.std.specs.Str.{bytes_eq}
use Rattle.std.proofs.lemmas.Bool.{and_parts}
use Rattle.ngc_certificate_text.specs.declared.expected.RemainingEntries.{RemainingEntries}
use Rattle.ngc_certificate_text.specs.declared.expected.Indices.TheVariants.{Both, Off, On}
use Rattle.ngc_certificate_text.specs.declared.lines.CountsLine.{CountsLine}
use Rattle.ngc_certificate_text.specs.declared.lines.EntryLine.{EntryLine}
use Rattle.ngc_certificate_text.specs.declared.lines.LineFlaw.{LineFlaw}
use Rattle.ngc_certificate_text.specs.declared.lines.LineFlaw.TheVariants.{Spelling}
use Rattle.ngc_certificate_text.specs.declared.lines.MotionLine.{MotionLine}
use Rattle.ngc_certificate_text.specs.declared.line_content.Version.TheVariants.{One, Two}
use Rattle.ngc_certificate_text.specs.Certificate.{INDEX_LIMIT, PIECE_LIMIT, MOTION_LIMIT}
use Rattle.ngc_certificate_text.specs.Clamped.{clamped, at_most_eight}
use Rattle.ngc_certificate_text.specs.EntryLines.{parsed_version, motion_counts, parsed_counts, may_still_follow, three_counts, of_setting, entry_in, parsed_entry}
use Rattle.ngc_certificate_text.specs.Lines.{numbers_in, numbers_in_rest, is_count, ranged, two_counts}
use Rattle.ngc_certificate_text.specs.Number.{fields}
use Rattle.ngc_certificate_text.specs.Parts.{motion_of, both_of}
use Rattle.ngc_certificate_text.proofs.NumbersOutOfRange.{same_count, ranged_same}
use Rattle.ngc_certificate_text.proofs.WordLemmas.{word_is, word_not}

-- ---- the first line

version_by : (c d : Bool) → c ≡ true → Ok One ≡ (if c then Ok One else if d then Ok Two else Err Spelling)
version_by c d e = rw e refl

version_or : (c d : Bool) → c ≡ false → d ≡ true → Ok Two ≡ (if c then Ok One else if d then Ok Two else Err Spelling)
version_or c d e f = rw (e, f) refl

version_else : (c d : Bool) → c ≡ false → d ≡ false → Err Spelling ≡ (if c then Ok One else if d then Ok Two else Err Spelling)
version_else c d e f = rw (e, f) refl

pub version_one : (line : List ℕ) (b : Bool) → b ≡ bytes_eq line (codes "ngc-certificate 1") → b ≡ true → Ok One ≡ parsed_version line
unfolding parsed_version
version_one line b is h = version_by (bytes_eq line (codes "ngc-certificate 1")) (bytes_eq line (codes "ngc-certificate 2")) (sym is ∙ h)

pub version_two : (line : List ℕ) (b d : Bool) → b ≡ bytes_eq line (codes "ngc-certificate 1") → b ≡ false → d ≡ bytes_eq line (codes "ngc-certificate 2") →
    d ≡ true → Ok Two ≡ parsed_version line
unfolding parsed_version
version_two line b d is h dis k = version_or (bytes_eq line (codes "ngc-certificate 1")) (bytes_eq line (codes "ngc-certificate 2")) (sym is ∙ h) (sym dis ∙ k)

pub version_none : (line : List ℕ) (b d : Bool) → b ≡ bytes_eq line (codes "ngc-certificate 1") → b ≡ false → d ≡ bytes_eq line (codes "ngc-certificate 2") →
    d ≡ false → Err Spelling ≡ parsed_version line
unfolding parsed_version
version_none line b d is h dis k =
    version_else (bytes_eq line (codes "ngc-certificate 1")) (bytes_eq line (codes "ngc-certificate 2")) (sym is ∙ h) (sym dis ∙ k)

-- ---- the counts

pub counts_word : (line word : List ℕ) (fs : List (List ℕ)) (b : Bool) (found : Result CountsLine LineFlaw) → fields line ≡ word ∷ fs →
    b ≡ bytes_eq word (codes "motions") → b ≡ true
    → found ≡ motion_counts (numbers_in fs) → found ≡ parsed_counts line
unfolding parsed_counts
counts_word line word fs b found e is h said =
    said ∙ ap motion_counts (sym (word_is (bytes_eq word (codes "motions")) (numbers_in fs) (sym is ∙ h)))
    ∙ ap (λ (l : List (List ℕ)). motion_counts (numbers_in_rest (codes "motions" ∷ []) l)) (sym e)

pub counts_not_word : (line word : List ℕ) (fs : List (List ℕ)) (b : Bool) → fields line ≡ word ∷ fs → b ≡ bytes_eq word (codes "motions") → b ≡ false →
    Err Spelling ≡ parsed_counts line
unfolding parsed_counts
counts_not_word line word fs b e is h =
    ap motion_counts (sym (word_not (bytes_eq word (codes "motions")) (numbers_in fs) (sym is ∙ h)))
    ∙ ap (λ (l : List (List ℕ)). motion_counts (numbers_in_rest (codes "motions" ∷ []) l)) (sym e)

-- ---- entries

entry_by : (c d f : Bool) (x y z w : Result EntryLine LineFlaw) → c ≡ true → x ≡ (if c then x else if d then y else if f then z else w)
entry_by c d f x y z w e = rw e refl

entry_or : (c d f : Bool) (x y z w : Result EntryLine LineFlaw) → c ≡ false → d ≡ true → y ≡ (if c then x else if d then y else if f then z else w)
entry_or c d f x y z w e g = rw (e, g) refl

entry_or_else : (c d f : Bool) (x y z w : Result EntryLine LineFlaw) → c ≡ false → d ≡ false → f ≡ true →
    z ≡ (if c then x else if d then y else if f then z else w)
entry_or_else c d f x y z w e g h = rw (e, g, h) refl

entry_none : (c d f : Bool) (x y z w : Result EntryLine LineFlaw) → c ≡ false → d ≡ false → f ≡ false →
    w ≡ (if c then x else if d then y else if f then z else w)
entry_none c d f x y z w e g h = rw (e, g, h) refl

-- the test of a word, from the results of the two calls
tested : (word name : List ℕ) (may m b c : Bool) → m ≡ may → b ≡ (bytes_eq word name && m) → b ≡ c → (bytes_eq word name && may) ≡ c
tested word name may m b c e is h = ap (λ (x : Bool). bytes_eq word name && x) (sym e) ∙ sym is ∙ h

module _ (left : RemainingEntries) (line word : List ℕ) (fs : List (List ℕ)) (is : fields line ≡ word ∷ fs) (mb b : Bool) (eb : mb ≡ may_still_follow left (Both 0 0))
    (tb : b ≡ (bytes_eq word (codes "both") && mb)) where
  abbrev both_in : Bool
  both_in = bytes_eq word (codes "both") && may_still_follow left (Both 0 0)

  abbrev off_in : Bool
  off_in = bytes_eq word (codes "off") && may_still_follow left (Off 0)

  abbrev on_in : Bool
  on_in = bytes_eq word (codes "on") && may_still_follow left (On 0)

  pub entry_both : (found : Result EntryLine LineFlaw) → b ≡ true → found ≡ three_counts (numbers_in fs) → found ≡ parsed_entry left line
  unfolding parsed_entry
  entry_both found h said =
      said ∙ entry_by both_in off_in on_in (three_counts (numbers_in fs)) (of_setting Off (two_counts (numbers_in fs)))
      (of_setting On (two_counts (numbers_in fs))) (Err Spelling)
      (tested word (codes "both") (may_still_follow left (Both 0 0)) mb b true eb tb h) ∙ ap (entry_in left) (sym is)

  pub entry_off : (mo c : Bool) → mo ≡ may_still_follow left (Off 0) → c ≡ (bytes_eq word (codes "off") && mo) →
      (motion : Result MotionLine LineFlaw) (found : Result EntryLine LineFlaw) → b ≡ false → c ≡ true
      → motion ≡ two_counts (numbers_in fs) → found ≡ of_setting Off motion → found ≡ parsed_entry left line
  unfolding parsed_entry
  entry_off mo c eo to motion found h k said of =
      of ∙ ap (of_setting Off) said
      ∙ entry_or both_in off_in on_in (three_counts (numbers_in fs)) (of_setting Off (two_counts (numbers_in fs))) (of_setting On (two_counts (numbers_in fs)))
      (Err Spelling)
      (tested word (codes "both") (may_still_follow left (Both 0 0)) mb b false eb tb h) (tested word (codes "off") (may_still_follow left (Off 0)) mo c true eo to k)
      ∙ ap (entry_in left) (sym is)

  pub entry_on : (mo c : Bool) → mo ≡ may_still_follow left (Off 0) → c ≡ (bytes_eq word (codes "off") && mo) → (mn d : Bool) → mn ≡ may_still_follow left (On 0) →
      d ≡ (bytes_eq word (codes "on") && mn)
      → (motion : Result MotionLine LineFlaw) (found : Result EntryLine LineFlaw) → b ≡ false → c ≡ false → d ≡ true
      → motion ≡ two_counts (numbers_in fs) → found ≡ of_setting On motion → found ≡ parsed_entry left line
  unfolding parsed_entry
  entry_on mo c eo to mn d en tn motion found h k l said of =
      of ∙ ap (of_setting On) said
      ∙ entry_or_else both_in off_in on_in (three_counts (numbers_in fs)) (of_setting Off (two_counts (numbers_in fs)))
      (of_setting On (two_counts (numbers_in fs))) (Err Spelling)
      (tested word (codes "both") (may_still_follow left (Both 0 0)) mb b false eb tb h) (tested word (codes "off") (may_still_follow left (Off 0)) mo c false eo to k)
      (tested word (codes "on") (may_still_follow left (On 0)) mn d true en tn l) ∙ ap (entry_in left) (sym is)

  pub entry_no_word : (mo c : Bool) → mo ≡ may_still_follow left (Off 0) → c ≡ (bytes_eq word (codes "off") && mo) → (mn d : Bool) → mn ≡ may_still_follow left (On 0) →
      d ≡ (bytes_eq word (codes "on") && mn) → b ≡ false → c ≡ false → d ≡ false
      → Err Spelling ≡ parsed_entry left line
  unfolding parsed_entry
  entry_no_word mo c eo to mn d en tn h k l =
      entry_none both_in off_in on_in (three_counts (numbers_in fs)) (of_setting Off (two_counts (numbers_in fs))) (of_setting On (two_counts (numbers_in fs)))
      (Err Spelling)
      (tested word (codes "both") (may_still_follow left (Both 0 0)) mb b false eb tb h) (tested word (codes "off") (may_still_follow left (Off 0)) mo c false eo to k)
      (tested word (codes "on") (may_still_follow left (On 0)) mn d false en tn l) ∙ ap (entry_in left) (sym is)

-- ---- three numbers

both_motions : (b c d : Bool) (i j n : ℕ) → both_of (ranged b i) (motion_of (ranged c j) (ranged d n))
    ≡ ranged (b && (c && d)) (record { indices = Both i j; pieces = n })
both_motions true true true i j n = refl
both_motions true true false i j n = refl
both_motions true false d i j n = refl
both_motions false c d i j n = refl

pub three_are_said : (xs : List ℤ) (i j n : ℤ) (ri rj rn : Result ℕ LineFlaw) (motion : Result MotionLine LineFlaw) (found : Result EntryLine LineFlaw) →
    3 ≤ length xs → length xs < 4
    → i ≡ get_or xs 0 (pos 0) → j ≡ get_or xs 1 (pos 0) → n ≡ get_or xs 2 (pos 0)
    → ri ≡ ranged (is_count 0 INDEX_LIMIT i) (unsigned_abs i) → rj ≡ ranged (is_count 0 INDEX_LIMIT j) (unsigned_abs j) →
    rn ≡ ranged (is_count 1 PIECE_LIMIT n) (unsigned_abs n)
    → motion ≡ motion_of rj rn → found ≡ both_of ri motion → found ≡ three_counts (Some xs)
three_are_said [] i j n ri rj rn motion found some few ei ej en is_i is_j is_n is_m is = absurd (omega (arith, some))
three_are_said (x ∷ []) i j n ri rj rn motion found some few ei ej en is_i is_j is_n is_m is = absurd (omega (arith, some))
three_are_said (x ∷ y ∷ []) i j n ri rj rn motion found some few ei ej en is_i is_j is_n is_m is = absurd (omega (arith, some))
three_are_said (x ∷ y ∷ z ∷ []) i j n ri rj rn motion found some few ei ej en is_i is_j is_n is_m is =
    let pi : ri ≡ ranged (is_count 0 INDEX_LIMIT x) (unsigned_abs x) = is_i ∙ ap (λ (k : ℤ). ranged (is_count 0 INDEX_LIMIT k) (unsigned_abs k)) ei in
    let pj : rj ≡ ranged (is_count 0 INDEX_LIMIT y) (unsigned_abs y) = is_j ∙ ap (λ (k : ℤ). ranged (is_count 0 INDEX_LIMIT k) (unsigned_abs k)) ej in
    let pn : rn ≡ ranged (is_count 1 PIECE_LIMIT z) (unsigned_abs z) = is_n ∙ ap (λ (k : ℤ). ranged (is_count 1 PIECE_LIMIT k) (unsigned_abs k)) en in
    is ∙ ap (λ (r : Result ℕ LineFlaw). both_of r motion) pi
    ∙ ap (both_of (ranged (is_count 0 INDEX_LIMIT x) (unsigned_abs x)))
    (is_m ∙ ap (λ (r : Result ℕ LineFlaw). motion_of r rn) pj ∙ ap (motion_of (ranged (is_count 0 INDEX_LIMIT y) (unsigned_abs y))) pn)
    ∙ both_motions (is_count 0 INDEX_LIMIT x) (is_count 0 INDEX_LIMIT y) (is_count 1 PIECE_LIMIT z) (unsigned_abs x) (unsigned_abs y) (unsigned_abs z)
three_are_said (x ∷ y ∷ z ∷ a ∷ xs) i j n ri rj rn motion found some few ei ej en is_i is_j is_n is_m is = absurd (omega (arith, few))

no_three : (b : Bool) (a x y z : ℤ) (zs : List ℤ) → Err Spelling ≡ three_counts (if b then Some (a ∷ x ∷ y ∷ z ∷ zs) else None)
no_three true a x y z zs = refl
no_three false a x y z zs = refl

pub three_clamped : (o : Option (List ℤ)) → three_counts (at_most_eight o) ≡ three_counts o
three_clamped None = refl
three_clamped (Some []) = refl
three_clamped (Some (x ∷ [])) = refl
three_clamped (Some (x ∷ y ∷ [])) = refl
three_clamped (Some (x ∷ y ∷ z ∷ [])) =
    let r = same_count 0 INDEX_LIMIT x (omega arith) in
    let s = same_count 0 INDEX_LIMIT y (omega arith) in
    let t = same_count 1 PIECE_LIMIT z (omega arith) in
    ranged_same _ _ _ _ (rw (r.same, s.same, t.same) refl)
    (λ h. let p = and_parts (is_count 0 INDEX_LIMIT x) (is_count 0 INDEX_LIMIT y && is_count 1 PIECE_LIMIT z) h in
    let q = and_parts (is_count 0 INDEX_LIMIT y) (is_count 1 PIECE_LIMIT z) p.1 in
    ap (λ (k : ℤ). entry_at k (clamped y) (clamped z)) (r.kept p.0) ∙ ap (λ (k : ℤ). entry_at x k (clamped z)) (s.kept q.0)
    ∙ ap (λ (k : ℤ). entry_at x y k) (t.kept q.1)) where
      entry_at : ℤ → ℤ → ℤ → EntryLine
      entry_at i j n = record { indices = Both (unsigned_abs i) (unsigned_abs j); pieces = unsigned_abs n }
three_clamped (Some (w ∷ x ∷ y ∷ z ∷ zs)) =
    sym (no_three (nat_le (length (w ∷ x ∷ y ∷ z ∷ zs)) 8) (clamped w) (clamped x) (clamped y) (clamped z) (map clamped zs))

no_two : (b : Bool) (x y z : ℤ) (zs : List ℤ) → Err Spelling ≡ motion_counts (if b then Some (x ∷ y ∷ z ∷ zs) else None)
no_two true x y z zs = refl
no_two false x y z zs = refl

pub counts_clamped : (o : Option (List ℤ)) → motion_counts (at_most_eight o) ≡ motion_counts o
counts_clamped None = refl
counts_clamped (Some []) = refl
counts_clamped (Some (x ∷ [])) = refl
counts_clamped (Some (x ∷ y ∷ [])) =
    let r = same_count 0 MOTION_LIMIT x (omega arith) in
    let s = same_count 0 MOTION_LIMIT y (omega arith) in
    ranged_same _ _ _ _ (rw (r.same, s.same) refl)
    (λ h. let p = and_parts (is_count 0 MOTION_LIMIT x) (is_count 0 MOTION_LIMIT y) h in
    ap (λ (k : ℤ). counts_at k (clamped y)) (r.kept p.0) ∙ ap (λ (k : ℤ). counts_at x k) (s.kept p.1)) where
      counts_at : ℤ → ℤ → CountsLine
      counts_at m n = record { off = unsigned_abs m; on = unsigned_abs n }
counts_clamped (Some (x ∷ y ∷ z ∷ zs)) = sym (no_two (nat_le (length (x ∷ y ∷ z ∷ zs)) 8) (clamped x) (clamped y) (clamped z) (map clamped zs))
