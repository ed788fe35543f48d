-- The content of a line, by its first words.
use Rattle.std.proofs.Common.{◌≡◌, ap, Bool, true, false, Option, None, Result, Err, List, [], ◌∷◌, ℕ, refl, sym, ◌∙◌}
use Rattle.std.specs.Prelude.{ℤ, codes, if◌then◌else◌}
use Rattle.std.specs.Str.{bytes_eq}
use Rattle.ngc_certificate_text.specs.declared.piece.Piece.{Piece}
use Rattle.ngc_certificate_text.specs.declared.lines.LineFlaw.{LineFlaw}
use Rattle.ngc_certificate_text.specs.declared.lines.LineFlaw.TheVariants.{Spelling}
use Rattle.ngc_certificate_text.specs.declared.lines.MotionLine.{MotionLine}
use Rattle.ngc_certificate_text.specs.Number.{fields}
use Rattle.ngc_certificate_text.specs.Lines.{numbers_in, numbers_in_rest, one_count, parsed_setting, two_counts, parsed_motion, line_piece, arc_piece, piece_in}
use Rattle.ngc_certificate_text.specs.Lines.{parsed_piece}

pub word_is : (c : Bool) (o : Option (List ℤ)) → c ≡ true → (if c then o else None) ≡ o
word_is c o e = rw e refl

pub word_not : (c : Bool) (o : Option (List ℤ)) → c ≡ false → (if c then o else None) ≡ None
word_not c o e = rw e refl

pub motion_word : (line word : List ℕ) (fs : List (List ℕ)) (b : Bool) (found : Result MotionLine LineFlaw) → fields line ≡ word ∷ fs →
    b ≡ bytes_eq word (codes "motion") → b ≡ true
    → found ≡ two_counts (numbers_in fs) → found ≡ parsed_motion line
unfolding parsed_motion
motion_word line word fs b found e is h said =
    said ∙ ap two_counts (sym (word_is (bytes_eq word (codes "motion")) (numbers_in fs) (sym is ∙ h)))
    ∙ ap (λ (l : List (List ℕ)). two_counts (numbers_in_rest (codes "motion" ∷ []) l)) (sym e)

pub motion_not_word : (line word : List ℕ) (fs : List (List ℕ)) (b : Bool) → fields line ≡ word ∷ fs → b ≡ bytes_eq word (codes "motion") → b ≡ false →
    Err Spelling ≡ parsed_motion line
unfolding parsed_motion
motion_not_word line word fs b e is h =
    ap two_counts (sym (word_not (bytes_eq word (codes "motion")) (numbers_in fs) (sym is ∙ h)))
    ∙ ap (λ (l : List (List ℕ)). two_counts (numbers_in_rest (codes "motion" ∷ []) l)) (sym e)

piece_by : (c d : Bool) (x y z : Result Piece LineFlaw) → c ≡ true → x ≡ (if c then x else if d then y else z)
piece_by c d x y z e = rw e refl

piece_or : (c d : Bool) (x y z : Result Piece LineFlaw) → c ≡ false → d ≡ true → y ≡ (if c then x else if d then y else z)
piece_or c d x y z e f = rw (e, f) refl

piece_else : (c d : Bool) (x y z : Result Piece LineFlaw) → c ≡ false → d ≡ false → z ≡ (if c then x else if d then y else z)
piece_else c d x y z e f = rw (e, f) refl

pub piece_line_word : (line word : List ℕ) (fs : List (List ℕ)) (b : Bool) (found : Result Piece LineFlaw) → fields line ≡ word ∷ fs →
    b ≡ bytes_eq word (codes "line") → b ≡ true
    → found ≡ line_piece (numbers_in fs) → found ≡ parsed_piece line
unfolding parsed_piece
piece_line_word line word fs b found e is h said =
    said ∙ piece_by (bytes_eq word (codes "line")) (bytes_eq word (codes "arc")) (line_piece (numbers_in fs)) (arc_piece (numbers_in fs)) (Err Spelling)
    (sym is ∙ h) ∙ ap piece_in (sym e)

pub piece_arc_word : (line word : List ℕ) (fs : List (List ℕ)) (b d : Bool) (found : Result Piece LineFlaw) → fields line ≡ word ∷ fs →
    b ≡ bytes_eq word (codes "line") → b ≡ false
    → d ≡ bytes_eq word (codes "arc") → d ≡ true → found ≡ arc_piece (numbers_in fs) → found ≡ parsed_piece line
unfolding parsed_piece
piece_arc_word line word fs b d found e is h dis k said =
    said ∙ piece_or (bytes_eq word (codes "line")) (bytes_eq word (codes "arc")) (line_piece (numbers_in fs)) (arc_piece (numbers_in fs)) (Err Spelling)
    (sym is ∙ h) (sym dis ∙ k) ∙ ap piece_in (sym e)

pub piece_no_word : (line word : List ℕ) (fs : List (List ℕ)) (b d : Bool) → fields line ≡ word ∷ fs → b ≡ bytes_eq word (codes "line") → b ≡ false
    → d ≡ bytes_eq word (codes "arc") → d ≡ false → Err Spelling ≡ parsed_piece line
unfolding parsed_piece
piece_no_word line word fs b d e is h dis k =
    piece_else (bytes_eq word (codes "line")) (bytes_eq word (codes "arc")) (line_piece (numbers_in fs)) (arc_piece (numbers_in fs)) (Err Spelling) (sym is ∙ h)
    (sym dis ∙ k) ∙ ap piece_in (sym e)

pub setting_words : (name line word found : List ℕ) (fs gs : List (List ℕ)) (b d : Bool) (count : Result ℕ LineFlaw) → fields line ≡ word ∷ fs → fs ≡ found ∷ gs
    → b ≡ bytes_eq word (codes "setting") → b ≡ true → d ≡ bytes_eq found name → d ≡ true → count ≡ one_count (numbers_in gs) → count ≡ parsed_setting name line
unfolding parsed_setting
setting_words name line word found fs gs b d count e f is h dis k said =
    said ∙ ap one_count (sym (word_is (bytes_eq found name) (numbers_in gs) (sym dis ∙ k)))
    ∙ ap one_count (sym (word_is (bytes_eq word (codes "setting")) (numbers_in_rest (name ∷ []) (found ∷ gs)) (sym is ∙ h)))
    ∙ ap (λ (l : List (List ℕ)). one_count (numbers_in_rest (codes "setting" ∷ name ∷ []) l)) (sym (e ∙ ap (λ (l : List (List ℕ)). word ∷ l) f))

pub setting_no_word : (name line word : List ℕ) (fs : List (List ℕ)) (b : Bool) → fields line ≡ word ∷ fs → b ≡ bytes_eq word (codes "setting") → b ≡ false →
    Err Spelling ≡ parsed_setting name line
unfolding parsed_setting
setting_no_word name line word fs b e is h =
    ap one_count (sym (word_not (bytes_eq word (codes "setting")) (numbers_in_rest (name ∷ []) fs) (sym is ∙ h)))
    ∙ ap (λ (l : List (List ℕ)). one_count (numbers_in_rest (codes "setting" ∷ name ∷ []) l)) (sym e)

abbrev none : Option (List ℤ)
none = None

never : (c : Bool) → (if c then none else none) ≡ none
never true = refl
never false = refl

pub setting_no_name : (name line word found : List ℕ) (fs gs : List (List ℕ)) (d : Bool) → fields line ≡ word ∷ fs → fs ≡ found ∷ gs →
    d ≡ bytes_eq found name → d ≡ false
    → Err Spelling ≡ parsed_setting name line
unfolding parsed_setting
setting_no_name name line word found fs gs d e f dis k =
    ap one_count (sym (never (bytes_eq word (codes "setting"))))
    ∙ ap (λ (o : Option (List ℤ)). one_count (if bytes_eq word (codes "setting") then o else None))
    (sym (word_not (bytes_eq found name) (numbers_in gs) (sym dis ∙ k)))
    ∙ ap (λ (l : List (List ℕ)). one_count (numbers_in_rest (codes "setting" ∷ name ∷ []) l)) (sym (e ∙ ap (λ (l : List (List ℕ)). word ∷ l) f))

pub setting_short : (name line word : List ℕ) (fs : List (List ℕ)) → fields line ≡ word ∷ fs → fs ≡ [] → Err Spelling ≡ parsed_setting name line
unfolding parsed_setting
setting_short name line word fs e f =
    ap one_count (sym (never (bytes_eq word (codes "setting"))))
    ∙ ap (λ (l : List (List ℕ)). one_count (numbers_in_rest (codes "setting" ∷ name ∷ []) l)) (sym (e ∙ ap (λ (l : List (List ℕ)). word ∷ l) f))
