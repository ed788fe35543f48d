-- Words by letter and value.
use Rattle.std.proofs.Common.{◌≡◌, suc, ℤ, List, [], ◌∷◌, length, filter, cond, Bool, true, false, refl, ap, ◌∙◌}
use Rattle.std.specs.List.{count_by}
use Rattle.std.proofs.lemmas.List.Sums.{length-filter}
use Rattle.ngc_line_reader.specs.declared.letter.Letter.{Letter}
use Rattle.ngc_line_reader.specs.declared.word.Word.{Word}
use Rattle.ngc_modal_state.specs.Block.{is_m_word}
use Rattle.ngc_line_reader.specs.Words.{pair_of, pairs_of}

picked : (b : Bool) (w : Word) (xs : List Word) (ys : List (Letter × ℤ)) → length xs ≡ length ys →
    length (cond b (w ∷ xs) xs) ≡ length (cond b (pair_of w ∷ ys) ys)
picked true w xs ys e = ap suc e
picked false w xs ys e = e

length-filter-pairs_of : (ws : List Word) → length (filter (λ (w : Word). is_m_word w.letter) ws)
    ≡ length (filter (λ (p : Letter × ℤ). is_m_word p.0) (pairs_of ws))
length-filter-pairs_of [] = refl
length-filter-pairs_of (w ∷ ws) = picked (is_m_word w.letter) w _ _ (length-filter-pairs_of ws)

pub counted : (ws : List Word) → length (filter (λ (w : Word). is_m_word w.letter) ws) ≡ count_by (λ (p : Letter × ℤ). is_m_word p.0) (pairs_of ws)
counted ws = length-filter-pairs_of ws ∙ length-filter (λ (p : Letter × ℤ). is_m_word p.0) (pairs_of ws)
