-- A certificate's text, while its parts are collected and written.
use Rattle.std.proofs.Common.{◌≡◌, ◌<◌, ℕ, List, [], ◌++◌, length, get_or, codes, decimal, Option, ap, sym, subst, ◌∙◌}
use Rattle.std.proofs.lemmas.List.{append_assoc, get_or_default}
use Rattle.ngc_text.specs.Written.{AppendsPrefix}
use Rattle.ngc_text.specs.Collected.{WritesPrefix}
use Rattle.ngc_certificate_text.specs.Certificate.{Entry, entry_at, no_piece, piece_at}
use Rattle.ngc_certificate_text.specs.declared.expected.Indices.{Indices}
use Rattle.ngc_certificate_text.specs.Spelling.{motion_line, item_line}
use Rattle.ngc_certificate_text.specs.declared.piece.Piece.{Piece}
use Rattle.ngc_certificate_text.proofs.CollectedTexts.{front_more, front_moved, front_stopped, longer, beginning_written}

-- the motion at an index, and a piece of it
pub entry_there : (entries : List Entry) (i : ℕ) → i < length entries → entry_at entries i ≡ get_or entries i (entry_at entries i)
entry_there entries i inside = get_or_default entries i (record { index = 0; pieces = [] }) (entry_at entries i) inside

pub piece_found : (entries : List Entry) (i k : ℕ) (p : Piece) → k < length (entry_at entries i).pieces → p ≡ piece_at entries i k →
    p ≡ get_or (entry_at entries i).pieces k p
piece_found entries i k p inside is = is ∙ get_or_default (entry_at entries i).pieces k no_piece p inside

-- the first line of a motion's text, by its numbers
pub motion_numbered : (entries : List Entry) (i index pieces : ℕ) (made lined : List ℕ) → index ≡ (entry_at entries i).index →
    pieces ≡ length (entry_at entries i).pieces → lined ≡ made ++ motion_line index pieces →
    lined ≡ made ++ motion_line (entry_at entries i).index (length (entry_at entries i).pieces)
motion_numbered entries i index pieces made lined is_index count h =
    h ∙ ap (λ (n : ℕ). made ++ motion_line n pieces) is_index ∙ ap (λ (n : ℕ). made ++ motion_line (entry_at entries i).index n) count

pub item_numbered : (entries : List Entry) (i : ℕ) (indices : Indices) (pieces : ℕ) (made lined : List ℕ) →
    pieces ≡ length (entry_at entries i).pieces → lined ≡ made ++ item_line indices pieces →
    lined ≡ made ++ item_line indices (length (entry_at entries i).pieces)
item_numbered entries i indices pieces made lined count h = h ∙ ap (λ (n : ℕ). made ++ item_line indices n) count

abbrev setting_line : List ℕ → ℕ → List ℕ
setting_line name motions = codes "setting " ++ name ++ codes " " ++ decimal motions ++ codes "\n"

pub counted : (name made lined : List ℕ) (motions : ℕ) (entries : List Entry) → motions ≡ length entries → lined ≡ made ++ setting_line name motions
    → lined ≡ made ++ setting_line name (length entries)
counted name made lined motions entries is h = h ∙ ap (λ (n : ℕ). made ++ setting_line name n) is

-- ---- the parts of the text, in order

joined : (before head off on foot : List ℕ) → (((before ++ head) ++ off) ++ on) ++ foot ≡ before ++ (((head ++ off) ++ on) ++ foot)
joined before head off on foot = simp append_assoc

pub stopped_in_first : (old new : Option (List ℕ)) (before headed head off on foot : List ℕ) → headed ≡ before ++ head
    → AppendsPrefix old new (headed ++ off) → AppendsPrefix old new (before ++ (((head ++ off) ++ on) ++ foot))
stopped_in_first old new before headed head off on foot is k =
    let so_far : AppendsPrefix old new ((before ++ head) ++ off) = subst (λ (l : List ℕ). AppendsPrefix old new (l ++ off)) is k in
    subst (λ (l : List ℕ). AppendsPrefix old new l) (joined before head off on foot)
    (longer old new (((before ++ head) ++ off) ++ on) foot (longer old new ((before ++ head) ++ off) on so_far))

pub stopped_in_second : (old mid new : Option (List ℕ)) (before headed between head off on foot : List ℕ) → headed ≡ before ++ head
    → WritesPrefix old mid (headed ++ off) between → AppendsPrefix mid new (between ++ on) →
    AppendsPrefix old new (before ++ (((head ++ off) ++ on) ++ foot))
stopped_in_second old mid new before headed between head off on foot is h k =
    let so_far : AppendsPrefix old new (((before ++ head) ++ off) ++ on) =
    subst (λ (l : List ℕ). AppendsPrefix old new ((l ++ off) ++ on)) is (front_stopped old mid new (headed ++ off) between on h k) in
    subst (λ (l : List ℕ). AppendsPrefix old new l) (joined before head off on foot) (longer old new (((before ++ head) ++ off) ++ on) foot so_far)

both_written : (old mid new : Option (List ℕ)) (before headed between after head off on : List ℕ) → headed ≡ before ++ head
    → WritesPrefix old mid (headed ++ off) between → WritesPrefix mid new (between ++ on) after → WritesPrefix old new (((before ++ head) ++ off) ++ on) after
both_written old mid new before headed between after head off on is h k =
    subst (λ (l : List ℕ). WritesPrefix old new ((l ++ off) ++ on) after) is (front_more old mid new (headed ++ off) between after on h k)

pub stopped_behind : (old mid late new : Option (List ℕ)) (before headed between after head off on foot : List ℕ) → headed ≡ before ++ head
    → WritesPrefix old mid (headed ++ off) between → WritesPrefix mid late (between ++ on) after → AppendsPrefix late new after
    → AppendsPrefix old new (before ++ (((head ++ off) ++ on) ++ foot))
stopped_behind old mid late new before headed between after head off on foot is h k part =
    subst (λ (l : List ℕ). AppendsPrefix old new l) (joined before head off on foot)
    (longer old new (((before ++ head) ++ off) ++ on) foot
    (beginning_written old late new (((before ++ head) ++ off) ++ on) after (both_written old mid late before headed between after head off on is h k) part))

pub made_whole : (old mid late new : Option (List ℕ)) (before headed between after made footed head off on foot : List ℕ) → headed ≡ before ++ head
    → WritesPrefix old mid (headed ++ off) between → WritesPrefix mid late (between ++ on) after → WritesPrefix late new after made → footed ≡ made ++ foot
    → WritesPrefix old new (before ++ (((head ++ off) ++ on) ++ foot)) footed
made_whole old mid late new before headed between after made footed head off on foot is h k room last =
    subst (λ (l : List ℕ). WritesPrefix old new l footed) (joined before head off on foot)
    (subst (λ (l : List ℕ). WritesPrefix old new ((((before ++ head) ++ off) ++ on) ++ foot) l) (sym last)
    (front_moved old late new (((before ++ head) ++ off) ++ on) after made foot
    (both_written old mid late before headed between after head off on is h k) room))
