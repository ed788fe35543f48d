-- A whole picture, from its parts.
use Rattle.std.proofs.Common.{◌≡◌, ℕ, List, ◌++◌, Option, subst}
use Rattle.std.specs.Io.KnownBytes.{Appends}
use Rattle.ngc_text.specs.Written.{AppendsPrefix}
use Rattle.ngc_text.proofs.AppendedTexts.{appends_both}
use Rattle.ngc_map_picture.specs.Blocks.{stream}
use Rattle.ngc_map_picture.specs.Png.{last_chunk, png, settings, signature}
use Rattle.ngc_map_picture.specs.Maps.{height, map_picture, palette, scanlines, width}
use Rattle.ngc_map_picture.specs.declared.relief.Relief.{Relief}
use Rattle.ngc_map_picture.proofs.Written.{begins_last, prefix_longer}

-- what a picture of this size begins with, and the rest of it
abbrev pub front_of : ℕ → ℕ → List ℕ
front_of w h = signature ++ settings w h palette

abbrev pub rest_of : Relief → List ℕ
rest_of r = stream (scanlines r 0 (height r)) ++ last_chunk

pub whole_picture : (old mid new : Option (List ℕ)) (r : Relief) (w h : ℕ) → w ≡ width r → h ≡ height r → Appends old mid (front_of w h) →
    Appends mid new (rest_of r) → Appends old new (map_picture r)
unfolding map_picture png
whole_picture old mid new r w h wide high front rest =
    let P : ℕ → Type 0 = λ n. Appends old mid (front_of n h) in
    let Q : ℕ → Type 0 = λ n. Appends old mid (front_of (width r) n) in
    appends_both old mid new (front_of (width r) (height r)) (rest_of r) (subst Q high (subst P wide front)) rest

pub stopped_in_rest : (old mid new : Option (List ℕ)) (r : Relief) (w h : ℕ) → w ≡ width r → h ≡ height r → Appends old mid (front_of w h) →
    AppendsPrefix mid new (rest_of r) → AppendsPrefix old new (map_picture r)
unfolding map_picture png
stopped_in_rest old mid new r w h wide high front stop =
    let P : ℕ → Type 0 = λ n. Appends old mid (front_of n h) in
    let Q : ℕ → Type 0 = λ n. Appends old mid (front_of (width r) n) in
    begins_last old mid new (front_of (width r) (height r)) (rest_of r) (subst Q high (subst P wide front)) stop

pub stopped_in_front : (old new : Option (List ℕ)) (r : Relief) (w h : ℕ) → w ≡ width r → h ≡ height r → AppendsPrefix old new (front_of w h) →
    AppendsPrefix old new (map_picture r)
unfolding map_picture png
stopped_in_front old new r w h wide high stop =
    let P : ℕ → Type 0 = λ n. AppendsPrefix old new (front_of n h) in
    let Q : ℕ → Type 0 = λ n. AppendsPrefix old new (front_of (width r) n) in
    prefix_longer old new (front_of (width r) (height r)) (rest_of r) (subst Q high (subst P wide stop))
