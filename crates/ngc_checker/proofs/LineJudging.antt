-- The judge's state after a line.
use Rattle.std.proofs.Common.{◌≡◌, ℕ, zero, suc, ◌-◌, ap, Bool, true, false, Result, Ok, Err, refl, sym, ◌∙◌, arith}
use Rattle.std.specs.Prelude.{nat_le}
use Rattle.std.proofs.lemmas.Bool.Decides.{nat_tests}
use Rattle.ngc_certificate_text.specs.declared.expected.Expected.{Expected}
use Rattle.ngc_certificate_text.specs.declared.expected.BegunMotion.{BegunMotion}
use Rattle.ngc_certificate_text.specs.declared.fault.CertificateFault.{CertificateFault}
use Rattle.ngc_certificate_text.specs.declared.expected.RemainingEntries.{RemainingEntries}
use Rattle.ngc_certificate_text.specs.declared.expected.RemainingMotions.{RemainingMotions}
use Rattle.ngc_certificate_text.specs.declared.expected.RemainingMotions.TheVariants.{Parted, Joined}
use Rattle.ngc_certificate_text.specs.declared.line_content.Version.{Version}
use Rattle.ngc_certificate_text.specs.declared.line_content.Version.TheVariants.{One, Two}
use Rattle.ngc_certificate_text.specs.declared.piece.Setting.TheVariants.{Off, On}
use Rattle.ngc_certificate_text.specs.declared.line_content.LineContent.{LineContent}
use Rattle.ngc_certificate_text.specs.declared.line_content.LineContent.TheVariants as content_kind
use Rattle.ngc_certificate_text.specs.Ahead.{Rest, Left, made_with, next_of_entries, next_of_motions, IsSound}
use Rattle.ngc_certificate_text.specs.EntryLines.{none_left}
use Rattle.ngc_certificate_text.specs.LineContent.{onto, Fits, IsFront, after_piece, after_content, after_version, IsNext}
use Rattle.ngc_checker.specs.Judging.{JudgeData, MayJudge, remaining_after, left_of, IsAt}

next_left_of : (m : RemainingMotions) → left_of (next_of_motions m) ≡ 0
next_left_of (Parted Off zero) = refl
next_left_of (Parted On zero) = refl
next_left_of (Parted s (suc n)) = refl
next_left_of (Joined left) = entries_left (none_left left) left where
  entries_left : (none : Bool) (e : RemainingEntries) → left_of (next_of_entries none e) ≡ 0
  entries_left true e = refl
  entries_left false e = refl

version_left_of : (v : Version) → left_of (after_version v) ≡ 0
version_left_of One = refl
version_left_of Two = refl

piece_at : (b : BegunMotion) (last : Bool) → nat_le b.pieces_left 1 ≡ last → b.pieces_left - 1 ≡ left_of (after_piece last b)
piece_at b true e = let none : b.pieces_left - 1 ≡ 0 = grind (arith, nat_tests) in none ∙ sym (next_left_of b.afterwards)
piece_at b false e = refl

pub judged_at : (e : Expected) (line_content : LineContent) (old new : JudgeData) → IsNext e line_content → IsAt e old → new.left ≡ remaining_after line_content old.left →
    IsAt (after_content line_content) new
judged_at e (content_kind.Header v) old new is at done = done ∙ at ∙ ap left_of is ∙ sym (version_left_of v)
judged_at e (content_kind.Setting s n) old new is at done = done ∙ at ∙ ap left_of is.0 ∙ sym (next_left_of (Parted s n))
judged_at e (content_kind.Counts off on) old new is at done =
    done ∙ at ∙ ap left_of is.0 ∙ sym (next_left_of (Joined (record { off = off; on = on; after_on = false })))
judged_at e (content_kind.Motion b) old new is at done = done
judged_at e (content_kind.Piece b p) old new is at done = done ∙ piece_at b (nat_le b.pieces_left 1) refl
judged_at e content_kind.End old new is at done = done ∙ at ∙ ap left_of is

pub may_judge : (e : Expected) (number : ℕ) (line_content : LineContent) (v : JudgeData) → IsSound e number → IsNext e line_content → IsAt e v → MayJudge line_content v
may_judge e number (content_kind.Header v) w sound is at = tt
may_judge e number (content_kind.Setting s n) v sound is at = tt
may_judge e number (content_kind.Counts off on) v sound is at = tt
may_judge e number (content_kind.Motion b) v sound is at = (at ∙ ap left_of is.expected, is.some, is.few)
may_judge e number (content_kind.Piece b p) v sound is at = (at ∙ ap left_of is.0, sound.piece b is.0)
may_judge e number content_kind.End v sound is at = tt

-- ---- a value that is made from a text

pub front_judged : {X : Type 0} (line_content : LineContent) (f g : Rest → X) (before after : Left) → ((r : Rest) → Fits line_content r → f (onto line_content r) ≡ g r) →
    IsFront line_content before after → made_with f before ≡ made_with g after
front_judged {X} line_content f g before (Ok r) h front = ap (made_with f) front.0 ∙ ap (λ (x : X). all_made x) (h r front.1) where
  all_made : {Y : Type 0} → Y → Result Y CertificateFault
  all_made y = Ok y
front_judged line_content f g before (Err fault) h front = ap (made_with f) front

pub made_twice : {X Y Z : Type 0} (f : Y → Z) (g : X → Y) (k : X → Z) (o : Result X CertificateFault) → ((x : X) → f (g x) ≡ k x) →
    made_with f (made_with g o) ≡ made_with k o
made_twice {Z = Z} f g k (Ok x) h = ap (λ (z : Z). all_made z) (h x) where
  all_made : {W : Type 0} → W → Result W CertificateFault
  all_made w = Ok w
made_twice f g k (Err fault) h = refl
