-- The progress of drawing shapes that others follow.
use Rattle.std.proofs.Common.{◌≡◌, ℕ, ℤ, List, [], ◌++◌, Option, Some, None, Result, Ok, Err, ap, sym, subst, ◌∙◌, refl}
use Rattle.std.proofs.lemmas.List.{append_assoc, append-nil}
use Rattle.std.proofs.lemmas.List.Concat.{flat_map-append}
use Rattle.std.specs.Io.KnownBytes.{Appends}
use Rattle.ngc_text.specs.Written.{AppendsPrefix}
use Rattle.ngc_text.specs.declared.writing.WriteFault.{WriteFault}
use Rattle.ngc_text.specs.Collected.{WritesPrefix}
use Rattle.ngc_certificate_text.proofs.CollectedTexts.{front_more, front_stopped, longer}
use Rattle.ngc_picture_shapes.specs.Draws.{Draws}
use Rattle.ngc_picture_shapes.specs.Spelling.{shape_text, shapes_text}
use Rattle.ngc_picture_shapes.specs.declared.shape.Shape.{Shape}

-- some shapes of the whole are drawn, and the rest follows
pub record Ahead (unit : ℤ) (old now : Option (List ℕ)) (before chunk : List ℕ) (rest whole : List Shape) : Type 0 where
  pub done : List Shape
  pub splits : whole ≡ done ++ rest
  pub front : WritesPrefix old now (before ++ shapes_text unit done) chunk

joined : (unit : ℤ) (before : List ℕ) (a b : List Shape) → (before ++ shapes_text unit a) ++ shapes_text unit b ≡ before ++ shapes_text unit (a ++ b)
joined unit before a b =
    append_assoc before (shapes_text unit a) (shapes_text unit b) ∙ ap (λ l. before ++ l) (sym (flat_map-append (shape_text unit) a b))

-- nothing is drawn yet
pub appends_none : (o : Option (List ℕ)) → Appends o o []
appends_none None = tt
appends_none (Some xs) = sym (append-nil xs)

pub begun : (unit : ℤ) (old : Option (List ℕ)) (before : List ℕ) (whole : List Shape) → Ahead unit old old before before whole whole
begun unit old before whole = record { done = []; splits = refl; front = ([], appends_none old, append-nil before) }

-- some more are drawn
pub went : (unit : ℤ) (old mid new : Option (List ℕ)) (before between after : List ℕ) (more rest left whole : List Shape) → left ≡ more ++ rest
    → Ahead unit old mid before between left whole → WritesPrefix mid new (between ++ shapes_text unit more) after → Ahead unit old new before after rest whole
went unit old mid new before between after more rest left whole is h k = record {
  done = h.done ++ more;
  splits = h.splits ∙ ap (λ l. h.done ++ l) is ∙ sym (append_assoc h.done more rest);
  front =
      subst (λ (l : List ℕ). WritesPrefix old new l after) (joined unit before h.done more)
      (front_more old mid new (before ++ shapes_text unit h.done) between after (shapes_text unit more) h.front k);
}

-- a write fails while they are drawn
pub stopped : (unit : ℤ) (old mid new : Option (List ℕ)) (before between : List ℕ) (more rest left whole : List Shape) → left ≡ more ++ rest
    → Ahead unit old mid before between left whole → AppendsPrefix mid new (between ++ shapes_text unit more) →
    AppendsPrefix old new (before ++ shapes_text unit whole)
stopped unit old mid new before between more rest left whole is h k =
    let so_far : AppendsPrefix old new (before ++ shapes_text unit (h.done ++ more)) =
    subst (λ (l : List ℕ). AppendsPrefix old new l) (joined unit before h.done more)
    (front_stopped old mid new (before ++ shapes_text unit h.done) between (shapes_text unit more) h.front k) in
    let all : (h.done ++ more) ++ rest ≡ whole = append_assoc h.done more rest ∙ ap (λ l. h.done ++ l) (sym is) ∙ sym h.splits in
    subst (λ (l : List ℕ). AppendsPrefix old new l) (joined unit before (h.done ++ more) rest ∙ ap (λ l. before ++ shapes_text unit l) all)
    (longer old new (before ++ shapes_text unit (h.done ++ more)) (shapes_text unit rest) so_far)

-- the last are drawn, or not
pub last : (r : Result (Unit {0}) WriteFault) (unit : ℤ) (old mid new : Option (List ℕ)) (before between after : List ℕ) (left whole : List Shape)
    → Ahead unit old mid before between left whole → Draws unit mid new between after r left → Draws unit old new before after r whole
last (Ok u) unit old mid new before between after left whole h k =
    subst (λ (l : List ℕ). WritesPrefix old new l after) (joined unit before h.done left ∙ ap (λ l. before ++ shapes_text unit l) (sym h.splits))
    (front_more old mid new (before ++ shapes_text unit h.done) between after (shapes_text unit left) h.front k)
last (Err e) unit old mid new before between after left whole h k =
    stopped unit old mid new before between left [] left whole (sym (append-nil left)) h k

-- nothing is left
pub finished : (unit : ℤ) (old now : Option (List ℕ)) (before chunk : List ℕ) (rest whole : List Shape) → rest ≡ []
    → Ahead unit old now before chunk rest whole → WritesPrefix old now (before ++ shapes_text unit whole) chunk
finished unit old now before chunk rest whole none h =
    subst (λ (l : List ℕ). WritesPrefix old now l chunk)
    (ap (λ l. before ++ shapes_text unit l) (sym (h.splits ∙ ap (λ l. h.done ++ l) none ∙ append-nil h.done))) h.front

-- some are drawn, and then the others, or not
pub both : (r : Result (Unit {0}) WriteFault) (unit : ℤ) (old mid new : Option (List ℕ)) (before between after : List ℕ) (a b whole : List Shape) →
    a ++ b ≡ whole
    → WritesPrefix old mid (before ++ shapes_text unit a) between → Draws unit mid new between after r b → Draws unit old new before after r whole
both r unit old mid new before between after a b whole is h k =
    last r unit old mid new before between after b whole (record { done = a; splits = sym is; front = h }) k

-- a write fails while the first are drawn
pub cut_short : (unit : ℤ) (old new : Option (List ℕ)) (before : List ℕ) (a b whole : List Shape) → a ++ b ≡ whole
    → AppendsPrefix old new (before ++ shapes_text unit a) → AppendsPrefix old new (before ++ shapes_text unit whole)
cut_short unit old new before a b whole is h =
    subst (λ (l : List ℕ). AppendsPrefix old new l) (joined unit before a b ∙ ap (λ l. before ++ shapes_text unit l) is)
    (longer old new (before ++ shapes_text unit a) (shapes_text unit b) h)
