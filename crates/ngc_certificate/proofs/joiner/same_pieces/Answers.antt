use Rattle.std.proofs.Common.{rules, ◌≡◌, true, false, ap, subst, sym, ◌∙◌}
use Rattle.std.specs.Bool.{Decides}
use Rattle.std.proofs.lemmas.Bool.{and_from, and_parts}
use Rattle.std.proofs.lemmas.Slice.Eq.{slice_eq-Decides}
use Rattle.ngc_fixed_length.specs.declared.points.GridBox.{GridBox}
use Rattle.ngc_fixed_length.specs.declared.points.StepPos.{StepPos}
use Rattle.ngc_fixed_length.specs.contracts.points.GridBoxPartialEq.TheImpl as boxes
use Rattle.ngc_fixed_length.specs.contracts.points.StepPosPartialEq.TheImpl as steps
use Rattle.ngc_certificate_text.specs.declared.piece.Cut.{Cut}
use Rattle.ngc_certificate_text.specs.declared.piece.Cut.TheVariants.{Part, Place}
use Rattle.ngc_certificate_text.specs.declared.piece.Piece.{Piece}
use Rattle.ngc_certificate_text.specs.contracts.piece.CutPartialEq.TheImpl as cuts
use Rattle.ngc_certificate_text.specs.contracts.piece.PiecePartialEq.TheImpl as derived
use Rattle.ngc_certificate.proofs.joiner.same_pieces.Goals as goal

steps_are : (p q : StepPos) → (steps.eq-value).it p q ≡ true → p ≡ q
steps_are p q h = search rules

cut_is : (p q : Cut) → (cuts.eq-value).it p q ≡ true → p ≡ q
cut_is (Part s) (Part t) h = search rules
cut_is (Part s) (Place q) h = absurd (cc h)
cut_is (Place p) (Part t) h = absurd (cc h)
cut_is (Place p) (Place q) h = search rules

abbrev piece_with : Cut → GridBox → Piece
piece_with cut bounds = record { end = cut; bounds = bounds }

abbrev box_with : StepPos → StepPos → GridBox
box_with low high = record { low = low; high = high }

box_is : (p q : GridBox) → (boxes.eq-value).it p q ≡ true → p ≡ q
box_is p q h =
    let k = and_parts ((steps.eq-value).it p.low q.low) ((steps.eq-value).it p.high q.high) h in
    ap (λ (x : StepPos). box_with x p.high) (steps_are p.low q.low k.0) ∙ ap (λ (x : StepPos). box_with q.low x) (steps_are p.high q.high k.1)

one_piece : (p q : Piece) → (derived.eq-value).it p q ≡ true → p ≡ q
one_piece p q h =
    let k = and_parts ((cuts.eq-value).it p.end q.end) ((boxes.eq-value).it p.bounds q.bounds) h in
    ap (λ (x : Cut). piece_with x p.bounds) (cut_is p.end q.end k.0) ∙ ap (λ (x : GridBox). piece_with q.end x) (box_is p.bounds q.bounds k.1)

steps_same : (p : StepPos) → (steps.eq-value).it p p ≡ true
steps_same p = search rules

cut_same : (p : Cut) → (cuts.eq-value).it p p ≡ true
cut_same (Part s) = search rules
cut_same (Place p) = search rules

box_same : (p : GridBox) → (boxes.eq-value).it p p ≡ true
box_same p = and_from ((steps.eq-value).it p.low p.low) ((steps.eq-value).it p.high p.high) (steps_same p.low) (steps_same p.high)

piece_same : (p : Piece) → (derived.eq-value).it p p ≡ true
piece_same p = and_from ((cuts.eq-value).it p.end p.end) ((boxes.eq-value).it p.bounds p.bounds) (cut_same p.end) (box_same p.bounds)

same_piece : (p q : Piece) → p ≡ q → (derived.eq-value).it p q ≡ true
same_piece p q e = subst (λ (x : Piece). (derived.eq-value).it p x ≡ true) e (piece_same p)

piece_is : (p q : Piece) → Decides ((derived.eq-value).it p q) (p ≡ q)
piece_is p q = (one_piece p q, same_piece p q)

true_false : true ≡ false → ⊥
true_false e = cc e

pub returns-clause-yes : goal.returns-clause-yes
returns-clause-yes c = (slice_eq-Decides piece_is c.args.a.now c.args.b.now c.eq.result c.eq.ensures).0

pub returns-clause-no : goal.returns-clause-no
returns-clause-no c = λ differ same. true_false (sym ((slice_eq-Decides piece_is c.args.a.now c.args.b.now c.eq.result c.eq.ensures).1 same) ∙ differ)
