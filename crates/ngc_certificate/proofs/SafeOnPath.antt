-- Each point of a path of a motion with valid pieces is safe.
use Rattle.std.proofs.Common.{◌≡◌, ℕ, zero, suc, ◌<◌, ◌⊎◌, inl, inr, ap, subst, sym, arith, refl, List, [], ◌∷◌, length, map, true, false, pos, ◌≤ℤ◌}
use Rattle.std.specs.Prelude.{Option, Any, Bool, nat_lt, slice_index_or}
use Rattle.ngc_fixed_length.specs.declared.points.StepPos.{StepPos}
use Rattle.ngc_fixed_length.specs.declared.points.GridBox.{GridBox}
use Rattle.ngc_fixed_length.specs.LinePath.{point}
use Rattle.ngc_fixed_length.specs.Boxes.{IsIn}
use Rattle.ngc_machine_files.specs.declared.tools.Tool.{Tool}
use Rattle.ngc_machine_files.specs.Machine.{MachineFile}
use Rattle.ngc_commands.specs.declared.movement.Way.{Way}
use Rattle.ngc_collision.specs.Body.{IsSafe}
use Rattle.ngc_certificate_text.specs.declared.piece.Cut.{Cut}
use Rattle.ngc_certificate_text.specs.declared.piece.Piece.{Piece}
use Rattle.ngc_certificate.specs.Chain.{ChainFrom, stretch, first_cut, are_several}
use Rattle.ngc_certificate.specs.DerivedBox.{derived_box, boxes_from}
use Rattle.ngc_certificate.specs.PieceFault.{AreValidFrom}
use Rattle.ngc_certificate.specs.Covered.{SafeOnPath}
use Rattle.ngc_certificate.proofs.CoveredLaw.{covered}
use Rattle.ngc_certificate.proofs.SafeInPiece.{safe_in_piece}

abbrev end_of : Piece → Cut
end_of p = p.end

chain_of : (machine : MachineFile) (tool : Option Tool) (w : Way) (several : Bool) (begin : Cut) (ps : List Piece) →
    AreValidFrom machine tool w several begin ps → ChainFrom machine.step w several begin (map end_of ps)
chain_of machine tool w several begin [] v = v
chain_of machine tool w several begin (p ∷ []) v = v.chain
chain_of machine tool w several begin (p ∷ q ∷ ps) v = (v.0.chain, chain_of machine tool w several p.end (q ∷ ps) v.1)

split_any : (P : GridBox → Type 0) (b : GridBox) (bs : List GridBox) (k : ℕ) (x : GridBox) → k < length (b ∷ bs) → slice_index_or (b ∷ bs) k x ≡ x → P x →
    P b ⊎ Any P bs
split_any P b bs zero x l e h = inl (subst P (sym e) h)
split_any P b bs (suc k) x l e h = inr (k, x, omega (arith, l), e, h)

safe_in_some : (machine : MachineFile) (tool : Option Tool) (w : Way) (q : StepPos) → pos 1 ≤ℤ machine.step →
    (several : Bool) (begin : Cut) (ps : List Piece) → AreValidFrom machine tool w several begin ps →
    Any (λ b. IsIn b q) (boxes_from machine.step w several begin (map end_of ps)) → IsSafe machine tool q
safe_in_some machine tool w q s several begin [] v a = absurd v
safe_in_some machine tool w q s several begin (p ∷ []) v a =
    elim (split_any (λ b. IsIn b q) (derived_box machine.step w (stretch several true begin) p.end) [] a.0 a.1 a.2 a.3 a.4) [
      | inl k ↦ safe_in_piece machine tool w (stretch several true begin) p q s v k
      | inr none ↦ absurd (omega (arith, none.2))
    ]
safe_in_some machine tool w q s several begin (p ∷ r ∷ ps) v a =
    elim (split_any (λ b. IsIn b q) (derived_box machine.step w (stretch several false begin) p.end)
    (boxes_from machine.step w several p.end (map end_of (r ∷ ps))) a.0 a.1 a.2 a.3 a.4) [
      | inl k ↦ safe_in_piece machine tool w (stretch several false begin) p q s v.0 k
      | inr later ↦ safe_in_some machine tool w q s several p.end (r ∷ ps) v.1 later
    ]

length_map : (ps : List Piece) → length (map end_of ps) ≡ length ps
length_map [] = refl
length_map (p ∷ ps) = ap suc (length_map ps)

pub safe_on_path : SafeOnPath
safe_on_path machine tool w ps path k s even v way l =
    let e : are_several (map end_of ps) ≡ are_several ps = ap (nat_lt 1) (length_map ps) in
    let chain = subst (λ b. ChainFrom machine.step w b (first_cut w) (map end_of ps)) (sym e) (chain_of machine tool w (are_several ps) (first_cut w) ps v) in
    let a = covered machine.step w (map end_of ps) path k s even chain way l in
    safe_in_some machine tool w (point path k) s (are_several ps) (first_cut w) ps v
    (subst (λ b. Any (λ bounds. IsIn bounds (point path k)) (boxes_from machine.step w b (first_cut w) (map end_of ps))) e a)
