-- The refusal of the remaining pieces, one piece at a time.
use Rattle.std.proofs.Common.{◌≡◌, ℕ, ◌+◌, ◌-◌, ◌<◌, List, [], ◌∷◌, length, drop, get_or, Option, Some, None, Bool, true, false, nat_eq, refl, sym, ◌∙◌, ap}
use Rattle.std.proofs.Common.{arith, add-one, drop-cons, length-drop}
use Rattle.std.specs.Option.{option_map}
use Rattle.std.proofs.lemmas.Bool.Decides.{nat_tests}
use Rattle.ngc_machine_files.specs.declared.tools.Tool.{Tool}
use Rattle.ngc_machine_files.specs.Machine.{MachineFile}
use Rattle.ngc_commands.specs.declared.movement.Way.{Way}
use Rattle.ngc_certificate_text.specs.declared.piece.Cut.{Cut}
use Rattle.ngc_certificate_text.specs.declared.piece.Piece.{Piece}
use Rattle.ngc_certificate.specs.declared.fault.PieceFault.{PieceFault}
use Rattle.ngc_certificate.specs.declared.fault.PieceRefusal.{PieceRefusal}
use Rattle.ngc_certificate.specs.Chain.{stretch}
use Rattle.ngc_certificate.specs.PieceFault.{fault_from, piece_fault, at_piece, ◌or◌}
use Rattle.ngc_certificate.specs.PieceJudging.{is_empty}
use Rattle.ngc_certificate.specs.Inside.{rest_fault}

last_flag : (i n : ℕ) (rest : List Piece) → i < n → length rest ≡ n - (i + 1) → nat_eq (i + 1) n ≡ is_empty rest
last_flag i n [] h e = let same : i + 1 ≡ n = omega arith in grind (arith, nat_tests)
last_flag i n (p ∷ ps) h e = let apart : i + 1 < n = omega arith in grind (arith, nat_tests)

pub is_last : (i : ℕ) (pieces : List Piece) → i < length pieces → nat_eq (i + 1) (length pieces) ≡ is_empty (drop (i + 1) pieces)
is_last i pieces h = last_flag i (length pieces) (drop (i + 1) pieces) h (length-drop (i + 1) pieces)

pub left : (i : ℕ) (pieces : List Piece) (p : Piece) → i < length pieces → p ≡ get_or pieces i p → drop i pieces ≡ p ∷ drop (i + 1) pieces
left i pieces p h e =
    let split = drop-cons pieces i p h in
    rw (split, ← e, add-one) refl

or_none : (x : Option PieceRefusal) → x ≡ (x or None)
or_none (Some r) = refl
or_none None = refl

pub one_judged : (file : MachineFile) (tool : Option Tool) (w : Way) (several last : Bool) (i : ℕ) (begin : Cut) (p : Piece) (rest : List Piece)
    (found : Option PieceFault) →
    last ≡ is_empty rest → found ≡ piece_fault file tool w (stretch several last begin) p
    → fault_from file tool w several i begin (p ∷ rest) ≡ (option_map (at_piece i) found or rest_fault file tool w several (i + 1) p.end rest)
one_judged file tool w several last i begin p [] found e h =
    let here : found ≡ piece_fault file tool w (stretch several true begin) p = rw e at h in
    ap (option_map (at_piece i)) (sym here) ∙ or_none (option_map (at_piece i) found)
one_judged file tool w several last i begin p (q ∷ qs) found e h =
    let here : found ≡ piece_fault file tool w (stretch several false begin) p = rw e at h in
    ap (λ (f : Option PieceFault). (option_map (at_piece i) f or fault_from file tool w several (i + 1) p.end (q ∷ qs))) (sym here)
