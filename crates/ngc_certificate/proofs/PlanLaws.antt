-- The motions of a plan, and one more.
use Rattle.std.proofs.Common.{◌≡◌, ℕ, zero, suc, ◌+◌, ◌*◌, ◌/◌, ◌<◌, ◌≤◌, ℤ, refl, ap, ap₂, sym, subst, ◌∙◌, arith, List, [], ◌∷◌, ◌++◌, map, length, get_or, Some, None}
use Rattle.std.specs.Prelude.{Option, Result, Ok, Err, OnOk, option_and_then}
use Rattle.std.specs.List.{All}
use Rattle.std.proofs.lemmas.List.{get_or-map, length-map, map-append, length-append, get_or_append_left}
use Rattle.std.proofs.lemmas.List.Elements.{All-head, All-tail, All-push, All-get_or}
use Rattle.std.proofs.lemmas.Option.{slice_get_read}
use Rattle.std.proofs.Math.Seq.{get_or-append_seam}
use Rattle.ngc_fixed_length.specs.declared.points.Point3.{Point3}
use Rattle.ngc_commands.specs.declared.command.Command.{Command}
use Rattle.ngc_commands.specs.declared.movement.Way.{Way}
use Rattle.ngc_certificate_text.specs.declared.piece.Piece.{Piece}
use Rattle.ngc_certificate_text.specs.Certificate.{Entry, IsEntry, AreEntries, entry_at, no_piece}
use Rattle.ngc_certificate.specs.declared.plan.Cutting.{Cutting}
use Rattle.ngc_certificate.specs.declared.plan.Cutting.TheVariants.{Divided, Cut}
use Rattle.ngc_certificate.specs.declared.plan.Planned.{Planned}
use Rattle.ngc_certificate.specs.Common.{way_at, way_of}
use Rattle.ngc_certificate.specs.Made.{line_piece, line_pieces_from, pieces_of}
use Rattle.ngc_certificate.specs.Planned.{cut_way, planned_entry}
use Rattle.ngc_certificate.specs.PieceIn.{piece_in}
use Rattle.ngc_certificate.proofs.Division.{line_piece_at}

-- ---- the pieces of a line

piece_from : (step : ℤ) (b e : Point3) (c j left k : ℕ) (d : Piece) → k < left →
    get_or (line_pieces_from step b e c j left) k d ≡ line_piece_at step b e c (j + k)
piece_from step b e c j zero k d h = absurd (omega (arith, h))
piece_from step b e c j (suc left) zero d h = ap (line_piece_at step b e c) (plus_none j) where
  plus_none : (n : ℕ) → n ≡ n + 0
  plus_none n = omega arith
piece_from step b e c j (suc left) (suc k) d h =
    let less : k < left = omega (arith, h) in
    let same : j + 1 + k ≡ j + suc k = omega arith in
    piece_from step b e c (j + 1) left k d less ∙ ap (line_piece_at step b e c) same

pub line_piece_is : (step : ℤ) (b e : Point3) (c k : ℕ) (p : Piece) → k < c →
    p ≡ line_piece step b e (65536 * k / c) (65536 * (k + 1) / c) → p ≡ piece_in (line_pieces_from step b e c 0 c) k
line_piece_is step b e c k p inside is =
    let here : 0 + k ≡ k = omega arith in
    is ∙ sym (piece_from step b e c 0 c k no_piece inside ∙ ap (line_piece_at step b e c) here)

-- ---- stored pieces

pub stored_inside : (arcs : List Entry) (k : ℕ) → 1 ≤ length (entry_at arcs k).pieces → k < length arcs
stored_inside [] k h = absurd (omega (arith, h))
stored_inside (a ∷ arcs) zero h = omega arith
stored_inside (a ∷ arcs) (suc k) h = let i = stored_inside arcs k h in omega (arith, i)

pub only_piece : (p : Piece) (ps : List Piece) (k : ℕ) → ps ≡ p ∷ [] → k < length ps → p ≡ piece_in ps k
only_piece p ps k e h =
    let inside : k < length (p ∷ []) = subst (λ (l : List Piece). k < length l) e h in
    first_one k inside ∙ ap (λ (l : List Piece). piece_in l k) (sym e)
  where
    first_one : (n : ℕ) → n < 1 → p ≡ piece_in (p ∷ []) n
    first_one zero i = refl
    first_one (suc n) i = absurd (omega (arith, i))

-- ---- a motion of a plan

pub planned_at : (f : Planned → Entry) (ps : List Planned) (i : ℕ) (p : Planned) → i < length (map f ps) → p ≡ get_or ps i p → entry_at (map f ps) i ≡ f p
planned_at f ps i p inside found =
    let here : i < length ps = omega (arith, inside, length-map ps f) in
    get_or-map f ps i p (record { index = 0; pieces = [] }) here ∙ ap f (sym found)

pub pieces_planned : (step : ℤ) (commands : List Command) (arcs : List Entry) (ps : List Planned) (i : ℕ) (p : Planned) (way : Option Way) →
    i < length (map (planned_entry step commands arcs) ps) → p ≡ get_or ps i p → way ≡ way_at commands p.index →
    (entry_at (map (planned_entry step commands arcs) ps) i).pieces ≡ cut_way step way arcs p.cutting
pieces_planned step commands arcs ps i p way inside found is =
    ap (λ (e : Entry). e.pieces) (planned_at (planned_entry step commands arcs) ps i p inside found)
    ∙ ap (λ (o : Option Way). cut_way step o arcs p.cutting) (sym is)

pub entry_is : (entries : List Entry) (i : ℕ) → AreEntries entries → i < length entries → IsEntry (entry_at entries i)
entry_is entries i are inside = All-get_or IsEntry entries i (record { index = 0; pieces = [] }) inside are.each

-- ---- one more

pub more_entries : (entries all : List Entry) (e : Entry) → AreEntries entries → IsEntry e → length entries < 1000000 → all ≡ entries ++ (e ∷ []) →
    AreEntries all
more_entries entries all e are is room h =
    subst AreEntries (sym h) (record {
      count = omega (arith, length-append entries (e ∷ []), room);
      each = All-push IsEntry entries e are.each is;
    })

pub way_here : (commands : List Command) (i : ℕ) (c : Command) → i < length commands → c ≡ get_or commands i c → way_at commands i ≡ way_of c.action
way_here commands i c inside found =
    ap (option_and_then (λ (x : Command). way_of x.action)) (slice_get_read commands (length commands) i c refl inside found)

same_cut : (step : ℤ) (way : Option Way) (arcs more : List Entry) (cutting : Cutting) → 1 ≤ length (cut_way step way arcs cutting) →
    cut_way step way (arcs ++ more) cutting ≡ cut_way step way arcs cutting
same_cut step None arcs more cutting h = refl
same_cut step (Some w) arcs more (Divided count) h = refl
same_cut step (Some w) arcs more (Cut k) h =
    ap (λ (e : Entry). e.pieces) (get_or_append_left arcs more (record { index = 0; pieces = [] }) k (stored_inside arcs k h))

same_entries : (step : ℤ) (commands : List Command) (arcs more : List Entry) (ps : List Planned) → All IsEntry (map (planned_entry step commands arcs) ps) →
    map (planned_entry step commands (arcs ++ more)) ps ≡ map (planned_entry step commands arcs) ps
same_entries step commands arcs more [] are = refl
same_entries step commands arcs more (p ∷ ps) are =
    let first = All-head IsEntry (planned_entry step commands arcs p) (map (planned_entry step commands arcs) ps) are in
    let rest = All-tail IsEntry (planned_entry step commands arcs p) (map (planned_entry step commands arcs) ps) are in
    ap₂ (λ (pieces : List Piece) (es : List Entry). with_pieces p.index pieces ∷ es)
    (same_cut step (way_at commands p.index) arcs more p.cutting first.some) (same_entries step commands arcs more ps rest)
  where
    with_pieces : ℕ → List Piece → Entry
    with_pieces index pieces = record { index = index; pieces = pieces }

-- a motion that is divided
pub divided_added : (step : ℤ) (commands : List Command) (arcs all_arcs : List Entry) (ps all : List Planned) (index count : ℕ) (w : Way)
    (pieces : List Piece) → all_arcs ≡ arcs → all ≡ ps ++ (record { index = index; cutting = Divided count } ∷ []) → way_at commands index ≡ Some w →
    pieces ≡ pieces_of step w count →
    map (planned_entry step commands all_arcs) all ≡ map (planned_entry step commands arcs) ps ++ (record { index = index; pieces = pieces } ∷ [])
divided_added step commands arcs all_arcs ps all index count w pieces same h is made =
    ap₂ (λ (a : List Entry) (l : List Planned). map (planned_entry step commands a) l) same h
    ∙ map-append (planned_entry step commands arcs) ps (record { index = index; cutting = Divided count } ∷ [])
    ∙ ap (λ (l : List Piece). map (planned_entry step commands arcs) ps ++ (record { index = index; pieces = l } ∷ []))
    (ap (λ (o : Option Way). cut_way step o arcs (Divided count)) is ∙ sym made)

-- an arc that is cut
pub cut_added : (step : ℤ) (commands : List Command) (arcs all_arcs : List Entry) (ps all : List Planned) (index : ℕ) (w : Way) (pieces : List Piece) →
    AreEntries (map (planned_entry step commands arcs) ps) →
    all_arcs ≡ arcs ++ (record { index = index; pieces = pieces } ∷ []) → all ≡ ps ++ (record { index = index; cutting = Cut (length arcs) } ∷ []) →
    way_at commands index ≡ Some w →
    map (planned_entry step commands all_arcs) all ≡ map (planned_entry step commands arcs) ps ++ (record { index = index; pieces = pieces } ∷ [])
cut_added step commands arcs all_arcs ps all index w pieces are same h is =
    let e : Entry = record { index = index; pieces = pieces } in
    let arcs_now : List Entry = arcs ++ (e ∷ []) in
    ap₂ (λ (a : List Entry) (l : List Planned). map (planned_entry step commands a) l) same h
    ∙ map-append (planned_entry step commands arcs_now) ps (record { index = index; cutting = Cut (length arcs) } ∷ [])
    ∙ ap₂ (λ (l : List Entry) (q : List Piece). l ++ (record { index = index; pieces = q } ∷ [])) (same_entries step commands arcs (e ∷ []) ps are.each)
    (ap (λ (o : Option Way). cut_way step o arcs_now (Cut (length arcs))) is
    ∙ ap (λ (x : Entry). x.pieces) (get_or-append_seam arcs e [] (record { index = 0; pieces = [] })))

-- two facts of what was done, and a third
pub on_both : {E : Type 0} (r : Result (Unit {0}) E) (P Q R : Type 0) → (P → Q → R) → OnOk r P → OnOk r Q → OnOk r R
on_both (Ok u) P Q R f p q = f p q
on_both (Err e) P Q R f p q = tt
