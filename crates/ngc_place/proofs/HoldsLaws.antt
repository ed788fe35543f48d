-- A program that holds over a box of shifts holds over each box within it, and has motions at each
-- of its shifts.
use Rattle.std.proofs.Common.{◌≡◌, ℕ, zero, suc, ◌+◌, ◌*◌, ◌/◌, ◌≤◌, ℤ, ◌*ℤ◌, refl, subst, ap, ap₂, ◌∙◌, arith, List, [], ◌∷◌, ◌++◌, Some, None, Ok, true, false}
use Rattle.std.specs.Prelude.{Option, Result, Bool, IsTrue, ◌&&◌, cond, nat_lt, nat_le, option_map}
use Rattle.std.specs.List.{find, filter, list_all}
use Rattle.std.specs.Option.{is_some, is_none}
use Rattle.std.proofs.lemmas.Bool.Decides.{nat_tests}
use Rattle.std.proofs.lemmas.Int.{ints}
use Rattle.std.proofs.Math.Nat.{div-le_of_le-mul}
use Rattle.ngc_fixed_length.specs.Boxes.{IsIn, only}
use Rattle.ngc_fixed_length.specs.Grid.{grid}
use Rattle.ngc_fixed_length.specs.Length.{IsStep}
use Rattle.ngc_fixed_length.specs.declared.points.GridBox.{GridBox}
use Rattle.ngc_fixed_length.specs.declared.points.Point3.{Point3}
use Rattle.ngc_fixed_length.specs.declared.points.StepPos.{StepPos}
use Rattle.ngc_machine_files.specs.Machine.{MachineFile}
use Rattle.ngc_machine_files.specs.Ranges.{IsAtMost}
use Rattle.ngc_machine_files.specs.declared.tools.Tool.{Tool}
use Rattle.ngc_commands.specs.declared.command.Action.{Action}
use Rattle.ngc_commands.specs.declared.command.Action.TheVariants.{Move, Mount}
use Rattle.ngc_commands.specs.declared.command.Command.{Command}
use Rattle.ngc_commands.specs.declared.movement.Way.{Way}
use Rattle.ngc_commands.specs.declared.movement.Way.TheVariants.{Line, Arc}
use Rattle.ngc_commands.specs.Movement.{actions_of, end_of}
use Rattle.ngc_certificate_text.specs.declared.piece.Piece.{Piece}
use Rattle.ngc_certificate_text.specs.Certificate.{Entry}
use Rattle.ngc_certificate.specs.DerivedBox.{line_box}
use Rattle.ngc_certificate.specs.PieceFault.{pieces_fault, place_fault}
use Rattle.ngc_certificate.specs.Made.{tries, powers_of_two, pieces_of, cleared, with_pieces, unless_met, MayFindPieces, IsMadeFrom, from_start, join_settings}
use Rattle.ngc_certificate.proofs.TrueTests.{both, and, no_truth}
use Rattle.ngc_place.specs.Shifts.{shifted, way_shifted, end_moves, actions_shifted}
use Rattle.ngc_commands.specs.Reached.{after, at_start}
use Rattle.ngc_commands.specs.declared.reached.Reached.{Reached}
use Rattle.ngc_certificate.specs.Traverses.{most_pieces}
use Rattle.ngc_certificate.proofs.TraverseLaws.{most_least, most_greatest}
use Rattle.ngc_place.specs.Holds.{action_clear, over, is_clear, pieces_clear, way_clear, place_clear, holds_from, holds, HoldsIsMade, HoldsIsCertified, HoldsWithin}
use Rattle.ngc_place.proofs.Rounded.{scale_by, sum_up}
use Rattle.ngc_place.proofs.ClearBoxes.{clear_within, unmet_within}
use Rattle.ngc_place.proofs.PathBoxes.{IsUnder, WayRises, within_over, line_rises, place_rises, stays}
use Rattle.ngc_place.proofs.ArcShifts.{arc_rises}
use Rattle.ngc_place.proofs.ClearPieces.{line_passes, arc_passes}

-- ---- the first number of pieces that passes

abbrev is_count : ℕ → Bool
is_count c = nat_le 1 c && nat_le c 65535

keep : (good : ℕ → Bool) (x : ℕ) (rest : List ℕ) (b : Bool) → IsTrue (good x) → IsTrue (list_all good rest) → IsTrue (list_all good (cond b (x ∷ rest) rest))
keep good x rest true g r = and _ _ g r
keep good x rest false g r = r

all_kept : (good few : ℕ → Bool) (xs : List ℕ) → IsTrue (list_all good xs) → IsTrue (list_all good (filter few xs))
all_kept good few [] g = refl
all_kept good few (x ∷ xs) g =
    let e = both (good x) (list_all good xs) g in
    keep good x (filter few xs) (few x) e.0 (all_kept good few xs e.1)

all_joined : (good : ℕ → Bool) (xs ys : List ℕ) → IsTrue (list_all good xs) → IsTrue (list_all good ys) → IsTrue (list_all good (xs ++ ys))
all_joined good [] ys g h = h
all_joined good (x ∷ xs) ys g h = let e = both (good x) (list_all good xs) g in and _ _ e.0 (all_joined good xs ys e.1 h)

counts : (most : ℕ) → 1 ≤ most → most ≤ 65535 → IsTrue (list_all is_count (tries most))
counts most least greatest =
    let last : IsTrue (is_count most) = grind (arith, nat_tests) in
    all_joined is_count (filter (λ c. nat_lt c most) powers_of_two) (most ∷ [])
    (all_kept is_count (λ c. nat_lt c most) powers_of_two refl) (and (is_count most) true last refl)

at_least : (c : ℕ) → IsTrue (is_count c) → 1 ≤ c
at_least c h = grind (arith, nat_tests)

at_most : (c : ℕ) → IsTrue (is_count c) → c ≤ 65535
at_most c h = grind (arith, nat_tests)

first_or_later : (x : ℕ) (b d : Bool) (r s : Option ℕ) → (IsTrue b → IsTrue d) → (IsTrue (is_some r) → IsTrue (is_some s)) →
    IsTrue (is_some (cond b (Some x) r)) → IsTrue (is_some (cond d (Some x) s))
first_or_later x true true r s f g h = refl
first_or_later x true false r s f g h = absurd (no_truth (f refl))
first_or_later x false true r s f g h = refl
first_or_later x false false r s f g h = g h

-- if each number that passes one test passes another, some number passes the other test too
some_found : (good test other : ℕ → Bool) (xs : List ℕ) → ((c : ℕ) → IsTrue (good c) → IsTrue (test c) → IsTrue (other c)) → IsTrue (list_all good xs) →
    IsTrue (is_some (find test xs)) → IsTrue (is_some (find other xs))
some_found good test other [] f g h = absurd (no_truth h)
some_found good test other (x ∷ xs) f g h =
    let e = both (good x) (list_all good xs) g in
    first_or_later x (test x) (other x) (find test xs) (find other xs) (f x e.0) (some_found good test other xs f e.1) h

-- ---- within a box of shifts

part_within : (c k : ℕ) → 1 ≤ c → k ≤ c → 65536 * k / c ≤ 65536
part_within c k some h = div-le_of_le-mul c {m = 65536 * k} {n = 65536} (omega (arith, h))

pieces_within : (machine : MachineFile) (tool : Option Tool) (p q p' q' u' v' u v : Point3) (c k left : ℕ) → IsStep machine.step → 1 ≤ c → k + left ≡ c →
    IsAtMost p p' → IsAtMost q q' → IsAtMost u' u → IsAtMost v' v →
    IsTrue (pieces_clear machine tool p q u v c k left) → IsTrue (pieces_clear machine tool p' q' u' v' c k left)
pieces_within machine tool p q p' q' u' v' u v c k zero step some end hp hq hu hv h = refl
pieces_within machine tool p q p' q' u' v' u v c k (suc left) step some end hp hq hu hv h =
    let s = 65536 * k / c in
    let t = 65536 * (k + 1) / c in
    let hs = part_within c k some (omega (arith, end)) in
    let ht = part_within c (k + 1) some (omega (arith, end)) in
    let outer = over (line_box machine.step p q s t) (line_box machine.step u v s t) in
    let inner = over (line_box machine.step p' q' s t) (line_box machine.step u' v' s t) in
    let e = both (is_clear machine tool outer) (pieces_clear machine tool p q u v c (k + 1) left) h in
    let w = within_over (line_box machine.step p q s t) (line_box machine.step p' q' s t) (line_box machine.step u' v' s t) (line_box machine.step u v s t)
    (line_rises machine.step p q p' q' s t step hs ht hp hq) (line_rises machine.step u' v' u v s t step hs ht hu hv) in
    and (is_clear machine tool inner) (pieces_clear machine tool p' q' u' v' c (k + 1) left)
    (clear_within machine tool outer inner step w e.0)
    (pieces_within machine tool p q p' q' u' v' u v c (k + 1) left step some (omega (arith, end)) hp hq hu hv e.1)

way_within : (machine : MachineFile) (most : ℕ) (tool : Option Tool) (w w' v' v : Way) → IsStep machine.step → 1 ≤ most → most ≤ 65535 →
    WayRises machine.step w w' → WayRises machine.step v' v → IsTrue (way_clear machine most tool w v) → IsTrue (way_clear machine most tool w' v')
way_within machine most tool (Line p q) (Line p' q') (Line u' v') (Line u v) step least greatest hw hv h =
    some_found is_count (λ c. pieces_clear machine tool p q u v c 0 c) (λ c. pieces_clear machine tool p' q' u' v' c 0 c) (tries most)
    (λ c good clear. pieces_within machine tool p q p' q' u' v' u v c 0 c step (at_least c good) (omega arith) hw.0 hw.1 hv.0 hv.1 clear)
    (counts most least greatest) h
way_within machine most tool (Arc a) (Arc a') (Arc b') (Arc b) step least greatest hw hv h =
    clear_within machine tool _ _ step (within_over _ _ _ _ hw hv) h
way_within machine most tool (Line p q) (Line p' q') (Arc b') (Arc b) step least greatest hw hv h = absurd (no_truth h)
way_within machine most tool (Arc a) (Arc a') (Line u' v') (Line u v) step least greatest hw hv h = absurd (no_truth h)
way_within machine most tool (Line p q) (Line p' q') (Line u' v') (Arc b) step least greatest hw hv h = absurd hv
way_within machine most tool (Line p q) (Line p' q') (Arc b') (Line u v) step least greatest hw hv h = absurd hv
way_within machine most tool (Arc a) (Arc a') (Line u' v') (Arc b) step least greatest hw hv h = absurd hv
way_within machine most tool (Arc a) (Arc a') (Arc b') (Line u v) step least greatest hw hv h = absurd hv
way_within machine most tool (Line p q) (Arc a') v' v step least greatest hw hv h = absurd hw
way_within machine most tool (Arc a) (Line p' q') v' v step least greatest hw hv h = absurd hw

-- ---- points and paths rise with the origin

same_point : (p : Point3) → IsAtMost p p
same_point p = record { x = omega (arith, ints); y = omega (arith, ints); z = omega (arith, ints) }

point_rises : (step : ℤ) (n m : StepPos) (moves : Bool) (p : Point3) → IsStep step → IsUnder n m → IsAtMost (shifted step n moves p) (shifted step m moves p)
point_rises step n m true p range h = record {
  x = sum_up p.x (n.x *ℤ step) (m.x *ℤ step) (scale_by step n.x m.x range h.x);
  y = sum_up p.y (n.y *ℤ step) (m.y *ℤ step) (scale_by step n.y m.y range h.y);
  z = sum_up p.z (n.z *ℤ step) (m.z *ℤ step) (scale_by step n.z m.z range h.z);
}
point_rises step n m false p range h = same_point p

way_rises : (step : ℤ) (n m : StepPos) (start end : Bool) (w : Way) → IsStep step → IsUnder n m →
    WayRises step (way_shifted step n start end w) (way_shifted step m start end w)
way_rises step n m start end (Line p q) range h = (point_rises step n m start p range h, point_rises step n m end q range h)
way_rises step n m start true (Arc a) range h = arc_rises step n m a range h
way_rises step n m start false (Arc a) range h = stays _

-- ---- all commands

place_within : (machine : MachineFile) (tool : Option Tool) (p p' q' q : Point3) → IsStep machine.step → IsAtMost p p' → IsAtMost q' q →
    IsTrue (place_clear machine tool p q) → IsTrue (place_clear machine tool p' q')
place_within machine tool p p' q' q step hp hq h =
    unmet_within machine tool _ _ step
    (within_over (only (grid machine.step p)) (only (grid machine.step p')) (only (grid machine.step q')) (only (grid machine.step q))
    (place_rises machine.step p p' step hp) (place_rises machine.step q' q step hq)) h

pub action_within : (machine : MachineFile) (most : ℕ) (outer inner : GridBox) (r : Reached) (start end : Bool) (action : Action) → IsStep machine.step →
    1 ≤ most → most ≤ 65535 → IsUnder outer.low inner.low → IsUnder inner.high outer.high →
    IsTrue (action_clear machine most outer r start end action) → IsTrue (action_clear machine most inner r start end action)
action_within machine most outer inner r start end (Mount new) step least greatest low high h =
    place_within machine new (shifted machine.step outer.low start r.place) (shifted machine.step inner.low start r.place)
    (shifted machine.step inner.high start r.place) (shifted machine.step outer.high start r.place) step
    (point_rises machine.step outer.low inner.low start r.place step low) (point_rises machine.step inner.high outer.high start r.place step high) h
action_within machine most outer inner r start end (Move m) step least greatest low high h =
    let e = both _ _ h in
    and _ _ e.0
    (way_within machine (most_pieces machine most m.pace) r.tool (way_shifted machine.step outer.low start end m.way) (way_shifted machine.step inner.low start end m.way)
    (way_shifted machine.step inner.high start end m.way) (way_shifted machine.step outer.high start end m.way) step
    (most_least machine most m.pace least) (most_greatest machine most m.pace greatest)
    (way_rises machine.step outer.low inner.low start end m.way step low) (way_rises machine.step inner.high outer.high start end m.way step high) e.1)
action_within machine most outer inner r start end _ step least greatest low high h = refl

pub within_from : (machine : MachineFile) (most : ℕ) (outer inner : GridBox) (r : Reached) (start : Bool) (moving : List Bool)
    (actions : List Action) → IsStep machine.step → 1 ≤ most → most ≤ 65535 → IsUnder outer.low inner.low → IsUnder inner.high outer.high →
    IsTrue (holds_from machine most outer r start moving actions) → IsTrue (holds_from machine most inner r start moving actions)
within_from machine most outer inner r start moving [] step least greatest low high h = refl
within_from machine most outer inner r start [] (action ∷ actions) step least greatest low high h = absurd (no_truth h)
within_from machine most outer inner r start (end ∷ moving) (action ∷ actions) step least greatest low high h =
    let e = both _ _ h in
    and _ _
    (action_within machine most outer inner r start end action step least greatest low high e.0)
    (within_from machine most outer inner (after r action) (end_moves start end action) moving actions step least greatest low high e.1)

under : (b : GridBox) (n : StepPos) → IsIn b n → IsUnder b.low n
under b n h = record { x = h.x_low; y = h.y_low; z = h.z_low }

above : (b : GridBox) (n : StepPos) → IsIn b n → IsUnder n b.high
above b n h = record { x = h.x_high; y = h.y_high; z = h.z_high }

pub within_law : HoldsWithin
within_law machine most outer inner moving commands step least greatest low high h =
    let e = both _ _ h in
    and _ _ e.0
    (within_from machine most outer inner (at_start machine) false moving (actions_of commands) step least greatest (under outer inner.low low)
    (above outer inner.high high) e.1)

-- ---- at one shift

none_of : {A : Type 0} (o : Option A) → IsTrue (is_none o) → o ≡ None
none_of None h = refl
none_of (Some x) h = absurd (no_truth h)

-- a list, without a refusal
abbrev IsList : Result (List Entry) ℕ → Type 0
IsList r = (entries : List Entry) × (r ≡ Ok entries)

abbrev IsFound : Option (List Piece) → Type 0
IsFound o = (pieces : List Piece) × (o ≡ Some pieces)

found_mapped : (f : ℕ → List Piece) (o : Option ℕ) → IsTrue (is_some o) → IsFound (option_map f o)
found_mapped f None h = absurd (no_truth h)
found_mapped f (Some x) h = (f x, refl)

line_cleared : (machine : MachineFile) (most : ℕ) (tool : Option Tool) (p q : Point3) → 1 ≤ most → most ≤ 65535 →
    IsTrue (way_clear machine most tool (Line p q) (Line p q)) → IsFound (cleared machine most tool (Line p q))
line_cleared machine most tool p q least greatest h =
    let w = Line p q in
    let passes = some_found is_count (λ c. pieces_clear machine tool p q p q c 0 c)
    (λ c. is_none (pieces_fault machine tool w (pieces_of machine.step w c))) (tries most)
    (λ c good clear. line_passes machine tool p q c (at_least c good) (omega (arith, at_most c good)) clear) (counts most least greatest) h in
    found_mapped (pieces_of machine.step w) (find (λ c. is_none (pieces_fault machine tool w (pieces_of machine.step w c))) (tries most)) passes

way_found : (machine : MachineFile) (most : ℕ) (tool : Option Tool) (w : Way) (found : Option (List Piece)) → 1 ≤ most → most ≤ 65535 →
    IsTrue (way_clear machine most tool w w) → MayFindPieces machine most tool w found → IsFound found
way_found machine most tool (Line p q) found least greatest h may =
    let c = line_cleared machine most tool p q least greatest h in (c.0, may ∙ c.1)
way_found machine most tool (Arc a) found least greatest h may = (pieces_of machine.step (Arc a) 1, may.whole (arc_passes machine tool a h))

list_more : (k : ℕ) (pieces : List Piece) (found : Option (List Piece)) (rest : Result (List Entry) ℕ) → found ≡ Some pieces → IsList rest →
    IsList (with_pieces k found rest)
list_more k pieces found rest e r = (record { index = k; pieces = pieces } ∷ r.0, ap₂ (with_pieces k) e r.1)

end_shifted : (step : ℤ) (n : StepPos) (start end : Bool) (w : Way) → end_of (way_shifted step n start end w) ≡ shifted step n end (end_of w)
end_shifted step n start end (Line p q) = refl
end_shifted step n start true (Arc a) = refl
end_shifted step n start false (Arc a) = refl

made_from : (machine : MachineFile) (most k : ℕ) (n : StepPos) (r : Reached) (start : Bool) (moving : List Bool)
    (actions : List Action) (says : Result (List Entry) ℕ) → 1 ≤ most → most ≤ 65535 →
    IsTrue (holds_from machine most (only n) r start moving actions) →
    IsMadeFrom machine most k r.tool (shifted machine.step n start r.place) (actions_shifted machine.step n start moving actions) says → IsList says
made_from machine most k n r start moving [] says least greatest h made = ([], made)
made_from machine most k n r start [] (action ∷ actions) says least greatest h made = absurd (no_truth h)
made_from machine most k n r start (end ∷ moving) (Mount new ∷ actions) says least greatest h made =
    let e = both _ _ h in
    let rest = made_from machine most (k + 1) n (after r (Mount new)) start moving actions made.0 least greatest e.1 made.1 in
    let met = place_fault machine new (grid machine.step (shifted machine.step n start r.place)) in
    (rest.0, made.2 ∙ ap (λ o. unless_met o k made.0) (none_of met e.0) ∙ rest.1)
made_from machine most k n r start (end ∷ moving) (Move m ∷ actions) says least greatest h made =
    let e = both _ _ h in
    let f = both _ _ e.0 in
    let w = way_shifted machine.step n start end m.way in
    let later = subst (λ p. IsMadeFrom machine most (k + 1) r.tool p (actions_shifted machine.step n end moving actions) made.1)
    (end_shifted machine.step n start end m.way) made.3 in
    let rest = made_from machine most (k + 1) n (after r (Move m)) end moving actions made.1 least greatest e.1 later in
    let found = way_found machine (most_pieces machine most m.pace) r.tool w made.0 (most_least machine most m.pace least)
    (most_greatest machine most m.pace greatest) f.1 made.2 in
    let more = list_more k found.0 made.0 made.1 found.1 rest in
    (more.0, made.4 ∙ more.1)
made_from machine most k n r start (end ∷ moving) (_ ∷ actions) says least greatest h made =
    made_from machine most (k + 1) n r start moving actions says least greatest h made

at_one : (machine : MachineFile) (most : ℕ) (shifts : GridBox) (n : StepPos) (moving : List Bool) (commands : List Command) → IsStep machine.step →
    1 ≤ most → most ≤ 65535 → IsIn shifts n → IsTrue (holds machine most shifts moving commands) → IsTrue (holds machine most (only n) moving commands)
at_one machine most shifts n moving commands step least greatest inside h =
    within_law machine most shifts (only n) moving commands step least greatest inside inside h

pub made_law : HoldsIsMade
made_law machine most shifts n moving commands others says step least greatest inside h same made =
    let e = both _ _ (at_one machine most shifts n moving commands step least greatest inside h) in
    made_from machine most 0 n (at_start machine) false moving (actions_of commands) says least greatest e.1
    (subst (λ actions. IsMadeFrom machine most 0 None machine.start actions says) same made)

pub certified_law : HoldsIsCertified
certified_law machine most shifts n off_moving on_moving off on others_off others_on says step least greatest inside hold_off hold_on same_off same_on made =
    let first = made_law machine most shifts n off_moving off others_off made.0 step least greatest inside hold_off same_off made.2 in
    let second = made_law machine most shifts n on_moving on others_on made.1 step least greatest inside hold_on same_on made.3 in
    let e = both _ _ hold_off in
    let met = place_fault machine None (grid machine.step machine.start) in (
      record { off = first.0; on = second.0 },
      made.4 ∙ ap (λ o. from_start o (join_settings made.0 made.1)) (none_of met e.0) ∙ ap₂ join_settings first.1 second.1,
    )
