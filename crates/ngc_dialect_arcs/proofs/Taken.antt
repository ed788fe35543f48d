-- Our own language takes each arc, with the centre that was computed for it.
use Rattle.std.proofs.Common.{◌≡◌, ℕ, ◌+◌, ◌*◌, ◌≤◌, ◌<◌, ℤ, pos, ◌+ℤ◌, ◌-ℤ◌, unsigned_abs, Bool, true, false, Result, Ok, Err, Option, Some, None, inl, inr, refl, sym, ap, ◌∙◌, subst, arith}
use Rattle.std.specs.Prelude.{◌&&◌, ◌||◌, ◌==◌, not, nat_le, nat_lt, is_none, unwrap_or, if◌then◌else◌}
use Rattle.std.proofs.lemmas.Bool.{leb-true, eqb-true}
use Rattle.std.proofs.lemmas.Bool.Decides.{nat_tests}
use Rattle.std.proofs.lemmas.Nat.{mul-le}
use Rattle.std.proofs.lemmas.Int.{ints}
use Rattle.ngc_fixed_length.specs.Limits.{LENGTH_LIMIT}
use Rattle.ngc_fixed_length.specs.declared.fault.NumberFault.{NumberFault}
use Rattle.ngc_fixed_length.specs.declared.fault.NumberFault.TheVariants.{TooLarge}
use Rattle.ngc_fixed_length.specs.declared.points.Point2.{Point2}
use Rattle.ngc_fixed_length.specs.declared.units.Units.{Units}
use Rattle.ngc_fixed_length.specs.declared.units.Units.TheVariants.{Millimetres, Inches}
use Rattle.ngc_arc_geometry.proofs.Squares.{square_sum, from_squares}
use Rattle.ngc_fixed_length.specs.Places.{from, shifted}
use Rattle.ngc_fixed_length.specs.Signed.{is_zero}
use Rattle.ngc_fixed_length.specs.declared.modes.Turn.{Turn}
use Rattle.ngc_arc_geometry.specs.Centre.{arc_about, start_in, end_in, offset_centre, centre_format, radius_format}
use Rattle.ngc_arc_geometry.specs.Radii.{roots_within, squared_distance, lo, hi, SQUARE_LIMIT}
use Rattle.ngc_arc_geometry.specs.Shape.{ArcShape}
use Rattle.ngc_arc_geometry.specs.declared.fault.ArcFault.{ArcFault}
use Rattle.ngc_arc_geometry.specs.declared.given.Ends.{Ends}
use Rattle.ngc_arc_geometry.specs.Tolerance.{tolerance}
use Rattle.ngc_dialect_names.specs.declared.dialect.Dialect.{Dialect}
use Rattle.ngc_dialect_names.specs.declared.dialect.Dialect.TheVariants.{LinuxCnc, Grbl, Mach3, Fanuc}
use Rattle.ngc_dialect_arcs.specs.declared.refusal.ArcRefusal.{ArcRefusal}
use Rattle.ngc_dialect_arcs.specs.declared.refusal.ArcRefusal.TheVariants as why
use Rattle.ngc_dialect_arcs.specs.Centre.{start_square, end_square, chord_square, shift, moved, evened, in_range, is_in_range, is_even, SHIFT_LIMIT}
use Rattle.ngc_dialect_arcs.specs.Centre.{settled, ends_of, centre_found, is_radius, is_too_short, by_radius}
use Rattle.ngc_dialect_arcs.specs.Lines.{along_u, along_v, end_of, given, has_offset, centre_by, centre_of, word_fault, count_fault, refuse_of, shown}
use Rattle.ngc_dialect_arcs.specs.declared.line.ArcLine.{ArcLine}
use Rattle.ngc_dialect_arcs.specs.Limits.{least_radius, may_differ}
use Rattle.ngc_dialect_arcs.specs.Laws.{EvenedAreAlike, ArcsAreTaken, CentresStayNear, IsNearby, offsets_of}
use Rattle.ngc_dialect_arcs.specs.Refusals.{◌>>=◌, refuse_if, or_too_far, length}
use Rattle.ngc_dialect_arcs.proofs.Even.{alike_within, even_after}
use Rattle.ngc_dialect_arcs.proofs.Format.{in_order, from_order, found, at_start, at_end, accepted}

-- the step before, where both are done
pub before : {A B : Type 0} (r : Result A ArcRefusal) (f : A → Result B ArcRefusal) (y : B) → (r >>= f) ≡ Ok y → (x : A) × (r ≡ Ok x) × (f x ≡ Ok y)
before (Ok x) f y h = (x, refl, h)
before (Err e) f y h = absurd (cc)

pub chosen : {A : Type 0} (b : Bool) (r : Result A ArcRefusal) (e : ArcRefusal) (y : A) → (if b then r else Err e) ≡ Ok y → (b ≡ true) × (r ≡ Ok y)
chosen true r e y h = (refl, h)
chosen false r e y h = absurd (cc)

pub same : {A : Type 0} (x y : A) → (let r : Result A ArcRefusal = Ok x in let s : Result A ArcRefusal = Ok y in r ≡ s) → x ≡ y
same x y h = cc

length_by : (b : Bool) (z y : ℤ) → or_too_far (if b then Ok z else Err TooLarge) ≡ Ok y → z ≡ y
length_by true z y h = same z y h
length_by false z y h = absurd (cc)

length_is : (z y : ℤ) → length z ≡ Ok y → z ≡ y
length_is z y h = length_by (nat_le (unsigned_abs z) LENGTH_LIMIT) z y h

-- a coordinate that is moved, and by how much
pub record IsMoved (by part z : ℤ) : Type 0 where
  pub is : part +ℤ by ≡ z
  pub near : unsigned_abs by ≤ SHIFT_LIMIT

pub moved_is : (by part z : ℤ) → moved by part ≡ Ok z → IsMoved by part z
moved_is by part z h =
    let c = chosen (nat_le (unsigned_abs by) SHIFT_LIMIT) (length (part +ℤ by)) why.RadiiDiffer z h in
    record { is = length_is (part +ℤ by) z c.1; near = leb-true _ _ c.0 }

pub record IsRanged (least : ℕ) (end given centre : Point2) : Type 0 where
  pub is : given ≡ centre
  pub at_start : is_in_range least (start_square given) ≡ true
  pub at_end : is_in_range least (end_square end given) ≡ true

pub and_left : (a b : Bool) → (a && b) ≡ true → a ≡ true
and_left true b h = refl
and_left false b h = absurd (cc)

pub and_right : (a b : Bool) → (a && b) ≡ true → b ≡ true
and_right true b h = h
and_right false b h = absurd (cc)

pub ranged : (least : ℕ) (end given centre : Point2) → in_range least end given ≡ Ok centre → IsRanged least end given centre
ranged least end given centre h =
    let s = is_in_range least (start_square given) in
    let e = is_in_range least (end_square end given) in
    let c = chosen (s && e) (Ok given) why.RadiusOutOfRange centre h in
    record { is = same given centre c.1; at_start = and_left s e c.0; at_end = and_right s e c.0 }

-- an evened centre
pub record IsEvened (end given centre : Point2) : Type 0 where
  pub u : IsMoved (shift end.u end given) given.u centre.u
  pub v : IsMoved (shift end.v end given) given.v centre.v
  pub range : IsRanged 1 end centre centre

pub evened_is : (end given centre : Point2) → evened end given ≡ Ok centre → IsEvened end given centre
unfolding evened
evened_is end given centre h =
    let first = before (moved (shift end.u end given) given.u) (λ u. moved (shift end.v end given) given.v >>= λ v. in_range 1 end (record { u = u; v = v })) centre h in
    let second = before (moved (shift end.v end given) given.v) (λ v. in_range 1 end (record { u = first.0; v = v })) centre first.2 in
    let range = ranged 1 end (record { u = first.0; v = second.0 }) centre second.2 in
    subst (λ c. IsEvened end given c) range.is (record {
      u = moved_is _ _ _ first.1;
      v = moved_is _ _ _ second.1;
      range = record { is = refl; at_start = range.at_start; at_end = range.at_end };
    })

pub evened_within : (t : ℕ) (end given centre : Point2) → 4 ≤ t * t → 0 < chord_square end → IsEvened end given centre →
    roots_within t (start_square centre) (end_square end centre) ≡ true
evened_within t end given centre least some h =
    let at : ℤ → ℤ → Point2 = λ u v. record { u = u; v = v } in
    let is : at (given.u +ℤ shift end.u end given) (given.v +ℤ shift end.v end given) ≡ centre =
    ap (λ u. at u (given.v +ℤ shift end.v end given)) h.u.is ∙ ap (at centre.u) h.v.is in
    subst (λ c. roots_within t (start_square c) (end_square end c) ≡ true) is (even_after end.u end.v given.u given.v t least some)

pub evened_are_alike : EvenedAreAlike
evened_are_alike end given centre some h = evened_within 2 end given centre (omega arith) some (evened_is end given centre h)

-- ---- what holds of each centre

pub record IsGood (t : ℕ) (end centre : Point2) : Type 0 where
  pub start_some : 0 < start_square centre
  pub end_some : 0 < end_square end centre
  pub start_limit : start_square centre ≤ SQUARE_LIMIT
  pub end_limit : end_square end centre ≤ SQUARE_LIMIT
  pub alike : roots_within t (start_square centre) (end_square end centre) ≡ true

ranged_some : (least s : ℕ) → 1 ≤ least → is_in_range least s ≡ true → 0 < s
ranged_some least s some h =
    let square : 1 * 1 ≤ least * least = mul-le 1 1 least least some some in
    let above = leb-true (least * least) s (and_left _ _ h) in
    omega arith

ranged_limit : (least s : ℕ) → is_in_range least s ≡ true → s ≤ SQUARE_LIMIT
ranged_limit least s h = leb-true s SQUARE_LIMIT (and_right _ _ h)

-- the squares at a centre that is in range
pub start_limit : (least : ℕ) (end given centre : Point2) → in_range least end given ≡ Ok centre → start_square centre ≤ SQUARE_LIMIT
start_limit least end given centre h =
    let r = ranged least end given centre h in
    subst (λ c. start_square c ≤ SQUARE_LIMIT) r.is (ranged_limit least (start_square given) r.at_start)

pub end_limit : (least : ℕ) (end given centre : Point2) → in_range least end given ≡ Ok centre → end_square end centre ≤ SQUARE_LIMIT
end_limit least end given centre h =
    let r = ranged least end given centre h in
    subst (λ c. end_square end c ≤ SQUARE_LIMIT) r.is (ranged_limit least (end_square end given) r.at_end)

good : (t least : ℕ) (end c : Point2) → 1 ≤ least → is_in_range least (start_square c) ≡ true → is_in_range least (end_square end c) ≡ true →
    roots_within t (start_square c) (end_square end c) ≡ true → IsGood t end c
good t least end c some s e alike = record {
  start_some = ranged_some least (start_square c) some s;
  end_some = ranged_some least (end_square end c) some e;
  start_limit = ranged_limit least (start_square c) s;
  end_limit = ranged_limit least (end_square end c) e;
  alike = alike;
}

zero_square : (x y : ℕ) → x * x + y * y ≡ 0 → x ≡ 0
zero_square x y h = let p = from_squares x 0 (omega arith) in omega arith

-- the radii of a full circle
closed : (end c : Point2) → chord_square end ≡ 0 → end_square end c ≡ start_square c
closed end c h =
    let sum = square_sum (end.u -ℤ pos 0) (end.v -ℤ pos 0) in
    let zero_u = zero_square (unsigned_abs (end.u -ℤ pos 0)) (unsigned_abs (end.v -ℤ pos 0)) (omega (arith, sum, h)) in
    let zero_v = zero_square (unsigned_abs (end.v -ℤ pos 0)) (unsigned_abs (end.u -ℤ pos 0)) (omega (arith, sum, h)) in
    let u : end.u ≡ pos 0 = omega (arith, ints, zero_u) in
    let v : end.v ≡ pos 0 = omega (arith, ints, zero_v) in
    ap (λ a. squared_distance c (record { u = a; v = end.v })) u ∙ ap (λ b. squared_distance c (record { u = pos 0; v = b })) v

large : (units : Units) → 4 ≤ tolerance units * tolerance units
large Millimetres = omega arith
large Inches = omega arith

least_some : (d : Dialect) → 1 ≤ least_radius d
least_some LinuxCnc = omega arith
least_some Grbl = omega arith
least_some Mach3 = omega arith
least_some Fanuc = omega arith

kept_alike : (t : ℕ) (end c : Point2) (b : Bool) → 4 ≤ t * t → chord_square end == 0 ≡ b →
    (b || roots_within t (start_square c) (end_square end c)) ≡ true → roots_within t (start_square c) (end_square end c) ≡ true
kept_alike t end c true least e h =
    let same_squares = closed end c (eqb-true _ _ e) in
    alike_within t (start_square c) (end_square end c) 0 (inl (omega (arith, same_squares))) (omega arith) least
kept_alike t end c false least e h = h

pub apart : (end : Point2) (b : Bool) → (chord_square end == 0 || b) ≡ false → 0 < chord_square end
apart end b h = grind (arith, nat_tests)

-- a centre that is kept or evened
settling_good : (written : Units) (end given centre : Point2) (least : ℕ) (b : Bool) → is_even written end given ≡ b → 1 ≤ least →
    is_in_range least (start_square given) ≡ true → is_in_range least (end_square end given) ≡ true →
    (if b then Ok given else evened end given) ≡ Ok centre → IsGood (tolerance written) end centre
settling_good written end given centre least true even some s e h =
    let alike = kept_alike (tolerance written) end given (chord_square end == 0) (large written) refl even in
    subst (λ c. IsGood (tolerance written) end c) (same given centre h) (good (tolerance written) least end given some s e alike)
settling_good written end given centre least false even some s e h =
    let new = evened_is end given centre h in
    let far = apart end (roots_within (tolerance written) (start_square given) (end_square end given)) even in
    good (tolerance written) 1 end centre (omega arith) new.range.at_start new.range.at_end (evened_within (tolerance written) end given centre (large written) far new)

settling_near : (end given centre : Point2) (b : Bool) → (if b then Ok given else evened end given) ≡ Ok centre → IsNearby given centre
settling_near end given centre true h =
    subst (λ c. IsNearby given c) (same given centre h) (record { u = omega (arith, ints); v = omega (arith, ints) })
settling_near end given centre false h =
    let new = evened_is end given centre h in
    record { u = omega (arith, ints, new.u.is, new.u.near); v = omega (arith, ints, new.v.is, new.v.near) }

-- what `settled` is, by its three tests
pub settled_refused : (d : Dialect) (units written : Units) (end given centre : Point2) → in_range (least_radius d) end given ≡ Ok centre →
    may_differ d units (start_square centre) (end_square end centre) ≡ false → settled d units written end given ≡ Err why.RadiiDiffer
unfolding settled
settled_refused d units written end given centre h m = rw (h, m) refl

pub settled_kept : (d : Dialect) (units written : Units) (end given centre : Point2) → in_range (least_radius d) end given ≡ Ok centre →
    may_differ d units (start_square centre) (end_square end centre) ≡ true → is_even written end centre ≡ true → settled d units written end given ≡ Ok centre
unfolding settled
settled_kept d units written end given centre h m e = rw (h, m, e) refl

pub settled_evened : (d : Dialect) (units written : Units) (end given centre : Point2) → in_range (least_radius d) end given ≡ Ok centre →
    may_differ d units (start_square centre) (end_square end centre) ≡ true → is_even written end centre ≡ false → settled d units written end given ≡ evened end centre
unfolding settled
settled_evened d units written end given centre h m e = rw (h, m, e) refl

-- what `settled` ends with
pub record IsSettled (d : Dialect) (written : Units) (end given centre : Point2) : Type 0 where
  pub range : IsRanged (least_radius d) end given given
  pub last : (if is_even written end given then Ok given else evened end given) ≡ Ok centre

settled_is : (d : Dialect) (units written : Units) (end given centre : Point2) → settled d units written end given ≡ Ok centre → IsSettled d written end given centre
unfolding settled
settled_is d units written end given centre h =
    let next : Point2 → Result Point2 ArcRefusal = λ c. if is_even written end c then Ok c else evened end c in
    let fault : Point2 → Result (Unit {0}) ArcRefusal = λ c. refuse_if (not (may_differ d units (start_square c) (end_square end c))) why.RadiiDiffer in
    let first = before (in_range (least_radius d) end given) (λ c. fault c >>= λ alike. next c) centre h in
    let range = ranged (least_radius d) end given first.0 first.1 in
    let second = before (fault first.0) (λ alike. next first.0) centre first.2 in
    record {
      range = record { is = refl; at_start = range.at_start; at_end = range.at_end };
      last = subst (λ c. next c ≡ Ok centre) (sym range.is) second.2;
    }

settled_good : (d : Dialect) (units written : Units) (end given centre : Point2) → settled d units written end given ≡ Ok centre → IsGood (tolerance written) end centre
settled_good d units written end given centre h =
    let s = settled_is d units written end given centre h in
    settling_good written end given centre (least_radius d) (is_even written end given) refl (least_some d) s.range.at_start s.range.at_end s.last

settled_near : (d : Dialect) (units written : Units) (end given centre : Point2) → settled d units written end given ≡ Ok centre → IsNearby given centre
settled_near d units written end given centre h =
    settling_near end given centre (is_even written end given) (settled_is d units written end given centre h).last

-- ---- R

found_good : (written : Units) (turn : Turn) (end centre : Point2) (r : ℤ) (x : Result ArcShape ArcFault) → radius_format written (ends_of turn end) r ≡ x →
    centre_found end x ≡ Ok centre → IsGood (tolerance written) end centre
found_good written turn end centre r (Ok a) e h =
    let arc = found written (ends_of turn end) r a e in
    let range = ranged 1 end a.centre centre h in
    let alike = subst (λ (b : ArcShape). roots_within (tolerance written) (lo b) (hi b) ≡ true) (sym arc.is) arc.alike in
    subst (λ c. IsGood (tolerance written) end c) range.is
    (good (tolerance written) 1 end a.centre (omega arith) range.at_start range.at_end (from_order (tolerance written) (start_square a.centre) (end_square end a.centre) alike))
found_good written turn end centre r (Err fault) e h = absurd (cc)

by_radius_good : (d : Dialect) (written : Units) (turn : Turn) (end centre : Point2) (r : ℤ) → by_radius d written turn end r ≡ Ok centre → IsGood (tolerance written) end centre
unfolding by_radius
by_radius_good d written turn end centre r h =
    let last = centre_found end (radius_format written (ends_of turn end) r) in
    let short : Result (Unit {0}) ArcRefusal = refuse_if (is_too_short d r (chord_square end)) why.RadiusTooSmall in
    let sized : Result (Unit {0}) ArcRefusal = refuse_if (not (is_radius r)) why.RadiusOutOfRange in
    let first = before (refuse_if (chord_square end == 0) why.EndIsStart) (λ u. sized >>= λ v. short >>= λ w. last) centre h in
    let second = before sized (λ v. short >>= λ w. last) centre first.2 in
    let third = before short (λ w. last) centre second.2 in
    found_good written turn end centre r (radius_format written (ends_of turn end) r) refl third.2

-- ---- a line's arc

refused : {A : Type 0} (b : Bool) (r : Result A ArcRefusal) (e : ArcRefusal) (y : A) → (if b then Err e else r) ≡ Ok y → r ≡ Ok y
refused true r e y h = absurd (cc)
refused false r e y h = h

centre_good : (written : Units) (l : ArcLine) (end centre : Point2) (r : Option ℤ) → centre_by written l end r ≡ Ok centre → IsGood (tolerance written) end centre
centre_good written l end centre None h =
    let some = chosen (has_offset l) (given l >>= λ c. settled l.dialect l.units written end c) why.NoCentre centre h in
    let first = before (given l) (λ c. settled l.dialect l.units written end c) centre some.1 in
    settled_good l.dialect l.units written end first.0 centre first.2
centre_good written l end centre (Some r) h =
    by_radius_good l.dialect written l.turn end centre r (refused (has_offset l) (by_radius l.dialect written l.turn end r) why.RadiusBesideOffsets centre h)

-- the steps of `centre_of`
pub record IsCentre (written : Units) (l : ArcLine) (centre : Point2) : Type 0 where
  pub end : Point2
  pub end_is : end_of l ≡ Ok end
  pub by : centre_by written l end l.radius ≡ Ok centre

centre_is : (written : Units) (l : ArcLine) (centre : Point2) → centre_of written l ≡ Ok centre → IsCentre written l centre
unfolding centre_of
centre_is written l centre h =
    let counted : Point2 → Result Point2 ArcRefusal = λ c. refuse_of (count_fault l) >>= λ turns. Ok c in
    let first = before (refuse_of (word_fault l)) (λ words. end_of l >>= λ end. centre_by written l end l.radius >>= counted) centre h in
    let second = before (end_of l) (λ end. centre_by written l end l.radius >>= counted) centre first.2 in
    let third = before (centre_by written l second.0 l.radius) counted centre second.2 in
    let fourth = before (refuse_of (count_fault l)) (λ turns. let r : Result Point2 ArcRefusal = Ok third.0 in r) centre third.2 in
    record { end = second.0; end_is = second.1; by = subst (λ c. centre_by written l second.0 l.radius ≡ Ok c) (same third.0 centre fourth.2) third.1 }

zero_is : (z : ℤ) → is_zero z ≡ true → z ≡ pos 0
zero_is z h = let size : unsigned_abs z ≡ 0 = eqb-true _ _ h in omega (arith, ints, size)

hidden : (b : Bool) (z : ℤ) → is_zero z ≡ b → (let word : Option ℤ = if b then None else Some z in unwrap_or word (pos 0) ≡ z)
hidden true z e = sym (zero_is z e)
hidden false z e = refl

none_if : (b : Bool) (z : ℤ) → is_zero z ≡ b → (let word : Option ℤ = if b then None else Some z in is_none word ≡ true) → z ≡ pos 0
none_if true z e h = zero_is z e
none_if false z e h = absurd (cc)

-- the offsets that are written are the centre
shown_is : (word : Option ℤ) (z : ℤ) → unwrap_or (shown word z) (pos 0) ≡ z
shown_is (Some o) z = refl
shown_is None z = hidden (is_zero z) z refl

none_only : (word : Option ℤ) (z : ℤ) → is_none (shown word z) ≡ true → z ≡ pos 0
none_only (Some o) z h = absurd (cc)
none_only None z h = none_if (is_zero z) z refl h

not_both : (a b : Bool) (c : Point2) → 0 < start_square c → (a ≡ true → c.u ≡ pos 0) → (b ≡ true → c.v ≡ pos 0) → (a && b) ≡ false
not_both true true c some u v =
    let zero : c ≡ record { u = pos 0; v = pos 0 } = ap (λ x. let p : Point2 = record { u = x; v = c.v } in p) (u refl) ∙ ap (λ y. let p : Point2 = record { u = pos 0; v = y } in p) (v refl) in
    let none : start_square c ≡ 0 = ap start_square zero in
    absurd (omega (arith, none))
not_both true false c some u v = refl
not_both false b c some u v = refl

pub arcs_are_taken : ArcsAreTaken
arcs_are_taken written l end centre e ends centres word chord =
    let c = centre_is written l centre centres in
    let end_same : c.end ≡ end = same c.end end (sym c.end_is ∙ ends) in
    let fine = subst (λ f. IsGood (tolerance written) f centre) (end_same ∙ sym chord) (centre_good written l c.end centre l.radius c.by) in
    let o = offsets_of l centre in
    let u = shown_is (along_u l.plane l.offsets) centre.u in
    let v = shown_is (along_v l.plane l.offsets) centre.v in
    let at : ℤ → ℤ → Point2 = λ x y. shifted (start_in e) (record { u = x; v = y }) in
    let place : offset_centre e o ≡ shifted (start_in e) centre = ap (λ x. at x (unwrap_or o.v (pos 0))) u ∙ ap (at centre.u) v in
    let s = at_start (start_in e) centre in
    let f = at_end (start_in e) (end_in e) centre in
    let arc : Point2 → ArcShape = λ p. arc_about e p in
    let greatest : hi (arc (shifted (start_in e) centre)) ≤ SQUARE_LIMIT = rw (s, f) (omega (arith, fine.start_limit, fine.end_limit)) in
    let least : 0 < lo (arc (shifted (start_in e) centre)) = rw (s, f) (omega (arith, fine.start_some, fine.end_some)) in
    let alike : roots_within (tolerance written) (lo (arc (shifted (start_in e) centre))) (hi (arc (shifted (start_in e) centre))) ≡ true =
    rw (s, f) (in_order (tolerance written) (start_square centre) (end_square (from (start_in e) (end_in e)) centre) fine.alike) in
    let some = not_both (is_none o.u) (is_none o.v) centre fine.start_some (none_only (along_u l.plane l.offsets) centre.u) (none_only (along_v l.plane l.offsets) centre.v) in
    let back = sym place in
    let taken = accepted written e o word some (subst (λ p. hi (arc p) ≤ SQUARE_LIMIT) back greatest) (subst (λ p. 0 < lo (arc p)) back least)
    (subst (λ p. roots_within (tolerance written) (lo (arc p)) (hi (arc p)) ≡ true) back alike) in
    subst (λ p. centre_format written e o ≡ Ok (arc p)) place taken

near_by : (written : Units) (l : ArcLine) (end was centre : Point2) (r : Option ℤ) → r ≡ None → given l ≡ Ok was → centre_by written l end r ≡ Ok centre → IsNearby was centre
near_by written l end was centre None e h k =
    let some = chosen (has_offset l) (given l >>= λ c. settled l.dialect l.units written end c) why.NoCentre centre k in
    let first = before (given l) (λ c. settled l.dialect l.units written end c) centre some.1 in
    let same_given : first.0 ≡ was = same first.0 was (sym first.1 ∙ h) in
    subst (λ g. IsNearby g centre) same_given (settled_near l.dialect l.units written end first.0 centre first.2)
near_by written l end was centre (Some r) e h k = absurd (cc)

pub centres_stay_near : CentresStayNear
centres_stay_near written l was centre r h k =
    let c = centre_is written l centre k in
    near_by written l c.end was centre l.radius r h c.by
