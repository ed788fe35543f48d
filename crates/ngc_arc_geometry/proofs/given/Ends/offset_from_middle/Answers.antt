use Rattle.std.proofs.Common.{◌≡◌, ◌≤◌, ℕ, ℤ, ◌*◌, ◌*ℤ◌, neg_ℤ, unsigned_abs, to_z, of_z, arith, ap, ◌∙◌}
use Rattle.std.specs.Int.{w64, int_signum}
use Rattle.std.proofs.lemmas.Int.{ints, to_z-of_z}
use Rattle.ngc_fixed_length.specs.declared.points.Point2.{Point2}
use Rattle.ngc_arc_geometry.specs.Chord.{aside as aside_of, side as side_of}
use Rattle.ngc_arc_geometry.specs.Centre.{chord, chord_square}
use Rattle.ngc_arc_geometry.proofs.ChordLemmas.{aside_less}
use Rattle.ngc_arc_geometry.proofs.Machine.{kept, negated, negated_fits, size_of_negative}
use Rattle.ngc_arc_geometry.proofs.Squares.{square_sum}
use Rattle.ngc_fixed_length.specs.Places.{dot}
use Rattle.ngc_arc_geometry.proofs.Points.{same_point}
use Rattle.ngc_arc_geometry.proofs.given.Ends.offset_from_middle.Goals.{After-new, After-signed_aside-v}
use Rattle.ngc_arc_geometry.proofs.given.Ends.offset_from_middle.Goals as goal

-- the coordinates of a chord are at most its length
of_v : (p : Point2) (z : ℤ) (n : ℕ) → z ≡ p.v → unsigned_abs z ≤ 400000000000 → n ≡ unsigned_abs (dot p p) →
    unsigned_abs (to_z w64 (of_z w64 z)) * unsigned_abs (to_z w64 (of_z w64 z)) ≤ n
of_v p z n is bound square =
    let kept : to_z w64 (of_z w64 z) ≡ z = omega (arith, ints) in
    let sum = square_sum p.u p.v in
    rw (kept, is, square, sum) (omega arith)

of_u : (p : Point2) (z : ℤ) (n : ℕ) → z ≡ p.u → unsigned_abs z ≤ 400000000000 → n ≡ unsigned_abs (dot p p) →
    unsigned_abs (to_z w64 (of_z w64 z)) * unsigned_abs (to_z w64 (of_z w64 z)) ≤ n
of_u p z n is bound square =
    let kept : to_z w64 (of_z w64 z) ≡ z = omega (arith, ints) in
    let sum = square_sum p.u p.v in
    rw (kept, is, square, sum) (omega arith)

pub aside-requires-clause-part : goal.aside-requires-clause-part
aside-requires-clause-part c =
    of_v c.chord-chord.result c.v-2.result c.square-square_of_chord.result c.v-2.ensures.value c.v-2.ensures.bound c.square-square_of_chord.ensures

pub aside-requires-2-clause-part : goal.aside-requires-2-clause-part
aside-requires-2-clause-part c =
    of_u c.chord-chord.result c.u-2.result c.square-square_of_chord.result c.u-2.ensures.value c.u-2.ensures.bound c.square-square_of_chord.ensures

first_bound : (c : After-signed_aside-v) → unsigned_abs c.signed_aside-u.result ≤ 2000000000
first_bound c =
    let aside = kept c.aside.result c.aside.ensures.bound in
    omega (arith, ap unsigned_abs aside)

pub new-requires-clause-u : goal.new-requires-clause-u
new-requires-clause-u c =
    let small = first_bound c in
    rw (negated c.signed_aside-u.result small, size_of_negative c.signed_aside-u.result) (omega (arith, small))

pub overflow_sub-u : goal.overflow_sub-u
overflow_sub-u c = negated_fits c.signed_aside-u.result (first_bound c)

pub new-requires-clause-v : goal.new-requires-clause-v
new-requires-clause-v c =
    let aside = kept c.aside-2.result c.aside-2.ensures.bound in
    let small : unsigned_abs c.signed_aside-v.result ≤ 2000000000 = omega (arith, ap unsigned_abs aside) in
    rw (kept c.signed_aside-v.result small) (omega (arith, small))

first : (c : After-new) →
    c.signed_aside-u.result ≡ side_of c.args.self.now.turn c.args.is_long *ℤ int_signum (chord c.args.self.now).v
    *ℤ aside_of c.args.square (chord_square c.args.self.now) (chord c.args.self.now).v
first c =
    let side : to_z w64 (of_z w64 c.side-side.result) ≡ c.side-side.result =
    to_z-of_z w64 c.side-side.result (record { sfits = c.side-side.type_inv }) in
    let sign : to_z w64 (of_z w64 c.v.result) ≡ c.chord-chord.result.v =
    to_z-of_z w64 c.v.result (record { sfits = c.v.type_inv }) ∙ c.v.ensures.value in
    let part : to_z w64 (of_z w64 c.v-2.result) ≡ c.chord-chord.result.v =
    to_z-of_z w64 c.v-2.result (record { sfits = c.v-2.type_inv }) ∙ c.v-2.ensures.value in
    let aside : to_z w64 (of_z w64 c.aside.result) ≡ c.aside.result = to_z-of_z w64 c.aside.result (record { sfits = c.aside.type_inv }) in
    let value = rw (part, c.square-square_of_chord.ensures) at c.aside.ensures.value in
    let signed = rw (side, sign, aside, value, c.side-side.ensures.value) at c.signed_aside-u.ensures.value in
    rw c.chord-chord.ensures at signed

second : (c : After-new) →
    c.signed_aside-v.result ≡ side_of c.args.self.now.turn c.args.is_long *ℤ int_signum (chord c.args.self.now).u
    *ℤ aside_of c.args.square (chord_square c.args.self.now) (chord c.args.self.now).u
second c =
    let side : to_z w64 (of_z w64 c.side-side.result) ≡ c.side-side.result =
    to_z-of_z w64 c.side-side.result (record { sfits = c.side-side.type_inv }) in
    let sign : to_z w64 (of_z w64 c.u.result) ≡ c.chord-chord.result.u =
    to_z-of_z w64 c.u.result (record { sfits = c.u.type_inv }) ∙ c.u.ensures.value in
    let part : to_z w64 (of_z w64 c.u-2.result) ≡ c.chord-chord.result.u =
    to_z-of_z w64 c.u-2.result (record { sfits = c.u-2.type_inv }) ∙ c.u-2.ensures.value in
    let aside : to_z w64 (of_z w64 c.aside-2.result) ≡ c.aside-2.result = to_z-of_z w64 c.aside-2.result (record { sfits = c.aside-2.type_inv }) in
    let value = rw (part, c.square-square_of_chord.ensures) at c.aside-2.ensures.value in
    let signed = rw (side, sign, aside, value, c.side-side.ensures.value) at c.signed_aside-v.ensures.value in
    rw c.chord-chord.ensures at signed

first_size : (c : After-new) → unsigned_abs c.signed_aside-u.result ≤ unsigned_abs c.aside.result
first_size c = omega (arith, ap unsigned_abs (kept c.aside.result c.aside.ensures.bound))

second_size : (c : After-new) → unsigned_abs c.signed_aside-v.result ≤ unsigned_abs c.aside-2.result
second_size c = omega (arith, ap unsigned_abs (kept c.aside-2.result c.aside-2.ensures.bound))

new_u : (c : After-new) → c.new.result.u ≡ neg_ℤ c.signed_aside-u.result
new_u c =
    let small : unsigned_abs c.signed_aside-u.result ≤ 2000000000 = omega (arith, first_size c) in
    ap (λ (p : Point2). p.u) c.new.ensures ∙ negated c.signed_aside-u.result small

new_v : (c : After-new) → c.new.result.v ≡ c.signed_aside-v.result
new_v c =
    let small : unsigned_abs c.signed_aside-v.result ≤ 2000000000 = omega (arith, second_size c) in
    ap (λ (p : Point2). p.v) c.new.ensures ∙ kept c.signed_aside-v.result small

pub returns-clause-value : goal.returns-clause-value
returns-clause-value c = same_point _ _ _ _ (new_u c ∙ ap neg_ℤ (first c)) (new_v c ∙ second c)

pub returns-clause-short : goal.returns-clause-short
returns-clause-short c =
    let part_v : to_z w64 (of_z w64 c.v-2.result) ≡ c.chord-chord.result.v =
    to_z-of_z w64 c.v-2.result (record { sfits = c.v-2.type_inv }) ∙ c.v-2.ensures.value in
    let part_u : to_z w64 (of_z w64 c.u-2.result) ≡ c.chord-chord.result.u =
    to_z-of_z w64 c.u-2.result (record { sfits = c.u-2.type_inv }) ∙ c.u-2.ensures.value in
    let square_u = rw (part_v, c.square-square_of_chord.ensures, c.chord-chord.ensures) at c.aside.ensures.square in
    let square_v = rw (part_u, c.square-square_of_chord.ensures, c.chord-chord.ensures) at c.aside-2.ensures.square in
    let size_u : unsigned_abs c.new.result.u ≤ unsigned_abs c.aside.result = rw (new_u c, size_of_negative c.signed_aside-u.result) (first_size c) in
    let size_v : unsigned_abs c.new.result.v ≤ unsigned_abs c.aside-2.result = rw (new_v c) (second_size c) in
    record {
      u_bound = omega (arith, size_u);
      v_bound = omega (arith, size_v);
      u = aside_less _ _ _ (unsigned_abs c.aside.result) (unsigned_abs c.new.result.u) size_u square_u;
      v = aside_less _ _ _ (unsigned_abs c.aside-2.result) (unsigned_abs c.new.result.v) size_v square_v;
    }

pub signed_aside-u-requires-clause-side : goal.signed_aside-u-requires-clause-side
signed_aside-u-requires-clause-side c = rw (to_z-of_z w64 c.side-side.result (record { sfits = c.side-side.type_inv })) c.side-side.ensures.bound

pub signed_aside-u-requires-clause-aside : goal.signed_aside-u-requires-clause-aside
signed_aside-u-requires-clause-aside c = rw (kept c.aside.result c.aside.ensures.bound) c.aside.ensures.bound

pub signed_aside-v-requires-clause-side : goal.signed_aside-v-requires-clause-side
signed_aside-v-requires-clause-side c = rw (to_z-of_z w64 c.side-side.result (record { sfits = c.side-side.type_inv })) c.side-side.ensures.bound

pub signed_aside-v-requires-clause-aside : goal.signed_aside-v-requires-clause-aside
signed_aside-v-requires-clause-aside c = rw (kept c.aside-2.result c.aside-2.ensures.bound) c.aside-2.ensures.bound
