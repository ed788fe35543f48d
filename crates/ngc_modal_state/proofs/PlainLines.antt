-- A line that is at most a straight move, or an arc in the plane XY, breaks no rule on the use of words.
use Rattle.std.proofs.Common.{◌≡◌, Option, Some, None, Bool, true, false, cond, refl, rules}
use Rattle.std.specs.Prelude.{is_some, ◌||◌, ◌&&◌, unwrap_or}
use Rattle.std.proofs.Math.Bool.{and-false}
use Rattle.std.proofs.lemmas.Bool.{and_left, or_parts, or_left, or_right}
use Rattle.ngc_fixed_length.specs.declared.modes.FeedMode.TheVariants.{PerMinute}
use Rattle.ngc_fixed_length.specs.declared.modes.Plane.TheVariants.{XY}
use Rattle.ngc_modal_state.specs.declared.code.MotionMode.{MotionMode}
use Rattle.ngc_modal_state.specs.declared.code.MotionMode.TheVariants.{Traverse, Straight, Arc, Cancel, Cycle}
use Rattle.ngc_modal_state.specs.declared.modes.Modes.{Modes}
use Rattle.ngc_modal_state.specs.declared.block.Block.{Block}
use Rattle.ngc_modal_state.specs.Kinds.{is_straight, is_arc, is_cycle, is_cancel, is_inverse, begins_cycle}
use Rattle.ngc_modal_state.specs.Use.{has_axes, has_arc_words, has_offsets, in_force, plane_of, feed_mode_of, lacks_straight, claimed_twice, unused_letter, missing_word}

-- a word that is not present
pub absent : {A : Type 0} (word : Option A) → is_some word ≡ false → word ≡ None
absent None e = refl
absent (Some x) e = search rules

-- G0 to G3: neither cancelled nor a cycle
abbrev moves : MotionMode → Bool
moves motion = is_straight motion || is_arc motion

straight_moves : (motion : MotionMode) → is_straight motion ≡ true → moves motion ≡ true
straight_moves motion e = or_left _ _ e

arc_moves : (motion : MotionMode) → is_arc motion ≡ true → moves motion ≡ true
arc_moves motion e = or_right _ _ e

not_cancelled : (motion : MotionMode) → moves motion ≡ true → is_cancel motion ≡ false
not_cancelled Traverse e = refl
not_cancelled Straight e = refl
not_cancelled (Arc turn) e = refl
not_cancelled Cancel e = search rules
not_cancelled (Cycle hole) e = refl

no_cycle : (motion : MotionMode) → moves motion ≡ true → is_cycle motion ≡ false
no_cycle Traverse e = refl
no_cycle Straight e = refl
no_cycle (Arc turn) e = refl
no_cycle Cancel e = refl
no_cycle (Cycle hole) e = search rules

no_cycle_code : (code : Option MotionMode) (kept : MotionMode) → moves (unwrap_or code kept) ≡ true → is_cycle (unwrap_or code Cancel) ≡ false
no_cycle_code None kept e = refl
no_cycle_code (Some motion) kept e = no_cycle motion e

no_cycle_used : (code : Option MotionMode) (kept : MotionMode) (used : Bool) → moves (unwrap_or code kept) ≡ true →
    is_cycle (unwrap_or code (cond used (unwrap_or code kept) Cancel)) ≡ false
no_cycle_used (Some motion) kept used e = no_cycle motion e
no_cycle_used None kept true e = no_cycle kept e
no_cycle_used None kept false e = refl

no_begin : (had motion : MotionMode) → is_cycle motion ≡ false → begins_cycle had motion ≡ false
no_begin (Cycle hole) Traverse e = refl
no_begin (Cycle hole) Straight e = refl
no_begin (Cycle hole) (Arc turn) e = refl
no_begin (Cycle hole) Cancel e = refl
no_begin had (Cycle hole) e = search rules
no_begin Traverse motion e = search rules
no_begin Straight motion e = search rules
no_begin (Arc turn) motion e = search rules
no_begin Cancel motion e = search rules

-- a code for an arc uses the line's letters
arc_used : (code : Option MotionMode) (kept : MotionMode) (axes : Bool) → is_arc (unwrap_or code kept) ≡ true →
    is_arc (unwrap_or code (cond (axes || is_arc (unwrap_or code kept)) (unwrap_or code kept) Cancel)) ≡ true
arc_used (Some motion) kept axes e = e
arc_used None kept true e = e
arc_used None kept false e = rw e e

abbrev rare : Block → Bool
rare b = is_some b.once || is_some b.tool_length || is_some b.k || is_some b.p || is_some b.l || is_some b.q || is_some b.h

abbrev Bare : Block → Type 0
Bare b = (b.once ≡ None) × (b.tool_length ≡ None) × (b.k ≡ None) × (b.p ≡ None) × (b.l ≡ None) × (b.q ≡ None) × (b.h ≡ None)

bare : (b : Block) → rare b ≡ false → Bare b
bare b e =
    let (e6, h) = or_parts _ _ e in
    let (e5, q) = or_parts _ _ e6 in
    let (e4, l) = or_parts _ _ e5 in
    let (e3, p) = or_parts _ _ e4 in
    let (e2, k) = or_parts _ _ e3 in
    let (once, tool) = or_parts _ _ e2 in
    (absent _ once, absent _ tool, absent _ k, absent _ p, absent _ l, absent _ q, absent _ h)

pub plain_straight : (m : Modes) (b : Block) → rare b ≡ false → lacks_straight m b ≡ false
unfolding lacks_straight
plain_straight m b few =
    let (once, tool, k, p, l, q, h) = bare b few in
    rw once refl

both : (arc r offsets : Bool) → (r && offsets) ≡ false → ((arc && r) && offsets) ≡ false
both true r offsets e = e
both false r offsets e = refl

pub plain_claims : (m : Modes) (b : Block) → rare b ≡ false → (is_some b.r && has_offsets b) ≡ false → claimed_twice m b ≡ false
unfolding claimed_twice
plain_claims m b few one =
    let (once, tool, k, p, l, q, h) = bare b few in
    rw (once, p) (both _ (is_some b.r) (has_offsets b) one)

-- without I, J, K and R there are no two centres
pub no_centre : (b : Block) → has_arc_words b ≡ false → (is_some b.r && has_offsets b) ≡ false
no_centre b none =
    let (offsets, r) = or_parts (has_offsets b) (is_some b.r) none in
    and_left (is_some b.r) (has_offsets b) r

-- G0 or G1, without I, J, K and R
pub straight_idle : (m : Modes) (b : Block) → rare b ≡ false → is_straight (in_force m b) ≡ true → has_arc_words b ≡ false → unused_letter m b ≡ None
unfolding unused_letter
straight_idle m b few straight none =
    let (once, tool, k, p, l, q, h) = bare b few in
    let (some_offset, some_r) = or_parts _ _ none in
    let (i_or_j, some_k) = or_parts _ _ some_offset in
    let r = absent b.r some_r in
    let (some_i, some_j) = or_parts _ _ i_or_j in
    let i = absent b.i some_i in
    let j = absent b.j some_j in
    let force = rw once at straight in
    let runs = not_cancelled _ (straight_moves _ force) in
    rw (once, i, j, k, r, p, l, q, h) (simp (runs, and-false))

-- G2 or G3 in the plane XY
pub arc_idle : (m : Modes) (b : Block) → rare b ≡ false → is_arc (in_force m b) ≡ true → plane_of m b ≡ XY → unused_letter m b ≡ None
unfolding unused_letter
arc_idle m b few arc plane =
    let (once, tool, k, p, l, q, h) = bare b few in
    let force = rw once at arc in
    let runs = not_cancelled _ (arc_moves _ force) in
    let used = arc_used b.motion m.motion (has_axes b) force in
    rw (once, k, p, l, q, h) (simp (plane, runs, used, and-false))

missing : (m : Modes) (b : Block) → rare b ≡ false → moves (in_force m b) ≡ true → is_inverse (feed_mode_of m b) ≡ false → missing_word m b ≡ None
unfolding missing_word
missing m b few move per_minute =
    let (once, tool, k, p, l, q, h) = bare b few in
    let force = rw once at move in
    let code = no_cycle_code b.motion m.motion force in
    let begins = no_begin m.motion _ (no_cycle_used b.motion m.motion (has_axes b || is_arc (unwrap_or b.motion m.motion)) force) in
    rw (once, tool, p, q) (simp (code, begins, per_minute))

pub straight_missing : (m : Modes) (b : Block) → rare b ≡ false → is_straight (in_force m b) ≡ true → feed_mode_of m b ≡ PerMinute → missing_word m b ≡ None
straight_missing m b few straight per_minute = missing m b few (straight_moves _ straight) (rw per_minute refl)

pub arc_missing : (m : Modes) (b : Block) → rare b ≡ false → is_arc (in_force m b) ≡ true → feed_mode_of m b ≡ PerMinute → missing_word m b ≡ None
arc_missing m b few arc per_minute = missing m b few (arc_moves _ arc) (rw per_minute refl)
