-- A list that grows by the effects that are present.
use Rattle.std.proofs.Common.{◌≡◌, List, [], ◌∷◌, ◌++◌, Option, Some, None, false, refl, ap, append_assoc}
use Rattle.std.proofs.lemmas.List.{append-nil}
use Rattle.std.proofs.lemmas.Grind.{flat_map-append}
use Rattle.std.proofs.lemmas.Bool.{or_parts}
use Rattle.std.specs.Prelude.{option_to_list, option_map, is_some, ◌||◌}
use Rattle.std.specs.Option.{MatchOption, IsSomeAnd}
use Rattle.ngc_fixed_length.specs.declared.modes.FeedMode.{FeedMode}
use Rattle.ngc_fixed_length.specs.declared.modes.FeedMode.TheVariants.{PerMinute, InverseTime}
use Rattle.ngc_modal_state.specs.declared.effect.Effect.{Effect}
use Rattle.ngc_modal_state.specs.declared.effect.Effect.TheVariants as acts
use Rattle.ngc_modal_state.specs.declared.block.Block.{Block}
use Rattle.ngc_modal_state.specs.declared.modes.Modes.{Modes}
use Rattle.ngc_modal_state.specs.Effects.{standing, first_effects, mode_effects, feed_effect}
use Rattle.ngc_modal_state.specs.Use.{feed_mode_of}
use Rattle.ngc_modal_state.proofs.PlainLines.{absent}

-- the next one was added, and then the rest
pub adds : (old mid new : List Effect) (o p : Option Effect) (rest : List (Option Effect)) → p ≡ o → mid ≡ old ++ option_to_list p →
    new ≡ mid ++ standing rest → new ≡ old ++ standing (o ∷ rest)
unfolding standing
adds old mid new o p rest same first after = rw (after, first, same) (rw append_assoc refl)

-- nothing remains to be added
pub ends : (list : List Effect) → list ≡ list ++ standing []
unfolding standing
ends list = rw append-nil refl

-- the parts of a line, in order
pub in_parts : (none first second last : List Effect) (a b c : List (Option Effect)) → none ≡ [] → first ≡ none ++ standing a → second ≡ first ++ standing b →
    last ≡ second ++ standing c → last ≡ standing (a ++ (b ++ c))
unfolding standing
in_parts none first second last a b c d e f g = simp (g, f, e, d, flat_map-append, append_assoc)

-- the result of `map`, from that of its function
pub mapped : {X Y : Type 0} (o : Option X) (r : Option Y) (f : X → Y) (P : X → Y → Type 0) → ((x : X) (y : Y) → P x y → y ≡ f x) →
    MatchOption o (r ≡ None) (λ x. IsSomeAnd r (P x)) → r ≡ option_map f o
mapped None r f P gives cases = cases
mapped (Some x) None f P gives cases = absurd cases
mapped (Some x) (Some y) f P gives cases = ap Some (gives x y cases)

-- no mode is set
pub no_modes : (b : Block) → (is_some b.plane || is_some b.units || b.radius_off || is_some b.tool_length || is_some b.system || is_some b.path ||
    is_some b.distance || is_some b.return_mode) ≡ false → (list : List Effect) → list ≡ list ++ standing (mode_effects b)
unfolding standing mode_effects
no_modes b few list =
    let (few6, return_mode) = or_parts _ _ few in
    let (few5, distance) = or_parts _ _ few6 in
    let (few4, path) = or_parts _ _ few5 in
    let (few3, system) = or_parts _ _ few4 in
    let (few2, tool_length) = or_parts _ _ few3 in
    let (few1, radius_off) = or_parts _ _ few2 in
    let (plane, units) = or_parts _ _ few1 in
    rw (
      absent b.plane plane,
      absent b.units units,
      radius_off,
      absent b.tool_length tool_length,
      absent b.system system,
      absent b.path path,
      absent b.distance distance,
      absent b.return_mode return_mode,
    ) (rw append-nil refl)

-- there is nothing after F
pub feed_alone : (m : Modes) (b : Block) → (is_some b.s || is_some b.t || b.change_tool || is_some b.spindle || b.mist || b.flood || b.coolant_off ||
    is_some b.overrides || is_some b.once) ≡ false →
    standing (first_effects m b) ≡ standing (option_map acts.FeedMode b.feed_mode ∷ feed_effect (feed_mode_of m b) m b ∷ [])
unfolding standing first_effects
feed_alone m b few =
    let (few7, once) = or_parts _ _ few in
    let (few6, overrides) = or_parts _ _ few7 in
    let (few5, coolant_off) = or_parts _ _ few6 in
    let (few4, flood) = or_parts _ _ few5 in
    let (few3, mist) = or_parts _ _ few4 in
    let (few2, spindle) = or_parts _ _ few3 in
    let (few1, change_tool) = or_parts _ _ few2 in
    let (s, t) = or_parts _ _ few1 in
    rw (absent b.s s, absent b.t t, change_tool, absent b.spindle spindle, mist, flood, coolant_off, absent b.overrides overrides, absent b.once once) refl

no_feed : (mode : FeedMode) (m : Modes) (b : Block) → b.f ≡ None → feed_effect mode m b ≡ None
no_feed PerMinute m b f = rw f refl
no_feed InverseTime m b f = refl

-- there is nothing up to the dwell
pub nothing_first : (m : Modes) (b : Block) → (is_some b.feed_mode || is_some b.f || (is_some b.s || is_some b.t || b.change_tool || is_some b.spindle ||
    b.mist || b.flood || b.coolant_off || is_some b.overrides || is_some b.once)) ≡ false → (list : List Effect) → list ≡ list ++ standing (first_effects m b)
unfolding standing
nothing_first m b few list =
    let (few1, machine) = or_parts _ _ few in
    let (mode, f) = or_parts _ _ few1 in
    rw (feed_alone m b machine, no_feed (feed_mode_of m b) m b (absent b.f f), absent b.feed_mode mode) (rw append-nil refl)
