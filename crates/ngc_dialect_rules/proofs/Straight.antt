-- What a line of one straight motion becomes.
use Rattle.std.proofs.Common.{◌≡◌, ℕ, ℤ, Bool, true, false, List, [], ◌∷◌, Option, Some, None, Result, Ok, Err, refl, sym, ap, subst, inl, inr, ◌∙◌, arith}
use Rattle.std.specs.Prelude.{◌==◌, ◌&&◌, is_some, if◌then◌else◌}
use Rattle.std.proofs.lemmas.Bool.{false≢true}
use Rattle.std.proofs.lemmas.Bool.Decides.{nat_tests}
use Rattle.std.specs.Prelude.{length}
use Rattle.ngc_dialect_names.specs.declared.dialect.Dialect.{Dialect}
use Rattle.ngc_fixed_length.specs.declared.units.Units.{Units}
use Rattle.ngc_fixed_length.specs.declared.units.Units.TheVariants.{Millimetres, Inches}
use Rattle.ngc_line_reader.specs.declared.letter.Letter.TheVariants as letters
use Rattle.ngc_dialect_parameters.specs.declared.statement.Word.{Word}
use Rattle.ngc_dialect_rules.specs.declared.code.Code.{Code}
use Rattle.ngc_dialect_rules.specs.declared.code.Code.TheVariants.{G}
use Rattle.ngc_dialect_rules.specs.declared.codes.TheConstants as codes
use Rattle.ngc_dialect_rules.specs.Bytes as bytes
use Rattle.ngc_dialect_rules.specs.Tables.{code_in, is_among, or_else}
use Rattle.ngc_dialect_rules.specs.Words.{word_of, value_of, is_other_axis, is_polar, refused_word, amount, count}
use Rattle.ngc_dialect_rules.specs.declared.plan.Action.{Action}
use Rattle.ngc_dialect_rules.specs.declared.plan.Amounts.{Amounts}
use Rattle.ngc_dialect_rules.specs.declared.plan.InForce.{InForce}
use Rattle.ngc_dialect_rules.specs.declared.plan.Plan.{Plan}
use Rattle.ngc_dialect_rules.specs.declared.fault.Fault.{Fault}
use Rattle.ngc_dialect_rules.specs.declared.front.Known.{Known}
use Rattle.ngc_dialect_rules.specs.Faults.{◌>>=◌}
use Rattle.ngc_dialect_rules.specs.Tables.{is_linuxcnc}
use Rattle.ngc_dialect_rules.specs.Words.{repeated}
use Rattle.ngc_dialect_rules.specs.Actions.{straight}
use Rattle.ngc_dialect_rules.specs.Amounts.{amounts_of, offset_tool, dwell}
use Rattle.ngc_dialect_rules.specs.Force.{force_of, length_after}
use Rattle.ngc_dialect_rules.specs.Moves.{has_axes, motion_of, machine_place_fault, idle_fault, idle_letter, is_idle, refuses_idle}
use Rattle.ngc_dialect_rules.specs.Plain.{a_word, with_word, with_action, ended}
use Rattle.ngc_dialect_rules.specs.Rules.{minute_feed, same_units, some_action, first_action, plan_of, with_feed, modes_written, motions_written, written, motion_after, series_after, front_after, result_of, line_plan, lines_of}
use Rattle.ngc_dialect_rules.specs.Rules.{plain_lines}
use Rattle.ngc_dialect_rules.specs.Straight.{elsewhere, force_with, is_motion_letter, are_motion_words, IsOnlyCode, straight_result}
use Rattle.ngc_dialect_rules.specs.Words.{codes_of}
use Rattle.ngc_dialect_rules.specs.declared.plain.Plain.{Plain}
use Rattle.ngc_dialect_rules.specs.declared.plan.LineResult.{LineResult}
use Rattle.ngc_dialect_rules.specs.declared.straight_line.StraightLine.{StraightLine}
use Rattle.ngc_fixed_length.specs.declared.points.Point3.{Point3}
use Rattle.ngc_offsets.specs.declared.frames.Frames.{Frames}

-- no table but that of motion codes has a code of the line
pub record Quiet (line : List Code) : Type 0 where
  pub table_lengths : code_in codes.TABLE_LENGTHS line ≡ None
  pub dwell : code_in codes.DWELL line ≡ None
  pub units : code_in codes.UNITS line ≡ None
  pub word_length : code_in codes.WORD_LENGTH line ≡ None
  pub lengths : code_in codes.LENGTHS line ≡ None
  pub distances : code_in codes.DISTANCES line ≡ None
  pub feed_modes : code_in codes.FEED_MODES line ≡ None
  pub take_axes : code_in codes.TAKE_AXES line ≡ None
  pub motion_end : code_in codes.MOTION_END line ≡ None
  pub machine_place : code_in codes.MACHINE_PLACE line ≡ None
  pub setting : code_in codes.SETTING line ≡ None
  pub offset : code_in codes.OFFSET line ≡ None
  pub local_offset : code_in codes.LOCAL_OFFSET line ≡ None
  pub homes : code_in codes.HOMES line ≡ None
  pub tool_change : code_in codes.TOOL_CHANGE line ≡ None
  pub spindle : code_in codes.SPINDLE line ≡ None
  pub coolant : code_in codes.COOLANT line ≡ None
  pub overrides : code_in codes.OVERRIDES line ≡ None
  pub planes : code_in codes.PLANES line ≡ None
  pub compensation_end : code_in codes.COMPENSATION_END line ≡ None
  pub systems : code_in codes.SYSTEMS line ≡ None
  pub paths : code_in codes.PATHS line ≡ None
  pub offset_changes : code_in codes.OFFSET_CHANGES line ≡ None
  pub stops : code_in codes.STOPS line ≡ None
  pub retracts : code_in codes.RETRACTS line ≡ None
  pub centres : code_in codes.CENTRES line ≡ None
  pub home_stores : code_in codes.HOME_STORES line ≡ None
  pub compensation : code_in codes.COMPENSATION line ≡ None

quiet_none : Quiet []
unfolding code_in is_among
quiet_none = record {
  table_lengths = refl;
  dwell = refl;
  units = refl;
  word_length = refl;
  lengths = refl;
  distances = refl;
  feed_modes = refl;
  take_axes = refl;
  motion_end = refl;
  machine_place = refl;
  setting = refl;
  offset = refl;
  local_offset = refl;
  homes = refl;
  tool_change = refl;
  spindle = refl;
  coolant = refl;
  overrides = refl;
  planes = refl;
  compensation_end = refl;
  systems = refl;
  paths = refl;
  offset_changes = refl;
  stops = refl;
  retracts = refl;
  centres = refl;
  home_stores = refl;
  compensation = refl;
}

quiet_traverse : Quiet (G 0 ∷ [])
unfolding code_in is_among
quiet_traverse = record {
  table_lengths = refl;
  dwell = refl;
  units = refl;
  word_length = refl;
  lengths = refl;
  distances = refl;
  feed_modes = refl;
  take_axes = refl;
  motion_end = refl;
  machine_place = refl;
  setting = refl;
  offset = refl;
  local_offset = refl;
  homes = refl;
  tool_change = refl;
  spindle = refl;
  coolant = refl;
  overrides = refl;
  planes = refl;
  compensation_end = refl;
  systems = refl;
  paths = refl;
  offset_changes = refl;
  stops = refl;
  retracts = refl;
  centres = refl;
  home_stores = refl;
  compensation = refl;
}

quiet_feed : Quiet (G 10 ∷ [])
unfolding code_in is_among
quiet_feed = record {
  table_lengths = refl;
  dwell = refl;
  units = refl;
  word_length = refl;
  lengths = refl;
  distances = refl;
  feed_modes = refl;
  take_axes = refl;
  motion_end = refl;
  machine_place = refl;
  setting = refl;
  offset = refl;
  local_offset = refl;
  homes = refl;
  tool_change = refl;
  spindle = refl;
  coolant = refl;
  overrides = refl;
  planes = refl;
  compensation_end = refl;
  systems = refl;
  paths = refl;
  offset_changes = refl;
  stops = refl;
  retracts = refl;
  centres = refl;
  home_stores = refl;
  compensation = refl;
}

both : (a b : Bool) → (a && b) ≡ true → (a ≡ true) × (b ≡ true)
both true b h = (refl, h)
both false b h = absurd (false≢true h)

same : (a b : ℕ) → (a == b) ≡ true → a ≡ b
same a b h = grind (arith, nat_tests)

-- a letter that isn't among the line's is on no word
pub absent : (c : ℕ) (words : List Word) → are_motion_words words ≡ true → is_motion_letter c ≡ false → value_of c words ≡ None
unfolding value_of word_of
absent c [] h n = refl
absent c (w ∷ ws) h n = let parts = both (is_motion_letter w.letter) (are_motion_words ws) h in by_letter (w.letter == c) refl parts.0 (absent c ws parts.1 n) where
  by_letter : (b : Bool) → (w.letter == c) ≡ b → is_motion_letter w.letter ≡ true → value_of c ws ≡ None → value_of c (w ∷ ws) ≡ None
  by_letter true e front rest = absurd (false≢true (sym n ∙ ap (λ (k : ℕ). is_motion_letter k) (sym (same w.letter c e)) ∙ front))
  by_letter false e front rest = rw e rest

rounded_absent : (c : ℕ) (words : List Word) → value_of c words ≡ None → amount c words ≡ Ok None
unfolding amount
rounded_absent c words h = rw h refl

count_absent : (c : ℕ) (words : List Word) → value_of c words ≡ None → count c words ≡ Ok None
unfolding count
count_absent c words h = rw (rounded_absent c words h) refl

-- none of the letters is an axis that is refused
pub taken : (d : Dialect) (line : List Code) (words : List Word) → are_motion_words words ≡ true → refused_word d line words ≡ None
taken d line [] h = refl
taken d line (w ∷ ws) h = let parts = both (is_motion_letter w.letter) (are_motion_words ws) h in rw (polar w.letter parts.0, other w.letter parts.0) (taken d line ws parts.1) where
  polar : (c : ℕ) → is_motion_letter c ≡ true → is_polar c ≡ false
  polar c h = grind (arith, h)

  other : (c : ℕ) → is_motion_letter c ≡ true → is_other_axis c ≡ false
  other c h = grind (arith, h)

-- ---- what holds of the line's code

pub record Only (k : Known) (line : List Code) (c : Code) : Type 0 where
  pub quiet : Quiet line
  pub arcs : is_among codes.ARCS c ≡ false
  pub cycles : is_among codes.CYCLES c ≡ false
  pub moved : (words : List Word) → has_axes k.dialect line words ≡ true → motion_of k line words ≡ Ok (Some c)
  pub motion : motion_after k.front.motion line (code_in codes.MOTIONS line) ≡ Some c
  pub series : series_after k.front.series line (code_in codes.MOTIONS line) ≡ (if length line == 0 then k.front.series else None)

moved_own : (k : Known) (line : List Code) (c : Code) → Quiet line → code_in codes.MOTIONS line ≡ Some c
    → (words : List Word) → has_axes k.dialect line words ≡ true → motion_of k line words ≡ Ok (Some c)
unfolding motion_of
moved_own k line c q m words h = rw (m, h, q.word_length, q.take_axes) refl

moved_mode : (k : Known) (line : List Code) (c : Code) → Quiet line → code_in codes.MOTIONS line ≡ None → k.front.motion ≡ Some c
    → (words : List Word) → has_axes k.dialect line words ≡ true → motion_of k line words ≡ Ok (Some c)
unfolding motion_of
moved_mode k line c q m f words h = rw (m, h, q.take_axes, q.motion_end, q.word_length, f) refl

only_traverse : (k : Known) → Only k (G 0 ∷ []) (G 0)
unfolding code_in is_among
only_traverse k = record { quiet = quiet_traverse; arcs = refl; cycles = refl; moved = moved_own k (G 0 ∷ []) (G 0) quiet_traverse refl; motion = refl; series = refl }

only_feed : (k : Known) → Only k (G 10 ∷ []) (G 10)
unfolding code_in is_among
only_feed k = record { quiet = quiet_feed; arcs = refl; cycles = refl; moved = moved_own k (G 10 ∷ []) (G 10) quiet_feed refl; motion = refl; series = refl }

mode_traverse : (k : Known) → k.front.motion ≡ Some (G 0) → Only k [] (G 0)
unfolding code_in is_among
mode_traverse k f = record { quiet = quiet_none; arcs = refl; cycles = refl; moved = moved_mode k [] (G 0) quiet_none refl f; motion = f; series = refl }

mode_feed : (k : Known) → k.front.motion ≡ Some (G 10) → Only k [] (G 10)
unfolding code_in is_among
mode_feed k f = record { quiet = quiet_none; arcs = refl; cycles = refl; moved = moved_mode k [] (G 10) quiet_none refl f; motion = f; series = refl }

only : (k : Known) (line : List Code) (c : Code) → IsOnlyCode k line c → Only k line c
only k line c (inl e, inl l) = subst (λ (x : List Code). Only k x c) (sym l) (subst (λ (d : Code). Only k (d ∷ []) d) (sym e) (only_traverse k))
only k line c (inr e, inl l) = subst (λ (x : List Code). Only k x c) (sym l) (subst (λ (d : Code). Only k (d ∷ []) d) (sym e) (only_feed k))
only k line c (inl e, inr (l, f)) = subst (λ (x : List Code). Only k x c) (sym l) (subst (λ (d : Code). Only k [] d) (sym e) (mode_traverse k (f ∙ ap (λ (d : Code). Some d) e)))
only k line c (inr e, inr (l, f)) = subst (λ (x : List Code). Only k x c) (sym l) (subst (λ (d : Code). Only k [] d) (sym e) (mode_feed k (f ∙ ap (λ (d : Code). Some d) e)))

-- ---- the stages of a line

and_false : (b : Bool) → (b && false) ≡ false
and_false true = refl
and_false false = refl

abbrev feed_alone : Option ℤ → Amounts
feed_alone f = record { feed = f; speed = None; tool = None; offset = None; dwell = None }

amounts_fed : (k : Known) (line : List Code) (words : List Word) → Quiet line → are_motion_words words ≡ true → amounts_of k line words ≡ (amount bytes.F words >>= λ f. Ok (feed_alone f))
unfolding amounts_of offset_tool dwell
amounts_fed k line words q h =
    rw (rounded_absent bytes.S words (absent bytes.S words h refl), count_absent bytes.T words (absent bytes.T words h refl), q.table_lengths, q.dwell) refl

force_fed : (k : Known) (line : List Code) (words : List Word) (f : Option ℤ) → Quiet line → force_of k line words f ≡ Ok (force_with f k)
unfolding force_of length_after
force_fed k line words None q = rw (q.units, q.word_length, q.lengths, q.distances, q.feed_modes, and_false (is_linuxcnc k.dialect)) refl
force_fed k line words (Some f) q = rw (q.units, q.word_length, q.lengths, q.distances, q.feed_modes) refl

place_kept : (k : Known) (line : List Code) (force : InForce) → Quiet line → machine_place_fault k line force ≡ None
unfolding machine_place_fault
place_kept k line force q = rw q.machine_place refl

either : (b : Bool) (x : Option Fault) → (if b then x else x) ≡ x
either true x = refl
either false x = refl

none_idle : (d : Dialect) (line : List Code) (moves : Option Code) (words : List Word) → are_motion_words words ≡ true → idle_fault d line moves words ≡ None
unfolding idle_fault idle_letter is_idle
none_idle d line moves words h =
    rw (
      absent bytes.P words h refl,
      absent bytes.Q words h refl,
      absent bytes.R words h refl,
      absent bytes.L words h refl,
      absent bytes.H words h refl,
      absent bytes.D words h refl,
      absent bytes.E words h refl,
      absent bytes.I words h refl,
      absent bytes.J words h refl,
      absent bytes.K words h refl,
    ) (either (refuses_idle d) None)

straight_first : (k : Known) (line : List Code) (words : List Word) (force : InForce) (f : Option ℤ) (c : Code) → Only k line c → first_action k line words force f (Some c) ≡ some_action (straight k line words force f c)
unfolding first_action
straight_first k line words force f c o = rw (o.quiet.setting, o.quiet.offset, o.quiet.local_offset, o.quiet.homes, o.arcs, o.cycles) refl

abbrev straight_plan : Known → Option ℤ → Option Action → Plan
straight_plan k f a = record { amounts = feed_alone f; force = force_with f k; first = a; second = None; code = None; cycle = None }

settle : (r : Result Action Fault) (mk : Option Action → Plan) → (some_action r >>= λ a. Ok (mk a)) ≡ (r >>= λ a. Ok (mk (Some a)))
settle (Ok a) mk = refl
settle (Err e) mk = refl

planned_by : (k : Known) (line : List Code) (words : List Word) (c : Code) (r : Result (Option ℤ) Fault) → Only k line c → are_motion_words words ≡ true → has_axes k.dialect line words ≡ true
    → amount bytes.F words ≡ r → plan_of k line words ≡ (r >>= λ f. straight k line words (force_with f k) f c >>= λ a. Ok (straight_plan k f (Some a)))
unfolding plan_of
planned_by k line words c (Err e) o h axes is = rw (amounts_fed k line words o.quiet h, is) refl
planned_by k line words c (Ok f) o h axes is =
    rw (
      amounts_fed k line words o.quiet h,
      is,
      force_fed k line words f o.quiet,
      o.moved words axes,
      place_kept k line (force_with f k) o.quiet,
      none_idle k.dialect line (Some c) words h,
      straight_first k line words (force_with f k) f c o,
      o.quiet.homes,
      o.cycles,
    )
    (settle (straight k line words (force_with f k) f c) (straight_plan k f))

planned : (k : Known) (line : List Code) (words : List Word) (c : Code) → Only k line c → are_motion_words words ≡ true → has_axes k.dialect line words ≡ true
    → plan_of k line words ≡ (amount bytes.F words >>= λ f. straight k line words (force_with f k) f c >>= λ a. Ok (straight_plan k f (Some a)))
planned k line words c o h axes = planned_by k line words c (amount bytes.F words) o h axes refl

abbrev pub made_by : Known → List Code → Code → Option ℤ → StraightLine
made_by k line c f = record { code = c; feed = or_else f k.front.feed; keeps_series = length line == 0 }

own_units : (u : Units) → same_units u u ≡ true
own_units Millimetres = refl
own_units Inches = refl

not_apart : (a b : Bool) → (a && b && false) ≡ false
not_apart true true = refl
not_apart true false = refl
not_apart false true = refl
not_apart false false = refl

abbrev pub line_of : Known → Option ℤ → Action → List Plain
line_of k f a = ended (with_action k.modes.units a (with_word (a_word letters.F (minute_feed k.modes.feed_mode f)) []))

straight_written : (k : Known) (line : List Code) (words : List Word) (f : Option ℤ) (a : Action) → Quiet line → written k line words (straight_plan k f (Some a)) ≡ line_of k f a
unfolding written with_feed modes_written motions_written with_word
straight_written k line words f a q =
    rw (
      own_units k.modes.units,
      not_apart (is_linuxcnc k.dialect) (is_some (minute_feed k.modes.feed_mode f)),
      q.feed_modes,
      q.tool_change,
      q.spindle,
      q.coolant,
      q.overrides,
      q.dwell,
      q.planes,
      q.units,
      q.compensation_end,
      q.lengths,
      q.systems,
      q.paths,
      q.distances,
      q.offset_changes,
      q.stops,
    ) refl

fronted : (k : Known) (line : List Code) (c : Code) (f : Option ℤ) (a : Action) → Only k line c →
    result_of k line (straight_plan k f (Some a)) ≡ straight_result (made_by k line c f) k.front
unfolding front_after
fronted k line c f a o = rw (o.motion, o.series, o.quiet.retracts, o.quiet.centres, o.quiet.home_stores, o.quiet.spindle, o.quiet.tool_change, o.quiet.compensation) refl

finish : {X : Type 0} (r : Result Action Fault) (p : Action → Plan) (f : Plan → X) (g : Action → X) → ((a : Action) → f (p a) ≡ g a)
    → ((r >>= λ a. Ok (p a)) >>= λ x. Ok (f x)) ≡ (r >>= λ a. Ok (g a))
finish (Ok a) p f g h = ap (λ x. Ok x) (h a)
finish (Err e) p f g h = refl

finish_fed : {X : Type 0} (m : Result (Option ℤ) Fault) (r : Option ℤ → Result Action Fault) (p : Option ℤ → Action → Plan) (f : Plan → X) (g : Option ℤ → Action → X)
    → ((x : Option ℤ) (a : Action) → f (p x a) ≡ g x a) → ((m >>= λ x. r x >>= λ a. Ok (p x a)) >>= λ plan. Ok (f plan)) ≡ (m >>= λ x. r x >>= λ a. Ok (g x a))
finish_fed (Ok x) r p f g h = finish (r x) (p x) f (g x) (h x)
finish_fed (Err e) r p f g h = refl

pub straight_meaning : (k : Known) (line : List Code) (words : List Word) (c : Code) → IsOnlyCode k line c → are_motion_words words ≡ true
    → has_axes k.dialect line words ≡ true → repeated words ≡ None → lines_of k line words ≡
    (amount bytes.F words >>= λ f. straight k line words (force_with f k) f c >>= λ a. Ok (straight_result (made_by k line c f) k.front, line_of k f a))
unfolding lines_of line_plan
straight_meaning k line words c i h axes once =
    let o = only k line c i in
    rw (once, taken k.dialect line words h, planned k line words c o h axes)
    (finish_fed (amount bytes.F words) (λ f. straight k line words (force_with f k) f c) (λ f a. straight_plan k f (Some a)) (λ plan. (result_of k line plan, written k line words plan)) _
    (λ f a. rw (fronted k line c f a o, straight_written k line words f a o.quiet) refl))

-- a straight motion is the same wherever the origins and the axes are
straight_elsewhere : (frames : Frames) (place : Point3) (k : Known) (line : List Code) (words : List Word) (force : InForce) (f : Option ℤ) (c : Code) →
    straight (elsewhere frames place k) line words force f c ≡ straight k line words force f c
unfolding straight
straight_elsewhere frames place k line words force f c = refl

-- what a line of one straight motion becomes, wherever the origins and the axes are
meaning_elsewhere : (frames : Frames) (place : Point3) (k : Known) (line : List Code) (words : List Word) (c : Code) (f : Option ℤ)
    → IsOnlyCode k line c → are_motion_words words ≡ true → has_axes k.dialect line words ≡ true → repeated words ≡ None → amount bytes.F words ≡ Ok f
    → lines_of (elsewhere frames place k) line words ≡
    (straight k line words (force_with f k) f c >>= λ a. Ok (straight_result (made_by k line c f) k.front, line_of k f a))
meaning_elsewhere frames place k line words c f i h axes once fed =
    straight_meaning (elsewhere frames place k) line words c i h axes once ∙ rw (fed, straight_elsewhere frames place k line words (force_with f k) f c) refl

pub motion_made : (frames : Frames) (place : Point3) (k : Known) (line : List Code) (words : List Word) (c : Code) (f feed : Option ℤ) (force : InForce) (a : Action)
    → IsOnlyCode k line c → are_motion_words words ≡ true → has_axes k.dialect line words ≡ true → repeated words ≡ None → amount bytes.F words ≡ Ok f
    → force ≡ force_with f k → feed ≡ or_else f k.front.feed → straight k line words force f c ≡ Ok a → lines_of (elsewhere frames place k) line words ≡
    Ok (straight_result (record { code = c; feed = feed; keeps_series = length line == 0 }) k.front, line_of k f a)
motion_made frames place k line words c f feed force a i h axes once fed is after made =
    let moved : straight k line words (force_with f k) f c ≡ Ok a = subst (λ (x : InForce). straight k line words x f c ≡ Ok a) is made in
    subst (λ (x : Option ℤ). lines_of (elsewhere frames place k) line words ≡
    Ok (straight_result (record { code = c; feed = x; keeps_series = length line == 0 }) k.front, line_of k f a)) (sym after)
    (meaning_elsewhere frames place k line words c f i h axes once fed ∙ rw moved refl)

pub motion_refused : (frames : Frames) (place : Point3) (k : Known) (line : List Code) (words : List Word) (c : Code) (f : Option ℤ) (force : InForce) (fault : Fault)
    → IsOnlyCode k line c → are_motion_words words ≡ true → has_axes k.dialect line words ≡ true → repeated words ≡ None → amount bytes.F words ≡ Ok f
    → force ≡ force_with f k → straight k line words force f c ≡ Err fault → lines_of (elsewhere frames place k) line words ≡ Err fault
motion_refused frames place k line words c f force fault i h axes once fed is made =
    let moved : straight k line words (force_with f k) f c ≡ Err fault = subst (λ (x : InForce). straight k line words x f c ≡ Err fault) is made in
    meaning_elsewhere frames place k line words c f i h axes once fed ∙ rw moved refl

pub line_made : (k : Known) (words : List Word) (start line seen : List Code) (r : Result (LineResult × List Plain) Fault) → start ≡ []
    → codes_of k.dialect words start ≡ Ok line → seen ≡ line → lines_of k seen words ≡ r → plain_lines k words ≡ r
unfolding plain_lines
line_made k words start line seen r none e same_line h =
    let codes : codes_of k.dialect words [] ≡ Ok line = subst (λ (x : List Code). codes_of k.dialect words x ≡ Ok line) none e in
    rw codes (subst (λ (x : List Code). lines_of k x words ≡ r) same_line h)

pub no_codes : (k : Known) (words : List Word) (start : List Code) (fault : Fault) → start ≡ []
    → codes_of k.dialect words start ≡ Err fault → plain_lines k words ≡ Err fault
unfolding plain_lines
no_codes k words start fault none e =
    let codes : codes_of k.dialect words [] ≡ Err fault = subst (λ (x : List Code). codes_of k.dialect words x ≡ Err fault) none e in
    rw codes refl
