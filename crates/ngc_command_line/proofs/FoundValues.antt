-- Where `clap` finds no fault, each row that it found begins with a value that its argument takes.
use Rattle.std.proofs.Common.{◌≡◌, ℕ, zero, suc, Bool, true, false, not, ◌&&◌, List, [], ◌∷◌, ◌++◌, Option, Some, None, is_some, refl, length, drop}
use Rattle.std.proofs.Common.{if◌then◌else◌}
use Rattle.std.specs.Prelude.{⊤, find, fold, encode_utf8, slice_get}
use Rattle.std.specs.Str.{bytes_eq, chars}
use Rattle.std.specs.Option.{option_map_or}
use Rattle.clap.specs.Lexer.{long_of, short_of}
use Rattle.clap.specs.Kinds.{Kinds, or_else}
use Rattle.clap.specs.Faults.{bundle_fault, bundle_step_fault, flag_word_fault, flags_fault, long_fault, option_fault, other_fault, positional_fault}
use Rattle.clap.specs.Faults.{react_fault, settle_fault, short_fault, step_fault, stray_fault, use_fault, walk_fault, word_fault}
use Rattle.clap.specs.Simple.{Shape}
use Rattle.clap.specs.Walk.{Held, Names, Outcome, Row, Rule, Step, Text, Waiting, Walk, after_flag, after_step, arg_by_id, arg_by_index, arg_by_long}
use Rattle.clap.specs.Walk.{arg_by_short, at_row, attached_value, bundle, bundle_met, bundle_step, default_rows, done, finished, has_row, is_pending, long_met}
use Rattle.clap.specs.Walk.{long_or_other, long_word, more_values, next, option, option_met, option_word, plain, plain_word, positional_held, reacted, refused}
use Rattle.clap.specs.Walk.{settled, settled_rows, short_met, short_or_plain, short_word, subcommand, subcommand_met, subcommand_or_other, takes_several}
use Rattle.clap.specs.Walk.{takes_values, to_positional, trailing, used, used_by_id, value, waits, walked, walked_from, with_default, with_values, without}
use Rattle.clap.specs.Walk.{word_met}
use Rattle.clap.specs.Walk as walk_words
use Rattle.clap.specs.declared.builder.value_parser.Reading.{Reading}
use Rattle.clap.specs.declared.error.kind.ErrorKind.TheVariants.{TooManyValues}
use Rattle.clap.specs.declared.parser.matches.ValueSource.{ValueSource}

-- of two steps that return no fault, neither returns one
pub neither : (a b : Kinds) → or_else a b ≡ [] → (a ≡ []) × (b ≡ [])
neither [] b none = (refl, none)
neither (k ∷ ks) b none = let bad : k ∷ ks ≡ [] = none in cc

module _ (P : Text → Text → Type 0) where
  -- the values begin with one that is allowed under the id
  abbrev pub Begins : Text → List Text → Type 0
  Begins id [] = ⊥
  Begins id (v ∷ vs) = P id v

  abbrev pub AreFilled : List Row → Type 0
  AreFilled [] = ⊤
  AreFilled (r ∷ rs) = Begins r.id r.values × AreFilled rs

  -- a use that returns no fault, and a default, keep each row filled
  pub record IsSound (a : Rule) : Type 0 where
    pub uses : (again : Bool) (values : List Text) (rows : List Row) → use_fault again a values rows ≡ [] → AreFilled rows → AreFilled (used a values rows)
    pub defaults : (rows : List Row) → AreFilled rows → AreFilled (with_default rows a)

  abbrev pub AreSound : List Rule → Type 0
  AreSound [] = ⊤
  AreSound (a ∷ rest) = IsSound a × AreSound rest

  abbrev IsSoundIfAny : Option Rule → Type 0
  IsSoundIfAny None = ⊤
  IsSoundIfAny (Some a) = IsSound a

  found_sound : (p : Rule → Bool) (c : List Rule) → AreSound c → IsSoundIfAny (find p c)
  found_sound p [] sound = tt
  found_sound p (a ∷ rest) sound = pick (p a) (found_sound p rest sound.1)
    where
      pick : (b : Bool) → IsSoundIfAny (find p rest) → IsSoundIfAny (if b then Some a else find p rest)
      pick true later = sound.0
      pick false later = later

  begins_more : (id : Text) (vs ws : List Text) → Begins id vs → Begins id (vs ++ ws)
  begins_more id [] ws bad = absurd bad
  begins_more id (v ∷ vs) ws holds = holds

  both_filled : (rs ss : List Row) → AreFilled rs → AreFilled ss → AreFilled (rs ++ ss)
  both_filled [] ss first second = second
  both_filled (r ∷ rs) ss first second = (first.0, both_filled rs ss first.1 second)

  at_row_filled : (id : Text) (change : Row → List Row) (missing rows : List Row) → ((r : Row) → Begins r.id r.values → AreFilled (change r))
      → AreFilled missing → AreFilled rows → AreFilled (at_row id change missing rows)
  at_row_filled id change missing [] each none filled = none
  at_row_filled id change missing (r ∷ rs) each none filled = pick (bytes_eq r.id id) (at_row_filled id change missing rs each none filled.1)
    where
      pick : (b : Bool) → AreFilled (at_row id change missing rs) → AreFilled (if b then change r ++ rs else r ∷ at_row id change missing rs)
      pick true later = both_filled (change r) rs (each r filled.0) filled.1
      pick false later = (filled.0, later)

  pub without_filled : (id : Text) (rows : List Row) → AreFilled rows → AreFilled (without id rows)
  without_filled id rows filled = at_row_filled id (λ _. []) [] rows (λ r holds. tt) tt filled

  pub with_values_filled : (id : Text) (how : Reading) (source : ValueSource) (values : List Text) (rows : List Row) → Begins id values → AreFilled rows
      → AreFilled (with_values id how source values rows)
  with_values_filled id how source values rows holds filled =
      at_row_filled id (more_values source values) _ rows (λ r first. (begins_more r.id r.values values first, tt)) (holds, tt) filled

  module _ (c : List Rule) (again : Bool) (sound : AreSound c) where
    used_filled : (a : Option Rule) → IsSoundIfAny a → (values : List Text) (rows : List Row) → option_map_or (λ a. use_fault again a values rows) a [] ≡ []
        → AreFilled rows → AreFilled (used_by_id a values rows)
    used_filled None is values rows none filled = filled
    used_filled (Some a) is values rows none filled = is.uses again values rows none filled

    settled_filled : (p : Option (Text × List Text)) (rows : List Row)
        → option_map_or (λ p. option_map_or (λ a. use_fault again a p.1 rows) (arg_by_id c p.0) []) p [] ≡ [] → AreFilled rows →
        AreFilled (settled_rows c p rows)
    settled_filled None rows none filled = filled
    settled_filled (Some p) rows none filled = used_filled (arg_by_id c p.0) (found_sound (λ a. bytes_eq a.id p.0) c sound) p.1 rows none filled

    pub settle_filled : (h : Held) → settle_fault c again h ≡ [] → AreFilled h.rows → AreFilled (settled c h).rows
    settle_filled h none filled = settled_filled h.pending h.rows none filled

    react_filled : (a : Rule) → IsSound a → (values : List Text) (h : Held) → react_fault c again a values h ≡ [] → AreFilled h.rows →
        AreFilled (reacted c a values h).rows
    react_filled a is values h none filled =
        let (settles, uses) = neither _ _ none in
        is.uses again values (settled c h).rows uses (settle_filled h settles filled)

    option_filled : (a : Rule) → IsSound a → (v : Option Text) (h : Held) → option_fault c again a v h ≡ [] → AreFilled h.rows →
        AreFilled (option_met c a v h).0.rows
    option_filled a is (Some v) h none filled = react_filled a is (v ∷ []) h none filled
    option_filled a is None h none filled = settle_filled h none filled

    flag_filled : (a : Rule) → IsSound a → (v : Option Text) (h : Held)
        → (if is_some v then TooManyValues ∷ [] else react_fault c again a [] h) ≡ []
        → AreFilled h.rows → AreFilled (walk_words.flag_met c a v h).0.rows
    flag_filled a is (Some v) h none filled = filled
    flag_filled a is None h none filled = react_filled a is [] h none filled

    long_filled : (a : Option Rule) → IsSoundIfAny a → (v : Option Text) (h : Held) → long_fault c again a v h ≡ [] → AreFilled h.rows →
        AreFilled (long_met c a v h).0.rows
    long_filled None is v h none filled = filled
    long_filled (Some a) is v h none filled = pick (takes_values a) none
      where
        pick : (b : Bool) → (if b then option_fault c again a v h
            else (if is_some v then TooManyValues ∷ [] else react_fault c again a [] h)) ≡ []
            → AreFilled (if b then option_met c a v h else walk_words.flag_met c a v h).0.rows
        pick true none = option_filled a is v h none filled
        pick false none = flag_filled a is v h none filled

    short_filled : (a : Option Rule) → IsSoundIfAny a → (rest : Text) (h : Held) (fault_after : Held → Kinds) (after : Held → Held × Outcome)
        → ((k : Held) → fault_after k ≡ [] → AreFilled k.rows → AreFilled (after k).0.rows)
        → short_fault c again a rest h fault_after ≡ [] → AreFilled h.rows → AreFilled (short_met c a rest h after).0.rows
    short_filled None is rest h fault_after after later none filled = filled
    short_filled (Some a) is rest h fault_after after later none filled = pick (takes_values a) none
      where
        pick : (b : Bool) →
            (if b then option_fault c again a (attached_value rest) h else or_else (react_fault c again a [] h) (fault_after (reacted c a [] h))) ≡ []
            → AreFilled (if b then option_met c a (attached_value rest) h else after (reacted c a [] h)).0.rows
        pick true none = option_filled a is (attached_value rest) h none filled
        pick false none =
            let (reacts, rest_fault) = neither _ _ none in
            later (reacted c a [] h) rest_fault (react_filled a is [] h reacts filled)

    step_filled : (first : Option ℕ) (flags : Text) (skip : ℕ) (so_far : Outcome) (h : Held) (fault_after : Text → ℕ → Held → Kinds)
        (after : Text → ℕ → Outcome → Held → Held × Outcome)
        → ((text : Text) (n : ℕ) (o : Outcome) (k : Held) → fault_after text n k ≡ [] → AreFilled k.rows → AreFilled (after text n o k).0.rows)
        → bundle_step_fault c again first flags skip h fault_after ≡ [] → AreFilled h.rows → AreFilled (bundle_step c first flags skip so_far h after).0.rows
    step_filled None flags skip so_far h fault_after after later none filled = filled
    step_filled (Some x) flags zero so_far h fault_after after later none filled =
        let rest = drop (length (encode_utf8 x)) flags in
        short_filled (arg_by_short c x) (found_sound (λ a. not (is_some a.index) && walk_words.has_short a x) c sound) rest h (fault_after rest 0)
        (after rest 0 done)
        (λ k. later rest 0 done k) none filled
    step_filled (Some x) flags (suc skip) so_far h fault_after after later none filled = later (drop (length (encode_utf8 x)) flags) skip so_far h none filled

    bundle_filled : (k : ℕ) (flags : Text) (skip : ℕ) (so_far : Outcome) (h : Held) → flags_fault c again k flags skip h ≡ [] → AreFilled h.rows
        → AreFilled (bundle_met c k flags skip so_far h).0.rows
    unfolding flags_fault bundle_met
    bundle_filled zero flags skip so_far h none filled = filled
    bundle_filled (suc k) flags skip so_far h none filled =
        step_filled (slice_get (chars flags) 0) flags skip so_far h (flags_fault c again k) (bundle_met c k) (bundle_filled k) none filled

    option_word_filled : (a : Option Rule) (id word : Text) (h : Held) → AreFilled h.rows → AreFilled (option_word a id word h).0.rows
    option_word_filled None id word h filled = filled
    option_word_filled (Some a) id word h filled = filled

    plain_filled : (waiting : Waiting) (word : Text) (h : Held) → AreFilled h.rows → AreFilled (plain_word c waiting word h).0.rows
    plain_filled (option id) word h filled = option_word_filled (arg_by_id c id) id word h filled
    plain_filled walk_words.idle word h filled = filled
    plain_filled walk_words.positional word h filled = filled

    after_flag_filled : (waiting : Waiting) (word : Text) (h : Held) (o : Outcome) → AreFilled h.rows → AreFilled (after_flag c waiting word h o).0.rows
    after_flag_filled waiting word h done filled = filled
    after_flag_filled waiting word h (waits id) filled = filled
    after_flag_filled waiting word h plain filled = plain_filled waiting word h filled
    after_flag_filled waiting word h refused filled = plain_filled waiting word h filled

    short_word_filled : (waiting : Waiting) (word : Text) (flags : Option Text) (h : Held) → option_map_or (λ flags. bundle_fault c again flags h) flags [] ≡ []
        → AreFilled h.rows → AreFilled (short_or_plain c waiting word flags h).0.rows
    short_word_filled waiting word (Some flags) h none filled =
        after_flag_filled waiting word (bundle c flags h).0 (bundle c flags h).1
        (bundle_filled (length flags) flags h.skip plain (record h { skip = 0 }) none filled)
    short_word_filled waiting word None h none filled = plain_filled waiting word h filled

    flag_word_filled : (waiting : Waiting) (word : Text) (long : Option (Text × Option Text)) (h : Held) → flag_word_fault c again long word h ≡ [] →
        AreFilled h.rows
        → AreFilled (long_or_other c waiting word long h).0.rows
    flag_word_filled waiting word (Some p) h none filled =
        let a = arg_by_long c p.0 in
        after_flag_filled waiting word (long_met c a p.1 h).0 (long_met c a p.1 h).1
        (long_filled a (found_sound (λ a. not (is_some a.index) && walk_words.has_long a p.0) c sound) p.1 h none filled)
    flag_word_filled waiting word None h none filled = short_word_filled waiting word (short_of word) h none filled

  module _ (s : Shape) (names : Names) (sound : AreSound s.rules) where
    other_filled : (met : Option Text) (waiting : Waiting) (position : ℕ) (word : Text) (h : Held) → other_fault s met word h ≡ [] → AreFilled h.rows
        → AreFilled (subcommand_or_other s.rules met waiting position word h).0.rows
    other_filled (Some name) waiting position word h none filled = filled
    other_filled None waiting position word h none filled = pick (bytes_eq word (45 ∷ 45 ∷ [])) none
      where
        pick : (b : Bool) → (if b then [] else flag_word_fault s.rules s.args_override_self (long_of word) word h) ≡ []
            → AreFilled (if b then (h, trailing position) else long_or_other s.rules waiting word (long_of word) h).0.rows
        pick true none = filled
        pick false none = flag_word_filled s.rules s.args_override_self sound waiting word (long_of word) h none filled

    word_filled : (is_trailing : Bool) (waiting : Waiting) (position : ℕ) (word : Text) (h : Held) → word_fault s names is_trailing waiting word h ≡ [] →
        AreFilled h.rows
        → AreFilled (word_met s.rules names is_trailing waiting position word h).0.rows
    word_filled true waiting position word h none filled = filled
    word_filled false waiting position word h none filled = other_filled (subcommand_met names waiting word) waiting position word h none filled

    positional_filled : (a : Option Rule) (word : Text) (w : Walk) (h : Held)
        → (let fault : Rule → Kinds = λ a. positional_fault s.rules s.args_override_self a h in option_map_or fault a (stray_fault s)) ≡ []
        → AreFilled h.rows → AreFilled (to_positional s.rules a word w h).held.rows
    positional_filled None word w h none filled = filled
    positional_filled (Some a) word w h none filled = pick (is_pending a h.pending && takes_several a) none
      where
        pick : (b : Bool) → (if b then [] else settle_fault s.rules s.args_override_self h) ≡ [] → AreFilled (if b then h else settled s.rules h).rows
        pick true none = filled
        pick false none = settle_filled s.rules s.args_override_self sound h none filled

    after_step_filled : (word : Text) (w : Walk) (h : Held) (step : Step) → step_fault s w.position h step ≡ [] → AreFilled h.rows →
        AreFilled (after_step s.rules word w h step).held.rows
    after_step_filled word w h (next waiting) none filled = filled
    after_step_filled word w h (trailing position) none filled = filled
    after_step_filled word w h (subcommand name) none filled = filled
    after_step_filled word w h value none filled = positional_filled (arg_by_index s.rules w.position) word w h none filled

    turn_filled : (stopped : Option (Text × List Text)) (w : Walk) (word : Text)
        → (let met = word_met s.rules names w.is_trailing w.waiting w.position word w.held in
        if is_some stopped then [] else or_else (word_fault s names w.is_trailing w.waiting word w.held) (step_fault s w.position met.0 met.1)) ≡ []
        → AreFilled w.held.rows → AreFilled (walked_from s.rules names stopped w word).held.rows
    turn_filled (Some p) w word none filled = filled
    turn_filled None w word none filled =
        let met = word_met s.rules names w.is_trailing w.waiting w.position word w.held in
        let (words, steps) = neither _ _ none in
        after_step_filled word w met.0 met.1 steps (word_filled w.is_trailing w.waiting w.position word w.held words filled)

    pub walk_filled : (w : Walk) (words : List Text) → walk_fault s names w words ≡ [] → AreFilled w.held.rows →
        AreFilled (fold (walked s.rules names) w words).held.rows
    unfolding walk_fault walked
    walk_filled w [] none filled = filled
    walk_filled w (word ∷ rest) none filled =
        let (turn, later) = neither _ _ none in
        walk_filled (walked s.rules names w word) rest later (turn_filled w.stopped w word turn filled)

  pub defaults_filled : (c : List Rule) → AreSound c → (rows : List Row) → AreFilled rows → AreFilled (fold with_default rows c)
  defaults_filled [] sound rows filled = filled
  defaults_filled (a ∷ rest) sound rows filled = defaults_filled rest sound.1 (with_default rows a) (sound.0.defaults rows filled)
