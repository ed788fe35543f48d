-- A line that holds a reading has the values of its items.
use Rattle.std.proofs.Common.{◌≡◌, ℕ, ◌+◌, ◌≤◌, ℤ, List, [], ◌∷◌, ◌++◌, length, drop, min, Result, Ok, Err, ap, subst, refl, sym, ◌∙◌, append_assoc}
use Rattle.std.proofs.Common.{length-append, arith}
use Rattle.std.proofs.lemmas.List.{append-nil, length-drop, drop_at, drop-drop, drop-map}
use Rattle.ngc_line_reader.specs.Scan.{Gives}
use Rattle.ngc_line_reader.specs.declared.token.Token.{Token}
use Rattle.ngc_line_reader.specs.declared.line.RawWord.{RawWord}
use Rattle.ngc_line_reader.specs.declared.line.RawSetting.{RawSetting}
use Rattle.ngc_line_reader.specs.ScanLine.{Parts}
use Rattle.ngc_line_reader.specs.Shown.{Items, items_of, parsed_items}
use Rattle.ngc_line_reader.specs.Text.{columns, place_in}
use Rattle.ngc_line_reader.specs.Grammar.{Real, Item, word, setting, comment, Reading, optional_part, real_text, items_text}
use Rattle.ngc_line_reader.specs.declared.token.Symbol.{Symbol}
use Rattle.ngc_line_reader.specs.declared.letter.Letter.{Letter}
use Rattle.ngc_line_reader.specs.Tokens.{symbols_of, symbols, tokens_of, IsWithinLimit}
use Rattle.ngc_line_reader.proofs.TokenLemmas.{symbols-append, length-symbols, symbols-tokens_of, length-tokens_of}
use Rattle.ngc_line_reader.specs.Held.{all_tokens, token_count, words_from, settings_from, AllWithinLimit}
use Rattle.ngc_parameters.specs.declared.fault.EvalFault.{EvalFault}
use Rattle.ngc_parameters.specs.Meaning.{◌>>=◌, Parameters, index_of, value_of, words_of, settings_of}
use Rattle.ngc_parameters.specs.Evaluate.{symbol_value}
use Rattle.ngc_parameters.specs.EvaluateView.{with_rest}
use Rattle.ngc_parameters.specs.Stored.{tokens_from, value_from, words_after, words_on, change_from, settings_after, settings_on, values_on, line_values}
use Rattle.ngc_parameters.proofs.Evaluates.{evaluates}

-- the tokens from first on are these
pub record At (tokens : List Token) (first : ℕ) (rest : List Token) : Type 0 where
  pub within : first ≤ length tokens
  pub are : drop first tokens ≡ rest

drop_more : (xs : List Token) (a b : ℕ) → drop (a + b) xs ≡ drop b (drop a xs)
drop_more xs a b = sym (drop-drop b a xs)

after : (tokens : List Token) (first n : ℕ) (front rest : List Token) → n ≡ length front → At tokens first (front ++ rest) → At tokens (first + n) rest
after tokens first n front rest e h =
    let size = ap length h.are in
    record {
      within = omega (arith, size, length-drop first tokens, length-append front rest, h.within, e);
      are = drop_more tokens first n ∙ ap (λ (ts : List Token). drop n ts) h.are ∙ drop_at front rest n (sym e);
    }

from_is : (tokens : List Token) (first : ℕ) (rest : List Token) → At tokens first rest → tokens_from tokens first ≡ rest
from_is tokens first rest h = let e : min first (length tokens) ≡ first = omega (arith, h.within) in ap (λ (n : ℕ). drop n tokens) e ∙ h.are

value_only : (r : List Symbol) (value : Result ℤ EvalFault) → (with_rest r value >>= λ x. Ok x.0) ≡ value
value_only r (Ok z) = refl
value_only r (Err e) = refl

value_is : (p : Parameters) (tokens : List Token) (first : ℕ) (place : ℕ → ℕ) (v : Real) (end : List ℕ) (rest : List Token) → IsWithinLimit v →
    At tokens first (tokens_of place v end ++ rest) → value_from p tokens first ≡ value_of p v
value_is p tokens first place v end rest limit h =
    let ts = tokens_from tokens first in
    let are : ts ≡ tokens_of place v end ++ rest = from_is tokens first (tokens_of place v end ++ rest) h in
    let split : symbols ts ≡ symbols_of v ++ symbols rest = ap symbols are ∙ symbols-append (tokens_of place v end) rest
    ∙ ap (λ (ss : List Symbol). ss ++ symbols rest) (symbols-tokens_of place v end) in
    let size = ap length split in
    let law = evaluates v (symbols rest) (length ts + 1) 16 p limit (omega (arith, size, length-symbols ts)) in
    ap (λ (ss : List Symbol). symbol_value (length ts + 1) 16 p ss >>= λ x. Ok x.0) split
    ∙ ap (λ (f : Result (ℤ × List Symbol) EvalFault). f >>= λ x. Ok x.0) law ∙ value_only (symbols rest) (value_of p v)

-- the tokens after a value's
after_value : (tokens : List Token) (first : ℕ) (place : ℕ → ℕ) (v : Real) (end : List ℕ) (rest : List Token) →
    At tokens first (tokens_of place v end ++ rest) → At tokens (first + length (symbols_of v)) rest
after_value tokens first place v end rest h = after tokens first (length (symbols_of v)) (tokens_of place v end) rest (sym (length-tokens_of place v end)) h

abbrev Pairs : Type 0 → Type 0
Pairs K = List (K × ℤ)

-- more pairs after those found
abbrev behind_found : {K : Type 0} → Pairs K → Result (Pairs K) EvalFault → Result (Pairs K) EvalFault
behind_found found more = more >>= λ xs. Ok (found ++ xs)

one_more : {K : Type 0} (found : Pairs K) (x : K × ℤ) (more : Result (Pairs K) EvalFault) →
    behind_found (found ++ (x ∷ [])) more ≡ behind_found found (more >>= λ xs. Ok (x ∷ xs))
one_more found x (Ok xs) = ap Ok (append_assoc found (x ∷ []) xs)
one_more found x (Err e) = refl

abbrev fine : {K : Type 0} → Pairs K → Result (Pairs K) EvalFault
fine xs = Ok xs

-- a word's value, and what follows
word_step : (found : Pairs Letter) (letter : Letter) (value : Result ℤ EvalFault) (go : ℤ → Result (Pairs Letter) EvalFault)
    (more : Result (Pairs Letter) EvalFault)
    → ((x : ℤ) → go x ≡ behind_found (found ++ ((letter, x) ∷ [])) more) →
    (value >>= go) ≡ behind_found found (value >>= λ x. more >>= λ xs. Ok ((letter, x) ∷ xs))
word_step found letter (Ok x) go more h = h x ∙ one_more found (letter, x) more
word_step found letter (Err e) go more h = refl

-- a setting's index and value, and what follows them
after_setting : (tokens : List Token) (first : ℕ) (place : ℕ → ℕ) (i v : Real) (a b : List ℕ) (rest : List Token) →
    At tokens first ((tokens_of place i a ++ tokens_of place v b) ++ rest)
    → (At tokens first (tokens_of place i a ++ (tokens_of place v b ++ rest))) × (At tokens (first + length (symbols_of i)) (tokens_of place v b ++ rest)) ×
    (At tokens (first + (length (symbols_of i) + length (symbols_of v))) rest)
after_setting tokens first place i v a b rest h =
    let here : At tokens first (tokens_of place i a ++ (tokens_of place v b ++ rest)) =
    record { within = h.within; are = h.are ∙ append_assoc (tokens_of place i a) (tokens_of place v b) rest } in
    let there = after_value tokens first place i a (tokens_of place v b ++ rest) here in
    let end = after_value tokens (first + length (symbols_of i)) place v b rest there in
    let sum : (first + length (symbols_of i)) + length (symbols_of v) ≡ first + (length (symbols_of i) + length (symbols_of v)) = omega arith in
    (here, there, subst (λ (n : ℕ). At tokens n rest) sum end)

pub words_are : (p : Parameters) (tokens : List Token) (place : ℕ → ℕ) (items : List Item) (end : List ℕ) (first : ℕ) (found : Pairs Letter) →
    AllWithinLimit items → At tokens first (all_tokens place items end)
    → words_after p tokens found (words_from place first items end) ≡ behind_found found (words_of p items)
words_are p tokens place [] end first found limit h = ap fine (sym (append-nil found))
words_are p tokens place (word letter v ∷ items) end first found limit h =
    rw (value_is p tokens first place v (items_text items ++ end) (all_tokens place items end) limit.0 h)
    (word_step found letter (value_of p v)
    (λ x. words_after p tokens (found ++ ((letter, x) ∷ [])) (words_from place (first + length (symbols_of v)) items end)) (words_of p items)
    (λ x. words_are p tokens place items end (first + length (symbols_of v)) (found ++ ((letter, x) ∷ [])) limit.1
    (after_value tokens first place v (items_text items ++ end) (all_tokens place items end) h)))
words_are p tokens place (setting i v ∷ items) end first found limit h =
    let next = after_setting tokens first place i v (61 ∷ (real_text v ++ (items_text items ++ end))) (items_text items ++ end)
    (all_tokens place items end) h in
    words_are p tokens place items end (first + token_count (setting i v)) found limit.1 next.2
words_are p tokens place (comment bs ∷ items) end first found limit h = words_are p tokens place items end first found limit.1 h

-- a setting's index and value, and what follows
setting_step : (found : Pairs ℕ) (index value : Result ℤ EvalFault) (go : ℕ × ℤ → Result (Pairs ℕ) EvalFault) (more : Result (Pairs ℕ) EvalFault)
    → ((c : ℕ × ℤ) → go c ≡ behind_found (found ++ (c ∷ [])) more)
    → ((index >>= λ i. index_of i >>= λ k. value >>= λ x. Ok (k, x)) >>= go)
    ≡ behind_found found (index >>= λ i. index_of i >>= λ k. value >>= λ x. more >>= λ xs. Ok ((k, x) ∷ xs))
setting_step found (Err e) value go more h = refl
setting_step found (Ok i) value go more h = by_index (index_of i) value where
  by_index : (k : Result ℕ EvalFault) (value : Result ℤ EvalFault) →
      ((k >>= λ n. value >>= λ x. Ok (n, x)) >>= go) ≡ behind_found found (k >>= λ n. value >>= λ x. more >>= λ xs. Ok ((n, x) ∷ xs))
  by_index (Err e) value = refl
  by_index (Ok n) (Err e) = refl
  by_index (Ok n) (Ok x) = h (n, x) ∙ one_more found (n, x) more

pub settings_are : (p : Parameters) (tokens : List Token) (place : ℕ → ℕ) (items : List Item) (end : List ℕ) (first : ℕ) (found : Pairs ℕ) →
    AllWithinLimit items → At tokens first (all_tokens place items end)
    → settings_after p tokens found (settings_from place first items end) ≡ behind_found found (settings_of p items)
settings_are p tokens place [] end first found limit h = ap fine (sym (append-nil found))
settings_are p tokens place (word letter v ∷ items) end first found limit h =
    settings_are p tokens place items end (first + length (symbols_of v)) found limit.1
    (after_value tokens first place v (items_text items ++ end) (all_tokens place items end) h)
settings_are p tokens place (setting i v ∷ items) end first found limit h =
    let next = after_setting tokens first place i v (61 ∷ (real_text v ++ (items_text items ++ end))) (items_text items ++ end)
    (all_tokens place items end) h in
    rw (
      value_is p tokens first place i (61 ∷ (real_text v ++ (items_text items ++ end)))
          (tokens_of place v (items_text items ++ end) ++ all_tokens place items end) limit.0.0 next.0,
      value_is p tokens (first + length (symbols_of i)) place v (items_text items ++ end) (all_tokens place items end) limit.0.1 next.1,
    )
    (setting_step found (value_of p i) (value_of p v)
    (λ c. settings_after p tokens (found ++ (c ∷ [])) (settings_from place (first + token_count (setting i v)) items end)) (settings_of p items)
    (λ c. settings_are p tokens place items end (first + token_count (setting i v)) (found ++ (c ∷ [])) limit.1 next.2))
settings_are p tokens place (comment bs ∷ items) end first found limit h = settings_are p tokens place items end first found limit.1 h

all_found : {K : Type 0} (more : Result (Pairs K) EvalFault) → behind_found [] more ≡ more
all_found (Ok xs) = refl
all_found (Err e) = refl

-- ---- the columns of tokens do not matter

-- the value whose symbols begin at an index
abbrev value_on : Parameters → List Symbol → ℕ → Result ℤ EvalFault
value_on p ss first = symbol_value (length (drop (min first (length ss)) ss) + 1) 16 p (drop (min first (length ss)) ss) >>= λ x. Ok x.0

symbols_behind : (tokens : List Token) (n : ℕ) → symbols (drop n tokens) ≡ drop n (symbols tokens)
symbols_behind tokens n = sym (drop-map (λ (t : Token). t.symbol) n tokens)

value_by_symbols : (p : Parameters) (tokens : List Token) (first : ℕ) → value_from p tokens first ≡ value_on p (symbols tokens) first
value_by_symbols p tokens first =
    let afterwards : symbols (tokens_from tokens first) ≡ drop (min first (length (symbols tokens))) (symbols tokens) =
    symbols_behind tokens (min first (length tokens)) ∙ ap (λ (n : ℕ). drop (min first n) (symbols tokens)) (sym (length-symbols tokens)) in
    ap (λ (n : ℕ). symbol_value (n + 1) 16 p (symbols (tokens_from tokens first)) >>= λ x. Ok x.0) (sym (length-symbols (tokens_from tokens first)))
    ∙ ap (λ (ss : List Symbol). symbol_value (length ss + 1) 16 p ss >>= λ x. Ok x.0) afterwards

same_value : (p : Parameters) (ts us : List Token) (first : ℕ) → symbols ts ≡ symbols us → value_from p ts first ≡ value_from p us first
same_value p ts us first e = value_by_symbols p ts first ∙ ap (λ (ss : List Symbol). value_on p ss first) e ∙ sym (value_by_symbols p us first)

-- the same after each value
same_behind : {X Y : Type 0} (r : Result X EvalFault) (f g : X → Result Y EvalFault) → ((x : X) → f x ≡ g x) → (r >>= f) ≡ (r >>= g)
same_behind (Ok x) f g h = h x
same_behind (Err e) f g h = refl

same_words : (p : Parameters) (ts us : List Token) (found : Pairs Letter) (ws : List RawWord) → symbols ts ≡ symbols us →
    words_after p ts found ws ≡ words_after p us found ws
same_words p ts us found [] e = refl
same_words p ts us found (w ∷ ws) e =
    ap (λ (r : Result ℤ EvalFault). r >>= λ x. words_after p ts (found ++ ((w.letter, x) ∷ [])) ws) (same_value p ts us w.first e)
    ∙ same_behind (value_from p us w.first) _ _ (λ x. same_words p ts us (found ++ ((w.letter, x) ∷ [])) ws e)

same_change : (p : Parameters) (ts us : List Token) (i v : ℕ) → symbols ts ≡ symbols us → change_from p ts i v ≡ change_from p us i v
same_change p ts us i v e = rw (same_value p ts us i e, same_value p ts us v e) refl

same_settings : (p : Parameters) (ts us : List Token) (found : Pairs ℕ) (ss : List RawSetting) → symbols ts ≡ symbols us →
    settings_after p ts found ss ≡ settings_after p us found ss
same_settings p ts us found [] e = refl
same_settings p ts us found (s ∷ ss) e =
    ap (λ (r : Result (ℕ × ℤ) EvalFault). r >>= λ c. settings_after p ts (found ++ (c ∷ [])) ss) (same_change p ts us s.index s.value e)
    ∙ same_behind (change_from p us s.index s.value) _ _ (λ c. same_settings p ts us (found ++ (c ∷ [])) ss e)

-- ---- the contents

-- the tokens of a reading of these bytes
abbrev tokens_said : List ℕ → Reading → List Token
tokens_said bytes r = all_tokens (place_in (columns bytes)) r.items (optional_part 59 r.remark)

said_at : (bytes : List ℕ) (r : Reading) → At (tokens_said bytes r) 0 (tokens_said bytes r)
said_at bytes r = record { within = omega arith; are = refl }

line_words : (p : Parameters) (bytes : List ℕ) (parts : Parts) (r : Reading) → items_of parts ≡ parsed_items bytes r → AllWithinLimit r.items →
    words_on p parts.tokens parts.words ≡ words_of p r.items
line_words p bytes parts r h limit =
    same_words p parts.tokens (tokens_said bytes r) [] parts.words (ap (λ (x : Items). x.symbols) h)
    ∙ ap (λ (ws : List RawWord). words_on p (tokens_said bytes r) ws) (ap (λ (x : Items). x.words) h)
    ∙ words_are p (tokens_said bytes r) (place_in (columns bytes)) r.items (optional_part 59 r.remark) 0 [] limit (said_at bytes r)
    ∙ all_found (words_of p r.items)

line_settings : (p : Parameters) (bytes : List ℕ) (parts : Parts) (r : Reading) → items_of parts ≡ parsed_items bytes r → AllWithinLimit r.items →
    settings_on p parts.tokens parts.settings ≡ settings_of p r.items
line_settings p bytes parts r h limit =
    same_settings p parts.tokens (tokens_said bytes r) [] parts.settings (ap (λ (x : Items). x.symbols) h)
    ∙ ap (λ (ss : List RawSetting). settings_on p (tokens_said bytes r) ss) (ap (λ (x : Items). x.settings) h)
    ∙ settings_are p (tokens_said bytes r) (place_in (columns bytes)) r.items (optional_part 59 r.remark) 0 [] limit (said_at bytes r)
    ∙ all_found (settings_of p r.items)

line_found : (p : Parameters) (bytes : List ℕ) (parts : Parts) (r : Reading) → items_of parts ≡ parsed_items bytes r → AllWithinLimit r.items →
    values_on p parts ≡ line_values p r.items
line_found p bytes parts r h limit = rw (line_words p bytes parts r h limit, line_settings p bytes parts r h limit) refl

-- the computed values are those of the line's reading
pub line_is : {X : Type 0} (p : Parameters) (parts : Parts) (view : X → List (Letter × ℤ) × List (ℕ × ℤ)) (result : Result X EvalFault) →
    Gives view result (values_on p parts)
    → (bytes : List ℕ) (r : Reading) → items_of parts ≡ parsed_items bytes r → AllWithinLimit r.items → Gives view result (line_values p r.items)
line_is p parts view result g bytes r h limit =
    subst (λ (found : Result (List (Letter × ℤ) × List (ℕ × ℤ)) EvalFault). Gives view result found) (line_found p bytes parts r h limit) g
