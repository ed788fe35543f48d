-- Each part of a line that was read finds its values on the stack.
use Rattle.std.proofs.Common.{◌≡◌, ℕ, zero, suc, ◌+◌, ◌≤◌, Bool, true, false, ◌&&◌, ◌||◌, not, List, [], ◌∷◌, ◌++◌, length, take, drop, Option, Some, None, IsSome, is_some, unwrap_or, true≢false, Result, Ok, Err, IfOk, nat_le, nat_eq, codes, bytes_eq, refl, ap, sym, subst, ◌∙◌, arith}
use Rattle.std.specs.Prelude.{if◌then◌else◌, ◌==◌}
use Rattle.std.specs.List.{starts_with}
use Rattle.std.proofs.Common.{le-leb}
use Rattle.std.proofs.lemmas.Result.{IfOk-weaker}
use Rattle.ngc_line_reader.specs.Scan.{◌>>=◌, begins}
use Rattle.ngc_dialect_names.specs.declared.dialect.Dialect.{Dialect}
use Rattle.ngc_dialect_reader.specs.declared.switches.Switches.{Switches}
use Rattle.ngc_dialect_reader.specs.declared.fault.Cause.TheVariants as causes
use Rattle.ngc_dialect_reader.specs.declared.fault.LineFault.{LineFault}
use Rattle.ngc_dialect_reader.specs.declared.part.Part.{Part}
use Rattle.ngc_dialect_reader.specs.declared.part.PartKind.{PartKind}
use Rattle.ngc_dialect_reader.specs.declared.part.PartKind.TheVariants as kinds
use Rattle.ngc_dialect_reader.specs.declared.part.Function.{Function}
use Rattle.ngc_dialect_reader.specs.declared.part.Keyword.{Keyword}
use Rattle.ngc_dialect_reader.specs.declared.part.Operator.{Operator}
use Rattle.ngc_dialect_reader.specs.Number.{number_at, has_sign}
use Rattle.ngc_dialect_reader.specs.Steps.{Answer, Reader, add, added, closed, needed, name_at, word_length, ended, after_comments}
use Rattle.ngc_dialect_reader.specs.Value.{value_at, value_with, other_with, sign_with, literal_at, begins_digits, begins_other, function_with, named_with, function_called, function_of, exists_with, atan_with, second_with, parameter_with, bracket_with, expression_with, chain_at, link_at, above, operator_at, operator_length, rank}
use Rattle.ngc_dialect_reader.specs.Item.{top, begins_value, word_at, assigned_at, setting_at, item_at, items_at, items, is_word_letter}
use Rattle.ngc_dialect_reader.specs.Flow.{arguments_at, action_at, takes, keyword_of, label_at, labelled_at, o_word_at, jump_at, then_at, if_at, while_at, macro_at}
use Rattle.ngc_dialect_reader.specs.Line.{level_at, deleted, delete_at, begins_digit, line_number_at, statement_at, text_at, located, located_fault, line_of}
use Rattle.ngc_dialect_reader.specs.Text.{text, fault_in}
use Rattle.ngc_dialect_reader.specs.Table.{switches_of}
use Rattle.ngc_dialect_parameters.specs.Heights.{taken, height_after, height}

-- the parts find their values, and leave h of them
abbrev At : List Part → ℕ → Type 0
At parts h = height parts 0 ≡ Some h

-- a reader that, after parts that leave at least `low` values, adds parts that leave `more`
abbrev Raises : ℕ → ℕ → Reader → Type 0
Raises low more r = (found : List Part) (s : List ℕ) (h : ℕ) → low ≤ h → At found h → IfOk (r found s) (λ x. At x.0 (h + more))

bind_ok : {A B E : Type 0} (r : Result A E) (f : A → Result B E) (P : A → Type 0) (Q : B → Type 0) → IfOk r P → ((a : A) → P a → IfOk (f a) Q) → IfOk (r >>= f) Q
bind_ok (Ok a) f P Q h g = g a h
bind_ok (Err e) f P Q h g = tt

bind_any : {A B E : Type 0} (r : Result A E) (f : A → Result B E) (Q : B → Type 0) → ((a : A) → IfOk (f a) Q) → IfOk (r >>= f) Q
bind_any (Ok a) f Q g = g a
bind_any (Err e) f Q g = tt

if_ok : {X E : Type 0} (b : Bool) (x y : Result X E) (Q : X → Type 0) → IfOk x Q → IfOk y Q → IfOk (if b then x else y) Q
if_ok true x y Q g h = g
if_ok false x y Q g h = h

if_is : {X : Type 0} (b : Bool) (x y : X) → b ≡ true → (if b then x else y) ≡ x
if_is true x y e = refl
if_is false x y e = absurd (true≢false (sym e))

some_is : (x y : ℕ) → Some x ≡ Some y → x ≡ y
some_is x y e = ap (λ (o : Option ℕ). unwrap_or o 0) e

-- parts that find their values, with one more that does so too
with_one : (p : Part) (n m : ℕ) → taken p.kind ≤ n → height_after p.kind n ≡ m → height (p ∷ []) n ≡ Some m
with_one p n m h e = if_is (nat_le (taken p.kind) n) _ _ (le-leb (taken p.kind) n h) ∙ ap (λ (k : ℕ). Some k) e

height_snoc : (ps : List Part) (p : Part) (h n m : ℕ) → height ps h ≡ Some n → taken p.kind ≤ n → height_after p.kind n ≡ m → height (ps ++ (p ∷ [])) h ≡ Some m
height_snoc [] p h n m e t f = ap (λ (k : ℕ). height (p ∷ []) k) (some_is h n e) ∙ with_one p n m t f
height_snoc (q ∷ qs) p h n m e t f = by (nat_le (taken q.kind) h) (λ g. height_snoc qs p (height_after q.kind h) n m g t f) e where
  by : (b : Bool) → (height qs (height_after q.kind h) ≡ Some n → height (qs ++ (p ∷ [])) (height_after q.kind h) ≡ Some m) → (if b then height qs (height_after q.kind h) else None) ≡ Some n → (if b then height (qs ++ (p ∷ [])) (height_after q.kind h) else None) ≡ Some m
  by true k g = k g
  by false k g = absurd (true≢false (sym (ap is_some g)))

add_at : (kind : PartKind) (s : List ℕ) (found : List Part) (h n : ℕ) → At found h → taken kind ≤ h → height_after kind h ≡ n → IfOk (add kind s found) (λ parts. At parts n)
add_at kind s found h n at t e = if_ok (length found == 128) _ _ _ tt (height_snoc found (record { kind = kind; left = length s }) 0 h n at t e)

added_at : (kind : PartKind) (s : List ℕ) (found : List Part) (rest : List ℕ) (h n : ℕ) → At found h → taken kind ≤ h → height_after kind h ≡ n →
    IfOk (added kind s found rest) (λ x. At x.0 n)
added_at kind s found rest h n at t e = if_ok (length found == 128) _ _ _ tt (height_snoc found (record { kind = kind; left = length s }) 0 h n at t e)

-- the same number, written another way
At_is : (found : List Part) (h n : ℕ) → At found h → h ≡ n → At found n
At_is found h n at e = at ∙ ap (λ (k : ℕ). Some k) e

literal_raises : Raises 0 1 literal_at
unfolding literal_at
literal_raises found s h low at = bind_any (number_at s) _ _ (λ x. added_at (kinds.Number x.0) s found x.1 h (h + 1) at (omega arith) (omega arith))

link_raises : (fanuc : Bool) (value : Reader) → Raises 0 1 value → (chain : ℕ → Reader) → ((level : ℕ) → Raises 1 0 (chain level)) →
    (level : ℕ) (o : Option Operator) → Raises 1 0 (link_at fanuc value chain level o)
link_raises fanuc value v chain more level None found s h low at = At_is found h (h + 0) at (omega arith)
link_raises fanuc value v chain more level (Some o) found s h low at =
    bind_ok (value found (drop (operator_length o) s)) _ (λ x. At x.0 (h + 1)) _ (v found (drop (operator_length o) s) h (omega arith) at)
    (λ x hx. bind_ok (chain (rank fanuc o) x.0 x.1) _ (λ y. At y.0 ((h + 1) + 0)) _
    (more (rank fanuc o) x.0 x.1 (h + 1) (omega arith) hx)
    (λ y hy. bind_ok (add (kinds.Operate o) s y.0) _ (λ parts. At parts h) _
    (add_at (kinds.Operate o) s y.0 ((h + 1) + 0) h hy (omega arith) (omega arith))
    (λ parts hp. more level parts y.1 h low hp)))

chain_raises : (fanuc : Bool) (value : Reader) → Raises 0 1 value → (more level : ℕ) → Raises 1 0 (chain_at fanuc value more level)
unfolding chain_at
chain_raises fanuc value v zero level found s h low at = tt
chain_raises fanuc value v (suc more) level found s h low at =
    link_raises fanuc value v (chain_at fanuc value more) (λ l. chain_raises fanuc value v more l) level (above fanuc level (operator_at s)) found s h low at

expression_raises : (d : Switches) (value : Reader) → Raises 0 1 value → Raises 0 1 (expression_with d value)
expression_raises d value v found s h low at =
    bind_ok (value found s) _ (λ x. At x.0 (h + 1)) _ (v found s h low at)
    (λ x hx. IfOk-weaker (chain_at d.macros value 128 0 x.0 x.1) _ _ (λ y hy. At_is y.0 ((h + 1) + 0) (h + 1) hy (omega arith))
    (chain_raises d.macros value v 128 0 x.0 x.1 (h + 1) (omega arith) hx))

bracket_raises : (d : Switches) (value : Reader) → Raises 0 1 value → Raises 0 1 (bracket_with d value)
unfolding bracket_with
bracket_raises d value v found s h low at =
    bind_ok (expression_with d value found (drop 1 s)) _ (λ x. At x.0 (h + 1)) _ (expression_raises d value v found (drop 1 s) h low at)
    (λ x hx. bind_any (closed 93 causes.BracketNotClosed s x.1) _ _ (λ rest. hx))

parameter_raises : (d : Switches) (value : Reader) → Raises 0 1 value → Raises 0 1 (parameter_with d value)
unfolding parameter_with
parameter_raises d value v found s h low at =
    if_ok (begins 60 (drop 1 s)) _ _ _
    (if_ok d.names _ _ _
    (bind_any (name_at (drop 2 s)) _ _ (λ x. added_at (kinds.Named x.0) s found x.1 h (h + 1) at (omega arith) (omega arith)))
    tt)
    (bind_ok (value found (drop 1 s)) _ (λ x. At x.0 (h + 1)) _ (v found (drop 1 s) h low at)
    (λ x hx. added_at kinds.Parameter s x.0 x.1 (h + 1) (h + 1) hx (omega arith) (omega arith)))

second_raises : (d : Switches) (value : Reader) (from : List ℕ) → Raises 0 1 value → Raises 0 1 (second_with d value from)
unfolding second_with
second_raises d value from v found s h low at =
    if_ok (d.macros && begins 44 s) _ _ _ (bracket_raises d value v found s h low at)
    (bind_any (closed 93 causes.BracketNotClosed from s) _ _ (λ r.
    bind_any (needed 47 causes.SlashMissing r) _ _ (λ t.
    if_ok (begins 91 t) _ _ _ (bracket_raises d value v found t h low at) tt)))

atan_raises : (d : Switches) (value : Reader) (from : List ℕ) → Raises 0 1 value → Raises 0 1 (atan_with d value from)
unfolding atan_with
atan_raises d value from v found s h low at =
    bind_ok (expression_with d value found (drop 1 s)) _ (λ x. At x.0 (h + 1)) _ (expression_raises d value v found (drop 1 s) h low at)
    (λ x hx. bind_ok (second_with d value s x.0 x.1) _ (λ y. At y.0 ((h + 1) + 1)) _ (second_raises d value s v x.0 x.1 (h + 1) (omega arith) hx)
    (λ y hy. added_at kinds.ArcTangent from y.0 y.1 ((h + 1) + 1) (h + 1) hy (omega arith) (omega arith)))

exists_raises : (d : Switches) (from : List ℕ) → Raises 0 1 (exists_with d from)
unfolding exists_with
exists_raises d from found s h low at =
    if_ok (not d.names) _ _ _ tt
    (bind_any (needed 35 causes.NameMissing (drop 1 s)) _ _ (λ r.
    bind_any (needed 60 causes.NameMissing r) _ _ (λ t.
    bind_any (name_at t) _ _ (λ x.
    bind_any (closed 93 causes.BracketNotClosed s x.1) _ _ (λ rest.
    added_at (kinds.Exists x.0) from found rest h (h + 1) at (omega arith) (omega arith))))))

called_raises : (f : Option Function) (d : Switches) (value : Reader) (from : List ℕ) → Raises 0 1 value → Raises 0 1 (function_called f d value from)
called_raises None d value from v found s h low at = tt
called_raises (Some f) d value from v found s h low at =
    bind_ok (bracket_with d value found s) _ (λ x. At x.0 (h + 1)) _ (bracket_raises d value v found s h low at)
    (λ x hx. added_at (kinds.Apply f) from x.0 x.1 (h + 1) (h + 1) hx (omega arith) (omega arith))

named_raises : (d : Switches) (value : Reader) (name from : List ℕ) → Raises 0 1 value → Raises 0 1 (named_with d value name from)
unfolding named_with
named_raises d value name from v found s h low at =
    if_ok (bytes_eq name (codes "ATAN")) _ _ _ (atan_raises d value from v found s h low at)
    (if_ok (bytes_eq name (codes "EXISTS")) _ _ _ (exists_raises d from found s h low at)
    (called_raises (function_of name) d value from v found s h low at))

function_raises : (d : Switches) (value : Reader) → Raises 0 1 value → Raises 0 1 (function_with d value)
unfolding function_with
function_raises d value v found s h low at =
    if_ok (begins 91 (drop (word_length s) s)) _ _ _
    (named_raises d value (take (word_length s) s) s v found (drop (word_length s) s) h low at) tt

sign_raises : (value : Reader) → Raises 0 1 value → Raises 0 1 (sign_with value)
unfolding sign_with
sign_raises value v found s h low at =
    bind_ok (value found (drop 1 s)) _ (λ x. At x.0 (h + 1)) _ (v found (drop 1 s) h low at)
    (λ x hx. if_ok (begins 45 s) _ _ _ (added_at kinds.Negate s x.0 x.1 (h + 1) (h + 1) hx (omega arith) (omega arith)) hx)

other_raises : (d : Switches) (value : Reader) → Raises 0 1 value → Raises 0 1 (other_with d value)
unfolding other_with
other_raises d value v found s h low at =
    if_ok (begins 91 s) _ _ _ (bracket_raises d value v found s h low at)
    (if_ok (begins 35 s) _ _ _ (parameter_raises d value v found s h low at) (function_raises d value v found s h low at))

value_with_raises : (d : Switches) (value : Reader) → Raises 0 1 value → Raises 0 1 (value_with d value)
unfolding value_with
value_with_raises d value v found s h low at =
    if_ok (begins_digits s) _ _ _ (literal_raises found s h low at)
    (if_ok (has_sign s) _ _ _
    (if_ok (d.expressions && not (begins_digits (drop 1 s))) _ _ _ (sign_raises value v found s h low at) (literal_raises found s h low at))
    (if_ok (not (begins_other s)) _ _ _ tt
    (if_ok d.expressions _ _ _ (other_raises d value v found s h low at) tt)))

value_raises : (d : Switches) (depth : ℕ) → Raises 0 1 (value_at d depth)
unfolding value_at
value_raises d zero found s h low at = tt
value_raises d (suc depth) found s h low at = value_with_raises d (value_at d depth) (value_raises d depth) found s h low at

-- items

top_raises : (d : Switches) → Raises 0 1 (top d)
top_raises d = value_raises d 32

word_raises : (d : Switches) (letter : ℕ) → Raises 0 0 (word_at d letter)
unfolding word_at
word_raises d letter found s h low at =
    if_ok (not (begins_value (drop 1 s))) _ _ _ tt
    (bind_ok (top d found (drop 1 s)) _ (λ x. At x.0 (h + 1)) _ (top_raises d found (drop 1 s) h low at)
    (λ x hx. added_at (kinds.Word letter) s x.0 x.1 (h + 1) (h + 0) hx (omega arith) (omega arith)))

assigned_raises : (d : Switches) → Raises 0 1 (assigned_at d)
unfolding assigned_at
assigned_raises d found s h low at =
    bind_any (needed 61 causes.EqualsMissing s) _ _ (λ r.
    if_ok d.macros _ _ _ (expression_raises d (top d) (top_raises d) found r h low at) (top_raises d found r h low at))

setting_raises : (d : Switches) → Raises 0 0 (setting_at d)
unfolding setting_at
setting_raises d found s h low at =
    if_ok (not d.expressions) _ _ _ tt
    (if_ok (begins 60 (drop 1 s)) _ _ _
    (if_ok (not d.names) _ _ _ tt
    (bind_any (name_at (drop 2 s)) _ _ (λ x.
    bind_ok (assigned_at d found x.1) _ (λ y. At y.0 (h + 1)) _ (assigned_raises d found x.1 h low at)
    (λ y hy. added_at (kinds.SetNamed x.0) s y.0 y.1 (h + 1) (h + 0) hy (omega arith) (omega arith)))))
    (bind_ok (top d found (drop 1 s)) _ (λ x. At x.0 (h + 1)) _ (top_raises d found (drop 1 s) h low at)
    (λ x hx. bind_ok (assigned_at d x.0 x.1) _ (λ y. At y.0 ((h + 1) + 1)) _ (assigned_raises d x.0 x.1 (h + 1) (omega arith) hx)
    (λ y hy. added_at kinds.Set s y.0 y.1 ((h + 1) + 1) (h + 0) hy (omega arith) (omega arith)))))

item_raises : (d : Switches) → Raises 0 0 (item_at d)
unfolding item_at
item_raises d found [] h low at = tt
item_raises d found (b ∷ s) h low at =
    if_ok (b == 40) _ _ _ (At_is found h (h + 0) at (omega arith))
    (if_ok (b == 35) _ _ _ (setting_raises d found (b ∷ s) h low at)
    (if_ok (is_word_letter d b) _ _ _ (word_raises d b found (b ∷ s) h low at) tt))

items_at_raises : (d : Switches) (room : ℕ) → Raises 0 0 (items_at d room)
unfolding items_at
items_at_raises d zero found s h low at = tt
items_at_raises d (suc room) found s h low at =
    if_ok (length s == 0) _ _ _ (At_is found h (h + 0) at (omega arith))
    (bind_ok (item_at d found s) _ (λ x. At x.0 h) _
    (IfOk-weaker (item_at d found s) _ _ (λ x hx. At_is x.0 (h + 0) h hx (omega arith)) (item_raises d found s h low at))
    (λ x hx. items_at_raises d room x.0 x.1 h low hx))

items_raises : (d : Switches) → Raises 0 0 (items d)
items_raises d = items_at_raises d 257

ended_at : (found : List Part) (s : List ℕ) (h : ℕ) → At found h → IfOk (ended found s) (λ x. At x.0 h)
ended_at found s h at = if_ok (length (after_comments s) == 0) _ _ _ at tt

-- statements

-- the parts find their values
abbrev Fits : List Part → Type 0
Fits parts = IsSome (height parts 0)

fits : (parts : List Part) (h : ℕ) → At parts h → Fits parts
fits parts h at = subst (λ (o : Option ℕ). IsSome o) (sym at) refl

fits_ok : (r : Answer) (h : ℕ) → IfOk r (λ x. At x.0 h) → IfOk r (λ x. Fits x.0)
fits_ok r h g = IfOk-weaker r _ _ (λ x at. fits x.0 h at) g

-- a reader of a whole statement
abbrev Balances : Reader → Type 0
Balances r = (found : List Part) (s : List ℕ) → At found 0 → IfOk (r found s) (λ x. Fits x.0)

arguments_raises : (d : Switches) (room count : ℕ) (found : List Part) (s : List ℕ) (h : ℕ) → At found h → IfOk (arguments_at d room count found s) (λ x. (n : ℕ) × At x.0.0 n)
unfolding arguments_at
arguments_raises d zero count found s h at = tt
arguments_raises d (suc room) count found s h at =
    if_ok (begins 91 (after_comments s)) _ _ _
    (bind_ok (bracket_with d (top d) found (after_comments s)) _ (λ x. At x.0 (h + 1)) _ (bracket_raises d (top d) (top_raises d) found (after_comments s) h (omega arith) at)
    (λ x hx. arguments_raises d room (count + 1) x.0 x.1 (h + 1) hx))
    (h, at)

action_balances : (d : Switches) (k : Option Keyword) (from : List ℕ) → Balances (action_at d k from)
unfolding action_at
action_balances d None from found s at = tt
action_balances d (Some k) from found s at =
    bind_ok (arguments_at d 31 0 found s) _ (λ x. (n : ℕ) × At x.0.0 n) _ (arguments_raises d 31 0 found s 0 at)
    (λ x hx. if_ok (takes k x.1) _ _ _
    (bind_ok (added (kinds.Flow k x.1) from x.0.0 x.0.1) _ (λ y. At y.0 hx.0) _
    (added_at (kinds.Flow k x.1) from x.0.0 x.0.1 hx.0 hx.0 hx.1 (omega arith) (omega arith))
    (λ y hy. fits_ok (ended y.0 y.1) hx.0 (ended_at y.0 y.1 hx.0 hy)))
    tt)

label_raises : (d : Switches) → Raises 0 0 (label_at d)
unfolding label_at
label_raises d found s h low at =
    if_ok (d.names && begins 60 (drop 1 s)) _ _ _
    (bind_any (name_at (drop 2 s)) _ _ (λ x. added_at (kinds.LabelNamed x.0) s found x.1 h (h + 0) at (omega arith) (omega arith)))
    (bind_ok (top d found (drop 1 s)) _ (λ x. At x.0 (h + 1)) _ (top_raises d found (drop 1 s) h low at)
    (λ x hx. added_at kinds.Label s x.0 x.1 (h + 1) (h + 0) hx (omega arith) (omega arith)))

labelled_balances : (d : Switches) → Balances (labelled_at d)
unfolding labelled_at
labelled_balances d found s at =
    if_ok (word_length s == 0) _ _ _ (fits_ok (ended found s) 0 (ended_at found s 0 at))
    (if_ok d.flow _ _ _ (action_balances d (keyword_of (take (word_length s) s)) s found (drop (word_length s) s) at) tt)

o_word_balances : (d : Switches) → Balances (o_word_at d)
unfolding o_word_at
o_word_balances d found s at =
    if_ok d.labels _ _ _
    (bind_ok (label_at d found s) _ (λ x. At x.0 (0 + 0)) _ (label_raises d found s 0 (omega arith) at)
    (λ x hx. labelled_balances d x.0 (after_comments x.1) hx))
    tt

jump_balances : (d : Switches) (kind : PartKind) (from : List ℕ) (found : List Part) (s : List ℕ) (h : ℕ) → At found h → taken kind ≤ h + 1 →
    IfOk (jump_at d kind from found s) (λ x. Fits x.0)
jump_balances d kind from found s h at t =
    bind_ok (top d found s) _ (λ x. At x.0 (h + 1)) _ (top_raises d found s h (omega arith) at)
    (λ x hx. bind_ok (added kind from x.0 x.1) _ (λ y. At y.0 (height_after kind (h + 1))) _
    (added_at kind from x.0 x.1 (h + 1) (height_after kind (h + 1)) hx t refl)
    (λ y hy. fits_ok (ended y.0 y.1) (height_after kind (h + 1)) (ended_at y.0 y.1 (height_after kind (h + 1)) hy)))

items_balances : (d : Switches) → Balances (items d)
items_balances d found s at = fits_ok (items d found s) (0 + 0) (items_raises d found s 0 (omega arith) at)

then_balances : (d : Switches) → Balances (then_at d)
then_balances d found s at =
    if_ok (starts_with nat_eq s (codes "GOTO")) _ _ _ (jump_balances d kinds.GoTo s found (drop 4 s) 0 at (omega arith))
    (if_ok (starts_with nat_eq s (codes "THEN")) _ _ _ (items_balances d found (drop 4 s) at) tt)

if_balances : (d : Switches) (from : List ℕ) → Balances (if_at d from)
unfolding if_at
if_balances d from found s at =
    bind_ok (bracket_with d (top d) found s) _ (λ x. At x.0 (0 + 1)) _ (bracket_raises d (top d) (top_raises d) found s 0 (omega arith) at)
    (λ x hx. bind_ok (added kinds.When from x.0 x.1) _ (λ y. At y.0 0) _
    (added_at kinds.When from x.0 x.1 (0 + 1) 0 hx (omega arith) (omega arith))
    (λ y hy. then_balances d y.0 y.1 hy))

while_balances : (d : Switches) (from : List ℕ) → Balances (while_at d from)
unfolding while_at
while_balances d from found s at =
    bind_ok (bracket_with d (top d) found s) _ (λ x. At x.0 (0 + 1)) _ (bracket_raises d (top d) (top_raises d) found s 0 (omega arith) at)
    (λ x hx. if_ok (starts_with nat_eq x.1 (codes "DO")) _ _ _ (jump_balances d kinds.Loop from x.0 (drop 2 x.1) (0 + 1) hx (omega arith)) tt)

macro_balances : (d : Switches) → Balances (macro_at d)
unfolding macro_at
macro_balances d found s at =
    if_ok (starts_with nat_eq s (codes "IF[")) _ _ _ (if_balances d s found (drop 2 s) at)
    (if_ok (starts_with nat_eq s (codes "WHILE[")) _ _ _ (while_balances d s found (drop 5 s) at)
    (if_ok (starts_with nat_eq s (codes "GOTO")) _ _ _ (jump_balances d kinds.GoTo s found (drop 4 s) 0 at (omega arith))
    (if_ok (starts_with nat_eq s (codes "END")) _ _ _ (jump_balances d kinds.EndLoop s found (drop 3 s) 0 at (omega arith))
    (items_balances d found s at))))

deleted_at : (level : Option ℕ) → Raises 0 0 (deleted level)
deleted_at None found s h low at = added_at (kinds.Delete 1) s found (drop 1 s) h (h + 0) at (omega arith) (omega arith)
deleted_at (Some level) found s h low at = added_at (kinds.Delete level) s found (drop 2 s) h (h + 0) at (omega arith) (omega arith)

delete_raises : (d : Switches) → Raises 0 0 (delete_at d)
unfolding delete_at
delete_raises d found s h low at =
    if_ok (not (begins 47 s)) _ _ _ (At_is found h (h + 0) at (omega arith)) (deleted_at (level_at d (drop 1 s)) found s h low at)

line_number_raises : Raises 0 0 line_number_at
unfolding line_number_at
line_number_raises found s h low at =
    if_ok (not (begins 78 s)) _ _ _ (At_is found h (h + 0) at (omega arith))
    (if_ok (not (begins_digit (drop 1 s))) _ _ _ tt
    (bind_any (number_at (drop 1 s)) _ _ (λ x.
    bind_ok (add (kinds.Number x.0) (drop 1 s) found) _ (λ parts. At parts (h + 1)) _
    (add_at (kinds.Number x.0) (drop 1 s) found h (h + 1) at (omega arith) (omega arith))
    (λ parts hp. added_at kinds.LineNumber s parts x.1 (h + 1) (h + 0) hp (omega arith) (omega arith)))))

only_balances : (kind : PartKind) (s : List ℕ) (found : List Part) (rest : List ℕ) → At found 0 → taken kind ≤ 0 →
    IfOk (added kind s found rest >>= λ x. ended x.0 x.1) (λ x. Fits x.0)
only_balances kind s found rest at t =
    bind_ok (added kind s found rest) _ (λ x. At x.0 (height_after kind 0)) _ (added_at kind s found rest 0 (height_after kind 0) at t refl)
    (λ x hx. fits_ok (ended x.0 x.1) (height_after kind 0) (ended_at x.0 x.1 (height_after kind 0) hx))

statement_balances : (d : Switches) → Balances (statement_at d)
unfolding statement_at
statement_balances d found s at =
    if_ok (begins 37 s) _ _ _ (only_balances kinds.Percent s found (drop 1 s) at (omega arith))
    (if_ok (d.commands && starts_with nat_eq s (codes "$H")) _ _ _ (only_balances kinds.Home s found (drop 2 s) at (omega arith))
    (if_ok (begins 79 s || (d.macros && begins 58 s)) _ _ _ (o_word_balances d found s at)
    (if_ok d.macros _ _ _ (macro_balances d found s at) (items_balances d found s at))))

text_balances : (d : Switches) (s : List ℕ) → IfOk (text_at d s) (λ x. Fits x.0)
unfolding text_at
text_balances d s =
    bind_ok (delete_at d [] s) _ (λ x. At x.0 (0 + 0)) _ (delete_raises d [] s 0 (omega arith) refl)
    (λ x hx. bind_ok (line_number_at x.0 x.1) _ (λ y. At y.0 ((0 + 0) + 0)) _ (line_number_raises x.0 x.1 (0 + 0) (omega arith) hx)
    (λ y hy. statement_balances d y.0 y.1 hy))

located_fits : (line : List ℕ) (r : Answer) → IfOk r (λ x. Fits x.0) → IfOk (located line r) Fits
located_fits line (Ok x) h = h
located_fits line (Err e) h = tt

pub line_balances : (d : Dialect) (line : List ℕ) → IfOk (line_of d line) (λ parts. IsSome (height parts 0))
line_balances d line = if_ok (not (nat_le (length line) 256)) _ _ _ tt (by (fault_in (switches_of d).closed_comments line)) where
  by : (fault : Option LineFault) → IfOk (located_fault (switches_of d) line fault) Fits
  by None = located_fits line (text_at (switches_of d) (text line)) (text_balances (switches_of d) (text line))
  by (Some fault) = tt
