-- If a line doesn't begin with `/`, the first part that is read of it is no block delete.
use Rattle.std.proofs.Common.{◌≡◌, ℕ, zero, suc, ◌+◌, ◌==◌, Bool, true, false, List, [], ◌∷◌, ◌++◌, length, drop, take, Result, Ok, Err, IfOk, refl}
use Rattle.std.specs.Prelude.{◌&&◌, ◌||◌, not, if◌then◌else◌, Option, Some, None, nat_eq, codes}
use Rattle.std.specs.List.{starts_with}
use Rattle.std.specs.Str.{bytes_eq}
use Rattle.ngc_line_reader.specs.Scan.{begins, ◌>>=◌}
use Rattle.ngc_dialect_reader.specs.declared.fault.Cause.TheVariants as causes
use Rattle.ngc_dialect_reader.specs.declared.part.Function.{Function}
use Rattle.ngc_dialect_reader.specs.declared.part.Keyword.{Keyword}
use Rattle.ngc_dialect_reader.specs.declared.part.Operator.{Operator}
use Rattle.ngc_dialect_reader.specs.declared.part.Part.{Part}
use Rattle.ngc_dialect_reader.specs.declared.part.PartKind.{PartKind}
use Rattle.ngc_dialect_reader.specs.declared.part.PartKind.TheVariants as kinds
use Rattle.ngc_dialect_reader.specs.declared.switches.Switches.{Switches}
use Rattle.ngc_dialect_reader.specs.Number.{has_sign, number_at}
use Rattle.ngc_dialect_reader.specs.Steps.{Reader, add, added, after_comments, closed, ended, name_at, needed, word_length}
use Rattle.ngc_dialect_reader.specs.Value.{above, atan_with, begins_digits, begins_other, bracket_with, chain_at, exists_with, expression_with, function_called}
use Rattle.ngc_dialect_reader.specs.Value.{function_of, function_with, link_at, literal_at, named_with, operator_at, operator_length, other_with, parameter_with}
use Rattle.ngc_dialect_reader.specs.Value.{rank, second_with, sign_with, value_at, value_with}
use Rattle.ngc_dialect_reader.specs.Item.{assigned_at, begins_value, begun_with, is_word_letter, item_at, items, items_at, setting_at, top, word_at}
use Rattle.ngc_dialect_reader.specs.Flow.{action_at, arguments_at, do_at, if_at, jump_at, keyword_of, label_at, labelled_at, macro_at, o_word_at, takes, then_at, while_at}
use Rattle.ngc_dialect_reader.specs.Line.{begins_digit, delete_at, line_number_at, statement_at, text_at}
use Rattle.ngc_dialect_execution.specs.Taken.{is_delete, is_deleted}

-- the first part, if there is one, is no block delete
abbrev pub Stays : List Part → Type 0
Stays parts = is_deleted parts ≡ false

-- so it is of the parts that are read
abbrev Stay : {E : Type 0} → Result (List Part × List ℕ) E → Type 0
Stay r = IfOk r (λ x. Stays x.0)

abbrev ArgumentsStay : {E : Type 0} → Result ((List Part × List ℕ) × ℕ) E → Type 0
ArgumentsStay r = IfOk r (λ x. Stays x.0.0)

-- a reader that adds no block delete as the first part
abbrev Keeps : Reader → Type 0
Keeps reads = (found : List Part) (s : List ℕ) → Stays found → Stay (reads found s)

-- ---- one step after another

-- after parts and what is left
after : {E : Type 0} (r : Result (List Part × List ℕ) E) (f : List Part × List ℕ → Result (List Part × List ℕ) E) → Stay r →
    ((x : List Part × List ℕ) → Stays x.0 → Stay (f x)) → Stay (r >>= f)
after (Ok x) f h next = next x h
after (Err e) f h next = tt

-- after parts
after_parts : {E : Type 0} (r : Result (List Part) E) (f : List Part → Result (List Part × List ℕ) E) → IfOk r Stays →
    ((parts : List Part) → Stays parts → Stay (f parts)) → Stay (r >>= f)
after_parts (Ok parts) f h next = next parts h
after_parts (Err e) f h next = tt

-- after what adds no part
past : {A E : Type 0} (r : Result A E) (f : A → Result (List Part × List ℕ) E) → ((x : A) → Stay (f x)) → Stay (r >>= f)
past (Ok x) f next = next x
past (Err e) f next = tt

either : {E : Type 0} (b : Bool) (x y : Result (List Part × List ℕ) E) → Stay x → Stay y → Stay (if b then x else y)
either true x y h k = h
either false x y h k = k

either_parts : {E : Type 0} (b : Bool) (x y : Result (List Part) E) → IfOk x Stays → IfOk y Stays → IfOk (if b then x else y) Stays
either_parts true x y h k = h
either_parts false x y h k = k

one_more : (found : List Part) (p : Part) → is_delete p.kind ≡ false → Stays found → Stays (found ++ p ∷ [])
one_more [] p k h = k
one_more (q ∷ found) p k h = h

one_added : (kind : PartKind) (s : List ℕ) (found : List Part) → is_delete kind ≡ false → Stays found → IfOk (add kind s found) Stays
one_added kind s found k h = either_parts (length found == 128) _ _ tt (one_more found (record { kind = kind; left = length s }) k h)

adds : (kind : PartKind) (s : List ℕ) (found : List Part) (rest : List ℕ) → is_delete kind ≡ false → Stays found → Stay (added kind s found rest)
adds kind s found rest k h = either (length found == 128) _ _ tt (one_more found (record { kind = kind; left = length s }) k h)

ends : (found : List Part) (s : List ℕ) → Stays found → Stay (ended found s)
ends found s h = either (length (after_comments s) == 0) _ _ h tt

-- ---- values

links : (fanuc : Bool) (value : Reader) (chain : ℕ → Reader) (level : ℕ) (o : Option Operator) → Keeps value → ((n : ℕ) → Keeps (chain n)) →
    Keeps (link_at fanuc value chain level o)
links fanuc value chain level None v c found s h = h
links fanuc value chain level (Some o) v c found s h =
    after (value found (drop (operator_length o) s)) _ (v found (drop (operator_length o) s) h)
    (λ x hx. after (chain (rank fanuc o) x.0 x.1) _ (c (rank fanuc o) x.0 x.1 hx)
    (λ y hy. after_parts (add (kinds.Operate o) s y.0) _ (one_added (kinds.Operate o) s y.0 refl hy)
    (λ parts hp. c level parts y.1 hp)))

chains : (fanuc : Bool) (value : Reader) → Keeps value → (more level : ℕ) → Keeps (chain_at fanuc value more level)
unfolding chain_at
chains fanuc value v zero level found s h = tt
chains fanuc value v (suc more) level found s h =
    links fanuc value (chain_at fanuc value more) level (above fanuc level (operator_at s)) v (chains fanuc value v more) found s h

expressions : (d : Switches) (value : Reader) → Keeps value → Keeps (expression_with d value)
expressions d value v found s h = after (value found s) _ (v found s h) (λ x hx. chains d.macros value v 128 0 x.0 x.1 hx)

brackets : (d : Switches) (value : Reader) → Keeps value → Keeps (bracket_with d value)
unfolding bracket_with
brackets d value v found s h =
    after (expression_with d value found (drop 1 s)) _ (expressions d value v found (drop 1 s) h)
    (λ x hx. past (closed 93 causes.BracketNotClosed s x.1) _ (λ rest. hx))

parameters : (d : Switches) (value : Reader) → Keeps value → Keeps (parameter_with d value)
unfolding parameter_with
parameters d value v found s h =
    either (begins 60 (drop 1 s)) _ _
    (either d.names _ _ (past (name_at (drop 2 s)) _ (λ x. adds (kinds.Named x.0) s found x.1 refl h)) tt)
    (after (value found (drop 1 s)) _ (v found (drop 1 s) h) (λ x hx. adds kinds.Parameter s x.0 x.1 refl hx))

seconds : (d : Switches) (value : Reader) (from : List ℕ) → Keeps value → Keeps (second_with d value from)
unfolding second_with
seconds d value from v found s h =
    either (d.macros && begins 44 s) _ _ (brackets d value v found s h)
    (past (closed 93 causes.BracketNotClosed from s) _ (λ r. past (needed 47 causes.SlashMissing r) _
    (λ t. either (begins 91 t) _ _ (brackets d value v found t h) tt)))

arc_tangents : (d : Switches) (value : Reader) (from : List ℕ) → Keeps value → Keeps (atan_with d value from)
unfolding atan_with
arc_tangents d value from v found s h =
    after (expression_with d value found (drop 1 s)) _ (expressions d value v found (drop 1 s) h)
    (λ x hx. after (second_with d value s x.0 x.1) _ (seconds d value s v x.0 x.1 hx) (λ y hy. adds kinds.ArcTangent from y.0 y.1 refl hy))

exist : (d : Switches) (from : List ℕ) → Keeps (exists_with d from)
unfolding exists_with
exist d from found s h =
    either (not d.names) _ _ tt
    (past (needed 35 causes.NameMissing (drop 1 s)) _ (λ r. past (needed 60 causes.NameMissing r) _
    (λ t. past (name_at t) _ (λ x. past (closed 93 causes.BracketNotClosed s x.1) _ (λ rest. adds (kinds.Exists x.0) from found rest refl h)))))

calls : (f : Option Function) (d : Switches) (value : Reader) (from : List ℕ) → Keeps value → Keeps (function_called f d value from)
calls None d value from v found s h = tt
calls (Some f) d value from v found s h =
    after (bracket_with d value found s) _ (brackets d value v found s h) (λ x hx. adds (kinds.Apply f) from x.0 x.1 refl hx)

named : (d : Switches) (value : Reader) (name from : List ℕ) → Keeps value → Keeps (named_with d value name from)
unfolding named_with
named d value name from v found s h =
    either (bytes_eq name (codes "ATAN")) _ _ (arc_tangents d value from v found s h)
    (either (bytes_eq name (codes "EXISTS")) _ _ (exist d from found s h) (calls (function_of name) d value from v found s h))

functions : (d : Switches) (value : Reader) → Keeps value → Keeps (function_with d value)
unfolding function_with
functions d value v found s h =
    either (begins 91 (drop (word_length s) s)) _ _ (named d value (take (word_length s) s) s v found (drop (word_length s) s) h) tt

literals : Keeps literal_at
unfolding literal_at
literals found s h = past (number_at s) _ (λ x. adds (kinds.Number x.0) s found x.1 refl h)

signs : (value : Reader) → Keeps value → Keeps (sign_with value)
unfolding sign_with
signs value v found s h =
    after (value found (drop 1 s)) _ (v found (drop 1 s) h) (λ x hx. either (begins 45 s) _ _ (adds kinds.Negate s x.0 x.1 refl hx) hx)

others : (d : Switches) (value : Reader) → Keeps value → Keeps (other_with d value)
unfolding other_with
others d value v found s h =
    either (begins 91 s) _ _ (brackets d value v found s h)
    (either (begins 35 s) _ _ (parameters d value v found s h) (functions d value v found s h))

values_with : (d : Switches) (value : Reader) → Keeps value → Keeps (value_with d value)
unfolding value_with
values_with d value v found s h =
    either (begins_digits s) _ _ (literals found s h)
    (either (has_sign s) _ _
    (either (d.expressions && not (begins_digits (drop 1 s))) _ _ (signs value v found s h) (literals found s h))
    (either (not (begins_other s)) _ _ tt (either d.expressions _ _ (others d value v found s h) tt)))

values : (d : Switches) (depth : ℕ) → Keeps (value_at d depth)
unfolding value_at
values d zero found s h = tt
values d (suc depth) found s h = values_with d (value_at d depth) (values d depth) found s h

-- ---- items

words : (d : Switches) (letter : ℕ) → Keeps (word_at d letter)
unfolding word_at
words d letter found s h =
    either (not (begins_value (drop 1 s))) _ _ tt
    (after (top d found (drop 1 s)) _ (values d 32 found (drop 1 s) h) (λ x hx. adds (kinds.Word letter) s x.0 x.1 refl hx))

assigned : (d : Switches) → Keeps (assigned_at d)
unfolding assigned_at
assigned d found s h =
    past (needed 61 causes.EqualsMissing s) _
    (λ r. either d.macros _ _ (expressions d (top d) (values d 32) found r h) (values d 32 found r h))

settings : (d : Switches) → Keeps (setting_at d)
unfolding setting_at
settings d found s h =
    either (not d.expressions) _ _ tt
    (either (begins 60 (drop 1 s)) _ _
    (either (not d.names) _ _ tt
    (past (name_at (drop 2 s)) _ (λ x. after (assigned_at d found x.1) _ (assigned d found x.1 h) (λ y hy. adds (kinds.SetNamed x.0) s y.0 y.1 refl hy))))
    (after (top d found (drop 1 s)) _ (values d 32 found (drop 1 s) h)
    (λ x hx. after (assigned_at d x.0 x.1) _ (assigned d x.0 x.1 hx) (λ y hy. adds kinds.Set s y.0 y.1 refl hy))))

begun : (d : Switches) (b : ℕ) → Keeps (begun_with d b)
begun d b found s h =
    either (b == 40) _ _ h (either (b == 35) _ _ (settings d found s h) (either (is_word_letter d b) _ _ (words d b found s h) tt))

item : (d : Switches) → Keeps (item_at d)
unfolding item_at
item d found [] h = tt
item d found (b ∷ s) h = begun d b found (b ∷ s) h

items_in : (d : Switches) (room : ℕ) → Keeps (items_at d room)
unfolding items_at
items_in d zero found s h = tt
items_in d (suc room) found s h =
    either (length s == 0) _ _ h (after (item_at d found s) _ (item d found s h) (λ x hx. items_in d room x.0 x.1 hx))

-- ---- O words, and Fanuc's statements

after_arguments : {E : Type 0} (r : Result ((List Part × List ℕ) × ℕ) E) (f : (List Part × List ℕ) × ℕ → Result (List Part × List ℕ) E) → ArgumentsStay r →
    ((x : (List Part × List ℕ) × ℕ) → Stays x.0.0 → Stay (f x)) → Stay (r >>= f)
after_arguments (Ok x) f h next = next x h
after_arguments (Err e) f h next = tt

more_arguments : {E : Type 0} (r : Result (List Part × List ℕ) E) (f : List Part × List ℕ → Result ((List Part × List ℕ) × ℕ) E) → Stay r →
    ((x : List Part × List ℕ) → Stays x.0 → ArgumentsStay (f x)) → ArgumentsStay (r >>= f)
more_arguments (Ok x) f h next = next x h
more_arguments (Err e) f h next = tt

either_arguments : {E : Type 0} (b : Bool) (x y : Result ((List Part × List ℕ) × ℕ) E) → ArgumentsStay x → ArgumentsStay y →
    ArgumentsStay (if b then x else y)
either_arguments true x y h k = h
either_arguments false x y h k = k

arguments : (d : Switches) (room count : ℕ) (found : List Part) (s : List ℕ) → Stays found → ArgumentsStay (arguments_at d room count found s)
unfolding arguments_at
arguments d zero count found s h = tt
arguments d (suc room) count found s h =
    either_arguments (begins 91 (after_comments s)) _ _
    (more_arguments (bracket_with d (top d) found (after_comments s)) _ (brackets d (top d) (values d 32) found (after_comments s) h)
    (λ x hx. arguments d room (count + 1) x.0 x.1 hx)) h

added_last : (kind : PartKind) (s : List ℕ) (found : List Part) (rest : List ℕ) → is_delete kind ≡ false → Stays found →
    Stay (added kind s found rest >>= λ y. ended y.0 y.1)
added_last kind s found rest k h = after (added kind s found rest) _ (adds kind s found rest k h) (λ y hy. ends y.0 y.1 hy)

acts : (d : Switches) (k : Option Keyword) (from : List ℕ) → Keeps (action_at d k from)
unfolding action_at
acts d None from found s h = tt
acts d (Some k) from found s h =
    after_arguments (arguments_at d 31 0 found s) _ (arguments d 31 0 found s h)
    (λ x hx. either (takes k x.1) _ _ (added_last (kinds.Flow k x.1) from x.0.0 x.0.1 refl hx) tt)

labels : (d : Switches) → Keeps (label_at d)
unfolding label_at
labels d found s h =
    either (d.names && begins 60 (drop 1 s)) _ _
    (past (name_at (drop 2 s)) _ (λ x. adds (kinds.LabelNamed x.0) s found x.1 refl h))
    (after (top d found (drop 1 s)) _ (values d 32 found (drop 1 s) h) (λ x hx. adds kinds.Label s x.0 x.1 refl hx))

labelled : (d : Switches) → Keeps (labelled_at d)
unfolding labelled_at
labelled d found s h =
    either (word_length s == 0) _ _ (ends found s h)
    (either d.flow _ _ (acts d (keyword_of (take (word_length s) s)) s found (drop (word_length s) s) h) tt)

o_words : (d : Switches) → Keeps (o_word_at d)
unfolding o_word_at
o_words d found s h =
    either d.labels _ _ (after (label_at d found s) _ (labels d found s h) (λ x hx. labelled d x.0 (after_comments x.1) hx)) tt

jumps : (d : Switches) (kind : PartKind) (from : List ℕ) → is_delete kind ≡ false → Keeps (jump_at d kind from)
jumps d kind from k found s h =
    after (top d found s) _ (values d 32 found s h) (λ x hx. added_last kind from x.0 x.1 k hx)

thens : (d : Switches) → Keeps (then_at d)
thens d found s h =
    either (starts_with nat_eq s (codes "GOTO")) _ _ (jumps d kinds.GoTo s refl found (drop 4 s) h)
    (either (starts_with nat_eq s (codes "THEN")) _ _ (items_in d 257 found (drop 4 s) h) tt)

ifs : (d : Switches) (from : List ℕ) → Keeps (if_at d from)
unfolding if_at
ifs d from found s h =
    after (bracket_with d (top d) found s) _ (brackets d (top d) (values d 32) found s h)
    (λ x hx. after (added kinds.When from x.0 x.1) _ (adds kinds.When from x.0 x.1 refl hx) (λ y hy. thens d y.0 y.1 hy))

dos : (d : Switches) (from : List ℕ) → Keeps (do_at d from)
dos d from found s h = either (starts_with nat_eq s (codes "DO")) _ _ (jumps d kinds.Loop from refl found (drop 2 s) h) tt

whiles : (d : Switches) (from : List ℕ) → Keeps (while_at d from)
unfolding while_at
whiles d from found s h =
    after (bracket_with d (top d) found s) _ (brackets d (top d) (values d 32) found s h) (λ x hx. dos d from x.0 x.1 hx)

macros : (d : Switches) → Keeps (macro_at d)
unfolding macro_at
macros d found s h =
    either (starts_with nat_eq s (codes "IF[")) _ _ (ifs d s found (drop 2 s) h)
    (either (starts_with nat_eq s (codes "WHILE[")) _ _ (whiles d s found (drop 5 s) h)
    (either (starts_with nat_eq s (codes "GOTO")) _ _ (jumps d kinds.GoTo s refl found (drop 4 s) h)
    (either (starts_with nat_eq s (codes "END")) _ _ (jumps d kinds.EndLoop s refl found (drop 3 s) h) (items_in d 257 found s h))))

-- ---- a line

line_numbers : Keeps line_number_at
unfolding line_number_at
line_numbers found s h =
    either (not (begins 78 s)) _ _ h
    (either (not (begins_digit (drop 1 s))) _ _ tt
    (past (number_at (drop 1 s)) _
    (λ x. after_parts (add (kinds.Number x.0) (drop 1 s) found) _ (one_added (kinds.Number x.0) (drop 1 s) found refl h)
    (λ parts hp. adds kinds.LineNumber s parts x.1 refl hp))))

statements : (d : Switches) → Keeps (statement_at d)
unfolding statement_at
statements d found s h =
    either (begins 37 s) _ _ (added_last kinds.Percent s found (drop 1 s) refl h)
    (either (d.commands && starts_with nat_eq s (codes "$H")) _ _ (added_last kinds.Home s found (drop 2 s) refl h)
    (either (begins 79 s || (d.macros && begins 58 s)) _ _ (o_words d found s h)
    (either d.macros _ _ (macros d found s h) (items_in d 257 found s h))))

-- without a block delete in front
undeleted : (d : Switches) (s : List ℕ) → begins 47 s ≡ false → delete_at d [] s ≡ Ok ([], s)
unfolding delete_at
undeleted d s e = rw e refl

pub stays_without_slash : (d : Switches) (s : List ℕ) → begins 47 s ≡ false → Stay (text_at d s)
unfolding text_at
stays_without_slash d s e =
    rw (undeleted d s e)
    (after (line_number_at [] s) _ (line_numbers [] s refl) (λ y hy. statements d y.0 y.1 hy))
