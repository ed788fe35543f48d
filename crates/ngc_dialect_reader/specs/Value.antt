-- Values: a number, a parameter, a function, an expression in brackets, and each of these with a sign
-- (LinuxCNC, "G-code overview": "Numbers", "Parameters", "Expressions", "Functions"). The parts of a
-- value stand after those of what it is made of. Our own: values nest at most 32 deep.
use Rattle.std.specs.Prelude.{ℕ, zero, suc, ◌==◌, ◌&&◌, ◌||◌, nat_le, nat_lt, not, List, [], ◌∷◌, ◌++◌}
use Rattle.std.specs.Prelude.{length, drop, take, Option, Some, None, Bool, true, false, Result, Ok, Err}
use Rattle.std.specs.Prelude.{if◌then◌else◌}
use Rattle.std.specs.Char.{is_ascii_digit}
use Rattle.std.specs.Str.{bytes_eq}
use Rattle.std.specs.Prelude.{codes}
use Rattle.std.specs.List.{starts_with}
use Rattle.std.specs.Prelude.{nat_eq}
use Rattle.ngc_line_reader.specs.Scan.{begins, ◌>>=◌}
use Rattle.ngc_dialect_reader.specs.declared.switches.Switches.{Switches}
use Rattle.ngc_dialect_reader.specs.declared.fault.Cause.TheVariants as causes
use Rattle.ngc_dialect_reader.specs.declared.part.Part.{Part}
use Rattle.ngc_dialect_reader.specs.declared.part.PartKind.TheVariants as kinds
use Rattle.ngc_dialect_reader.specs.declared.part.Function.{Function}
use Rattle.ngc_dialect_reader.specs.declared.part.Function.TheVariants as functions
use Rattle.ngc_dialect_reader.specs.declared.part.Operator.{Operator}
use Rattle.ngc_dialect_reader.specs.declared.part.Operator.TheVariants as operators
use Rattle.ngc_dialect_reader.specs.Number.{refusal, has_sign, number_at}
use Rattle.ngc_dialect_reader.specs.Steps.{Answer, Reader, add, added, closed, needed, name_at}
use Rattle.ngc_dialect_reader.specs.Steps.{is_letter, begins_letter, word_length}

-- the names of functions of one value
abbrev pub function_of : List ℕ → Option Function
function_of w =
    if bytes_eq w (codes "ABS") then Some functions.Absolute else (
    if bytes_eq w (codes "ACOS") then Some functions.ArcCosine else (
    if bytes_eq w (codes "ASIN") then Some functions.ArcSine else (
    if bytes_eq w (codes "COS") then Some functions.Cosine else (
    if bytes_eq w (codes "EXP") then Some functions.Exponential else (
    if bytes_eq w (codes "FIX") then Some functions.RoundDown else (
    if bytes_eq w (codes "FUP") then Some functions.RoundUp else (
    if bytes_eq w (codes "LN") then Some functions.Logarithm else (
    if bytes_eq w (codes "ROUND") then Some functions.Round else (
    if bytes_eq w (codes "SIN") then Some functions.Sine else (
    if bytes_eq w (codes "SQRT") then Some functions.SquareRoot else (
    if bytes_eq w (codes "TAN") then Some functions.Tangent else None)))))))))))

-- the operator at the front of a text
abbrev pub operator_at : List ℕ → Option Operator
operator_at s =
    if starts_with nat_eq s (codes "**") then Some operators.Power else (
    if starts_with nat_eq s (codes "*") then Some operators.Multiply else (
    if starts_with nat_eq s (codes "/") then Some operators.Divide else (
    if starts_with nat_eq s (codes "MOD") then Some operators.Modulo else (
    if starts_with nat_eq s (codes "+") then Some operators.Add else (
    if starts_with nat_eq s (codes "-") then Some operators.Subtract else (
    if starts_with nat_eq s (codes "EQ") then Some operators.Equal else (
    if starts_with nat_eq s (codes "NE") then Some operators.NotEqual else (
    if starts_with nat_eq s (codes "GT") then Some operators.Greater else (
    if starts_with nat_eq s (codes "GE") then Some operators.NotLess else (
    if starts_with nat_eq s (codes "LT") then Some operators.Less else (
    if starts_with nat_eq s (codes "LE") then Some operators.NotGreater else (
    if starts_with nat_eq s (codes "AND") then Some operators.And else (
    if starts_with nat_eq s (codes "OR") then Some operators.Or else (
    if starts_with nat_eq s (codes "XOR") then Some operators.Xor else None))))))))))))))

abbrev pub operator_length : Operator → ℕ
operator_length operators.Power = 2
operator_length operators.Multiply = 1
operator_length operators.Divide = 1
operator_length operators.Modulo = 3
operator_length operators.Add = 1
operator_length operators.Subtract = 1
operator_length operators.Equal = 2
operator_length operators.NotEqual = 2
operator_length operators.Greater = 2
operator_length operators.NotLess = 2
operator_length operators.Less = 2
operator_length operators.NotGreater = 2
operator_length operators.And = 3
operator_length operators.Or = 2
operator_length operators.Xor = 3

-- How strongly an operator binds. Fanuc's AND binds as * does, its OR and XOR as + do, and it has no
-- **.
abbrev pub rank : Bool → Operator → ℕ
rank fanuc operators.Power = if fanuc then 0 else 5
rank fanuc operators.Multiply = 4
rank fanuc operators.Divide = 4
rank fanuc operators.Modulo = 4
rank fanuc operators.Add = 3
rank fanuc operators.Subtract = 3
rank fanuc operators.Equal = 2
rank fanuc operators.NotEqual = 2
rank fanuc operators.Greater = 2
rank fanuc operators.NotLess = 2
rank fanuc operators.Less = 2
rank fanuc operators.NotGreater = 2
rank fanuc operators.And = if fanuc then 4 else 1
rank fanuc operators.Or = if fanuc then 3 else 1
rank fanuc operators.Xor = if fanuc then 3 else 1

-- an operator that binds more strongly than a rank
abbrev pub above : Bool → ℕ → Option Operator → Option Operator
above fanuc level None = None
above fanuc level (Some o) = if nat_lt level (rank fanuc o) then Some o else None

-- Operators and values after a value, as long as the operators bind more strongly than a rank: after
-- each one comes a value, with what binds more strongly than the operator, and then the operator's
-- part. `chain` reads what follows a value, by rank.
abbrev pub link_at : Bool → Reader → (ℕ → Reader) → ℕ → Option Operator → Reader
link_at fanuc value chain level None found s = Ok (found, s)
link_at fanuc value chain level (Some o) found s =
    value found (drop (operator_length o) s) >>= λ x.
    chain (rank fanuc o) x.0 x.1 >>= λ y.
    add (kinds.Operate o) s y.0 >>= λ parts. chain level parts y.1

unfoldable pub chain_at : Bool → Reader → ℕ → ℕ → Reader
chain_at fanuc value zero level found s = Err (refusal causes.TooManyParts (length s))
chain_at fanuc value (suc more) level found s =
    link_at fanuc value (chain_at fanuc value more) level (above fanuc level (operator_at s)) found s

-- an expression; `value` reads a value in it
abbrev pub expression_with : Switches → Reader → Reader
expression_with d value found s = value found s >>= λ x. chain_at d.macros value 128 0 x.0 x.1

-- an expression and ']'; the bracket is the first byte of s
unfoldable pub bracket_with : Switches → Reader → Reader
bracket_with d value found s =
    expression_with d value found (drop 1 s) >>= λ x.
    closed 93 causes.BracketNotClosed s x.1 >>= λ rest. Ok (x.0, rest)

-- '#' and an index, or '#<' and a name
unfoldable pub parameter_with : Switches → Reader → Reader
parameter_with d value found s =
    if begins 60 (drop 1 s)
    then (if d.names
    then (name_at (drop 2 s) >>= λ x. added (kinds.Named x.0) s found x.1)
    else Err (refusal causes.NotInDialect (length s)))
    else (value found (drop 1 s) >>= λ x. added kinds.Parameter s x.0 x.1)

-- the second argument of ATAN, and ']': after ',' in Fanuc's dialect, else after ']/['
unfoldable pub second_with : Switches → Reader → List ℕ → Reader
second_with d value from found s =
    if d.macros && begins 44 s then bracket_with d value found s else (
    closed 93 causes.BracketNotClosed from s >>= λ r.
    needed 47 causes.SlashMissing r >>= λ t.
    if begins 91 t then bracket_with d value found t
    else Err (refusal causes.BracketMissing (length t)))

-- ATAN; s begins with its '['
unfoldable pub atan_with : Switches → Reader → List ℕ → Reader
atan_with d value from found s =
    expression_with d value found (drop 1 s) >>= λ x.
    second_with d value s x.0 x.1 >>= λ y. added kinds.ArcTangent from y.0 y.1

-- EXISTS; s begins with its '['
unfoldable pub exists_with : Switches → List ℕ → Reader
exists_with d from found s =
    if not d.names then Err (refusal causes.NotInDialect (length from)) else (
    needed 35 causes.NameMissing (drop 1 s) >>= λ r.
    needed 60 causes.NameMissing r >>= λ t.
    name_at t >>= λ x.
    closed 93 causes.BracketNotClosed s x.1 >>= λ rest.
    added (kinds.Exists x.0) from found rest)

abbrev pub function_called : Option Function → Switches → Reader → List ℕ → Reader
function_called None d value from found s = Err (refusal causes.UnknownFunction (length from))
function_called (Some f) d value from found s =
    bracket_with d value found s >>= λ x. added (kinds.Apply f) from x.0 x.1

-- a function; `from` begins with its name, s with the bracket after it
unfoldable pub named_with : Switches → Reader → List ℕ → List ℕ → Reader
named_with d value name from found s =
    if bytes_eq name (codes "ATAN") then atan_with d value from found s else (
    if bytes_eq name (codes "EXISTS") then exists_with d from found s else
    function_called (function_of name) d value from found s)

unfoldable pub function_with : Switches → Reader → Reader
function_with d value found s =
    if begins 91 (drop (word_length s) s)
    then named_with d value (take (word_length s) s) s found (drop (word_length s) s)
    else Err (refusal causes.ValueMissing (length s))

abbrev pub begins_digits : List ℕ → Bool
begins_digits [] = false
begins_digits (b ∷ s) = is_ascii_digit b || (b == 46)

unfoldable pub literal_at : Reader
literal_at found s = number_at s >>= λ x. added (kinds.Number x.0) s found x.1

-- a sign before something else than a number
unfoldable pub sign_with : Reader → Reader
sign_with value found s =
    value found (drop 1 s) >>= λ x.
    if begins 45 s then added kinds.Negate s x.0 x.1 else Ok (x.0, x.1)

-- a value that is not a number; only dialects with expressions have these
unfoldable pub other_with : Switches → Reader → Reader
other_with d value found s =
    if begins 91 s then bracket_with d value found s else (
    if begins 35 s then parameter_with d value found s else function_with d value found s)

abbrev pub begins_other : List ℕ → Bool
begins_other s = begins 91 s || (begins 35 s || begins_letter s)

-- a value; `value` reads a value one level deeper
unfoldable pub value_with : Switches → Reader → Reader
value_with d value found s =
    if begins_digits s then literal_at found s else (
    if has_sign s
    then (if d.expressions && not (begins_digits (drop 1 s)) then sign_with value found s
    else literal_at found s) else (
    if not (begins_other s) then Err (refusal causes.ValueMissing (length s)) else (
    if d.expressions then other_with d value found s
    else Err (refusal causes.NotInDialect (length s)))))

unfoldable pub value_at : Switches → ℕ → Reader
value_at d zero found s = Err (refusal causes.TooDeep (length s))
value_at d (suc depth) found s = value_with d (value_at d depth) found s
