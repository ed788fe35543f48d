-- The values of a line: its parts are executed on a stack, from left to right.
use Rattle.std.specs.Prelude.{ℕ, ◌-◌, ℤ, not, List, [], ◌∷◌, ◌++◌, length, take, slice_get, Option, Some, None}
use Rattle.std.specs.Prelude.{Bool, true, false, Result, Ok, Err, if◌then◌else◌}
use Rattle.std.specs.Option.{is_some}
use Rattle.ngc_line_reader.specs.Scan.{◌>>=◌}
use Rattle.ngc_dialect_reader.specs.declared.part.Part.{Part}
use Rattle.ngc_dialect_reader.specs.declared.part.PartKind.{PartKind}
use Rattle.ngc_dialect_reader.specs.declared.part.PartKind.TheVariants as kinds
use Rattle.ngc_dialect_reader.specs.declared.part.Literal.{Literal}
use Rattle.ngc_dialect_reader.specs.declared.part.Name.{Name}
use Rattle.ngc_dialect_reader.specs.declared.part.Function.{Function}
use Rattle.ngc_dialect_reader.specs.declared.part.Operator.{Operator}
use Rattle.ngc_dialect_reader.specs.Line.{name_of}
use Rattle.ngc_dialect_numbers.specs.Numbers.{limited, truth}
use Rattle.ngc_dialect_numbers.specs.Comparisons.{is_true}
use Rattle.ngc_dialect_numbers.specs.Arcs.{arc}
use Rattle.ngc_dialect_parameters.specs.declared.fault.Cause.{Cause}
use Rattle.ngc_dialect_parameters.specs.declared.fault.Cause.TheVariants as causes
use Rattle.ngc_dialect_parameters.specs.declared.fault.EvaluationFault.{EvaluationFault}
use Rattle.ngc_dialect_parameters.specs.declared.statement.Statement.{Statement}
use Rattle.ngc_dialect_parameters.specs.declared.statement.Statement.TheVariants as statements
use Rattle.ngc_dialect_parameters.specs.declared.values.LineValues.{LineValues}
use Rattle.ngc_dialect_parameters.specs.Index.{index_of}
use Rattle.ngc_dialect_parameters.specs.Operations.{number_of, valued, negated, applied, operated}
use Rattle.ngc_dialect_parameters.specs.Known.{Known, value, found, settable, is_settable}

-- The values so far, with the last one on top, and what the line says so far. `point`: whether the last
-- value is written with a point, or isn't a number alone.
pub record Sums : Type 0 where
  pub stack : List (Option ℤ)
  pub done : List Statement
  pub point : Bool

abbrev pub none : Sums
none = record { stack = []; done = []; point = true }

abbrev pub sums_of : LineValues → Sums
sums_of v = record { stack = v.arguments.items; done = v.statements.items; point = v.point }

abbrev pub or_empty : Option (Option ℤ) → Option ℤ
or_empty None = None
or_empty (Some v) = v

-- the value on top, and the sums without it; without values it is empty
abbrev pub top : Sums → Option ℤ
top s = or_empty (slice_get s.stack (length s.stack - 1))

abbrev pub pop : Sums → Sums
pop s = record { stack = take (length s.stack - 1) s.stack; done = s.done; point = s.point }

abbrev pub push : Option ℤ → Bool → Sums → Sums
push v point s = record { stack = s.stack ++ (v ∷ []); done = s.done; point = point }

abbrev pub say : Statement → Sums → Sums
say statement s = record { stack = s.stack; done = s.done ++ (statement ∷ []); point = s.point }

-- the number on top
abbrev pub top_number : Sums → ℤ
top_number s = number_of (top s)

abbrev pub literal : Literal → Sums → Result Sums Cause
literal l s = valued (limited l.value) >>= λ z. Ok (push (Some z) l.point s)

abbrev pub parameter : Known → Sums → Result Sums Cause
parameter k s = index_of k.dialect (top_number s) >>= λ n. value k s.done n >>= λ v. Ok (push v true (pop s))

abbrev pub named : Option ℤ → Sums → Result Sums Cause
named None s = Err causes.Unset
named (Some z) s = Ok (push (Some z) true s)

abbrev pub apply : Function → Sums → Result Sums Cause
apply f s = applied f (top_number s) >>= λ z. Ok (push (Some z) true (pop s))

abbrev pub operate : Operator → Sums → Result Sums Cause
operate o s = operated o (top (pop s)) (top s) >>= λ z. Ok (push (Some z) true (pop (pop s)))

abbrev pub arc_tangent : Sums → Sums
arc_tangent s = push (Some (arc (top_number (pop s)) (top_number s))) true (pop (pop s))

-- a word; an empty value makes none
abbrev pub word_with : ℕ → Bool → Option ℤ → Sums → Sums
word_with letter point None s = s
word_with letter point (Some z) s =
    say (statements.Word (record { letter = letter; value = z; point = point })) s

abbrev pub word : ℕ → Sums → Sums
word letter s = word_with letter s.point (top s) (pop s)

abbrev pub begin_loop : Sums → Sums
begin_loop s = say (statements.Loop (is_true (top_number (pop s))) (top_number s)) (pop (pop s))

-- a setting; the parameter's number is below the value
abbrev pub setting : Known → Sums → Result Sums Cause
setting k s =
    index_of k.dialect (top_number (pop s)) >>= λ n.
    settable k n >>= λ m. Ok (say (statements.Set m (top s)) (pop (pop s)))

abbrev pub name_setting : Known → List ℕ → Name → Sums → Result Sums Cause
name_setting k text name s =
    if is_settable k (name_of text name) then Ok (say (statements.SetNamed name (top_number s)) (pop s))
    else Err causes.ReadOnly

-- what a part does
abbrev pub step : Known → List ℕ → PartKind → Sums → Result Sums Cause
step k text (kinds.Number l) s = literal l s
step k text kinds.Parameter s = parameter k s
step k text (kinds.Named name) s = named (found k (name_of text name)) s
step k text (kinds.Exists name) s = Ok (push (Some (truth (is_some (found k (name_of text name))))) true s)
step k text kinds.Negate s = Ok (push (negated (top s)) true (pop s))
step k text (kinds.Apply f) s = apply f s
step k text kinds.ArcTangent s = Ok (arc_tangent s)
step k text (kinds.Operate o) s = operate o s
step k text (kinds.Word letter) s = Ok (word letter s)
step k text kinds.Set s = setting k s
step k text (kinds.SetNamed name) s = name_setting k text name s
step k text (kinds.Delete level) s = Ok (say (statements.Delete level) s)
step k text kinds.LineNumber s = Ok (say (statements.LineNumber (top_number s)) (pop s))
step k text kinds.Percent s = Ok (say statements.Percent s)
step k text kinds.Home s = Ok (say statements.Home s)
step k text kinds.Label s = Ok (say (statements.Label (top_number s)) (pop s))
step k text (kinds.LabelNamed name) s = Ok (say (statements.LabelNamed name) s)
step k text (kinds.Flow keyword count) s = Ok (say (statements.Flow keyword count) s)
step k text kinds.When s = Ok (pop s)
step k text kinds.GoTo s = Ok (say (statements.GoTo (top_number s)) (pop s))
step k text kinds.Loop s = Ok (begin_loop s)
step k text kinds.EndLoop s = Ok (say (statements.EndLoop (top_number s)) (pop s))

-- whether nothing after a part is done: it is Fanuc's IF, and the value on top is 0
abbrev pub is_stopped : PartKind → Sums → Bool
is_stopped kinds.When s = not (is_true (top_number s))
is_stopped _ s = false

abbrev pub located : ℕ → Result Sums Cause → Result Sums EvaluationFault
located left (Ok s) = Ok s
located left (Err cause) = Err (record { cause = cause; left = left })

-- what the parts of a line do, in order; text is the line's text
abbrev pub run : Known → List ℕ → List Part → Sums → Result Sums EvaluationFault
run k text [] s = Ok s
run k text (p ∷ parts) s =
    if is_stopped p.kind s then Ok (pop s)
    else (located p.left (step k text p.kind s) >>= λ t. run k text parts t)

-- The values of a line with this text and these parts, or the first fault from the left. All are
-- computed from what is known before the line; only Fanuc's settings take effect at once.
abbrev pub line_values : Known → List ℕ → List Part → Result Sums EvaluationFault
line_values k text parts = run k text parts none
