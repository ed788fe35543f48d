-- O words (LinuxCNC, "O codes"), and Fanuc's statements GOTO, IF, WHILE and END.
use Rattle.std.specs.Prelude.{ℕ, zero, suc, ◌==◌, ◌&&◌, ◌||◌, ◌+◌, nat_le, not, List, [], ◌∷◌, ◌++◌}
use Rattle.std.specs.Prelude.{length, drop, take, slice_index, Option, Some, None, Bool, true, false}
use Rattle.std.specs.Prelude.{Result, Ok, Err, if◌then◌else◌, nat_eq}
use Rattle.std.specs.Str.{bytes_eq}
use Rattle.std.specs.Prelude.{codes}
use Rattle.std.specs.List.{starts_with}
use Rattle.ngc_line_reader.specs.Scan.{begins, ◌>>=◌}
use Rattle.ngc_dialect_reader.specs.declared.switches.Switches.{Switches}
use Rattle.ngc_dialect_reader.specs.declared.fault.Cause.TheVariants as causes
use Rattle.ngc_dialect_reader.specs.declared.fault.Refusal.{Refusal}
use Rattle.ngc_dialect_reader.specs.declared.part.Part.{Part}
use Rattle.ngc_dialect_reader.specs.declared.part.PartKind.{PartKind}
use Rattle.ngc_dialect_reader.specs.declared.part.PartKind.TheVariants as kinds
use Rattle.ngc_dialect_reader.specs.declared.part.Keyword.{Keyword}
use Rattle.ngc_dialect_reader.specs.declared.part.Keyword.TheVariants as keywords
use Rattle.ngc_dialect_reader.specs.Number.{refusal}
use Rattle.ngc_dialect_reader.specs.Steps.{Answer, Reader, add, added, closed, needed, name_at}
use Rattle.ngc_dialect_reader.specs.Steps.{word_length, after_comments, ended}
use Rattle.ngc_dialect_reader.specs.Value.{bracket_with}
use Rattle.ngc_dialect_reader.specs.Item.{top, items}

abbrev pub keyword_of : List ℕ → Option Keyword
keyword_of w =
    if bytes_eq w (codes "SUB") then Some keywords.Sub else (
    if bytes_eq w (codes "ENDSUB") then Some keywords.EndSub else (
    if bytes_eq w (codes "CALL") then Some keywords.Call else (
    if bytes_eq w (codes "RETURN") then Some keywords.Return else (
    if bytes_eq w (codes "IF") then Some keywords.If else (
    if bytes_eq w (codes "ELSEIF") then Some keywords.ElseIf else (
    if bytes_eq w (codes "ELSE") then Some keywords.Else else (
    if bytes_eq w (codes "ENDIF") then Some keywords.EndIf else (
    if bytes_eq w (codes "WHILE") then Some keywords.While else (
    if bytes_eq w (codes "ENDWHILE") then Some keywords.EndWhile else (
    if bytes_eq w (codes "DO") then Some keywords.Do else (
    if bytes_eq w (codes "REPEAT") then Some keywords.Repeat else (
    if bytes_eq w (codes "ENDREPEAT") then Some keywords.EndRepeat else (
    if bytes_eq w (codes "BREAK") then Some keywords.Break else (
    if bytes_eq w (codes "CONTINUE") then Some keywords.Continue else None))))))))))))))

-- how many arguments a keyword has, at least and at most
abbrev pub fewest : Keyword → ℕ
fewest keywords.If = 1
fewest keywords.ElseIf = 1
fewest keywords.While = 1
fewest keywords.Repeat = 1
fewest _ = 0

abbrev pub most : Keyword → ℕ
most keywords.If = 1
most keywords.ElseIf = 1
most keywords.While = 1
most keywords.Repeat = 1
most keywords.EndSub = 1
most keywords.Return = 1
most keywords.Call = 30
most _ = 0

abbrev pub takes : Keyword → ℕ → Bool
takes k count = nat_le (fewest k) count && nat_le count (most k)

-- expressions in brackets, at most `room`, and how many there are
unfoldable pub arguments_at : Switches → ℕ → ℕ → List Part → List ℕ →
    Result ((List Part × List ℕ) × ℕ) Refusal
arguments_at d zero count found s = Err (refusal causes.WrongArguments (length s))
arguments_at d (suc room) count found s =
    if begins 91 (after_comments s)
    then (bracket_with d (top d) found (after_comments s) >>= λ x.
    arguments_at d room (count + 1) x.0 x.1) else Ok ((found, s), count)

-- what an O word with this keyword does; its arguments begin at s
unfoldable pub action_at : Switches → Option Keyword → List ℕ → Reader
action_at d None from found s = Err (refusal causes.UnknownKeyword (length from))
action_at d (Some k) from found s =
    arguments_at d 31 0 found s >>= λ x.
    if takes k x.1
    then (added (kinds.Flow k x.1) from x.0.0 x.0.1 >>= λ y. ended y.0 y.1)
    else Err (refusal causes.WrongArguments (length from))

-- a label: a name or a value
unfoldable pub label_at : Switches → Reader
label_at d found s =
    if d.names && begins 60 (drop 1 s)
    then (name_at (drop 2 s) >>= λ x. added (kinds.LabelNamed x.0) s found x.1)
    else (top d found (drop 1 s) >>= λ x. added kinds.Label s x.0 x.1)

-- what follows a label: nothing, or a keyword and its arguments
unfoldable pub labelled_at : Switches → Reader
labelled_at d found s =
    if word_length s == 0 then ended found s else (
    if d.flow
    then action_at d (keyword_of (take (word_length s) s)) s found (drop (word_length s) s)
    else Err (refusal causes.NotInDialect (length s)))

unfoldable pub o_word_at : Switches → Reader
o_word_at d found s =
    if d.labels then (label_at d found s >>= λ x. labelled_at d x.0 (after_comments x.1))
    else Err (refusal causes.NotInDialect (length s))

-- Fanuc's statements

-- a number, and what it is for; `from` is the text of the statement
abbrev pub jump_at : Switches → PartKind → List ℕ → Reader
jump_at d kind from found s =
    top d found s >>= λ x. added kind from x.0 x.1 >>= λ y. ended y.0 y.1

-- what follows IF [condition]: GOTO n, or THEN and items
abbrev pub then_at : Switches → Reader
then_at d found s =
    if starts_with nat_eq s (codes "GOTO") then jump_at d kinds.GoTo s found (drop 4 s) else (
    if starts_with nat_eq s (codes "THEN") then items d found (drop 4 s)
    else Err (refusal causes.JumpMissing (length s)))

unfoldable pub if_at : Switches → List ℕ → Reader
if_at d from found s =
    bracket_with d (top d) found s >>= λ x.
    added kinds.When from x.0 x.1 >>= λ y. then_at d y.0 y.1

-- what follows WHILE [condition]: DO n
abbrev pub do_at : Switches → List ℕ → Reader
do_at d from found s =
    if starts_with nat_eq s (codes "DO") then jump_at d kinds.Loop from found (drop 2 s)
    else Err (refusal causes.JumpMissing (length s))

unfoldable pub while_at : Switches → List ℕ → Reader
while_at d from found s = bracket_with d (top d) found s >>= λ x. do_at d from x.0 x.1

unfoldable pub macro_at : Switches → Reader
macro_at d found s =
    if starts_with nat_eq s (codes "IF[") then if_at d s found (drop 2 s) else (
    if starts_with nat_eq s (codes "WHILE[") then while_at d s found (drop 5 s) else (
    if starts_with nat_eq s (codes "GOTO") then jump_at d kinds.GoTo s found (drop 4 s) else (
    if starts_with nat_eq s (codes "END") then jump_at d kinds.EndLoop s found (drop 3 s)
    else items d found s)))
