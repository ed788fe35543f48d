-- A text of which no line begins with `/` does the same at both settings of block delete.
use Rattle.std.proofs.Common.{◌≡◌, ℕ, zero, suc, List, [], ◌∷◌, ◌++◌, Bool, true, false, Option, Some, None, Result, Ok, Err, IfOk, IfSome, slice_get, refl, sym, ◌∙◌, ap}
use Rattle.std.specs.Prelude.{◌==◌, ◌||◌, not, if◌then◌else◌}
use Rattle.std.specs.List.{list_any}
use Rattle.std.proofs.lemmas.Bool.{or_from, or_parts}
use Rattle.ngc_canonical.specs.State.{Setup}
use Rattle.ngc_frames.specs.declared.change.FrameChange.{FrameChange}
use Rattle.ngc_line_reader.specs.Program.{split_lines}
use Rattle.ngc_dialect_names.specs.declared.dialect.Dialect.{Dialect}
use Rattle.ngc_dialect_reader.specs.Line.{line_of}
use Rattle.ngc_dialect_flow.specs.declared.effect.Effect.{Effect}
use Rattle.ngc_dialect_flow.specs.Places.{Plan, plan_in}
use Rattle.ngc_dialect_flow.specs.State.{begun}
use Rattle.ngc_dialect_execution.specs.declared.fault.Cause.{Cause}
use Rattle.ngc_dialect_execution.specs.declared.fault.Cause.TheVariants as causes
use Rattle.ngc_dialect_execution.specs.declared.fault.DialectFault.{DialectFault}
use Rattle.ngc_dialect_execution.specs.declared.lines.Taken.{Taken}
use Rattle.ngc_dialect_execution.specs.declared.lines.Taken.TheVariants.{Done, HasFlow}
use Rattle.ngc_dialect_execution.specs.declared.run.Wanted.{Wanted}
use Rattle.ngc_dialect_execution.specs.Ending.{Outcome, at, changed_by}
use Rattle.ngc_dialect_execution.specs.Faults.{◌>>=◌, caused}
use Rattle.ngc_dialect_execution.specs.Flow.{FlowProgress, ends, flow_from, flow_line_taken, flow_taken, line_or_end, number_at, then_on}
use Rattle.ngc_dialect_execution.specs.Mounting.{before_lines}
use Rattle.ngc_dialect_execution.specs.Program.{from_begun, go_from, go_on, leaves_out, lines_taken, marked_taken, traced_by, traced_in}
use Rattle.ngc_dialect_execution.specs.Taken.{Progress, is_deleted, line_taken}
use Rattle.ngc_dialect_execution.specs.Text.{ProgramLines, begins_with_slash, ends_unmarked, first_byte, has_deleted, is_end, lines_after, lines_among, mark_of, no_lines, number_of, percent_mark, program_of, with_line}
use Rattle.ngc_delete_laws.specs.Laws.{AlikeWithoutSlash, FollowsSetting}
use Rattle.ngc_delete_laws.proofs.FirstByte.{line_stays}
use Rattle.ngc_delete_laws.proofs.FirstPart.{Stays}

-- ---- the lines of a program

-- no line begins with `/`
abbrev HaveNone : List (List ℕ) → Type 0
HaveNone lines = list_any begins_with_slash lines ≡ false

ended_or : (b : Bool) (x p : ProgramLines) (bytes : List ℕ) → HaveNone x.lines → begins_with_slash bytes ≡ false → HaveNone p.lines →
    HaveNone (if b then x else with_line bytes p).lines
ended_or true x p bytes e h k = e
ended_or false x p bytes e h k = or_from (begins_with_slash bytes) (list_any begins_with_slash p.lines) h k

-- what the lines before a line were: a type that the crate of the definitions doesn't name to others
abbrev Domain : {A B : Type 0} → (A → B) → Type 0
Domain {A} f = A

abbrev Before : Type 0
Before = Domain lines_after

among : (d : Dialect) (before : Before) (lines : List (List ℕ)) → HaveNone lines → HaveNone (lines_among d before lines).lines
among d before [] h = refl
among d before (bytes ∷ rest) h =
    let parts = or_parts (begins_with_slash bytes) (list_any begins_with_slash rest) h in
    ended_or (is_end (mark_of before d (first_byte bytes))) (record { dialect = d; lines = []; last = number_of (lines_after before (first_byte bytes)).count })
    (lines_among d (lines_after before (first_byte bytes)) rest) bytes refl parts.0
    (among d (lines_after before (first_byte bytes)) rest parts.1)

line_at : (lines : List (List ℕ)) (n : ℕ) → HaveNone lines → IfSome (slice_get lines n) (λ bytes. begins_with_slash bytes ≡ false)
line_at [] n h = tt
line_at (bytes ∷ rest) zero h = (or_parts (begins_with_slash bytes) (list_any begins_with_slash rest) h).0
line_at (bytes ∷ rest) (suc n) h = line_at rest n (or_parts (begins_with_slash bytes) (list_any begins_with_slash rest) h).1

-- ---- one step after another

after : {A B : Type 0} (P : A → Type 0) (r : Result A Cause) (f g : A → Result B Cause) → IfOk r P → ((x : A) → P x → f x ≡ g x) → (r >>= f) ≡ (r >>= g)
after P (Ok x) f g h same = same x h
after P (Err e) f g h same = refl

still : {A E : Type 0} (P : A → Type 0) (as_cause : E → Cause) (r : Result A E) → IfOk r P → IfOk (caused as_cause r) P
still P as_cause (Ok x) h = h
still P as_cause (Err e) h = tt

stays_in : {A : Type 0} (out : Bool) (x y : A) → out ≡ false → (if out then x else y) ≡ y
stays_in out x y e = rw e refl

branch : (b : Bool) (x y z : Outcome) → y ≡ z → (if b then x else y) ≡ (if b then x else z)
branch true x y z e = refl
branch false x y z e = e

-- ---- a line

line_alike : (setup : Setup) (line : ℕ) (bytes : List ℕ) (p : Progress) → begins_with_slash bytes ≡ false →
    line_taken setup true line bytes p ≡ line_taken setup false line bytes p
unfolding line_taken
line_alike setup line bytes p h =
    after Stays (caused causes.Reading (line_of p.between.dialect bytes)) _ _
    (still Stays causes.Reading (line_of p.between.dialect bytes) (line_stays p.between.dialect bytes h))
    (λ parts e. stays_in (is_deleted parts) _ _ e)

choice : {A : Type 0} (P : A → Type 0) (b : Bool) (x y : A) → P x → P y → P (if b then x else y)
choice P true x y h k = h
choice P false x y h k = k

abbrev Codomain : {A B C D : Type 0} → (A → B → C → D) → Type 0
Codomain {A} {B} {C} {D} f = D

abbrev Marked : Type 0
Marked = Codomain mark_of

-- a line with this mark does the same at both settings
abbrev AlikeAt : Setup → ℕ → List ℕ → Progress → Marked → Type 0
AlikeAt setup line bytes p mark = at line (marked_taken setup true line mark bytes p) ≡ at line (marked_taken setup false line mark bytes p)

marked_alike : (setup : Setup) (line : ℕ) (before : Before) (d : Dialect) (bytes : List ℕ) (p : Progress) → begins_with_slash bytes ≡ false →
    (first : Option ℕ) → AlikeAt setup line bytes p (mark_of before d first)
marked_alike setup line before d bytes p h None = ap (λ (r : Result (Taken × Progress) Cause). at line r) (line_alike setup line bytes p h)
marked_alike setup line before d bytes p h (Some byte) =
    let begins : Marked = percent_mark no_lines d in
    let ends_it : Marked = percent_mark (lines_after no_lines (Some 37)) d in
    let is_line : Marked = mark_of before d None in
    let same : AlikeAt setup line bytes p is_line = ap (λ (r : Result (Taken × Progress) Cause). at line r) (line_alike setup line bytes p h) in
    choice (AlikeAt setup line bytes p) (byte == 37) (percent_mark before d) is_line
    (choice (AlikeAt setup line bytes p) (not before.begun) begins (if before.marked || ends_unmarked d then ends_it else is_line) refl
    (choice (AlikeAt setup line bytes p) (before.marked || ends_unmarked d) ends_it is_line refl same))
    same

flow_line_alike : (setup : Setup) (plan : Plan) (line : ℕ) (bytes : List ℕ) (r : FlowProgress) → begins_with_slash bytes ≡ false →
    flow_line_taken setup true plan line bytes r ≡ flow_line_taken setup false plan line bytes r
unfolding flow_line_taken
flow_line_alike setup plan line bytes r h =
    after Stays (caused causes.Reading (line_of r.progress.between.dialect bytes)) _ _
    (still Stays causes.Reading (line_of r.progress.between.dialect bytes) (line_stays r.progress.between.dialect bytes h))
    (λ parts e. stays_in (is_deleted parts) _ _ e)

-- ---- a program whose flow has begun

then_rest : (setup : Setup) (line : ℕ) (p : Progress) (cs : List FrameChange) (r : Result (Effect × FlowProgress) DialectFault)
    (f g : FlowProgress → List FrameChange → Outcome) → ((q : FlowProgress) (now : List FrameChange) → f q now ≡ g q now) →
    then_on setup line p cs r f ≡ then_on setup line p cs r g
then_rest setup line p cs (Ok x) f g same = branch (ends x.0) _ _ _ (same x.1 (cs ++ changed_by line p x.1.progress))
then_rest setup line p cs (Err e) f g same = refl

line_or : (found : Option (List ℕ)) (over : Outcome) (f g : List ℕ → Outcome) → IfSome found (λ bytes. begins_with_slash bytes ≡ false) →
    ((bytes : List ℕ) → begins_with_slash bytes ≡ false → f bytes ≡ g bytes) → line_or_end found over f ≡ line_or_end found over g
line_or None over f g h same = refl
line_or (Some bytes) over f g h same = same bytes h

flow_alike : (setup : Setup) (plan : Plan) (program : ProgramLines) → HaveNone program.lines → (fuel : ℕ) (r : FlowProgress) (cs : List FrameChange) →
    flow_taken setup true plan program fuel r cs ≡ flow_taken setup false plan program fuel r cs
unfolding flow_taken
flow_alike setup plan program none zero r cs = refl
flow_alike setup plan program none (suc fuel) r cs =
    line_or (slice_get program.lines r.flow.line) _ _ _ (line_at program.lines r.flow.line none)
    (λ bytes h. ap (λ (t : Result (Effect × FlowProgress) DialectFault). then_on setup (number_at r) r.progress cs t
    (λ q now. flow_taken setup true plan program fuel q now))
    (ap (at (number_at r)) (flow_line_alike setup plan (number_at r) bytes r h))
    ∙ then_rest setup (number_at r) r.progress cs (at (number_at r) (flow_line_taken setup false plan (number_at r) bytes r)) _ _
    (λ q now. flow_alike setup plan program none fuel q now))

from_alike : (setup : Setup) (program : ProgramLines) → HaveNone program.lines → (n : ℕ) (p : Progress) (cs : List FrameChange) →
    flow_from setup true program n p cs ≡ flow_from setup false program n p cs
from_alike setup program none n p cs =
    flow_alike setup (plan_in program.dialect program.lines) program none (begun n).fuel (record { progress = p; flow = begun n }) cs

-- ---- a program

went : (t : Taken) (q : Progress) (cs : List FrameChange) (flow flow' : Progress → Outcome) (rest rest' : Progress → List FrameChange → Outcome) →
    flow q ≡ flow' q → rest q cs ≡ rest' q cs → go_from t q cs flow rest ≡ go_from t q cs flow' rest'
went HasFlow q cs flow flow' rest rest' f m = f
went Done q cs flow flow' rest rest' f m = branch q.between.state.ended _ _ _ m

go_rest : (line : ℕ) (p : Progress) (cs : List FrameChange) (r : Result (Taken × Progress) DialectFault) (flow flow' : Progress → Outcome)
    (rest rest' : Progress → List FrameChange → Outcome) → ((q : Progress) → flow q ≡ flow' q) →
    ((q : Progress) (more : List FrameChange) → rest q more ≡ rest' q more) → go_on line p cs r flow rest ≡ go_on line p cs r flow' rest'
go_rest line p cs (Ok x) flow flow' rest rest' f m =
    let now : List FrameChange = cs ++ changed_by line p x.1 in
    went x.0 x.1 now flow flow' rest rest' (f x.1) (m x.1 now)
go_rest line p cs (Err e) flow flow' rest rest' f m = refl

go_alike : (line : ℕ) (p : Progress) (cs : List FrameChange) (r s : Result (Taken × Progress) DialectFault) (flow flow' : Progress → Outcome)
    (rest rest' : Progress → List FrameChange → Outcome) → r ≡ s → ((q : Progress) → flow q ≡ flow' q) →
    ((q : Progress) (more : List FrameChange) → rest q more ≡ rest' q more) → go_on line p cs r flow rest ≡ go_on line p cs s flow' rest'
go_alike line p cs r s flow flow' rest rest' e f m =
    ap (λ (t : Result (Taken × Progress) DialectFault). go_on line p cs t flow rest) e ∙ go_rest line p cs s flow flow' rest rest' f m

lines_alike : (setup : Setup) (program : ProgramLines) → HaveNone program.lines → (before : Before) (lines : List (List ℕ)) → HaveNone lines →
    (p : Progress) (cs : List FrameChange) → lines_taken setup true program before lines p cs ≡ lines_taken setup false program before lines p cs
unfolding lines_taken
lines_alike setup program none before [] h p cs = refl
lines_alike setup program none before (bytes ∷ rest) h p cs =
    let parts = or_parts (begins_with_slash bytes) (list_any begins_with_slash rest) h in
    let now : Before = lines_after before (first_byte bytes) in
    branch (is_end (mark_of before p.between.dialect (first_byte bytes))) _ _ _
    (go_alike (number_of now.count) p cs _ _ _ _ _ _ (marked_alike setup (number_of now.count) before p.between.dialect bytes p parts.0 (first_byte bytes))
    (λ q. from_alike setup program none before.count q cs)
    (λ q more. lines_alike setup program none now rest parts.1 q more))

begun_alike : (r : Result Progress DialectFault) (f g : Progress → Outcome) → ((p : Progress) → f p ≡ g p) → from_begun r f ≡ from_begun r g
begun_alike (Ok p) f g same = same p
begun_alike (Err e) f g same = refl

pub alike_without_slash : AlikeWithoutSlash
alike_without_slash w d setup text none =
    begun_alike (before_lines w d setup) _ _
    (λ p. lines_alike setup (program_of d text) (among d no_lines (split_lines text) none) no_lines (split_lines text) none p [])

pub follows_setting : FollowsSetting
follows_setting w d setup false text = refl
follows_setting w d setup true text = by (has_deleted text) refl where
  by : (deleted : Bool) → has_deleted text ≡ deleted → traced_in w d setup true text ≡ traced_by w d setup true text
  by true e = ap (λ (out : Bool). traced_by w d setup out text) e
  by false e = ap (λ (out : Bool). traced_by w d setup out text) e ∙ sym (alike_without_slash w d setup text e)
