-- One line of a text after another.
use Rattle.std.proofs.Common.{◌≡◌, ℕ, List, [], ◌∷◌, ◌++◌, length, Bool, true, false, Result, Ok, Err, refl, sym, ◌∙◌, ap, subst, arith}
use Rattle.std.proofs.lemmas.Bool.Decides.{nat_tests}
use Rattle.ngc_line_reader.specs.Program.{split_lines}
use Rattle.std.specs.Prelude.{◌==◌, if◌then◌else◌}
use Rattle.ngc_canonical.specs.declared.fault.Fault.TheVariants.{NoEnd}
use Rattle.ngc_dialect_names.specs.declared.dialect.Dialect.{Dialect}
use Rattle.ngc_canonical.specs.State.{Setup}
use Rattle.ngc_frames.specs.Changes.{change_at, frame_of}
use Rattle.ngc_frames.specs.declared.change.FrameChange.{FrameChange}
use Rattle.ngc_frames.specs.Frame.{is_same_frame}
use Rattle.ngc_frames.specs.declared.frame.Frame.{Frame}
use Rattle.ngc_dialect_execution.specs.declared.fault.Cause.{Cause}
use Rattle.ngc_dialect_execution.specs.declared.fault.Cause.TheVariants as causes
use Rattle.ngc_dialect_execution.specs.declared.fault.DialectFault.{DialectFault}
use Rattle.ngc_dialect_execution.specs.declared.fault.DialectFault.TheVariants as faults
use Rattle.ngc_dialect_execution.specs.declared.fault.Refusal.{Refusal}
use Rattle.ngc_dialect_execution.specs.declared.fault.Refusal.TheVariants.{Because, Memory}
use Rattle.ngc_dialect_execution.specs.declared.lines.Taken.{Taken}
use Rattle.ngc_dialect_execution.specs.declared.lines.Taken.TheVariants.{Done, HasFlow}
use Rattle.ngc_dialect_execution.specs.declared.text.LinesBefore.{LinesBefore}
use Rattle.ngc_dialect_execution.specs.declared.text.Mark.{Mark}
use Rattle.ngc_dialect_execution.specs.Ending.{Outcome, at, changed_by, ended_only, finished, framed_by, Framed, with_changes}
use Rattle.ngc_dialect_execution.specs.Faults.{◌>>=◌, FailsBy, ProgramSays, Says, at_line}
use Rattle.ngc_dialect_execution.specs.Flow.{flow_from}
use Rattle.ngc_dialect_execution.specs.Program.{go_from, go_on, lines_taken, marked_taken}
use Rattle.ngc_dialect_execution.specs.Taken.{Between, Progress, ended_at}
use Rattle.ngc_dialect_execution.specs.Text.{ProgramLines, first_byte, is_end, lines_after, mark_of, no_lines, number_of}
use Rattle.ngc_dialect_execution.proofs.FrameSteps.{change_test}

yes : {A : Type 0} (b : Bool) (x y : A) → b ≡ true → (if b then x else y) ≡ x
yes true x y e = refl
yes false x y e = absurd (cc e)

no : {A : Type 0} (b : Bool) (x y : A) → b ≡ false → (if b then x else y) ≡ y
no true x y e = absurd (cc e)
no false x y e = refl

-- what is said of a line that the text passes
pub record Passes (before now : LinesBefore) (d : Dialect) (mark : Mark) (bytes : List ℕ) (line : ℕ) : Type 0 where
  pub is : mark ≡ mark_of before d (first_byte bytes)
  pub after : now ≡ lines_after before (first_byte bytes)
  pub number : line ≡ number_of now.count

-- the percent sign that ends the program
pub at_end : (setup : Setup) (block_delete : Bool) (program : ProgramLines) (before now : LinesBefore) (mark : Mark) (bytes : List ℕ) (line : ℕ)
    (rest : List (List ℕ)) (p : Progress) (cs : List FrameChange) → Passes before now p.between.dialect mark bytes line → is_end mark ≡ true
    → lines_taken setup block_delete program before (bytes ∷ rest) p cs ≡ with_changes cs (finished setup line p)
unfolding lines_taken
at_end setup block_delete program before now mark bytes line rest p cs h ends =
    yes (is_end (mark_of before p.between.dialect (first_byte bytes))) _ _ (ap is_end (sym h.is) ∙ ends)
    ∙ ap (λ (n : LinesBefore). with_changes cs (finished setup (number_of n.count) p)) (sym h.after)
    ∙ ap (λ (n : ℕ). with_changes cs (finished setup n p)) (sym h.number)

-- another line
next : (setup : Setup) (block_delete : Bool) (program : ProgramLines) (before now : LinesBefore) (mark : Mark) (bytes : List ℕ) (line : ℕ)
    (rest : List (List ℕ)) (p : Progress) (cs : List FrameChange) → Passes before now p.between.dialect mark bytes line → is_end mark ≡ false
    → lines_taken setup block_delete program before (bytes ∷ rest) p cs
    ≡ go_on line p cs (at line (marked_taken setup block_delete line mark bytes p)) (λ q. flow_from setup block_delete program before.count q cs)
    (λ q more. lines_taken setup block_delete program now rest q more)
unfolding lines_taken
next setup block_delete program before now mark bytes line rest p cs h on =
    let is : Mark = mark_of before p.between.dialect (first_byte bytes) in
    let flow : Progress → Outcome = λ q. flow_from setup block_delete program before.count q cs in
    let after : LinesBefore → Progress → List FrameChange → Outcome = λ n q more. lines_taken setup block_delete program n rest q more in
    let by : ℕ → LinesBefore → Mark → Outcome = λ number n m. go_on number p cs (at number (marked_taken setup block_delete number m bytes p)) flow (after n) in
    no (is_end is) _ _ (ap is_end (sym h.is) ∙ on)
    ∙ ap (by (number_of (lines_after before (first_byte bytes)).count) (lines_after before (first_byte bytes))) (sym h.is)
    ∙ ap (λ (n : LinesBefore). by (number_of n.count) n mark) (sym h.after) ∙ ap (λ (n : ℕ). by n now mark) (sym h.number)

taken : (setup : Setup) (block_delete : Bool) (program : ProgramLines) (before now : LinesBefore) (mark : Mark) (bytes : List ℕ) (line : ℕ)
    (rest : List (List ℕ)) (p : Progress) (cs : List FrameChange) (x : Taken × Progress) →
    Passes before now p.between.dialect mark bytes line → is_end mark ≡ false → marked_taken setup block_delete line mark bytes p ≡ Ok x
    → lines_taken setup block_delete program before (bytes ∷ rest) p cs
    ≡ go_from x.0 x.1 (cs ++ changed_by line p x.1) (λ q. flow_from setup block_delete program before.count q cs)
    (λ q more. lines_taken setup block_delete program now rest q more)
taken setup block_delete program before now mark bytes line rest p cs x h on e =
    next setup block_delete program before now mark bytes line rest p cs h on
    ∙ ap (λ (r : Result (Taken × Progress) Cause).
    go_on line p cs (at line r) (λ q. flow_from setup block_delete program before.count q cs)
    (λ q more. lines_taken setup block_delete program now rest q more)) e

-- the changes after a line, in the words of a call
pub noted : (line count : ℕ) (frame : Frame) (p q : Progress) (cs more : List FrameChange) → count ≡ length p.between.state.commands
    → is_same_frame frame (frame_of p.between.state) ≡ true → more ≡ cs ++ change_at line count frame (frame_of q.between.state)
    → more ≡ cs ++ changed_by line p q
noted line count frame p q cs more counted was is =
    is ∙ ap (λ (n : ℕ). cs ++ change_at line n frame (frame_of q.between.state)) counted
    ∙ ap (λ (made : List FrameChange). cs ++ made)
    (change_test line (length p.between.state.commands) frame (frame_of p.between.state) (frame_of q.between.state) was)

-- the program goes on
pub goes_on : (setup : Setup) (block_delete : Bool) (program : ProgramLines) (before now : LinesBefore) (mark : Mark) (bytes : List ℕ) (line : ℕ)
    (rest : List (List ℕ)) (p q : Progress) (cs more : List FrameChange) →
    Passes before now p.between.dialect mark bytes line → is_end mark ≡ false → marked_taken setup block_delete line mark bytes p ≡ Ok (Done, q)
    → q.between.state.ended ≡ false → more ≡ cs ++ changed_by line p q
    → lines_taken setup block_delete program before (bytes ∷ rest) p cs ≡ lines_taken setup block_delete program now rest q more
goes_on setup block_delete program before now mark bytes line rest p q cs more h on e still are =
    taken setup block_delete program before now mark bytes line rest p cs (Done, q) h on e ∙ no q.between.state.ended _ _ still
    ∙ ap (λ (l : List FrameChange). lines_taken setup block_delete program now rest q l) (sym are)

-- the line ends the program
pub ends_there : (setup : Setup) (block_delete : Bool) (program : ProgramLines) (before now : LinesBefore) (mark : Mark) (bytes : List ℕ) (line : ℕ)
    (rest : List (List ℕ)) (p q : Progress) (cs more : List FrameChange) (made : Framed) →
    Passes before now p.between.dialect mark bytes line → is_end mark ≡ false → marked_taken setup block_delete line mark bytes p ≡ Ok (Done, q)
    → q.between.state.ended ≡ true → more ≡ cs ++ changed_by line p q → made ≡ framed_by q.between more
    → lines_taken setup block_delete program before (bytes ∷ rest) p cs ≡ Ok made
ends_there setup block_delete program before now mark bytes line rest p q cs more made h on e over are given =
    taken setup block_delete program before now mark bytes line rest p cs (Done, q) h on e ∙ yes q.between.state.ended _ _ over
    ∙ ap (λ (l : List FrameChange). Ok (framed_by q.between l)) (sym are) ∙ ap (λ (f : Framed). Ok f) (sym given)

-- the flow begins at the line
pub flow_begins : (setup : Setup) (block_delete : Bool) (program : ProgramLines) (before now : LinesBefore) (mark : Mark) (bytes : List ℕ) (line : ℕ)
    (rest : List (List ℕ)) (p q : Progress) (cs : List FrameChange) →
    Passes before now p.between.dialect mark bytes line → is_end mark ≡ false → marked_taken setup block_delete line mark bytes p ≡ Ok (HasFlow, q)
    → lines_taken setup block_delete program before (bytes ∷ rest) p cs ≡ flow_from setup block_delete program before.count q cs
flow_begins setup block_delete program before now mark bytes line rest p q cs h on e =
    taken setup block_delete program before now mark bytes line rest p cs (HasFlow, q) h on e

-- the fault of a line
pub refused_at : {A B : Type 0} (line : ℕ) (view : B → A) (refusal : Refusal) (r : Result A Cause) → Says view (Err refusal) r
    → FailsBy {Y = A} (at_line line refusal) (at line r)
refused_at line view (Because cause) r says = ap (at line) says
refused_at line view Memory r says = tt

-- a fault of the first step is one of both
pub fails_first : {X Y : Type 0} (fault : DialectFault) (r : Result X DialectFault) (rest : Result X DialectFault → Result Y DialectFault) →
    ((e : DialectFault) → rest (Err e) ≡ Err e) → FailsBy fault r → FailsBy fault (rest r)
fails_first (faults.At line cause) r rest passes h = ap rest h ∙ passes (faults.At line cause)
fails_first faults.Memory r rest passes h = tt

pub refused_there : {B : Type 0} (setup : Setup) (block_delete : Bool) (program : ProgramLines) (before now : LinesBefore) (mark : Mark) (bytes : List ℕ)
    (line : ℕ) (rest : List (List ℕ)) (p : Progress) (cs : List FrameChange) (view : B → Taken × Progress) (refusal : Refusal) →
    Passes before now p.between.dialect mark bytes line → is_end mark ≡ false
    → Says view (Err refusal) (marked_taken setup block_delete line mark bytes p)
    → FailsBy (at_line line refusal) (lines_taken setup block_delete program before (bytes ∷ rest) p cs)
refused_there setup block_delete program before now mark bytes line rest p cs view refusal h on says =
    subst (FailsBy (at_line line refusal)) (sym (next setup block_delete program before now mark bytes line rest p cs h on))
    (fails_first (at_line line refusal) (at line (marked_taken setup block_delete line mark bytes p))
    (λ r. go_on line p cs r (λ q. flow_from setup block_delete program before.count q cs)
    (λ q more. lines_taken setup block_delete program now rest q more)) (λ e. refl)
    (refused_at line view refusal (marked_taken setup block_delete line mark bytes p) says))

-- ---- after a step of a program, in the same words

-- the same is said of what is equal
pub said_as : {X Y : Type 0} (view : X → Y) (r : Result X DialectFault) (m n : Result Y DialectFault) → m ≡ n → ProgramSays view r n → ProgramSays view r m
said_as view r m n e says = subst (ProgramSays view r) (sym e) says

-- the end of a program that is refused
pub end_refused : {B : Type 0} (setup : Setup) (last : ℕ) (p : Progress) (view : B → Between) (refusal : Refusal) →
    Says view (Err refusal) (ended_at setup last p.between)
    → FailsBy (at_line last refusal) (finished setup last p)
unfolding finished
end_refused setup last p view (Because cause) says = ap (λ (r : Result Between Cause). at last (r >>= λ b. ended_only b)) says
end_refused setup last p view Memory says = tt

finish_as : (setup : Setup) (last : ℕ) (p : Progress) (b : Between) → ended_at setup last p.between ≡ Ok b
    → finished setup last p ≡ at last (ended_only b)
unfolding finished
finish_as setup last p b e = ap (λ (r : Result Between Cause). at last (r >>= λ c. ended_only c)) e

-- the end of a program
pub finish_done : (setup : Setup) (last : ℕ) (p : Progress) (b : Between) → ended_at setup last p.between ≡ Ok b → b.state.ended ≡ true
    → finished setup last p ≡ Ok b
finish_done setup last p b e over = finish_as setup last p b e ∙ ap (at last) (yes b.state.ended _ _ over)

pub finish_lacks : (setup : Setup) (last : ℕ) (p : Progress) (b : Between) → ended_at setup last p.between ≡ Ok b → b.state.ended ≡ false
    → finished setup last p ≡ Err (faults.At last (causes.Plain NoEnd))
finish_lacks setup last p b e still = finish_as setup last p b e ∙ ap (at last) (no b.state.ended _ _ still)

-- ---- in the words of a call

pub passes : (before now : LinesBefore) (d e : Dialect) (mark : Mark) (bytes : List ℕ) (line : ℕ) → mark ≡ mark_of before d (first_byte bytes) → d ≡ e
    → now ≡ lines_after before (first_byte bytes) → line ≡ number_of now.count
    → Passes before now e mark bytes line
passes before now d e mark bytes line is same after number =
    record { is = is ∙ ap (λ (x : Dialect). mark_of before x (first_byte bytes)) same; after = after; number = number }

pub none_before : (setup : Setup) (block_delete : Bool) (program : ProgramLines) (before : LinesBefore) (lines : List (List ℕ)) (p : Progress)
    (cs : List FrameChange) → before ≡ no_lines → cs ≡ []
    → lines_taken setup block_delete program before lines p cs ≡ lines_taken setup block_delete program no_lines lines p []
none_before setup block_delete program before lines p cs none empty =
    ap (λ (b : LinesBefore). lines_taken setup block_delete program b lines p cs) none
    ∙ ap (λ (l : List FrameChange). lines_taken setup block_delete program no_lines lines p l) empty

pub first_left : (setup : Setup) (block_delete : Bool) (program : ProgramLines) (before : LinesBefore) (lines rest : List (List ℕ)) (bytes : List ℕ)
    (p : Progress) (cs : List FrameChange) (whole : Outcome) → lines ≡ bytes ∷ rest → lines_taken setup block_delete program before lines p cs ≡ whole
    → whole ≡ lines_taken setup block_delete program before (bytes ∷ rest) p cs
first_left setup block_delete program before lines rest bytes p cs whole split leads =
    sym leads ∙ ap (λ (ls : List (List ℕ)). lines_taken setup block_delete program before ls p cs) split

pub none_left : (setup : Setup) (block_delete : Bool) (program : ProgramLines) (before : LinesBefore) (lines : List (List ℕ)) (p : Progress)
    (cs : List FrameChange) (whole : Outcome) (last : ℕ) → lines ≡ [] → last ≡ number_of before.count
    → lines_taken setup block_delete program before lines p cs ≡ whole → whole ≡ with_changes cs (finished setup last p)
unfolding lines_taken
none_left setup block_delete program before lines p cs whole last none number leads =
    sym leads ∙ ap (λ (ls : List (List ℕ)). lines_taken setup block_delete program before ls p cs) none
    ∙ ap (λ (n : ℕ). with_changes cs (finished setup n p)) (sym number)

pub refused_as : {Y : Type 0} (found fault : DialectFault) (m n : Result Y DialectFault) → found ≡ fault → m ≡ n → FailsBy fault n → FailsBy found m
refused_as found fault m n is same says = subst (λ (f : DialectFault). FailsBy f m) (sym is) (subst (FailsBy fault) (sym same) says)

pub no_lines_in : (text : List ℕ) (empty : Bool) → empty ≡ (length text == 0) → empty ≡ true → split_lines text ≡ []
no_lines_in [] empty is yes_it_is = refl
no_lines_in (b ∷ text) empty is yes_it_is = absurd (grind (arith, nat_tests))
