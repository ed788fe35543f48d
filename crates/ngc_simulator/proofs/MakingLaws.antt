-- The result of making a machine file, from the results of its parts.
use Rattle.std.proofs.Common.{◌≡◌, ℕ, List, Option, None, Result, Ok, Err, is_err, IfErr, IfOk, OnOk, false, inl, inr, refl, subst, sym}
use Rattle.std.specs.Io.KnownBytes.{Keeps}
use Rattle.ngc_machine_files.specs.Machine.{MachineFile}
use Rattle.ngc_command_line.specs.declared.options.MachineOptions.{MachineOptions}
use Rattle.ngc_simulator.specs.Answers.{MachineResult, MakesOn}
use Rattle.ngc_machine_maker.specs.Numbers.{numbers_of}
use Rattle.ngc_machine_maker.specs.Sentences.{refusal_line}
use Rattle.ngc_machine_maker.specs.declared.figures.Figures.{Figures}
use Rattle.ngc_machine_maker.specs.declared.numbers.MachineNumbers.{MachineNumbers}
use Rattle.ngc_machine_maker.specs.declared.refusal.FigureRefusal.{FigureRefusal}
use Rattle.ngc_simulator.specs.Making.{AreAskedKeys, IsAskedFor, IsNotRead, IsUnmade, MakeFails, Makes, WritesNumbers, with_remarks}
use Rattle.ngc_simulator.specs.declared.done.Notes.{Notes}
use Rattle.ngc_inputs.specs.Setups.{FileBytes}
use Rattle.ngc_written_machines.specs.Reading.{any_machine}
use Rattle.ngc_inputs.specs.Unread.{unread_by}
use Rattle.ngc_inputs.specs.declared.fault.AnswerFault.{AnswerFault}
use Rattle.ngc_inputs.specs.declared.fault.AnswerFault.TheVariants as answers

pub make_failed : (bytes : FileBytes) (options : MachineOptions) (dump : Option (List ℕ)) (old new : Option (List ℕ)) (fault : AnswerFault) →
    MakeFails options dump old new fault
    → MakesOn bytes options old new (Err fault) → MachineResult bytes options old new (Err fault)
make_failed bytes options dump old new answers.NoFigures fails made = absurd fails
make_failed bytes options dump old new (answers.Input e) fails made = absurd fails
make_failed bytes options dump old new _ fails made = made

-- it isn't an unread file
pub not_unread : (options : MachineOptions) (dump : Option (List ℕ)) (old new : Option (List ℕ)) (fault : AnswerFault) →
    MakeFails options dump old new fault
    → unread_by fault ≡ None
not_unread options dump old new (answers.Input e) fails = absurd fails
not_unread options dump old new (answers.Read e) fails = absurd fails
not_unread options dump old new (answers.Certificate e) fails = absurd fails
not_unread options dump old new _ fails = refl

-- ---- the text of a machine file

-- the reader refuses the keys
pub keys_refused : (keys : List ℕ) (fault : AnswerFault) → IsNotRead keys fault → IsUnmade keys fault
keys_refused keys (answers.Machine e) refuses = inl refuses
keys_refused keys _ refuses = absurd refuses

-- it refuses them with the comments after them
pub whole_refused : (keys text : List ℕ) (machine : MachineFile) (fault : AnswerFault) → any_machine keys ≡ Ok machine →
    text ≡ with_remarks keys machine
    → IsNotRead text fault → IsUnmade keys fault
whole_refused keys text machine (answers.Machine e) says is refuses =
    inr (machine, says, subst (λ (t : List ℕ). IsNotRead t (answers.Machine e)) is refuses)
whole_refused keys text machine _ says is refuses = absurd refuses

-- of keys of which no text is made nothing is written
pub unmade : (options : MachineOptions) (dump : Option (List ℕ)) (old new : Option (List ℕ)) (keys : List ℕ) (fault : AnswerFault) →
    AreAskedKeys options dump keys
    → Keeps old new → IsUnmade keys fault → MakeFails options dump old new fault
unmade options dump old new keys answers.Memory are keeps h = keeps
unmade options dump old new keys (answers.Machine e) are keeps h = (keeps, (keys, are, h))
unmade options dump old new keys _ are keeps h = absurd h

-- a property of a result that isn't an error
pub of_no_error : {T E : Type 0} (r : Result T E) (P : Type 0) → is_err r ≡ false → OnOk r P → P
of_no_error (Ok x) P fine h = h
of_no_error (Err e) P fine h = cc

-- ---- figures that are refused

untold : (options : MachineOptions) (dump : Option (List ℕ)) (old : Option (List ℕ)) (fault : AnswerFault) → fault ≡ answers.Memory → Keeps old old →
    MakeFails options dump old old fault
untold options dump old answers.Memory is keeps = keeps
untold options dump old _ is keeps = cc

-- notes say why, and nothing is written
pub refused_figures : (options : MachineOptions) (dump old : Option (List ℕ)) (refusal : FigureRefusal) (outcome : Result Notes AnswerFault) →
    IsAskedFor options dump (Err refusal) → Keeps old old
    → IfOk outcome (λ notes. (notes.is_written ≡ false) × (notes.text.items ≡ refusal_line refusal)) → IfErr outcome (λ fault. fault ≡ answers.Memory)
    → Makes options dump old old outcome
refused_figures options dump old refusal (Ok notes) asked keeps told memory = (Err refusal, asked, (keeps, told.0, told.1))
refused_figures options dump old refusal (Err fault) asked keeps told memory = untold options dump old fault memory keeps

-- the same of figures of which no numbers are made
pub refused_numbers : (options : MachineOptions) (dump old : Option (List ℕ)) (figures : Figures) (refusal : FigureRefusal) (outcome : Result Notes AnswerFault) →
    IsAskedFor options dump (Ok figures) → numbers_of figures ≡ Err refusal → Keeps old old
    → IfOk outcome (λ notes. (notes.is_written ≡ false) × (notes.text.items ≡ refusal_line refusal)) → IfErr outcome (λ fault. fault ≡ answers.Memory)
    → Makes options dump old old outcome
refused_numbers options dump old figures refusal (Ok notes) asked is keeps told memory = (
  Ok figures,
  asked,
  subst (λ (r : Result MachineNumbers FigureRefusal). WritesNumbers options.rates figures r old old notes) (sym is) (keeps, told.0, told.1),
)
refused_numbers options dump old figures refusal (Err fault) asked is keeps told memory = untold options dump old fault memory keeps
