use Rattle.std.proofs.Common.{rules, ℕ, List, Some, Ok, Err, Bor, ap}
use Rattle.std.specs.Prelude.{option_map}
use Rattle.ngc_report.proofs.Converted.{turned}
use Rattle.ngc_simulator.specs.Answers.{MachineResult}
use Rattle.ngc_simulator.proofs.AdaptLaws.{made_of}
use Rattle.ngc_simulator.proofs.MakingLaws.{make_failed}
use Rattle.ngc_simulator.proofs.making.machine_files.Goals as goal

pub returns-in_ok-notes-in-Some-clause-comes : goal.returns-in_ok-notes-in-Some-clause-comes
returns-in_ok-notes-in-Some-clause-comes g c = (
  search rules,
  made_of (g.F.Files.bytes c.args.files.now) c.args.options.now c.in-Some.name.now _ _ _ (Ok c.in_ok-notes-in-Some.notes)
      c.in_ok-dump-in-Some.dump.items c.as_slice.result.now
      (ap (option_map (λ (n : Bor (List ℕ)). n.now)) c.in-Some.is) c.in_ok-dump-in-Some.ensures.value c.as_slice.ensures.value c.in_ok-notes-in-Some.ensures.makes,
)

pub returns-in_err-notes-in-Some-clause-comes : goal.returns-in_err-notes-in-Some-clause-comes
returns-in_err-notes-in-Some-clause-comes g c =
    let bytes = g.F.Files.bytes c.args.files.now in
    let old = g.W.Sink.written c.args.output.now in
    let new = g.W.Sink.written c.make.new.output in
    let fault = c.in_err-notes-in-Some.field-0.0 in
    turned _ fault (MachineResult bytes c.args.options.now old new) c.from_residual-in_err-notes-in-Some.ensures.1
    (make_failed bytes c.args.options.now (Some c.as_slice.result.now) old new fault c.in_err-notes-in-Some.ensures.makes (
      search rules,
      made_of bytes c.args.options.now c.in-Some.name.now _ old new (Err fault) c.in_ok-dump-in-Some.dump.items c.as_slice.result.now
          (ap (option_map (λ (n : Bor (List ℕ)). n.now)) c.in-Some.is) c.in_ok-dump-in-Some.ensures.value c.as_slice.ensures.value
          c.in_err-notes-in-Some.ensures.makes,
    ))
