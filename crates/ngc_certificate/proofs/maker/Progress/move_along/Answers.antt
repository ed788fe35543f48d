use Rattle.std.proofs.Common.{sym, subst, List, arith}
use Rattle.ngc_machine_files.specs.Machine.{file_of}
use Rattle.ngc_certificate_text.specs.declared.piece.Piece.{Piece}
use Rattle.ngc_certificate_text.specs.Certificate.{IsEntry}
use Rattle.ngc_certificate.specs.Made.{MayFindPieces}
use Rattle.ngc_certificate.specs.Planned.{IsDividedIfLine}
use Rattle.ngc_certificate.specs.Making.{pieces_where}
use Rattle.ngc_certificate.specs.Traverses.{most_pieces}
use Rattle.ngc_certificate.proofs.Cleared.{found_entry, found_divided}
use Rattle.ngc_certificate.proofs.PlanLaws.{more_entries}
use Rattle.ngc_certificate.proofs.TraverseLaws.{most_least, most_greatest}
use Rattle.ngc_certificate.proofs.MakingLaws.{goes_on, stops, one_longer}
use Rattle.ngc_certificate.proofs.maker.Progress.move_along.Goals as goal

pub add-requires-clause-entry : goal.add-requires-clause-entry
add-requires-clause-entry g c =
    let machine = file_of c.args.machine.now in
    let items = c.find_clear.new.pieces.items in
    let found = subst (λ b. MayFindPieces machine (most_pieces machine c.args.most c.args.motion.now.pace) c.args.self.now.tool c.args.motion.now.way (pieces_where b items)) c.in-Ok-true.field-0-test
    c.in-Ok-true.ensures.found in
    subst (λ (ps : List Piece). IsEntry (record { index = c.args.index; pieces = ps })) (sym c.as_slice.ensures.value)
    (found_entry machine (most_pieces machine c.args.most c.args.motion.now.pace) c.args.index c.args.self.now.tool c.args.motion.now.way items c.requires.index
    (most_least machine c.args.most c.args.motion.now.pace c.requires.most)
    (most_greatest machine c.args.most c.args.motion.now.pace (omega (arith, c.ranges.most.fits))) found
    (c.in-Ok-true.ensures.good c.in-Ok-true.field-0-test))

pub add-requires-clause-divided : goal.add-requires-clause-divided
add-requires-clause-divided g c =
    let machine = file_of c.args.machine.now in
    let items = c.find_clear.new.pieces.items in
    let found = subst (λ b. MayFindPieces machine (most_pieces machine c.args.most c.args.motion.now.pace) c.args.self.now.tool c.args.motion.now.way (pieces_where b items)) c.in-Ok-true.field-0-test
    c.in-Ok-true.ensures.found in
    subst (λ (ps : List Piece). IsDividedIfLine machine.step c.args.motion.now.way ps) (sym c.as_slice.ensures.value)
    (found_divided machine (most_pieces machine c.args.most c.args.motion.now.pace) c.args.self.now.tool c.args.motion.now.way items
    (most_least machine c.args.most c.args.motion.now.pace c.requires.most)
    (most_greatest machine c.args.most c.args.motion.now.pace (omega (arith, c.ranges.most.fits))) found)

pub returns-clause-are : goal.returns-clause-are
returns-clause-are g c =
    let machine = file_of c.args.machine.now in
    let items = c.find_clear.new.pieces.items in
    let found = subst (λ b. MayFindPieces machine (most_pieces machine c.args.most c.args.motion.now.pace) c.args.self.now.tool c.args.motion.now.way (pieces_where b items)) c.in-Ok-true.field-0-test
    c.in-Ok-true.ensures.found in
    more_entries _ _ (record { index = c.args.index; pieces = c.as_slice.result.now }) c.requires.are
    (subst (λ (ps : List Piece). IsEntry (record { index = c.args.index; pieces = ps })) (sym c.as_slice.ensures.value)
    (found_entry machine (most_pieces machine c.args.most c.args.motion.now.pace) c.args.index c.args.self.now.tool c.args.motion.now.way items c.requires.index
    (most_least machine c.args.most c.args.motion.now.pace c.requires.most)
    (most_greatest machine c.args.most c.args.motion.now.pace (omega (arith, c.ranges.most.fits))) found
    (c.in-Ok-true.ensures.good c.in-Ok-true.field-0-test)))
    c.requires.room c.in-Ok.ensures

pub returns-in-Ok-false-clause-leads : goal.returns-in-Ok-false-clause-leads
returns-in-Ok-false-clause-leads g c = λ actions.
    let machine = file_of c.args.machine.now in
    stops machine c.args.most c.args.index c.args.self.now.tool c.args.self.now.place (g.M.MotionStore.entries c.args.self.now.motions c.args.machine.now.step c.args.commands.now) c.args.motion.now actions
    (subst (λ b. MayFindPieces machine (most_pieces machine c.args.most c.args.motion.now.pace) c.args.self.now.tool c.args.motion.now.way (pieces_where b c.find_clear.new.pieces.items))
    c.in-Ok-false.field-0-test c.in-Ok-false.ensures.found)

pub returns-clause-leads : goal.returns-clause-leads
returns-clause-leads g c = (
  λ actions says given.
      let machine = file_of c.args.machine.now in
      let items = c.find_clear.new.pieces.items in
      goes_on machine c.args.most c.args.index c.args.self.now.tool c.args.self.now.place c.end-self.result (g.M.MotionStore.entries c.args.self.now.motions c.args.machine.now.step c.args.commands.now) (g.M.MotionStore.entries c.add.new.self c.args.machine.now.step c.args.commands.now)
      c.args.motion.now items c.as_slice.result.now actions says given.0
      (subst (λ b. MayFindPieces machine (most_pieces machine c.args.most c.args.motion.now.pace) c.args.self.now.tool c.args.motion.now.way (pieces_where b items)) c.in-Ok-true.field-0-test
      c.in-Ok-true.ensures.found)
      c.as_slice.ensures.value c.in-Ok.ensures c.end-self.ensures given.1 given.2,
  one_longer (g.M.MotionStore.entries c.args.self.now.motions c.args.machine.now.step c.args.commands.now) (g.M.MotionStore.entries c.add.new.self c.args.machine.now.step c.args.commands.now) (record { index = c.args.index; pieces = c.as_slice.result.now }) c.in-Ok.ensures,
)
