use Rattle.std.proofs.Common.{sym, ◌∙◌, subst, List, true}
use Rattle.std.specs.Prelude.{IsTrue}
use Rattle.std.specs.List.{list_all}
use Rattle.ngc_machine_files.specs.Machine.{file_of}
use Rattle.ngc_certificate_text.specs.declared.piece.Piece.{Piece}
use Rattle.ngc_certificate_text.specs.Certificate.{good_piece}
use Rattle.ngc_certificate.proofs.Cleared.{whole_good, whole_stands, cut_stands}
use Rattle.ngc_certificate.proofs.GoodResults.{map_ok}
use Rattle.ngc_certificate.proofs.finding.find_arc.Goals as goal

pub returns-then-branch-clause-found : goal.returns-then-branch-clause-found
returns-then-branch-clause-found g c =
    whole_stands (file_of c.args.machine.now) c.args.most c.args.tool.now c.args.arc.now c.clears_in.new.pieces.items c.in_ok-clears_in.ensures.pieces
    (sym c.in_ok-clears_in.ensures.clear ∙ c.if-branch.true)

pub returns-then-branch-clause-good : goal.returns-then-branch-clause-good
returns-then-branch-clause-good g c = λ clear.
    let machine = c.args.machine.now in
    subst (λ (ps : List Piece). IsTrue (list_all good_piece ps)) (sym c.in_ok-clears_in.ensures.pieces)
    (whole_good (file_of machine) c.args.tool.now c.args.arc.now machine.step_in_range machine.travel_in_range
    (sym c.in_ok-clears_in.ensures.clear ∙ c.if-branch.true))

pub returns-then-branch-2-clause-found : goal.returns-then-branch-2-clause-found
returns-then-branch-2-clause-found g c =
    cut_stands (file_of c.args.machine.now) c.args.most c.args.tool.now c.args.arc.now true c.clears_cut.new.pieces.items
    (sym c.in_ok-clears_in.ensures.clear ∙ c.if-branch.false)
    (λ h. c.in_ok-clears_cut.ensures.clear c.if-branch-2.true)

pub returns-clause-found : goal.returns-clause-found
returns-clause-found g c =
    let refused = sym c.in_ok-clears_in.ensures.clear ∙ c.if-branch.false in
    map_ok c.clears_cut-2.result _ _ c.clears_cut-2.ensures.clear
    (λ clear h. cut_stands (file_of c.args.machine.now) c.args.most c.args.tool.now c.args.arc.now clear c.clears_cut-2.new.pieces.items refused h)
