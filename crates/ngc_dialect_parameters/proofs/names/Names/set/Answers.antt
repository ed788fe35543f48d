use Rattle.ngc_dialect_parameters.proofs.NameLaws.{name_set}
use Rattle.ngc_dialect_parameters.proofs.names.Names.set.Goals as goal
use Rattle.ngc_dialect_parameters.proofs.names.Names.set.Goals.{in-Ok-insert, in-Err}

pub returns-clause-values : goal.returns-clause-values
returns-clause-values g c =
    elim c.match-insert.branch [
      | in-Ok-insert w ↦ rw w.result-is (rw w.self-is (name_set c.args.self.now.table.entries c.insert.new.self.entries c.in-Ok.key c.args.name.now c.args.value c.in-Ok.ensures.items w.in-Ok-insert.ensures.entries))
      | in-Err w ↦ rw w.result-is tt
    ]
