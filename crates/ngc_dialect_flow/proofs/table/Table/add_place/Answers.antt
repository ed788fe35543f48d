use Rattle.std.proofs.Common.{ℕ, List, is_some, ap, ◌∙◌}
use Rattle.ngc_dialect_flow.specs.Places.{place_of}
use Rattle.ngc_dialect_flow.proofs.PlaceLaws.{place_added}
use Rattle.ngc_dialect_flow.proofs.table.Table.add_place.Goals as goal
use Rattle.ngc_dialect_flow.proofs.table.Table.add_place.Goals.{in-Ok-insert, in-Err}

pub returns-clause-places : goal.returns-clause-places
returns-clause-places g c =
    elim c.match-insert.branch [
      | in-Ok-insert w ↦ rw w.result-is (rw c.in-Some.is (place_added c.args.self.now.places.entries c.insert.new.self.entries c.in-Ok.bytes c.in-Some.key.items c.args.line c.is_some-again.result (c.in-Ok.ensures.items ∙ c.as_slice-2.ensures.value)
          (c.is_some-again.ensures ∙ ap is_some c.place.ensures ∙ ap (λ (k : List ℕ). is_some (place_of c.args.self.now k)) c.as_slice.ensures.value) w.in-Ok-insert.ensures.entries))
      | in-Err w ↦ rw w.result-is tt
    ]
