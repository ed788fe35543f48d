use Rattle.std.proofs.Common.{◌≡◌, ◌+◌, ◌-◌, ◌<◌, ℕ, map, drop, subst, refl, sym, ◌∙◌, arith}
use Rattle.std.proofs.lemmas.Bool.Decides.{nat_tests}
use Rattle.ngc_dialect_flow.specs.Places.{lines_in, Covers, dialect_of}
use Rattle.ngc_dialect_flow.proofs.PassLaws.{covers_next, plan_made}
use Rattle.ngc_dialect_flow.proofs.table.Table.new.Goals as goal

pub loop-index-preserved : goal.loop-index-preserved
loop-index-preserved g c =
    let positive : 0 < c.loop-index.index = grind (arith, nat_tests, c.loop-index-test.true) in
    let bound = c.loop-index.invariant.bound in
    let one : c.loop-index.index - 1 + 1 ≡ c.loop-index.index = omega (arith, positive) in
    record {
      bound = omega (arith, bound);
      dialect = c.in-Ok.ensures.dialect ∙ c.loop-index.invariant.dialect;
      covers = covers_next c.loop-index.table c.read_line.new.self c.args.dialect (dialect_of c.loop-index.table) (λ x. x.now) c.args.lines.now (c.loop-index.index - 1) _ _
          (omega (arith, positive, bound)) refl c.loop-index.invariant.dialect
          (subst (λ (n : ℕ). Covers c.loop-index.table (drop n (lines_in c.args.dialect (map (λ x. x.now) c.args.lines.now))) n) (sym one) c.loop-index.invariant.covers)
          c.in-Ok.ensures.covers;
    }

pub returns : goal.returns
returns g c =
    plan_made c.loop-index.table c.args.dialect (map (λ x. x.now) c.args.lines.now) c.loop-index.index c.reverse.new.self.items c.loop-index.invariant.dialect
    c.loop-index-test.false c.loop-index.invariant.covers c.reverse.ensures.items
