use Rattle.std.proofs.Common.{◌∙◌, ◌≡◌, ◌≤◌, ◌<◌, ◌+◌, ◌-◌, ◌*◌, nat_lt, sym, ap, arith}
use Rattle.std.proofs.Math.Nat.{mul-le-mul_left}
use Rattle.std.proofs.lemmas.Bool.{ltb-true, ltb-false}
use Rattle.ngc_braking.specs.Braking.{braking}
use Rattle.ngc_braking.specs.Leg.{passes}
use Rattle.ngc_braking.specs.Work.{GREATEST, work, slack}
use Rattle.ngc_braking.proofs.BeyondLaws.{work_small, lacks, short_after, decided_after}
use Rattle.ngc_braking.proofs.stretch.can_brake.Goals.{else-limit-rate-via-then-limit-rate+else-slack-lacking, else-limit-rate-via-else-limit-rate}
use Rattle.ngc_braking.proofs.stretch.can_brake.Goals as goal

pub returns-then-brakes_within : goal.returns-then-brakes_within
returns-then-brakes_within c =
    let short = ltb-true (braking c.args.rate c.args.head.now.change) c.args.rest (sym c.brakes_within.ensures ∙ c.if-brakes_within.true) in
    sym (short_after c.args.rate c.args.rest c.args.head.now c.args.afterwards.now c.requires.head.change short)

pub overflow_mul-lacking : goal.overflow_mul-lacking
overflow_mul-lacking c =
    let small = work_small c.args.rate c.args.head.now.change c.requires.rate c.requires.head.change c.requires.head.change_greatest in
    let part : c.braking.result - c.args.rest ≤ braking c.args.rate c.args.head.now.change = omega (arith, c.braking.ensures) in
    let product = mul-le-mul_left c.args.head.now.change part in
    omega (arith, small, product)

pub returns : goal.returns
returns c =
    let w = c.args.rate in
    let h = c.args.head.now in
    let l = c.in-Some.next.now in
    let long : c.args.rest ≤ braking c.args.rate c.args.head.now.change =
    ltb-false (braking c.args.rate c.args.head.now.change) c.args.rest (sym c.brakes_within.ensures ∙ c.if-brakes_within.false) in
    let is : c.args.head.now.change * c.args.rest + c.args.head.now.change * (c.braking.result - c.args.rest) ≡ work c.args.rate c.args.head.now.change =
    rw c.braking.ensures (lacks c.args.head.now.change c.args.rate c.args.rest long) in
    let most = work_small c.args.rate c.args.head.now.change c.requires.rate c.requires.head.change c.requires.head.change_greatest in
    let small : c.args.head.now.change * (c.braking.result - c.args.rest) < GREATEST = omega (arith, is, most) in
    let limit = c.passes-limit.ensures in
    let little : passes c.args.head.now.exit c.in-Some.next.now < c.args.rate → c.args.head.now.change * (c.braking.result - c.args.rest) < slack (passes c.args.head.now.exit c.in-Some.next.now) c.args.head.now.change =
    (elim c.else-limit-rate.branch [
      | else-limit-rate-via-then-limit-rate+else-slack-lacking b ↦ (λ fast. (
          let has = b.slack.ensures ∙ ap (λ n. slack n c.args.head.now.change) limit in
          omega (arith, has, b.if-slack-lacking.false)))
      | else-limit-rate-via-else-limit-rate b ↦ (λ fast. absurd (omega (arith, fast, limit, b.if-limit-rate.false)))
    ]) in
    let decided = decided_after w c.args.rest (h.change * (c.braking.result - c.args.rest)) c.args.beyond h l c.args.afterwards.now c.in-Some.ensures.value
    c.if-not-next.false is small c.requires.beyond little in
    c.ends_within.ensures ∙ ap (λ x. nat_lt (h.change * (c.braking.result - c.args.rest)) (x + c.args.beyond)) c.leg_work.ensures ∙ sym decided
