use Rattle.std.proofs.Common.{◌≡◌, pos, ◌+ℤ◌, ◌-ℤ◌, ◌∙◌, ap}
use Rattle.ngc_arc_geometry.proofs.Machine.{as_signed, as_negative, moved_on, moved_back, negative_fits, radius_fits}
use Rattle.ngc_arc_geometry.proofs.arc.Arc.quadrant_points.Goals as goal

pub returns-in-Counterclockwise : goal.returns-in-Counterclockwise
returns-in-Counterclockwise c =
    let r = c.outer_radius-radius.result in
    let more = as_signed r c.outer_radius-radius.ensures.bound in
    let less = as_negative r c.outer_radius-radius.ensures.bound in
    let east : c.moved.result ≡ c.centre-centre.result.u +ℤ pos r = c.moved.ensures ∙ ap (λ z. c.centre-centre.result.u +ℤ z) more in
    let north : c.moved-2.result ≡ c.centre-centre.result.v +ℤ pos r = c.moved-2.ensures ∙ ap (λ z. c.centre-centre.result.v +ℤ z) more in
    let west : c.moved-3.result ≡ c.centre-centre.result.u -ℤ pos r = c.moved-3.ensures ∙ ap (λ z. c.centre-centre.result.u +ℤ z) less in
    let south : c.moved-4.result ≡ c.centre-centre.result.v -ℤ pos r = c.moved-4.ensures ∙ ap (λ z. c.centre-centre.result.v +ℤ z) less in
    rw (← c.in-Counterclockwise.ensures {u = tt}, ← c.outer_radius-radius.ensures.value, ← c.centre-centre.ensures.value, east, north, west, south)

pub returns-in-Clockwise : goal.returns-in-Clockwise
returns-in-Clockwise c =
    let r = c.outer_radius-radius.result in
    let more = as_signed r c.outer_radius-radius.ensures.bound in
    let less = as_negative r c.outer_radius-radius.ensures.bound in
    let east : c.moved.result ≡ c.centre-centre.result.u +ℤ pos r = c.moved.ensures ∙ ap (λ z. c.centre-centre.result.u +ℤ z) more in
    let north : c.moved-2.result ≡ c.centre-centre.result.v +ℤ pos r = c.moved-2.ensures ∙ ap (λ z. c.centre-centre.result.v +ℤ z) more in
    let west : c.moved-3.result ≡ c.centre-centre.result.u -ℤ pos r = c.moved-3.ensures ∙ ap (λ z. c.centre-centre.result.u +ℤ z) less in
    let south : c.moved-4.result ≡ c.centre-centre.result.v -ℤ pos r = c.moved-4.ensures ∙ ap (λ z. c.centre-centre.result.v +ℤ z) less in
    rw (← c.in-Clockwise.ensures {u = tt}, ← c.outer_radius-radius.ensures.value, ← c.centre-centre.ensures.value, east, south, west, north)

pub overflow_cast-radius : goal.overflow_cast-radius
overflow_cast-radius c = radius_fits c.outer_radius-radius.result c.outer_radius-radius.ensures.bound

pub moved-requires : goal.moved-requires
moved-requires c = moved_on c.centre-centre.result.u c.outer_radius-radius.result c.centre-centre.ensures.u c.outer_radius-radius.ensures.bound

pub moved-requires-2 : goal.moved-requires-2
moved-requires-2 c = moved_on c.centre-centre.result.v c.outer_radius-radius.result c.centre-centre.ensures.v c.outer_radius-radius.ensures.bound

pub overflow_sub-radius : goal.overflow_sub-radius
overflow_sub-radius c = negative_fits c.outer_radius-radius.result c.outer_radius-radius.ensures.bound

pub moved-requires-3 : goal.moved-requires-3
moved-requires-3 c = moved_back c.centre-centre.result.u c.outer_radius-radius.result c.centre-centre.ensures.u c.outer_radius-radius.ensures.bound

pub overflow_sub-radius-2 : goal.overflow_sub-radius-2
overflow_sub-radius-2 c = negative_fits c.outer_radius-radius.result c.outer_radius-radius.ensures.bound

pub moved-requires-4 : goal.moved-requires-4
moved-requires-4 c = moved_back c.centre-centre.result.v c.outer_radius-radius.result c.centre-centre.ensures.v c.outer_radius-radius.ensures.bound
