use Rattle.std.proofs.Common.{refl}
use Rattle.std.proofs.lemmas.Result.{on_ok_weaker}
use Rattle.ngc_certificate_text.specs.declared.expected.Indices.TheVariants as of
use Rattle.ngc_certificate_text.specs.declared.piece.Setting.TheVariants.{Off, On}
use Rattle.ngc_certificate_text.proofs.OrderOfEntries.{pushed_both, pushed_off, pushed_on, room_for}
use Rattle.ngc_certificate_text.proofs.found.Found.push_entry.Goals as goal

pub push-requires-clause-room : goal.push-requires-clause-room
push-requires-clause-room g c = room_for _ _ _ _ (of.Both c.in-Both.off c.in-Both.on) Off c.requires.kept c.in-Both.is refl c.requires.room

pub push-requires-in-Both-clause-room : goal.push-requires-in-Both-clause-room
push-requires-in-Both-clause-room g c = room_for _ _ _ _ (of.Both c.in-Both.off c.in-Both.on) On c.requires.kept c.in-Both.is refl c.requires.room

pub push-requires-in-Off-clause-room : goal.push-requires-in-Off-clause-room
push-requires-in-Off-clause-room g c = room_for _ _ _ _ (of.Off c.in-Off.index) Off c.requires.kept c.in-Off.is refl c.requires.room

pub push-requires-in-On-clause-room : goal.push-requires-in-On-clause-room
push-requires-in-On-clause-room g c = room_for _ _ _ _ (of.On c.in-On.index) On c.requires.kept c.in-On.is refl c.requires.room

pub returns-in_ok-push-in-Both-2-clause-pushed : goal.returns-in_ok-push-in-Both-2-clause-pushed
returns-in_ok-push-in-Both-2-clause-pushed g c =
    on_ok_weaker c.push_kind.result
    (λ e. (pushed_both _ _ _ _ _ _ _ _ _ _ _ c.requires.kept c.in-Both.is c.as_slice-pieces.ensures.value e c.in_ok-push-in-Both.ensures.ok
    c.in_ok-push-in-Both-2.ensures.ok).is) c.push_kind.ensures

pub returns-in_ok-push-in-Both-2-clause-kept : goal.returns-in_ok-push-in-Both-2-clause-kept
returns-in_ok-push-in-Both-2-clause-kept g c =
    on_ok_weaker c.push_kind.result
    (λ e. (pushed_both _ _ _ _ _ _ _ _ _ _ _ c.requires.kept c.in-Both.is c.as_slice-pieces.ensures.value e c.in_ok-push-in-Both.ensures.ok
    c.in_ok-push-in-Both-2.ensures.ok).whole) c.push_kind.ensures

pub returns-in_ok-push-in-Off-clause-pushed : goal.returns-in_ok-push-in-Off-clause-pushed
returns-in_ok-push-in-Off-clause-pushed g c =
    on_ok_weaker c.push_kind-in-Off.result
    (λ e. (pushed_off _ _ _ _ _ _ _ _ _ c.requires.kept c.in-Off.is c.as_slice-pieces.ensures.value e c.in_ok-push-in-Off.ensures.ok).is)
    c.push_kind-in-Off.ensures

pub returns-in_ok-push-in-Off-clause-kept : goal.returns-in_ok-push-in-Off-clause-kept
returns-in_ok-push-in-Off-clause-kept g c =
    on_ok_weaker c.push_kind-in-Off.result
    (λ e. (pushed_off _ _ _ _ _ _ _ _ _ c.requires.kept c.in-Off.is c.as_slice-pieces.ensures.value e c.in_ok-push-in-Off.ensures.ok).whole)
    c.push_kind-in-Off.ensures

pub returns-in_ok-push-in-On-clause-pushed : goal.returns-in_ok-push-in-On-clause-pushed
returns-in_ok-push-in-On-clause-pushed g c =
    on_ok_weaker c.push_kind-in-On.result
    (λ e. (pushed_on _ _ _ _ _ _ _ _ _ c.requires.kept c.in-On.is c.as_slice-pieces.ensures.value e c.in_ok-push-in-On.ensures.ok).is)
    c.push_kind-in-On.ensures

pub returns-in_ok-push-in-On-clause-kept : goal.returns-in_ok-push-in-On-clause-kept
returns-in_ok-push-in-On-clause-kept g c =
    on_ok_weaker c.push_kind-in-On.result
    (λ e. (pushed_on _ _ _ _ _ _ _ _ _ c.requires.kept c.in-On.is c.as_slice-pieces.ensures.value e c.in_ok-push-in-On.ensures.ok).whole)
    c.push_kind-in-On.ensures
