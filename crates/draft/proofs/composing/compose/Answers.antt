-- Each packet is added behind those before it, and one that is refused has no room.
use Rattle.std.proofs.Common.{◌≡◌, length, Err, refl, ap, ◌∙◌, subst, rules}
use Rattle.mtdata2.specs.Packets.{item, handed_out}
use Rattle.draft.specs.Composed.{answered, judged}
use Rattle.draft.proofs.Recomposes.{Progress, progress_none, progress_added, handed_asked, refused_at}
use Rattle.draft.proofs.composing.compose.Goals as goal

pub loop-packet-init : goal.loop-packet-init
loop-packet-init c = (
  tt,
  tt,
  refl,
  progress_none _ _ c.args.tray.now c.begin-draft.result _ (c.begin-draft.ensures.holds c.args.tray.now) refl
      (ap (λ p. handed_out p.rest.now) c.into_iter-packet-iterator.ensures.into_iter_gives ∙ c.packets-packet-items.ensures),
)

pub loop-packet-preserved : goal.loop-packet-preserved
loop-packet-preserved c =
    let all = handed_out c.args.message.now.content.now in
    let m = c.begin-draft.result.extent.start in
    let t = c.args.tray.now in
    let d = c.loop-packet.draft in
    let i = item c.in-Some.packet in
    let left = handed_out c.next.new.self.rest.now in
    let content = c.content-content.result.now in
    let steps = c.in-Some.ensures.steps in
    let p = subst (Progress all m t c.loop-packet.tray d) steps c.loop-packet.invariant.3 in
    let is = handed_asked c.loop-packet.packet-iterator.rest.now i left content c.identifier.result steps c.identifier.ensures c.content-content.ensures in (
      tt,
      tt,
      c.add.ensures.lends ∙ c.loop-packet.invariant.2,
      progress_added all m t c.loop-packet.tray c.add.new.tray d c.add.new.self i left content c.identifier.result c.in_ok-add.field-0
          p is (rw c.whole.ensures at c.in_ok-add.ensures.does) c.add.ensures.old (rw c.whole.ensures at c.in_ok-add.ensures.says),
    )

pub returns-in_err-add : goal.returns-in_err-add
returns-in_err-add c input msg =
    let all = handed_out c.args.message.now.content.now in
    let m = c.begin-draft.result.extent.start in
    let t = c.args.tray.now in
    let d = c.loop-packet.draft in
    let i = item c.in-Some.packet in
    let left = handed_out c.next.new.self.rest.now in
    let content = c.content-content.result.now in
    let steps = c.in-Some.ensures.steps in
    let e = c.in_err-add.field-0.0 in
    let p = subst (Progress all m t c.loop-packet.tray d) steps c.loop-packet.invariant.3 in
    let says : Err e ≡ answered (judged (length content) i.identifier 0 (length content) d.extent.start d.extent.size.len (length c.loop-packet.tray)) =
    rw (c.whole.ensures, c.identifier.ensures) at c.in_err-add.ensures.says in
    refused_at input all m c.args.mark.now t c.loop-packet.tray d msg c.begin-draft.ensures.old
    c.add.new.tray i left content e c.from_residual.result _ p c.content-content.ensures says (search rules) (search rules)
