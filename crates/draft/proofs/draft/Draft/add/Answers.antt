-- A packet that is accepted is well-formed and has room, and the frame with it stands in its place of the tray.
use Rattle.std.proofs.Common.{◌≡◌, ◌+◌, ◌≤◌, length, sym, refl, ap, ◌∙◌, subst, rules}
use Rattle.xbus.specs.Writing.{frame_size}
use Rattle.xbus.proofs.Bytes.{bytes_typed}
use Rattle.draft.specs.Composed.{asked, grown}
use Rattle.draft.proofs.Holds.{added}
use Rattle.draft.proofs.Judges.{accepted, part_length, asked_well_formed, laid_is}
use Rattle.draft.proofs.draft.Draft.add.Goals as goal

pub returns-clause-does : goal.returns-clause-does
returns-clause-does c =
    let s = c.args.source.now in
    let t = c.args.tray.now in
    let d = c.args.self.now in
    let start = d.extent.start in
    let have = d.extent.size.len in
    let p = c.args.packet in
    let g = c.in_ok-grown.grown.len in
    let f = c.frame_size-size.result in
    let size : f ≡ frame_size g = c.frame_size-size.ensures in
    let inside : p.place + p.size ≤ length s = search rules in
    let fits : start + f ≤ length t = search rules in
    let a = accepted (length s) p.identifier p.place p.size start have (length t) g inside c.in_ok-grown.ensures (subst (λ n. start + n ≤ length t) size fits) in
    let l = part_length s p.identifier p.place p.size start have (length t) g a in
    let i = asked s p.identifier p.place p.size in
    let gi : g ≡ grown have (length i.bytes) = a.is ∙ ap (grown have) (sym l) in
    let tray_is = laid_is s p.identifier p.place p.size start have (length t) g a
    t c.in_ok-tray.field-0-0.now c.in_ok-tray.behind.now c.in_ok-behind.frame.now c.in_ok-behind.field-0-1.now c.extend_frame.new.frame c.in_ok-content.content.now f
    size refl (search rules) (search rules) (search rules) (search rules) (search rules) c.extend_frame.ensures in
    let well = asked_well_formed s p.identifier p.place p.size start have (length t) g a (search rules) (bytes_typed s c.type_inv.source) in
    added t _ d _ i well refl gi (ap (λ k. start + k) (size ∙ ap frame_size gi))
    (subst (λ k. start + frame_size k ≤ length t) gi a.fits) (subst (λ k. k ≤ 2048) gi a.short) tray_is
