-- The last used slot ends with the image that is held.
use Rattle.std.proofs.Common.{sym, ap, ◌∙◌, arith}
use Rattle.std.specs.Option.{option_copied}
use Rattle.store.proofs.Last.{none_held, some_held}
use Rattle.store.proofs.slots.held_image.Goals as goal

pub returns-in_err-slot : goal.returns-in_err-slot
returns-in_err-slot c =
    let last = sym c.last.ensures.value ∙ ap option_copied c.in_err-slot.was in
    ap option_copied c.from_residual.ensures
    ∙ sym (none_held c.args.bytes.now c.slots_of.result.now _ c.slots_of.ensures.cut last (λ m. omega arith))

pub returns : goal.returns
returns c =
    let last = sym c.last.ensures.value ∙ ap option_copied c.in_ok-slot.was in
    some_held c.args.bytes.now c.slots_of.result.now _ (omega arith) c.slots_of.ensures.cut c.in_ok-slot.slot.now c.last_chunk.result last
    c.last_chunk.ensures.cases
