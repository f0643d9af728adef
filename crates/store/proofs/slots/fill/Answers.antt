-- The slot as the code writes it is the slot filled.
use Rattle.std.proofs.Common.{arith}
use Rattle.store.proofs.Writes.{filled_by_copy}
use Rattle.store.proofs.slots.fill.Goals as goal

pub returns : goal.returns
returns c =
    filled_by_copy c.args.bytes.now c.args.k c.args.image.now (omega arith) c.told-image c.copy_from_slice.new.self
    c.copy_from_slice.ensures.after
