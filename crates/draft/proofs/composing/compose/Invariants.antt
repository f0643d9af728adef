-- The packets so far stand in the tray as one frame.
use Rattle.std.proofs.Common.{◌≡◌}
use Rattle.mtdata2.specs.Packets.{handed_out}
use Rattle.draft.proofs.Recomposes.{Progress}
use Rattle.draft.proofs.composing.compose.Given as goal

abbrev pub invariant-loop-packet : goal.invariant-loop-packet
invariant-loop-packet l =
    (goal.iterator-loop-packet).can_next l.packet-iterator ×
    (goal.iterator-loop-packet).is_finite l.packet-iterator ×
    (l.draft.mark.ghost_name ≡ l.initial.draft.mark.ghost_name) ×
    Progress (handed_out l.message.content.now) l.initial.draft.extent.start l.initial.tray l.tray l.draft (handed_out l.packet-iterator.rest.now)
