-- Identifier, size and data are the packet's bytes.
use Rattle.std.proofs.Common.{◌∙◌}
use Rattle.draft.proofs.Extends.{packet_laid}
use Rattle.draft.proofs.draft.put_packet.Goals as goal

pub returns : goal.returns
returns c =
    packet_laid c.args.out.now c.copy_from_slice.new.self c.copy_from_slice-2.new.self c.args.content.now c.args.identifier
    c.requires.1 (c.copy_from_slice.ensures.after ∙ c.to_be_bytes.ensures) c.copy_from_slice-2.ensures.after
