-- The frame of the packets that a closed draft holds reads back as them.
use Rattle.std.proofs.Common.{rules}
use Rattle.draft.proofs.Holds.{closed_full}
use Rattle.draft.proofs.draft.Draft.close.Goals as goal

pub returns-clause-reads : goal.returns-clause-reads
returns-clause-reads c items tray h = closed_full items tray c.args.self h (search rules)
