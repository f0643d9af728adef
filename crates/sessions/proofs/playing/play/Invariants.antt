-- The lines that are left grow fewer.
use Rattle.std.proofs.Common.{◌≤◌}
use Rattle.commands.specs.Scripts.{unread}
use Rattle.sessions.proofs.playing.play.Given as goal

abbrev pub invariant-loop-line : goal.invariant-loop-line
invariant-loop-line g l = unread l.script ≤ unread l.fn.script

abbrev pub decreases-loop-line : goal.decreases-loop-line
decreases-loop-line g l = unread l.script
