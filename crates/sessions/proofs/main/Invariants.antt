-- The lines that are left grow fewer.
use Rattle.commands.specs.Scripts.{unread}
use Rattle.sessions.proofs.main.Given as goal

abbrev pub decreases-loop-line : goal.decreases-loop-line
decreases-loop-line l = unread l.script
