-- The lines that are left grow fewer.
use Rattle.commands.specs.Scripts.{unread}
use Rattle.commands.proofs.script.answer_all.Given as goal

abbrev pub decreases-loop-line : goal.decreases-loop-line
decreases-loop-line g l = unread l.script
