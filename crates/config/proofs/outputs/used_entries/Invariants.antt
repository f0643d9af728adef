-- What is read so far.
use Rattle.std.proofs.Common.{◌≡◌, map, take}
use Rattle.settings.specs.Values.{listed}
use Rattle.config.proofs.Entered.{used_first}
use Rattle.config.proofs.outputs.used_entries.Given as goal

-- the entries so far
abbrev pub invariant-loop-four : goal.invariant-loop-four
invariant-loop-four l = listed l.entries ≡ map used_first (take l.four-index l.four-items)
