-- The entries so far are the identifiers so far, each at 100 Hz.
use Rattle.std.proofs.Common.{◌≡◌, map, take}
use Rattle.settings.specs.Values.{entry, listed}
use Rattle.settings.proofs.checked.making.at_100_hz.Given as goal

abbrev pub invariant-loop-identifier : goal.invariant-loop-identifier
invariant-loop-identifier l = listed l.entries ≡ map (λ i. entry i 100) (take l.identifier-index l.identifiers)
