-- The entries so far are those of as many places of the image.
use Rattle.std.proofs.Common.{◌≡◌, length}
use Rattle.settings.specs.Values.{listed}
use Rattle.settings.specs.Image.{entries_at}
use Rattle.settings.proofs.checked.loading.read_entries.Given as goal

abbrev pub invariant-loop-identifier : goal.invariant-loop-identifier
invariant-loop-identifier l = listed l.entries ≡ entries_at l.image (length l.yielded)
