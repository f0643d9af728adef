-- The sum so far is that of the bytes gone through, and each of these is below 256.
use Rattle.std.proofs.Common.{◌≡◌, ℕ, ◌%◌, ◌<◌, get_or, take}
use Rattle.xbus.specs.Front.{total}
use Rattle.xbus.proofs.front.sum.Given as goal

abbrev pub invariant-loop-byte : goal.invariant-loop-byte
invariant-loop-byte l =
    (l.sum ≡ total (take l.byte-index l.part) % 256) × ((k : ℕ) → k < l.byte-index → get_or l.part k 0 < 256)
