-- The digits that are left give the number of all, and are digits if all are; the number so far fits.
use Rattle.std.proofs.Common.{◌≡◌, ◌^◌, ◌<◌, drop}
use Rattle.std.specs.Str.{all_ascii_digits}
use Rattle.lines.specs.Decimals.{value_after}
use Rattle.lines.proofs.decimal.decimal_of.Given as goal

abbrev pub invariant-loop-c : goal.invariant-loop-c
invariant-loop-c l =
    (value_after l.n (drop l.c-index l.word) ≡ value_after 0 l.word) ×
    (all_ascii_digits (drop l.c-index l.word) ≡ all_ascii_digits l.word) × (l.n < 2 ^ 64)
