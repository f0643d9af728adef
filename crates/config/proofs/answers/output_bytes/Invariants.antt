-- What is written so far.
use Rattle.std.proofs.Common.{◌≡◌, length, take}
use Rattle.std.specs.List.{flat_map}
use Rattle.config.specs.Answered.{output_bytes}
use Rattle.config.proofs.answers.output_bytes.Given as goal

-- the entries so far, in the 32 places
abbrev pub invariant-loop-i : goal.invariant-loop-i
invariant-loop-i l = record {
  places : length l.out ≡ 32;
  written : flat_map (λ bytes. bytes) (take l.i l.out) ≡ output_bytes (take l.i l.entries);
}
