-- The places of the entries so far.
use Rattle.std.proofs.Common.{◌≡◌, ℕ, map, take}
use Rattle.std.specs.Fn.{FnReturnsAt}
use Rattle.settings.specs.declared.record.Entry.{Entry}
use Rattle.settings.specs.Image.{places}
use Rattle.settings.proofs.checked.image.column.Given as goal

-- the numbers of the entries so far
abbrev pub invariant-loop-i : goal.invariant-loop-i
invariant-loop-i g l =
    (f : Entry → ℕ) → ((e : Entry) (n : ℕ) → FnReturnsAt g.F.Fn l.number e n → n ≡ f e)
    → l.out ≡ places 32 (map f (take l.i l.entry-items))
