-- The calls of a script of bytes.
use Rattle.std.specs.Prelude.{ℕ, zero, suc, ◌+◌, ◌*◌, cond, List, [], ◌∷◌, length, take, drop, Some, None, Option, ◌==◌, nat_le}
use Rattle.std.specs.Borrow.{Bor}
use Rattle.embed.specs.declared.script.Step.{Step}
use Rattle.embed.specs.declared.script.Step.TheVariants as step

-- a call of a script
pub data Call : Type 0 where
  power : Call
  feed : List ℕ → Call
  tick : Call

abbrev pub call_of : Step → Call
call_of step.Power = power
call_of (step.Feed bs) = feed bs.now
call_of step.Tick = tick

-- a feed of the first n bytes, if there are so many, and the bytes behind them
abbrev pub feed_first : ℕ → List ℕ → Option (Call × List ℕ)
feed_first n xs = cond (nat_le n (length xs)) (Some (feed (take n xs), drop n xs)) None

-- two bytes with a number, highest byte first, and a feed of so many bytes
abbrev pub feed_at : List ℕ → Option (Call × List ℕ)
feed_at [] = None
feed_at (h ∷ []) = None
feed_at (h ∷ l ∷ xs) = feed_first (h * 256 + l) xs

-- the first call of a script, and the bytes behind it: 1 powers, 2 feeds, 3 ticks, and anything else is none
abbrev pub first_call : List ℕ → Option (Call × List ℕ)
first_call [] = None
first_call (x ∷ xs) = cond (x == 1) (Some (power, xs)) (cond (x == 2) (feed_at xs) (cond (x == 3) (Some (tick, xs)) None))

abbrev pub calls_by : Option (Call × List ℕ) → (List ℕ → List Call) → List Call
calls_by None f = []
calls_by (Some q) f = q.0 ∷ f q.1

-- the first n calls of a script
unfoldable pub first_calls : ℕ → List ℕ → List Call
first_calls zero xs = []
first_calls (suc n) xs = calls_by (first_call xs) (first_calls n)

-- all its calls: each has a byte at least
unfoldable pub calls_of : List ℕ → List Call
calls_of xs = first_calls (length xs) xs

-- as the code hands them out
abbrev pub seen : Step × Bor (List ℕ) → Call × List ℕ
seen q = (call_of q.0, q.1.now)
