-- The bytes that wait to be read.
use Rattle.std.specs.Prelude.{ℕ, List, [], ◌∷◌, ◌++◌, take, drop, Ok, Err, Result}
use Rattle.xbus.specs.declared.front.Front.{Front}
use Rattle.xbus.specs.declared.front.Front.TheVariants.{Whole, Waits, Wrong}
use Rattle.stream.specs.declared.buffer.Waiting.{Waiting}
use Rattle.stream.specs.declared.waiting.FrameWaits.{FrameWaits}
use Rattle.xbus.specs.Front.{front_of}
use Rattle.stream.specs.Settling.{settled}

-- the bytes that wait
abbrev pub held : Waiting → List ℕ
held w = take w.len w.bytes

-- the first where the front is a whole frame, else the second
abbrev pub if_whole : {A : Type 0} → Front → (ℕ → A) → A → A
if_whole (Whole n) f y = f n
if_whole Waits f y = y
if_whole Wrong f y = y

-- a byte is taken unless a whole frame waits
abbrev pub taking : List ℕ → Result (Unit {0}) FrameWaits
taking xs = if_whole (front_of xs) (λ _. Err (record {})) (Ok tt)

-- what waits after a byte
abbrev pub took : List ℕ → ℕ → List ℕ
took xs b = if_whole (front_of xs) (λ _. xs) (settled (xs ++ (b ∷ [])))

-- what waits once the whole frame at the front is passed
abbrev pub passed : List ℕ → List ℕ
passed xs = if_whole (front_of xs) (λ n. settled (drop n xs)) xs
