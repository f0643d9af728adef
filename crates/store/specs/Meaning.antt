-- What a store answers and means after each call, over the image that it holds, if any, and the writes left.
use Rattle.std.specs.Prelude.{◌≡◌, ℕ, ◌-◌, Bool, cond, ◌&&◌, List, length, Some, None, Ok, Err, Option, Result, ◌==◌, nat_lt}
use Rattle.std.specs.Option.{unwrap_or, ForSome}
use Rattle.store.specs.declared.port.StoreError.{StoreError}
use Rattle.store.specs.declared.port.StoreError.TheVariants.{WrongLength, NoWritesLeft}
use Rattle.store.specs.declared.port.Loaded.{Loaded}
use Rattle.store.specs.declared.port.Loaded.TheVariants.{Held, None as NoneHeld}

-- the bytes of an image
abbrev pub image_size : ℕ
image_size = 140

-- the number of each refusal
abbrev pub error_number : StoreError → ℕ
error_number WrongLength = 6
error_number NoWritesLeft = 7

-- what a store can hold: no image, or one of the image size
abbrev pub ImageOrNone : Option (List ℕ) → Type 0
ImageOrNone h = ForSome h (λ xs. length xs ≡ image_size)

-- what a load finds
abbrev pub found : Option (List ℕ) → Loaded
found None = NoneHeld
found (Some xs) = Held

-- load into a buffer of n bytes
abbrev pub load_answer : ℕ → Option (List ℕ) → Result Loaded StoreError
load_answer n h = cond (n == image_size) (Ok (found h)) (Err WrongLength)

-- the buffer after load
abbrev pub buffer_after : List ℕ → Option (List ℕ) → List ℕ
buffer_after b h = cond (length b == image_size) (unwrap_or h b) b

-- save of an image of n bytes with w writes left
abbrev pub save_answer : ℕ → ℕ → Result Unit StoreError
save_answer n w = cond (n == image_size) (cond (w == 0) (Err NoWritesLeft) (Ok tt)) (Err WrongLength)

-- that save is not refused
abbrev pub saves : ℕ → ℕ → Bool
saves n w = n == image_size && nat_lt 0 w

-- the image held after save, and the writes left
abbrev pub held_after : List ℕ → ℕ → Option (List ℕ) → Option (List ℕ)
held_after xs w h = cond (saves (length xs) w) (Some xs) h

abbrev pub left_after : List ℕ → ℕ → ℕ
left_after xs w = cond (saves (length xs) w) (w - 1) w

-- the lent memory after save, where f is what a save that is not refused makes of it
abbrev pub memory_after : (List ℕ → List ℕ → List ℕ) → List ℕ → ℕ → List ℕ → List ℕ
memory_after f xs w bs = cond (saves (length xs) w) (f xs bs) bs
