-- What is done to a unit in the worked cases, and what comes of it.
use Rattle.std.specs.Prelude.{ℕ, List, [], ◌∷◌, Ok, Err, Result, None}
use Rattle.mti.specs.declared.product.Product.{Product}
use Rattle.session.specs.declared.answers.Fed.{Fed}
use Rattle.session.specs.declared.answers.Refusal.{Refusal}
use Rattle.session.specs.Model.{Model, making}
use Rattle.session.specs.Calls.{Called, power_call, feed_call, tick_call}

-- power, one feed, one tick
pub data Deed : Type 0 where
  on : Deed
  fed : List ℕ → Deed
  tick : Deed

-- the number of bytes written

abbrev pub written_by : Result Fed Refusal → Result ℕ Refusal
written_by (Ok f) = Ok f.written
written_by (Err e) = Err e

abbrev pub written_of : Called Fed → Called ℕ
written_of c = (c.0, c.1, written_by c.2)

-- a unit after a deed with a tray of n bytes, the bytes written, and their number or the refusal
unfoldable pub done : ℕ → Deed → Model → Called ℕ
done n on m = power_call m n
done n (fed bs) m = written_of (feed_call m bs n)
done n tick m = tick_call m n

-- a unit after deeds, each with a tray of 2,055 bytes
unfoldable pub behind : List Deed → Model → Model
behind [] m = m
behind (d ∷ ds) m = behind ds (done 2055 d m).0

-- a new unit with the device ID 01020304, over a store with no image and so many writes left, and a sensor without readings
abbrev pub unit : Product → ℕ → Model
unit p n =
    making (record { product = p; device_id = 0x0102_0304; store = record { held = None; left = n }; meaning = λ i k t. None })
