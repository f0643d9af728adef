-- The parts of a frame: address, identifier and data.
use Rattle.std.specs.Prelude.{◌≡◌, ℕ, ◌-◌, ◌≤◌, cond, List, length, take, drop, Some, None, Option, nat_le, slice_index}
use Rattle.xbus.specs.declared.front.Front.{Front}
use Rattle.xbus.specs.declared.front.Front.TheVariants.{Whole, Waits, Wrong}
use Rattle.xbus.specs.declared.parts.Frame.{Frame}
use Rattle.xbus.specs.Numbers.{Bytes}
use Rattle.xbus.specs.Front.{front_of}
use Rattle.xbus.specs.Frames.{encoded}

pub record Parts : Type 0 where
  pub address : ℕ
  pub identifier : ℕ
  pub content : List ℕ

-- the bytes of the frame with these parts
abbrev pub frame_of : Parts → List ℕ
frame_of p = encoded p.address p.identifier p.content

-- how many bytes of a frame stand around its data
abbrev pub around : List ℕ → ℕ
around xs = cond (nat_le 255 (slice_index xs 3)) 7 5

-- the parts of a frame
abbrev pub parts_of : List ℕ → Parts
parts_of xs = record {
  address = slice_index xs 1;
  identifier = slice_index xs 2;
  content = take (length xs - around xs) (drop (around xs - 1) xs);
}

-- the parts of a frame; none where the bytes are too few to hold them
abbrev pub split_of : List ℕ → Option Parts
split_of xs = cond (nat_le (around xs) (length xs)) (Some (parts_of xs)) None

-- the parts of the whole frame at a front
abbrev pub whole_parts : Front → List ℕ → Option Parts
whole_parts (Whole n) xs = Some (parts_of (take n xs))
whole_parts Waits xs = None
whole_parts Wrong xs = None

-- the parts of the whole frame at the front of xs
abbrev pub first_parts : List ℕ → Option Parts
first_parts xs = whole_parts (front_of xs) xs

-- what the code hands out, without references
abbrev pub seen : Frame → Parts
seen f = record { address = f.header.address; identifier = f.header.identifier; content = f.content.now }

-- parts and frames are each other's inverse
pub record PartsInverse : Type 0 where
  pub parts_back : (p : Parts) → length p.content ≤ 2048 → parts_of (frame_of p) ≡ p
  pub frame_back : (xs : List ℕ) → Bytes xs → (n : ℕ) → front_of xs ≡ Whole n → frame_of (parts_of (take n xs)) ≡ take n xs
