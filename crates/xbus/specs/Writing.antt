-- A frame written at a place of a tray.
use Rattle.std.specs.Prelude.{◌≡◌, ℕ, ◌+◌, ◌-◌, ◌≤◌, cond, ◌&&◌, List, ◌++◌, length, take, drop, Some, None, Ok, Err, Option, Result, nat_le, nat_lt}
use Rattle.std.proofs.Math.Seq.{paste}
use Rattle.xbus.specs.declared.data_len.DataLen.{DataLen}
use Rattle.xbus.specs.declared.writing.WriteError.{WriteError}
use Rattle.xbus.specs.declared.writing.WriteError.TheVariants.{TooLong, NoRoom}
use Rattle.xbus.specs.Frames.{encoded}
use Rattle.xbus.specs.Parts.{Parts, frame_of, first_parts}

-- a number of data bytes, as a number
abbrev pub count : DataLen → ℕ
count n = n.len

-- n, if a frame may have so many data bytes
abbrev pub allowed : ℕ → Option ℕ
allowed n = cond (nat_le n 2048) (Some n) None

-- the bytes of a frame with n data bytes
abbrev pub frame_size : ℕ → ℕ
frame_size n = cond (nat_lt n 255) (n + 5) (n + 7)

-- where the data of a frame with n data bytes start
abbrev pub content_start : ℕ → ℕ
content_start n = cond (nat_lt n 255) 4 6

-- how many data bytes a frame of so many bytes has; none if no frame has so many
abbrev pub content_size : ℕ → Option ℕ
content_size n = cond (nat_le 5 n && nat_le n 259) (Some (n - 5)) (cond (nat_le 262 n && nat_le n 2055) (Some (n - 7)) None)

-- xs with its header and checksum written around the data that stand in their place
abbrev pub sealed_by : Option ℕ → ℕ → ℕ → List ℕ → List ℕ
sealed_by None address identifier xs = xs
sealed_by (Some n) address identifier xs = encoded address identifier (take n (drop (content_start n) xs))

-- the answer for n data bytes at a place of a tray of so many bytes: too long comes before no room
abbrev pub writing : ℕ → ℕ → ℕ → Result ℕ WriteError
writing room at n =
    cond (nat_lt 2048 n) (Err TooLong) (cond (nat_lt room (at + frame_size n)) (Err NoRoom) (Ok (frame_size n)))

-- the tray after that answer: the frame stands at the place, and every other byte is as it was
abbrev pub written : Result ℕ WriteError → List ℕ → ℕ → Parts → List ℕ
written (Ok n) tray at p = paste tray at (frame_of p) n
written (Err e) tray at p = tray

-- a frame that is written is read back, whatever stands behind it
abbrev pub ReadsBack : Type 0
ReadsBack = (p : Parts) → length p.content ≤ 2048 → (behind : List ℕ) → first_parts (frame_of p ++ behind) ≡ Some p
