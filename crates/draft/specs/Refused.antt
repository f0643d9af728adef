-- By which number a composer refuses: the conditions in their order, the first that holds.
use Rattle.std.specs.Prelude.{◌≡◌, ℕ, ◌+◌, cond, not, ◌&&◌, Some, None, Option, Result, ◌==◌, nat_le, nat_lt}
use Rattle.std.specs.Option.{option_map}
use Rattle.std.specs.Result.{result_err}
use Rattle.xbus.specs.Writing.{frame_size}
use Rattle.mtdata2.specs.Packets.{size_fits}
use Rattle.draft.specs.declared.refusal.Refusal.{Refusal}
use Rattle.draft.specs.Refusals.{number_of}
use Rattle.draft.specs.Composed.{grown, judged, answered, closing}

-- the number of the refusal, if the answer is one
abbrev pub refused_by : {A : Type 0} → Result A Refusal → Option ℕ
refused_by a = option_map number_of (result_err a)

-- 10 the record reaches past its n bytes, 11 its size is over 255 or wrong, 12 the data would be too long, 13 the frame
-- so far would not fit; 9 closing without a packet
pub record RefusedSaid : Type 0 where
  pub add : (n identifier place size start have room : ℕ)
      → refused_by (answered (judged n identifier place size start have room))
      ≡ cond (nat_lt n (place + size)) (Some 10)
      (cond (not (nat_le size 255 && size_fits identifier size)) (Some 11)
      (cond (nat_lt 2048 (grown have size)) (Some 12)
      (cond (nat_lt room (start + frame_size (grown have size))) (Some 13) None)))
  pub close : (n : ℕ) → refused_by (closing n) ≡ cond (n == 0) (Some 9) None
