-- The numbers of a composer's refusals.
use Rattle.std.specs.Prelude.{ℕ}
use Rattle.draft.specs.declared.refusal.Refusal.{Refusal}
use Rattle.draft.specs.declared.refusal.Refusal.TheVariants.{NoPacket, PastBytes, WrongSize, TooLong, NoRoom}

abbrev pub number_of : Refusal → ℕ
number_of NoPacket = 9
number_of PastBytes = 10
number_of WrongSize = 11
number_of TooLong = 12
number_of NoRoom = 13
