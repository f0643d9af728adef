-- The numbers of the refusals.
use Rattle.std.specs.Prelude.{ℕ}
use Rattle.session.specs.declared.answers.Refusal.{Refusal}
use Rattle.session.specs.declared.answers.Refusal.TheVariants.{Dark, AlreadyPowered, ShortTray, FrameWaits, TooLong}

abbrev pub number_of : Refusal → ℕ
number_of Dark = 1
number_of AlreadyPowered = 2
number_of ShortTray = 3
number_of FrameWaits = 4
number_of TooLong = 5
