-- What calls ask, and what their answers say.
use Rattle.std.specs.Prelude.{ℕ, List}
use Rattle.session.specs.Sessions.{Entry, Power, Feed, Tick}
use Rattle.unit.specs.Units.{wrote, fed_wrote}
use Rattle.replay.specs.declared.calls.Call.{Call}
use Rattle.replay.specs.declared.calls.Call.TheVariants as call
use Rattle.replay.specs.declared.calls.Answer.{Answer}
use Rattle.replay.specs.declared.calls.Answer.TheVariants as answer

-- a call by its bytes and the length of its tray
pub data Asked : Type 0 where
  power : ℕ → Asked
  feed : List ℕ → ℕ → Asked
  tick : ℕ → Asked

abbrev pub tray_of : Call → ℕ
tray_of (call.Power n) = n
tray_of (call.Feed bs n) = n
tray_of (call.Tick n) = n

-- a call with a tray of n bytes
abbrev pub asked_with : Call → ℕ → Asked
asked_with (call.Power t) n = power n
asked_with (call.Feed bs t) n = feed bs.now n
asked_with (call.Tick t) n = tick n

abbrev pub asked : Call → Asked
asked c = asked_with c (tray_of c)

-- what an entry of a session asked and answered

abbrev pub asked_in : Entry → Asked
asked_in (Power n o a) = power n
asked_in (Feed bs n o a) = feed bs n
asked_in (Tick n o a) = tick n

abbrev pub answer_in : Entry → Answer
answer_in (Power n o a) = answer.Power a
answer_in (Feed bs n o a) = answer.Feed a
answer_in (Tick n o a) = answer.Tick a

-- how many bytes were written
abbrev pub written_by : Answer → ℕ
written_by (answer.Power a) = wrote a
written_by (answer.Feed a) = fed_wrote a
written_by (answer.Tick a) = wrote a
