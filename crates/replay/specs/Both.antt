-- Calls played on two units.
use Rattle.std.specs.Prelude.{◌≡◌, false, List, [], ◌∷◌, ◌++◌, map}
use Rattle.session.specs.Model.{World, end_of}
use Rattle.session.specs.Filling.{is_whole}
use Rattle.session.specs.Sessions.{Event, Powered, Byte, Ticked, if_accepted, taken_by}
use Rattle.session.specs.Laws.{Alike}
use Rattle.replay.specs.declared.calls.Call.{Call}
use Rattle.replay.specs.declared.calls.Answer.{Answer}
use Rattle.replay.specs.declared.calls.Answer.TheVariants as answer
use Rattle.replay.specs.Calls.{Asked, power, feed, tick, asked}
use Rattle.replay.specs.Replayed.{Outcome, Replayed}

-- what a call with this answer lets reach the unit
abbrev pub reached : Asked → Answer → List Event
reached (power n) (answer.Power a) = if_accepted Powered a
reached (power n) (answer.Feed a) = []
reached (power n) (answer.Tick a) = []
reached (feed bs n) (answer.Power a) = []
reached (feed bs n) (answer.Feed a) = map Byte (taken_by bs a)
reached (feed bs n) (answer.Tick a) = []
reached (tick n) (answer.Power a) = []
reached (tick n) (answer.Feed a) = []
reached (tick n) (answer.Tick a) = if_accepted Ticked a

-- the tape of calls with these answers

abbrev pub tape_by : List Asked → List Answer → List Event
tape_by [] rs = []
tape_by (q ∷ qs) [] = []
tape_by (q ∷ qs) (a ∷ rs) = reached q a ++ tape_by qs rs

abbrev pub tape_of : List Call → List Answer → List Event
tape_of calls rs = tape_by (map asked calls) rs

-- units made from v and w played exactly these calls each, and r and s are left of them
pub record ReplayedBoth (v w : World) (calls others : List Call) (r s : Outcome) : Type 0 where
  pub first : Replayed v calls r
  pub second : Replayed w others s
  -- alike sessions agree
  pub agree : Alike v w → tape_of calls r.answers ≡ tape_of others s.answers
      → is_whole first.after.waiting ≡ false → is_whole second.after.waiting ≡ false
      → (r.output ≡ s.output) × (end_of first.after ≡ end_of second.after)
