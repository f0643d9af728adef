-- What a message asks for, without references.
use Rattle.std.specs.Prelude.{ℕ, List, Ok, Err, Result}
use Rattle.decision.specs.declared.actions.Question.{Question}
use Rattle.decision.specs.declared.actions.Change.{Change}
use Rattle.decision.specs.declared.actions.Change.TheVariants as code
use Rattle.decision.specs.declared.actions.Action.{Action}
use Rattle.decision.specs.declared.actions.Action.TheVariants as act
use Rattle.decision.specs.declared.deciding.MessageError.{MessageError}

-- a change of the settings, with its value
pub data Changing : Type 0 where
  Baud : ℕ → Changing
  ErrorMode : ℕ → Changing
  Location : ℕ → Changing
  Profile : ℕ → Changing
  -- Set, and then Clear, as they stand in the message
  Flags : ℕ → ℕ → Changing
  -- the bytes of the entries
  Outputs : List ℕ → Changing
  Factory : Changing

pub data Asked : Type 0 where
  Wake : Asked
  Configure : Asked
  Measure : Asked
  Reset : Asked
  Ask : Question → Asked
  Set : Changing → Asked

-- what the code hands out

abbrev pub changing : Change → Changing
changing (code.Baud v) = Baud v
changing (code.ErrorMode v) = ErrorMode v
changing (code.Location v) = Location v
changing (code.Profile v) = Profile v
changing (code.Flags s c) = Flags s c
changing (code.Outputs xs) = Outputs xs.now
changing code.Factory = Factory

abbrev pub asking : Action → Asked
asking act.Wake = Wake
asking act.Configure = Configure
asking act.Measure = Measure
asking act.Reset = Reset
asking (act.Ask q) = Ask q
asking (act.Set c) = Set (changing c)

abbrev pub seen : Result Action MessageError → Result Asked MessageError
seen (Ok a) = Ok (asking a)
seen (Err e) = Err e
