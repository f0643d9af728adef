-- What a message asks for, as it is decided. `Table` says the same as a table of the messages.
use Rattle.std.specs.Prelude.{ℕ, ◌%◌, Bool, true, false, cond, ◌&&◌, List, length, take, drop, Ok, Err, Result, ◌==◌, nat_le}
use Rattle.mti.specs.declared.product.Product.{Product}
use Rattle.mti.specs.declared.product.Product.TheVariants.{Mti3, Mti30, Mti300, MtiG710}
use Rattle.xbus.specs.Numbers.{number_of}
use Rattle.decision.specs.declared.states.State.{State}
use Rattle.decision.specs.declared.states.State.TheVariants as state
use Rattle.decision.specs.declared.actions.Question.{Question}
use Rattle.decision.specs.declared.actions.Question.TheVariants as question
use Rattle.decision.specs.declared.deciding.MessageError.{MessageError}
use Rattle.decision.specs.declared.deciding.MessageError.TheVariants.{NotAllowed, WrongLength}
use Rattle.decision.specs.Asked.{Asked, Changing, Baud, ErrorMode, Location, Profile, Flags, Outputs, Factory, Wake, Configure, Measure, Reset, Ask, Set}

-- the data byte of an Error message
abbrev pub error_number : MessageError → ℕ
error_number NotAllowed = 4
error_number WrongLength = 33

abbrev pub Decision : Type 0
Decision = Result Asked MessageError

-- a message without data
abbrev pub bare : Asked → List ℕ → Decision
bare a content = cond (length content == 0) (Ok a) (Err WrongLength)

-- without data a question, with so many bytes a change
abbrev pub ask_or_set : Question → Bool → Changing → List ℕ → Decision
ask_or_set q fits c content = cond (length content == 0) (Ok (Ask q)) (cond fits (Ok (Set c)) (Err WrongLength))

abbrev pub sized : Question → ℕ → Changing → List ℕ → Decision
sized q n c content = ask_or_set q (length content == n) c content

-- 1 to 32 entries of four bytes
abbrev pub fits_entries : ℕ → Bool
fits_entries n = nat_le 4 n && (nat_le n 128 && n % 4 == 0)

abbrev pub has_error_mode : Product → Bool
has_error_mode Mti3 = false
has_error_mode Mti30 = true
has_error_mode Mti300 = true
has_error_mode MtiG710 = true

abbrev pub error_mode : Product → List ℕ → Decision
error_mode p content = cond (has_error_mode p) (sized question.ErrorMode 2 (ErrorMode (number_of content)) content) (Err NotAllowed)

abbrev pub flags : List ℕ → Decision
flags content = sized question.Flags 8 (Flags (number_of (take 4 content)) (number_of (drop 4 content))) content

abbrev pub outputs : List ℕ → Decision
outputs content = ask_or_set question.Outputs (fits_entries (length content)) (Outputs content) content

abbrev pub in_config : Product → ℕ → List ℕ → Decision
in_config p i content =
    cond (i == 0x30) (bare Configure content)
    (cond (i == 0x10) (bare Measure content)
    (cond (i == 0x40) (bare Reset content)
    (cond (i == 0x0E) (bare (Set Factory) content)
    (cond (i == 0x00) (bare (Ask question.DeviceId) content)
    (cond (i == 0x1C) (bare (Ask question.Name) content)
    (cond (i == 0x12) (bare (Ask question.Firmware) content)
    (cond (i == 0x0C) (bare (Ask question.Configuration) content)
    (cond (i == 0x18) (sized question.Baud 1 (Baud (number_of content)) content)
    (cond (i == 0xDA) (error_mode p content)
    (cond (i == 0x84) (sized question.Location 2 (Location (number_of content)) content)
    (cond (i == 0x64) (sized question.Profile 2 (Profile (number_of content)) content)
    (cond (i == 0x48) (flags content)
    (cond (i == 0xC0) (outputs content) (Err NotAllowed))))))))))))))

abbrev pub in_measurement : ℕ → List ℕ → Decision
in_measurement i content =
    cond (i == 0x30) (bare Configure content) (cond (i == 0x40) (bare Reset content) (Err NotAllowed))

abbrev pub in_wake_up : ℕ → List ℕ → Decision
in_wake_up i content = cond (i == 0x3F) (bare Wake content) (Err NotAllowed)

unfoldable pub decided : State → Product → ℕ → List ℕ → Decision
decided state.WakeUp p i content = in_wake_up i content
decided state.Config p i content = in_config p i content
decided state.Measurement p i content = in_measurement i content
