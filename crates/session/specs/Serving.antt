-- A frame that is served.
use Rattle.std.specs.Prelude.{ℕ, ◌-◌, Bool, cond, ◌||◌, List, [], ◌∷◌, ◌++◌, Some, None, Ok, Err, Option, ◌==◌, bit_and}
use Rattle.xbus.specs.Parts.{Parts}
use Rattle.decision.specs.declared.states.State.{State}
use Rattle.decision.specs.declared.states.State.TheVariants.{Config, Measurement}
use Rattle.decision.specs.Asked.{Asked, Changing, Baud, ErrorMode, Location, Profile, Flags, Outputs, Factory, Wake, Configure, Measure, Reset, Ask, Set}
use Rattle.decision.specs.Decided.{Decision, decided, error_number}
use Rattle.settings.specs.Values.{Values}
use Rattle.settings.specs.Image.{image_of}
use Rattle.config.specs.Changed.{changed_of}
use Rattle.config.specs.Answered.{answer_of, output_bytes}
use Rattle.session.specs.declared.counts.Counts.{Counts}
use Rattle.session.specs.Model.{Core, Kept}
use Rattle.session.specs.Sending.{reply, error, save_error, wake_up, configuration}
use Rattle.session.specs.Waking.{woken}

-- a core, and the bytes written
abbrev pub Step : Type 0
Step = Core × List ℕ

-- a new part in a core
abbrev pub with_state : Core → State → Core
with_state c s = record { state = Some s; settings = c.settings; counts = c.counts; store = c.store }

abbrev pub with_settings : Core → Values → Kept → Core
with_settings c s k = record { state = c.state; settings = s; counts = c.counts; store = k }

abbrev pub with_counts : Core → Counts → Core
with_counts c n = record { state = c.state; settings = c.settings; counts = n; store = c.store }

-- storing is on while flag 01 is clear
abbrev pub storing : Values → Bool
storing s = bit_and s.flags 0x01 == 0

-- the list that is used is shown; other changes are acknowledged without data
abbrev pub shown : Changing → Values → List ℕ
shown (Outputs xs) s = output_bytes s.entries
shown (Baud v) s = []
shown (ErrorMode v) s = []
shown (Location v) s = []
shown (Profile v) s = []
shown (Flags v w) s = []
shown Factory s = []

-- the Error for a wrong value
abbrev pub wrong_value : Changing → ℕ
wrong_value (Baud v) = 32
wrong_value (ErrorMode v) = 33
wrong_value (Location v) = 33
wrong_value (Profile v) = 33
wrong_value (Flags v w) = 33
wrong_value (Outputs xs) = 33
wrong_value Factory = 33

-- a new record is saved before it takes force, if storing is on after it; the acknowledgement has these data
unfoldable pub adopted : Parts → List ℕ → Values → Core → Step
adopted p xs s c =
    cond (storing s)
    (cond (c.store.left == 0) (c, save_error p)
    (with_settings c s (record { held = Some (image_of s); left = c.store.left - 1 }), reply p xs))
    (with_settings c s c.store, reply p xs)

-- a change of the settings: its value may be wrong
abbrev pub changed_by : Parts → Changing → Option Values → Core → Step
changed_by p ch None c = (c, error p (wrong_value ch ∷ []))
changed_by p ch (Some s) c = adopted p (shown ch s) s c

-- Measurement begins: tick number, phase and seconds start at 0
abbrev pub measuring : Core → Core
measuring c = record {
  state = Some Measurement;
  settings = c.settings;
  counts = record { wake_ticks = c.counts.wake_ticks; sent = c.counts.sent; number = 0; phase = 0; seconds = 0 };
  store = c.store;
}

-- what a message that is allowed asks for
unfoldable pub performed : ℕ → Parts → Asked → Core → Step
performed id p Wake c = (with_state c Config, [])
performed id p Configure c = (with_state c Config, reply p [])
performed id p Measure c = (measuring c, reply p [] ++ configuration id c.settings)
performed id p Reset c = (woken c, reply p [] ++ wake_up)
performed id p (Ask q) c = (c, reply p (answer_of id c.settings q))
performed id p (Set ch) c = changed_by p ch (changed_of c.settings ch) c

abbrev pub performed_by : ℕ → Parts → Decision → Core → Step
performed_by id p (Err e) c = (c, error p (error_number e ∷ []))
performed_by id p (Ok a) c = performed id p a c

-- the addresses that a unit answers to
abbrev pub addressed : Parts → Bool
addressed p = p.address == 0x01 || p.address == 0xFF

-- a message is decided by the state; a dark unit serves nothing
abbrev pub answered : ℕ → Parts → Option State → Core → Step
answered id p None c = (c, [])
answered id p (Some s) c = performed_by id p (decided s c.settings.product p.identifier p.content) c

-- a frame with another address gets no reply
unfoldable pub served : ℕ → Parts → Core → Step
served id p c = cond (addressed p) (answered id p c.state c) (c, [])
