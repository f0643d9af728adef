-- What is counted in a session: from the frames that reading takes, the core before a call and the sensor's meaning.
-- Only `acknowledged` looks at what was written.
use Rattle.std.specs.Prelude.{ℕ, ◌+◌, Bool, true, false, cond, not, ◌&&◌, ◌||◌, List, [], ◌∷◌, length, Some, None, Option, ◌==◌, nat_eq, nat_lt, slice_index}
use Rattle.xbus.specs.Parts.{Parts}
use Rattle.decision.specs.declared.states.State.{State}
use Rattle.decision.specs.declared.states.State.TheVariants.{WakeUp, Config, Measurement}
use Rattle.settings.specs.Image.{image_of}
use Rattle.session.specs.Model.{Core, Meaning}
use Rattle.session.specs.Serving.{addressed, storing}
use Rattle.session.specs.Ticking.{configures, thousandth, packets_at}
use Rattle.session.specs.Moments.{Happening, powers, serves, ticks, Moment}

-- there is a reply, and it is not Error: the third byte of a frame is its identifier
abbrev pub acknowledged : Moment → Bool
acknowledged m = nat_lt 0 (length m.wrote) && not (slice_index m.wrote 2 == 0x42)

abbrev pub in_wake_up : Option State → Bool
in_wake_up None = false
in_wake_up (Some WakeUp) = true
in_wake_up (Some Config) = false
in_wake_up (Some Measurement) = false

-- WakeUpAck in time
abbrev pub wakes : Core → Parts → Bool
wakes c p = in_wake_up c.state && (p.identifier == 0x3F && length p.content == 0)

-- identifiers of messages that with data are changes; 0E is one without
abbrev pub changes : Parts → Bool
changes p =
    (p.identifier == 0x0E)
    || (nat_lt 0 (length p.content)
    && (p.identifier == 0x18 || (p.identifier == 0xDA || (p.identifier == 0x84
    || (p.identifier == 0x64 || (p.identifier == 0x48 || p.identifier == 0xC0))))))

abbrev pub one_if : Bool → ℕ
one_if b = cond b 1 0

-- tests of a moment, by what it is
abbrev pub of_served : Happening → (Parts → Bool) → Bool
of_served powers f = false
of_served (serves p) f = f p
of_served ticks f = false

abbrev pub of_tick : Happening → Bool → Bool
of_tick powers b = false
of_tick (serves p) b = false
of_tick ticks b = b

abbrev pub is_power : Happening → Bool
is_power powers = true
is_power (serves p) = false
is_power ticks = false

abbrev pub is_served : Moment → Bool
is_served m = of_served m.what (λ _. true)

-- a frame to the unit, except an accepted WakeUpAck
abbrev pub is_request : Moment → Bool
is_request m = of_served m.what (λ p. addressed p && not (wakes m.before p))

-- an acknowledged Reset
abbrev pub is_reset : Moment → Bool
is_reset m = of_served m.what (λ p. nat_eq p.identifier 0x40) && acknowledged m

-- power, or an acknowledged Reset
abbrev pub is_wake_up : Moment → Bool
is_wake_up m = is_power m.what || is_reset m

-- the way to Measurement: an acknowledged message 10, or the thousandth tick in WakeUp with flag 02 clear
abbrev pub is_passage : Moment → Bool
is_passage m =
    (of_served m.what (λ p. nat_eq p.identifier 0x10) && acknowledged m)
    || of_tick m.what (in_wake_up m.before.state && (thousandth m.before.counts && not (configures m.before.settings)))

-- a tick in Measurement whose due entries give packets
abbrev pub is_sample : Meaning → Moment → Bool
is_sample s m = of_tick m.what (nat_lt 0 (length (packets_at s m.before)))

-- an acknowledged change with storing on after it
abbrev pub is_stored : Moment → Bool
is_stored m = of_served m.what changes && (acknowledged m && storing m.after.settings)

-- how many moments pass a test
unfoldable pub count : (Moment → Bool) → List Moment → ℕ
count f [] = 0
count f (m ∷ ms) = one_if (f m) + count f ms

-- the image held: that of the last stored change, else the one before
unfoldable pub last_image : Option (List ℕ) → List Moment → Option (List ℕ)
last_image h [] = h
last_image h (m ∷ ms) = last_image (cond (is_stored m) (Some (image_of m.after.settings)) h) ms
