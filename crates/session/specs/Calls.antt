-- The three calls: what a unit becomes, what it writes, what it answers. n is the length of the tray.
use Rattle.std.specs.Prelude.{ℕ, Bool, true, false, cond, List, [], length, is_some, Some, None, Ok, Err, Option, Result, nat_lt}
use Rattle.std.specs.List.{flat_map}
use Rattle.xbus.specs.Parts.{Parts, first_parts}
use Rattle.stream.specs.Waiting.{passed}
use Rattle.mtdata2.specs.Packets.{packet_bytes}
use Rattle.session.specs.declared.answers.Fed.{Fed}
use Rattle.session.specs.declared.answers.Refusal.{Refusal}
use Rattle.session.specs.declared.answers.Refusal.TheVariants as refusal
use Rattle.session.specs.Model.{Core, Model}
use Rattle.session.specs.Sending.{wake_up}
use Rattle.session.specs.Waking.{woken}
use Rattle.session.specs.Serving.{Step, served}
use Rattle.session.specs.Ticking.{packets_at, tick}
use Rattle.session.specs.Filling.{fills, filled}

abbrev pub Called : Type 0 → Type 0
Called A = Model × List ℕ × Result A Refusal

-- a new core, and new bytes that wait
abbrev pub with_core : Model → Core → List ℕ → Model
with_core m c w = record { device_id = m.device_id; meaning = m.meaning; core = c; waiting = w }

-- a refusal leaves all
abbrev pub refuses : {A : Type 0} → Model → Refusal → Called A
refuses m e = (m, [], Err e)

abbrev pub powered : Model → Bool
powered m = is_some m.core.state

-- the least length of a tray
abbrev pub least_tray : ℕ
least_tray = 2055

-- power and tick answer the bytes written
abbrev pub writes : Model → Step → Called ℕ
writes m s = (with_core m s.0 m.waiting, s.1, Ok (length s.1))

unfoldable pub power_call : Model → ℕ → Called ℕ
power_call m n =
    cond (powered m) (refuses m refusal.AlreadyPowered)
    (cond (nat_lt n least_tray) (refuses m refusal.ShortTray) (writes m (woken m.core, wake_up)))

-- a feed takes k bytes, and no frame is whole then; or the frame that is whole is served
abbrev pub takes : ℕ → Model → Called Fed
takes k m = (m, [], Ok (record { taken = k; written = 0; served = false }))

abbrev pub serves : ℕ → Model → Step → Called Fed
serves k m s =
    (with_core m s.0 (passed m.waiting), s.1, Ok (record { taken = k; written = length s.1; served = true }))

abbrev pub feed_by : ℕ → Model → Option Parts → Called Fed
feed_by k m None = takes k m
feed_by k m (Some p) = serves k m (served m.device_id p m.core)

-- bytes are taken until a whole frame waits, which is served
abbrev pub fill : Model → List ℕ → Model
fill m bs = with_core m m.core (filled m.waiting bs)

unfoldable pub feed_call : Model → List ℕ → ℕ → Called Fed
feed_call m bs n =
    cond (powered m)
    (cond (nat_lt n least_tray) (refuses m refusal.ShortTray)
    (feed_by (fills m.waiting bs) (fill m bs) (first_parts (filled m.waiting bs))))
    (refuses m refusal.Dark)

-- the message of a tick would have more than 2,048 data bytes
abbrev pub too_long : Model → Bool
too_long m = nat_lt 2048 (length (flat_map packet_bytes (packets_at m.meaning m.core)))

unfoldable pub tick_call : Model → ℕ → Called ℕ
tick_call m n =
    cond (powered m)
    (cond (nat_lt n least_tray) (refuses m refusal.ShortTray)
    (cond (is_some (first_parts m.waiting)) (refuses m refusal.FrameWaits)
    (cond (too_long m) (refuses m refusal.TooLong) (writes m (tick m.device_id m.meaning m.core)))))
    (refuses m refusal.Dark)
