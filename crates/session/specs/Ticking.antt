-- A tick, half a millisecond.
use Rattle.std.specs.Prelude.{ℕ, ◌+◌, ◌%◌, ◌^◌, Bool, cond, List, [], ◌∷◌, Some, None, Option, ◌==◌, bit_and, nat_le}
use Rattle.mtdata2.specs.Packets.{Item}
use Rattle.draft.specs.Composed.{frame_so_far}
use Rattle.decision.specs.declared.states.State.{State}
use Rattle.decision.specs.declared.states.State.TheVariants.{WakeUp, Config, Measurement}
use Rattle.settings.specs.Values.{Values}
use Rattle.session.specs.declared.counts.Counts.{Counts}
use Rattle.session.specs.Model.{Meaning, Core}
use Rattle.session.specs.Sending.{configuration}
use Rattle.session.specs.Serving.{Step, with_state, with_counts, measuring}
use Rattle.session.specs.Sampling.{packets}

-- flag 02: the unit goes to Config by itself
abbrev pub configures : Values → Bool
configures s = bit_and s.flags 0x02 == 0x02

abbrev pub wake_ticked : Counts → ℕ → Counts
wake_ticked n k = record { wake_ticks = k; sent = n.sent; number = n.number; phase = n.phase; seconds = n.seconds }

-- the thousandth tick in WakeUp: 999 came before
abbrev pub thousandth : Counts → Bool
thousandth n = nat_le 999 n.wake_ticks

-- it leads to Measurement, or to Config if flag 02 is set
unfoldable pub wake_tick : ℕ → Core → Step
wake_tick id c =
    cond (thousandth c.counts)
    (cond (configures c.settings) (with_state (with_counts c (wake_ticked c.counts 1000)) Config, [])
    (measuring (with_counts c (wake_ticked c.counts 1000)), configuration id c.settings))
    (with_counts c (wake_ticked c.counts (c.counts.wake_ticks + 1)), [])

-- a message counts once it is sent
abbrev pub sent_by : List Item → ℕ → ℕ
sent_by [] n = n
sent_by (i ∷ is) n = (n + 1) % 65536

-- the tick number grows by 1, the phase too, and the seconds where the phase comes back to 0
abbrev pub ticked : List Item → Counts → Counts
ticked is n = record {
  wake_ticks = n.wake_ticks;
  sent = sent_by is n.sent;
  number = (n.number + 1) % 2 ^ 32;
  phase = (n.phase + 1) % 2000;
  seconds = cond ((n.phase + 1) % 2000 == 0) ((n.seconds + 1) % 2 ^ 32) n.seconds;
}

-- a tick in Measurement with these packets: it counts, and their message is sent
abbrev pub sampled : List Item → Core → Step
sampled is c = (with_counts c (ticked is c.counts), frame_so_far is)

-- the packets of a tick: in Measurement alone
abbrev pub packets_by : Meaning → Option State → Core → List Item
packets_by m None c = []
packets_by m (Some WakeUp) c = []
packets_by m (Some Config) c = []
packets_by m (Some Measurement) c = packets m c.counts c.settings.entries

unfoldable pub packets_at : Meaning → Core → List Item
packets_at m c = packets_by m c.state c

abbrev pub tick_by : ℕ → List Item → Option State → Core → Step
tick_by id is None c = (c, [])
tick_by id is (Some WakeUp) c = wake_tick id c
tick_by id is (Some Config) c = (c, [])
tick_by id is (Some Measurement) c = sampled is c

unfoldable pub tick : ℕ → Meaning → Core → Step
tick id m c = tick_by id (packets_at m c) c.state c
