-- The ways through each call, by the tests that it makes.
use Rattle.std.proofs.Common.{◌≡◌, ℕ, ◌<◌, ◌≤◌, true, false, List, is_some, Some, None, Option, refl}
use Rattle.std.proofs.lemmas.Bool.{lt-ltb, le-ltb}
use Rattle.std.specs.Option.{option_map}
use Rattle.xbus.specs.declared.parts.Frame.{Frame}
use Rattle.xbus.specs.Parts.{Parts, seen, first_parts}
use Rattle.session.specs.declared.answers.Refusal.TheVariants as refusal
use Rattle.session.specs.Model.{Model}
use Rattle.session.specs.Sending.{wake_up}
use Rattle.session.specs.Waking.{woken}
use Rattle.session.specs.Serving.{served}
use Rattle.session.specs.Ticking.{tick}
use Rattle.session.specs.Filling.{fills, filled}
use Rattle.session.specs.Calls.{refuses, powered, least_tray, writes, power_call, takes, serves, fill, feed_call, too_long, tick_call}

pub some_seen : (o : Option Frame) → is_some (option_map seen o) ≡ is_some o
some_seen None = refl
some_seen (Some f) = refl

module _ (m : Model) (n : ℕ) where
  pub power_again : powered m ≡ true → power_call m n ≡ refuses m refusal.AlreadyPowered
  unfolding power_call
  power_again d = rw d refl

  pub power_short : powered m ≡ false → n < 2055 → power_call m n ≡ refuses m refusal.ShortTray
  unfolding power_call
  power_short d s = rw (d, lt-ltb n least_tray s) refl

  pub power_done : powered m ≡ false → 2055 ≤ n → power_call m n ≡ writes m (woken m.core, wake_up)
  unfolding power_call
  power_done d s = rw (d, le-ltb n least_tray s) refl

  pub tick_dark : powered m ≡ false → tick_call m n ≡ refuses m refusal.Dark
  unfolding tick_call
  tick_dark d = rw d refl

  pub tick_short : powered m ≡ true → n < 2055 → tick_call m n ≡ refuses m refusal.ShortTray
  unfolding tick_call
  tick_short d s = rw (d, lt-ltb n least_tray s) refl

  pub tick_waits : powered m ≡ true → 2055 ≤ n → is_some (first_parts m.waiting) ≡ true → tick_call m n ≡ refuses m refusal.FrameWaits
  unfolding tick_call
  tick_waits d s w = rw (d, le-ltb n least_tray s, w) refl

  pub tick_done : powered m ≡ true → 2055 ≤ n → is_some (first_parts m.waiting) ≡ false → too_long m ≡ false
      → tick_call m n ≡ writes m (tick m.device_id m.meaning m.core)
  unfolding tick_call
  tick_done d s w l = rw (d, le-ltb n least_tray s, w, l) refl

  module _ (bs : List ℕ) where
    pub feed_dark : powered m ≡ false → feed_call m bs n ≡ refuses m refusal.Dark
    unfolding feed_call
    feed_dark d = rw d refl

    pub feed_short : powered m ≡ true → n < 2055 → feed_call m bs n ≡ refuses m refusal.ShortTray
    unfolding feed_call
    feed_short d s = rw (d, lt-ltb n least_tray s) refl

    pub feed_takes : powered m ≡ true → 2055 ≤ n → first_parts (filled m.waiting bs) ≡ None
        → feed_call m bs n ≡ takes (fills m.waiting bs) (fill m bs)
    unfolding feed_call
    feed_takes d s e = rw (d, le-ltb n least_tray s, e) refl

    pub feed_serves : (p : Parts) → powered m ≡ true → 2055 ≤ n → first_parts (filled m.waiting bs) ≡ Some p
        → feed_call m bs n ≡ serves (fills m.waiting bs) (fill m bs) (served m.device_id p m.core)
    unfolding feed_call
    feed_serves p d s e = rw (d, le-ltb n least_tray s, e) refl
