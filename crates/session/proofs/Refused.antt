-- A call is refused by the number of the first condition that holds: case by case over the conditions.
use Rattle.std.proofs.Common.{◌≡◌, ℕ, Bool, true, false, ltb, cond, not, List, is_some, Some, None, Option, refl, subst}
use Rattle.xbus.specs.Parts.{Parts, first_parts}
use Rattle.session.specs.declared.answers.Refusal.TheVariants as refusal
use Rattle.session.specs.Model.{Model}
use Rattle.session.specs.Sending.{wake_up}
use Rattle.session.specs.Waking.{woken}
use Rattle.session.specs.Ticking.{tick}
use Rattle.session.specs.Filling.{is_whole, fills, filled}
use Rattle.session.specs.Calls.{Called, refuses, powered, least_tray, writes, power_call, feed_by, fill, feed_call, too_long, tick_call}
use Rattle.session.specs.Refused.{refused_by, RefusedSaid}
use Rattle.session.proofs.Calls.{quiet_parts}

module _ {A : Type 0} (m : Model) (c : Called A) (accepts : refused_by c.2 ≡ None) where
  power_cases : (p s : Bool)
      → refused_by (cond p (refuses m refusal.AlreadyPowered) (cond s (refuses m refusal.ShortTray) c)).2
      ≡ cond p (Some 2) (cond s (Some 3) None)
  power_cases true s = refl
  power_cases false true = refl
  power_cases false false = accepts

  feed_cases : (p s : Bool)
      → refused_by (cond p (cond s (refuses m refusal.ShortTray) c) (refuses m refusal.Dark)).2
      ≡ cond (not p) (Some 1) (cond s (Some 3) None)
  feed_cases false s = refl
  feed_cases true true = refl
  feed_cases true false = accepts

  tick_cases : (p s w l : Bool)
      → refused_by (cond p (cond s (refuses m refusal.ShortTray) (cond w (refuses m refusal.FrameWaits) (cond l (refuses m refusal.TooLong) c))) (refuses m refusal.Dark)).2
      ≡ cond (not p) (Some 1) (cond s (Some 3) (cond w (Some 4) (cond l (Some 5) None)))
  tick_cases false s w l = refl
  tick_cases true true w l = refl
  tick_cases true false true l = refl
  tick_cases true false false true = refl
  tick_cases true false false false = accepts

fed_accepts : (k : ℕ) (m : Model) (o : Option Parts) → refused_by (feed_by k m o).2 ≡ None
fed_accepts k m None = refl
fed_accepts k m (Some p) = refl

power_said : (m : Model) (n : ℕ) → refused_by (power_call m n).2 ≡ cond (powered m) (Some 2) (cond (ltb n 2055) (Some 3) None)
unfolding power_call
power_said m n = power_cases m (writes m (woken m.core, wake_up)) refl (powered m) (ltb n least_tray)

feed_said : (m : Model) (bs : List ℕ) (n : ℕ)
    → refused_by (feed_call m bs n).2 ≡ cond (not (powered m)) (Some 1) (cond (ltb n 2055) (Some 3) None)
unfolding feed_call
feed_said m bs n =
    let o : Option Parts = first_parts (filled m.waiting bs) in
    let k : ℕ = fills m.waiting bs in
    feed_cases m (feed_by k (fill m bs) o) (fed_accepts k (fill m bs) o) (powered m) (ltb n least_tray)

tick_said : (m : Model) (n : ℕ)
    → refused_by (tick_call m n).2
    ≡ cond (not (powered m)) (Some 1) (cond (ltb n 2055) (Some 3) (cond (is_whole m.waiting) (Some 4) (cond (too_long m) (Some 5) None)))
unfolding tick_call
tick_said m n =
    subst (λ w. refused_by (tick_call m n).2
    ≡ cond (not (powered m)) (Some 1) (cond (ltb n 2055) (Some 3) (cond w (Some 4) (cond (too_long m) (Some 5) None))))
    (quiet_parts m n (is_whole m.waiting) refl)
    (tick_cases m (writes m (tick m.device_id m.meaning m.core)) refl (powered m) (ltb n least_tray) (is_some (first_parts m.waiting)) (too_long m))

pub refused_said : RefusedSaid
refused_said = record { power = power_said; feed = feed_said; tick = tick_said }
