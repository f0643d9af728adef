-- The calls, way by way: what holds of each way through a call holds of the call.
use Rattle.std.proofs.Common.{◌≡◌, ℕ, Bool, true, false, ltb, List, [], ◌∷◌, map, take, is_some, Some, None, Ok, Option, Result, sym, refl, ap, ◌∙◌, subst, subst₂, ⊎_elim}
use Rattle.std.proofs.lemmas.Bool.{cases_Bool, cond_both}
use Rattle.xbus.specs.declared.front.Front.TheVariants.{Whole}
use Rattle.xbus.specs.Front.{front_of}
use Rattle.xbus.specs.Parts.{Parts, parts_of, first_parts}
use Rattle.stream.specs.Waiting.{passed}
use Rattle.session.specs.declared.answers.Fed.{Fed}
use Rattle.session.specs.declared.answers.Refusal.{Refusal}
use Rattle.session.specs.declared.answers.Refusal.TheVariants as refusal
use Rattle.session.specs.Model.{Model}
use Rattle.session.specs.Sending.{wake_up}
use Rattle.session.specs.Waking.{woken}
use Rattle.session.specs.Serving.{Step, served}
use Rattle.session.specs.Ticking.{tick}
use Rattle.session.specs.Filling.{is_whole, fills, filled}
use Rattle.session.specs.Calls.{Called, with_core, refuses, powered, least_tray, writes, power_call, takes, serves, feed_by, fill, feed_call, too_long, tick_call}
use Rattle.session.specs.Sessions.{Entry, Power, Feed, Tick, next, Fair, output, taken_by, taken_in, served_by, served_in, Event, Powered, Byte, Ticked, if_accepted, events}
use Rattle.session.specs.Moments.{Happening, powers, ticks, first_served, behind_first, accepted, fed_frame, fed_rest, happening, unserved}
use Rattle.session.proofs.Readings.{is_whole_lem, parts_whole, parts_none}

-- the frame of k bytes that waits, and what serving it does
abbrev pub front_parts : List ℕ → ℕ → Parts
front_parts w k = parts_of (take k w)

abbrev pub serving : Model → List ℕ → ℕ → Step
serving m w k = served m.device_id (front_parts w k) m.core

module _ (m : Model) (n : ℕ) where
  pub power_by : (P : Called ℕ → Type 0) → ((e : Refusal) → P (refuses m e))
      → (powered m ≡ false → P (writes m (woken m.core, wake_up))) → P (power_call m n)
  unfolding power_call
  power_by P ref done =
      cond_both (powered m) _ _ P (λ _. ref refusal.AlreadyPowered)
      (λ d. cond_both (ltb n least_tray) _ _ P (λ _. ref refusal.ShortTray) (λ _. done d))

  pub quiet_parts : (b : Bool) → is_whole m.waiting ≡ b → is_some (first_parts m.waiting) ≡ b
  quiet_parts true e = let q = is_whole_lem m.waiting e in ap is_some (parts_whole m.waiting q.0 q.1)
  quiet_parts false e = ap is_some (parts_none m.waiting e)

  pub tick_by_lem : (P : Called ℕ → Type 0) → ((e : Refusal) → P (refuses m e))
      → (powered m ≡ true → is_whole m.waiting ≡ false → too_long m ≡ false → P (writes m (tick m.device_id m.meaning m.core)))
      → P (tick_call m n)
  unfolding tick_call
  tick_by_lem P ref done =
      cond_both (powered m) _ _ P
      (λ d. cond_both (ltb n least_tray) _ _ P (λ _. ref refusal.ShortTray)
      (λ _. cond_both (is_some (first_parts m.waiting)) _ _ P (λ _. ref refusal.FrameWaits)
      (λ q. cond_both (too_long m) _ _ P (λ _. ref refusal.TooLong)
      (λ t. done d (sym (quiet_parts (is_whole m.waiting) refl) ∙ q) t))))
      (λ _. ref refusal.Dark)

  pub feed_by_lem : (bs : List ℕ) (P : Called Fed → Type 0) → ((e : Refusal) → P (refuses m e))
      → (powered m ≡ true → is_whole (filled m.waiting bs) ≡ false → P (takes (fills m.waiting bs) (fill m bs)))
      → ((k : ℕ) → powered m ≡ true → front_of (filled m.waiting bs) ≡ Whole k
      → P (serves (fills m.waiting bs) (fill m bs) (serving m (filled m.waiting bs) k)))
      → P (feed_call m bs n)
  unfolding feed_call
  feed_by_lem bs P ref waits serve =
      let w : List ℕ = filled m.waiting bs in
      let Q : Option Parts → Type 0 = λ o. P (feed_by (fills m.waiting bs) (fill m bs) o) in
      cond_both (powered m) _ _ P
      (λ d. cond_both (ltb n least_tray) _ _ P (λ _. ref refusal.ShortTray)
      (λ _. ⊎_elim
      (λ (e : is_whole w ≡ true). let q = is_whole_lem w e in subst Q (sym (parts_whole w q.0 q.1)) (serve q.0 d q.1))
      (λ (e : is_whole w ≡ false). subst Q (sym (parts_none w e)) (waits d e))
      (cases_Bool (is_whole w))))
      (λ _. ref refusal.Dark)

-- a feed that serves nothing leaves no whole frame waiting

abbrev Left : Called Fed → Type 0
Left c = (f : Fed) → c.2 ≡ Ok f → f.served ≡ false → is_whole c.0.waiting ≡ false

none_left : (m : Model) (n : ℕ) (bs : List ℕ) → Left (feed_call m bs n)
none_left m n bs =
    feed_by_lem m n bs Left
    (λ e f p q. cc)
    (λ d e f p q. e)
    (λ k d e f p q. cc)

pub fed_left : (m : Model) (bs : List ℕ) (n : ℕ) (o : List ℕ) (f : Fed) → Fair m (Feed bs n o (Ok f)) → f.served ≡ false
    → is_whole (next m (Feed bs n o (Ok f))).waiting ≡ false
unfolding next
fed_left m bs n o f (g, h) = none_left m n bs f (sym h)

-- the way that a call went: the unit behind it, what it wrote, its events on the tape, whether it served, the bytes that it
-- took, and what it is for the moments
pub data Went (m : Model) : Model → List ℕ → List Event → ℕ → List ℕ → (List (List ℕ) → Option Happening) → (List (List ℕ) → List (List ℕ)) → Type 0 where
  refused : Went m m [] [] 0 [] (λ _. None) (λ fs. fs)
  took : (bs : List ℕ) → powered m ≡ true → is_whole (filled m.waiting bs) ≡ false
      → Went m (fill m bs) [] (map Byte (take (fills m.waiting bs) bs)) 0 (take (fills m.waiting bs) bs) (λ _. None) (λ fs. fs)
  answered : (bs : List ℕ) (k : ℕ) → powered m ≡ true → front_of (filled m.waiting bs) ≡ Whole k
      → Went m (with_core m (serving m (filled m.waiting bs) k).0 (passed (filled m.waiting bs)))
      (serving m (filled m.waiting bs) k).1 (map Byte (take (fills m.waiting bs) bs)) 1 (take (fills m.waiting bs) bs)
      first_served behind_first
  woke : powered m ≡ false → Went m (with_core m (woken m.core) m.waiting) wake_up (Powered ∷ []) 0 [] (λ _. Some powers) (λ fs. fs)
  ticking : powered m ≡ true → is_whole m.waiting ≡ false → too_long m ≡ false
      → Went m (with_core m (tick m.device_id m.meaning m.core).0 m.waiting) (tick m.device_id m.meaning m.core).1
      (Ticked ∷ []) 0 [] (λ _. Some ticks) (λ fs. fs)

module _ (m : Model) (n : ℕ) where
  went_power : let c = power_call m n in Went m c.0 c.1 (if_accepted Powered c.2) 0 [] (λ _. accepted powers c.2) (λ fs. fs)
  went_power =
      power_by m n (λ c. Went m c.0 c.1 (if_accepted Powered c.2) 0 [] (λ _. accepted powers c.2) (λ fs. fs))
      (λ _. refused) (λ d. woke d)

  went_tick : let c = tick_call m n in Went m c.0 c.1 (if_accepted Ticked c.2) 0 [] (λ _. accepted ticks c.2) (λ fs. fs)
  went_tick =
      tick_by_lem m n (λ c. Went m c.0 c.1 (if_accepted Ticked c.2) 0 [] (λ _. accepted ticks c.2) (λ fs. fs))
      (λ _. refused) (λ d q t. ticking d q t)

  went_feed : (bs : List ℕ) → let c = feed_call m bs n in
      Went m c.0 c.1 (map Byte (taken_by bs c.2)) (served_by c.2) (taken_by bs c.2) (λ fs. fed_frame fs c.2) (λ fs. fed_rest fs c.2)
  went_feed bs =
      feed_by_lem m n bs
      (λ c. Went m c.0 c.1 (map Byte (taken_by bs c.2)) (served_by c.2) (taken_by bs c.2) (λ fs. fed_frame fs c.2) (λ fs. fed_rest fs c.2))
      (λ _. refused) (λ d q. took bs d q) (λ k d f. answered bs k d f)

-- each fair call went one of these ways
pub went : (m : Model) (e : Entry) → Fair m e
    → Went m (next m e) (output e) (events e) (served_in e) (taken_in e) (λ fs. happening fs e) (λ fs. unserved fs e)
unfolding next
went m (Power n o a) (f, g) =
    subst₂ (λ (x : List ℕ) (y : Result ℕ Refusal). Went m (power_call m n).0 x (if_accepted Powered y) 0 [] (λ _. accepted powers y) (λ fs. fs))
    (sym f) (sym g) (went_power m n)
went m (Feed bs n o a) (f, g) =
    subst₂
    (λ (x : List ℕ) (y : Result Fed Refusal).
    Went m (feed_call m bs n).0 x (map Byte (taken_by bs y)) (served_by y) (taken_by bs y) (λ fs. fed_frame fs y) (λ fs. fed_rest fs y))
    (sym f) (sym g) (went_feed m n bs)
went m (Tick n o a) (f, g) =
    subst₂ (λ (x : List ℕ) (y : Result ℕ Refusal). Went m (tick_call m n).0 x (if_accepted Ticked y) 0 [] (λ _. accepted ticks y) (λ fs. fs))
    (sym f) (sym g) (went_tick m n)
