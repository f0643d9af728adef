-- The ways in which power, a frame and a tick can go, each with what is known there.
use Rattle.std.proofs.Common.{◌≡◌, ℕ, ◌+◌, ◌-◌, ◌≤◌, Bool, true, false, eqb, List, [], ◌∷◌, ◌++◌, length, is_some, Some, None, Ok, Err, Option, sym, refl, ap, ◌∙◌, subst, arith}
use Rattle.std.proofs.lemmas.Bool.{ltb-true, cond_both, false≢true}
use Rattle.xbus.specs.Numbers.{Bytes, be}
use Rattle.xbus.specs.Parts.{Parts}
use Rattle.decision.specs.declared.states.State.{State}
use Rattle.decision.specs.declared.states.State.TheVariants.{WakeUp, Config, Measurement}
use Rattle.decision.specs.declared.actions.Question.{Question}
use Rattle.decision.specs.declared.deciding.MessageError.{MessageError}
use Rattle.decision.specs.declared.deciding.MessageError.TheVariants.{NotAllowed, WrongLength}
use Rattle.decision.specs.Asked.{Changing, Baud, ErrorMode, Location, Profile, Flags, Outputs, Factory, Wake, Configure, Measure, Reset, Ask, Set}
use Rattle.decision.specs.Decided.{Decision, decided, error_number}
use Rattle.settings.specs.Values.{Values}
use Rattle.settings.specs.Image.{image_of}
use Rattle.config.specs.Changed.{changed_of}
use Rattle.config.specs.Answered.{answer_of}
use Rattle.session.specs.Model.{Core, World}
use Rattle.session.specs.Sending.{reply, error, wake_up, configuration}
use Rattle.session.specs.Waking.{woken}
use Rattle.session.specs.Serving.{Step, with_state, with_settings, with_counts, storing, shown, wrong_value, adopted, changed_by, measuring, performed, performed_by, addressed, answered, served}
use Rattle.session.specs.Ticking.{configures, wake_ticked, thousandth, sampled, packets_at, wake_tick, tick, tick_by}
use Rattle.session.specs.Moments.{Happening, powers, serves, ticks}
use Rattle.session.specs.Counting.{wakes, is_power}
use Rattle.session.specs.Laws.{does}
use Rattle.session.proofs.Decides.{Signs, Facts, changes_in_config, decided_facts}

-- an allowed message to the unit: whether it is GoToConfig, Reset, message 10, a change
pub record Allowed (c : Core) (p : Parts) (g r m k : Bool) : Type 0 where
  pub here : addressed p ≡ true
  pub signs : Signs c.state p.identifier p.content g r m k

-- WakeUpAck in time
pub record InTime (c : Core) (p : Parts) : Type 0 where
  pub here : addressed p ≡ true
  pub wakes_lem : wakes c p ≡ true

-- an allowed change, and that the message asks for it
pub record Changes (c : Core) (p : Parts) (ch : Changing) : Type 0 where
  pub allowed : Allowed c p false false false true
  pub state : c.state ≡ Some Config
  pub asks : decided Config c.settings.product p.identifier p.content ≡ Ok (Set ch)

pub data Way (w : World) (c : Core) : Happening → Step → Type 0 where
  powering : Way w c powers (woken c, wake_up)
  -- a frame with another address, and WakeUpAck in time
  silent : {p : Parts} → addressed p ≡ false → Way w c (serves p) (c, [])
  waking : {p : Parts} → InTime c p → Way w c (serves p) (with_state c Config, [])
  -- an Error
  refused : {p : Parts} (xs : List ℕ) → addressed p ≡ true → wakes c p ≡ false → Bytes xs → length xs ≤ 2048
      → Way w c (serves p) (c, error p xs)
  -- what is asked for is done
  configuring : {p : Parts} → Allowed c p true false false false → Way w c (serves p) (with_state c Config, reply p [])
  measured : {p : Parts} → Allowed c p false false true false
      → Way w c (serves p) (measuring c, reply p [] ++ configuration w.device_id c.settings)
  resetting : {p : Parts} → Allowed c p false true false false → Way w c (serves p) (woken c, reply p [] ++ wake_up)
  asking : {p : Parts} (q : Question) → Allowed c p false false false false
      → Way w c (serves p) (c, reply p (answer_of w.device_id c.settings q))
  saving : {p : Parts} (ch : Changing) (s : Values) → Changes c p ch → changed_of c.settings ch ≡ Some s
      → storing s ≡ true → eqb c.store.left 0 ≡ false
      → Way w c (serves p) (with_settings c s (record { held = Some (image_of s); left = c.store.left - 1 }), reply p (shown ch s))
  changing : {p : Parts} (ch : Changing) (s : Values) → Changes c p ch → changed_of c.settings ch ≡ Some s
      → storing s ≡ false → Way w c (serves p) (with_settings c s c.store, reply p (shown ch s))
  -- a tick in WakeUp, of which the thousandth goes to Config or Measurement; in Config; in Measurement
  sleeping : c.state ≡ Some WakeUp → thousandth c.counts ≡ false → Way w c ticks (with_counts c (wake_ticked c.counts (c.counts.wake_ticks + 1)), [])
  pausing : c.state ≡ Some WakeUp → thousandth c.counts ≡ true → configures c.settings ≡ true
      → Way w c ticks (with_state (with_counts c (wake_ticked c.counts 1000)) Config, [])
  passing : c.state ≡ Some WakeUp → thousandth c.counts ≡ true → configures c.settings ≡ false
      → Way w c ticks (measuring (with_counts c (wake_ticked c.counts 1000)), configuration w.device_id c.settings)
  idle : c.state ≡ Some Config → Way w c ticks (c, [])
  sampling : c.state ≡ Some Measurement
      → Way w c ticks (sampled (packets_at w.meaning c) c)

error_bytes : (e : MessageError) → Bytes (error_number e ∷ [])
error_bytes NotAllowed = (omega arith, tt)
error_bytes WrongLength = (omega arith, tt)

wrong_bytes : (ch : Changing) → Bytes (wrong_value ch ∷ [])
wrong_bytes (Baud v) = (omega arith, tt)
wrong_bytes (ErrorMode v) = (omega arith, tt)
wrong_bytes (Location v) = (omega arith, tt)
wrong_bytes (Profile v) = (omega arith, tt)
wrong_bytes (Flags v w) = (omega arith, tt)
wrong_bytes (Outputs xs) = (omega arith, tt)
wrong_bytes Factory = (omega arith, tt)

module _ (w : World) (p : Parts) (c : Core) where
  abbrev Goes : Step → Type 0
  Goes = Way w c (serves p)

  changed_way : (ch : Changing) (s : Values) → Changes c p ch → changed_of c.settings ch ≡ Some s → Goes (adopted p (shown ch s) s c)
  unfolding adopted
  changed_way ch s a e =
      cond_both (storing s) _ _ Goes
      (λ on. cond_both (eqb c.store.left 0) _ _ Goes
      (λ _. refused (40 ∷ p.identifier ∷ be 4 0) a.allowed.here a.allowed.signs.asleep
      (omega arith, (ltb-true _ _ a.allowed.signs.small, (omega arith, (omega arith, (omega arith, (omega arith, tt)))))) (omega arith))
      (saving ch s a e on))
      (changing ch s a e)

  changed_by_way : (ch : Changing) (o : Option Values) → Changes c p ch → changed_of c.settings ch ≡ o → Goes (changed_by p ch o c)
  changed_by_way ch None a e = refused (wrong_value ch ∷ []) a.allowed.here a.allowed.signs.asleep (wrong_bytes ch) (omega arith)
  changed_by_way ch (Some s) a e = changed_way ch s a e

  -- it is decided so in the unit's state
  abbrev Decides : Decision → Type 0
  Decides d = (s : State) × (c.state ≡ Some s) × (decided s c.settings.product p.identifier p.content ≡ d)

  changes : (ch : Changing) → addressed p ≡ true → Facts c.state p.identifier p.content (Ok (Set ch)) → Decides (Ok (Set ch)) → Changes c p ch
  changes ch h f (s, e, d) =
      let g = changes_in_config s c.settings.product p.identifier p.content ch d in
      record {
        allowed = record { here = h; signs = f };
        state = e ∙ ap Some g;
        asks = subst (λ (x : State). decided x c.settings.product p.identifier p.content ≡ Ok (Set ch)) g d;
      }

  performed_way : (d : Decision) → addressed p ≡ true → Facts c.state p.identifier p.content d → Decides d → Goes (performed_by w.device_id p d c)
  unfolding performed
  performed_way (Err e) h f d = refused (error_number e ∷ []) h f (error_bytes e) (omega arith)
  performed_way (Ok Wake) h f d = waking (record { here = h; wakes_lem = f })
  performed_way (Ok Configure) h f d = configuring (record { here = h; signs = f })
  performed_way (Ok Measure) h f d = measured (record { here = h; signs = f })
  performed_way (Ok Reset) h f d = resetting (record { here = h; signs = f })
  performed_way (Ok (Ask q)) h f d = asking q (record { here = h; signs = f })
  performed_way (Ok (Set ch)) h f d = changed_by_way ch (changed_of c.settings ch) (changes ch h f d) refl

  answered_way : (o : Option State) → addressed p ≡ true → c.state ≡ o → is_some o ≡ true → Goes (answered w.device_id p o c)
  answered_way None h e l = absurd (false≢true l)
  answered_way (Some s) h e l =
      let d : Decision = decided s c.settings.product p.identifier p.content in
      performed_way d h
      (subst (λ (o : Option State). Facts o p.identifier p.content d) (sym e)
      (decided_facts s c.settings.product p.identifier p.content)) (s, e, refl)

  served_way : is_some c.state ≡ true → Goes (served w.device_id p c)
  unfolding served
  served_way l = cond_both (addressed p) _ _ Goes (λ h. answered_way c.state h refl l) silent

module _ (w : World) (c : Core) where
  wake_way : c.state ≡ Some WakeUp → Way w c ticks (wake_tick w.device_id c)
  unfolding wake_tick
  wake_way e =
      cond_both (thousandth c.counts) _ _ (Way w c ticks)
      (λ t. cond_both (configures c.settings) _ _ (Way w c ticks) (pausing e t) (passing e t)) (sleeping e)

  tick_way : (o : Option State) → c.state ≡ o → is_some o ≡ true → Way w c ticks (tick_by w.device_id (packets_at w.meaning c) o c)
  tick_way None e l = absurd (false≢true l)
  tick_way (Some WakeUp) e l = wake_way e
  tick_way (Some Config) e l = idle e
  tick_way (Some Measurement) e l = sampling e

  pub does_way : (h : Happening) → (is_power h ≡ false → is_some c.state ≡ true) → Way w c h (does w h c)
  unfolding tick
  does_way powers l = powering
  does_way (serves p) l = served_way w p c (l refl)
  does_way ticks l = tick_way c.state refl (l refl)
