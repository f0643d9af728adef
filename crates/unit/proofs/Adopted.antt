-- New settings are adopted in one of three ways.
use Rattle.std.proofs.Common.{◌≡◌, ℕ, zero, suc, ◌-◌, ◌<◌, true, false, List, length, Some, Result, is_err, sym, refl, ap, ◌∙◌, arith}
use Rattle.std.proofs.lemmas.Bool.{false≢true, eq-eqb, ne_eqb, lt-ltb, le-ltb}
use Rattle.xbus.specs.Parts.{Parts}
use Rattle.store.specs.declared.port.StoreError.{StoreError}
use Rattle.store.specs.declared.port.Store.{Ghosts}
use Rattle.store.specs.Meaning.{image_size, save_answer}
use Rattle.settings.specs.Values.{Values}
use Rattle.settings.specs.Image.{image_of}
use Rattle.session.specs.Model.{Core}
use Rattle.session.specs.Sending.{reply, save_error}
use Rattle.session.specs.Serving.{storing, with_settings, adopted}
use Rattle.store.proofs.Meanings.{accepted_answer, none_answer}
use Rattle.unit.specs.Of.{memory_by}

module _ (p : Parts) (xs : List ℕ) (s : Values) (c : Core) where
  pub adopted_unstored : storing s ≡ false → adopted p xs s c ≡ (with_settings c s c.store, reply p xs)
  unfolding adopted
  adopted_unstored e = rw e refl

  pub adopted_refused : storing s ≡ true → c.store.left ≡ 0 → adopted p xs s c ≡ (c, save_error p)
  unfolding adopted
  adopted_refused e z = rw (e, eq-eqb c.store.left 0 z) refl

  pub adopted_saved : storing s ≡ true → 0 < c.store.left
      → adopted p xs s c ≡ (with_settings c s (record { held = Some (image_of s); left = c.store.left - 1 }), reply p xs)
  unfolding adopted
  adopted_saved e m = rw (e, ne_eqb c.store.left 0 (λ z. omega arith)) refl

-- a save of an image is refused exactly if no writes are left
module _ (xs : List ℕ) (long : length xs ≡ image_size) (r : Result (Unit {0}) StoreError) where
  pub save_refused : (w : ℕ) → r ≡ save_answer (length xs) w → is_err r ≡ true → w ≡ 0
  save_refused zero e t = refl
  save_refused (suc w) e t = absurd (false≢true (sym (ap is_err (e ∙ accepted_answer xs (suc w) long (omega arith))) ∙ t))

  pub save_accepted : (w : ℕ) → r ≡ save_answer (length xs) w → is_err r ≡ false → 0 < w
  save_accepted zero e t = absurd (false≢true (sym t ∙ ap is_err (e ∙ none_answer xs 0 long refl)))
  save_accepted (suc w) e t = omega arith

-- the bytes lent to a store: with a write spent they are written over, without one they stay
module _ {S : Type 0} (g : Ghosts S) (c d : Core) (s : S) where
  pub memory_stored : d.store.left ≡ c.store.left - 1 → 0 < c.store.left → memory_by g c d s ≡ g.overwritten (image_of d.settings) (g.memory s)
  memory_stored e m = rw (lt-ltb d.store.left c.store.left (omega arith)) refl

  pub memory_kept : d.store.left ≡ c.store.left → memory_by g c d s ≡ g.memory s
  memory_kept e = rw (le-ltb d.store.left c.store.left (omega arith)) refl
