-- What save and load mean, by the length of the image or buffer and the writes left.
use Rattle.std.proofs.Common.{◌≡◌, ℕ, ◌-◌, ◌<◌, true, false, eqb, ltb, List, length, Some, Ok, Err, Option, refl, arith}
use Rattle.std.proofs.lemmas.Bool.{eq-eqb, ne_eqb, lt-ltb, le-ltb, and_from, and_right}
use Rattle.store.specs.declared.port.StoreError.TheVariants.{NoWritesLeft}
use Rattle.store.specs.Meaning.{image_size, save_answer, saves, held_after, left_after, memory_after}

-- an image of the image size and a write left
module _ (xs : List ℕ) (w : ℕ) (long : length xs ≡ image_size) (more : 0 < w) where
  accepts : saves (length xs) w ≡ true
  accepts = and_from (eqb (length xs) image_size) (ltb 0 w) (eq-eqb (length xs) image_size long) (lt-ltb 0 w more)

  pub accepted_answer : save_answer (length xs) w ≡ Ok tt
  accepted_answer = rw (eq-eqb (length xs) image_size long, ne_eqb w 0 (λ e. omega arith)) refl

  pub accepted_held : (h : Option (List ℕ)) → held_after xs w h ≡ Some xs
  accepted_held h = rw accepts refl

  pub accepted_left : left_after xs w ≡ w - 1
  accepted_left = rw accepts refl

  pub accepted_memory : (f : List ℕ → List ℕ → List ℕ) (bs : List ℕ) → memory_after f xs w bs ≡ f xs bs
  accepted_memory f bs = rw accepts refl

pub refuses_none : (xs : List ℕ) (w : ℕ) → w ≡ 0 → saves (length xs) w ≡ false
refuses_none xs w e = and_right (eqb (length xs) image_size) (ltb 0 w) (le-ltb 0 w (omega arith))

pub none_answer : (xs : List ℕ) (w : ℕ) → length xs ≡ image_size → w ≡ 0 → save_answer (length xs) w ≡ Err NoWritesLeft
none_answer xs w long e = rw (eq-eqb (length xs) image_size long, eq-eqb w 0 e) refl

-- a refused save leaves the meaning and the memory
module _ (xs : List ℕ) (w : ℕ) (e : saves (length xs) w ≡ false) where
  pub refused_held : (h : Option (List ℕ)) → held_after xs w h ≡ h
  refused_held h = rw e refl

  pub refused_left : left_after xs w ≡ w
  refused_left = rw e refl

  pub refused_memory : (f : List ℕ → List ℕ → List ℕ) (bs : List ℕ) → memory_after f xs w bs ≡ bs
  refused_memory f bs = rw e refl
