-- What two saves and then a load give.
use Rattle.std.specs.Prelude.{◌≡◌, ℕ, ◌+◌, ◌≤◌, List, length, Ok, Err, Option, Result}
use Rattle.std.specs.Option.{unwrap_or}
use Rattle.store.specs.declared.port.StoreError.{StoreError}
use Rattle.store.specs.declared.port.StoreError.TheVariants.{NoWritesLeft}
use Rattle.store.specs.declared.port.Loaded.{Loaded}
use Rattle.store.specs.declared.port.Loaded.TheVariants.{Held}
use Rattle.store.specs.declared.trial.Trial.{Trial}
use Rattle.store.specs.Meaning.{image_size, found, load_answer, save_answer, held_after, left_after}

-- the image held after saves of xs and ys, and the writes left
abbrev pub held_after_two : List ℕ → List ℕ → ℕ → Option (List ℕ) → Option (List ℕ)
held_after_two xs ys w h = held_after ys (left_after xs w) (held_after xs w h)

abbrev pub left_after_two : List ℕ → List ℕ → ℕ → ℕ
left_after_two xs ys w = left_after ys (left_after xs w)

-- the answers, with a buffer of n bytes
abbrev pub trial_of : List ℕ → List ℕ → ℕ → Option (List ℕ) → ℕ → Trial
trial_of xs ys n h w = record {
  first = save_answer (length xs) w;
  second = save_answer (length ys) (left_after xs w);
  loaded = load_answer n (held_after_two xs ys w h);
}

abbrev pub answers : Result Unit StoreError → Result Unit StoreError → Loaded → Trial
answers p q l = record { first = p; second = q; loaded = Ok l }

abbrev pub Sized : List ℕ → List ℕ → List ℕ → Type 0
Sized xs ys b = (length xs ≡ image_size) × (length ys ≡ image_size) × (length b ≡ image_size)

-- in words, for images and a buffer of the image size: the answers r, the buffer c and the writes left v, where h was held with w writes left and the buffer was b
pub record TrialSaid (xs ys b : List ℕ) (h : Option (List ℕ)) (w : ℕ) (r : Trial) (c : List ℕ) (v : ℕ) : Type 0 where
  pub two_left : Sized xs ys b → 2 ≤ w → (r ≡ answers (Ok tt) (Ok tt) Held) × (c ≡ ys) × (v + 2 ≡ w)
  pub one_left : Sized xs ys b → w ≡ 1 → (r ≡ answers (Ok tt) (Err NoWritesLeft) Held) × (c ≡ xs) × (v ≡ 0)
  pub none_left : Sized xs ys b → w ≡ 0 → (r ≡ answers (Err NoWritesLeft) (Err NoWritesLeft) (found h)) × (c ≡ unwrap_or h b) × (v ≡ 0)
