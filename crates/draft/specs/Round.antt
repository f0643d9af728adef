-- The packets of a message that was read, composed again.
use Rattle.std.specs.Prelude.{◌≡◌, ℕ, ◌+◌, ◌<◌, ◌≤◌, List, length, Ok, Err, Result}
use Rattle.std.proofs.Math.Seq.{paste}
use Rattle.draft.specs.declared.refusal.Refusal.{Refusal}
use Rattle.draft.specs.declared.refusal.Refusal.TheVariants.{NoRoom}

-- the packets of the message `input` were composed at the mark m of the tray t, with the answer r, the mark k and the tray u
-- after it: with room the input's bytes stand there, and without room the mark is where it was
pub record Recomposed (input : List ℕ) (m : ℕ) (t : List ℕ) (r : Result (Unit {0}) Refusal) (k : ℕ) (u : List ℕ) : Type 0 where
  pub room : m + length input ≤ length t → (r ≡ Ok tt) × (k ≡ m + length input) × (u ≡ paste t m input (length input))
  pub no_room : length t < m + length input → (r ≡ Err NoRoom) × (k ≡ m)
