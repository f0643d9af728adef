-- Recorded rows, and what a sensor means that replays them.
use Rattle.std.specs.Prelude.{◌≡◌, ℕ, ◌≤◌, Bool, cond, ◌&&◌, ◌⊎◌, List, ◌∷◌, ◌++◌, ℤ, pos, Some, None, fold, Option, ◌==◌, nat_le, slice_index_or}
use Rattle.std.specs.Option.{option_map, option_flatten}
use Rattle.std.specs.List.{AllByRecursion}
use Rattle.mti.specs.declared.channel.Kind.{Kind}
use Rattle.sensor.specs.declared.records.Row.{Row}
use Rattle.sensor.specs.Questions.{asked_of, Asked}
use Rattle.sensor.specs.Ranges.{clamped_of, Clamped}

-- whether a row is of channel c and not above tick t
abbrev pub counts_at : ℕ → ℕ → Row → Bool
counts_at c t r = r.channel == c && nat_le r.tick t

-- the row, if it counts, or else what was found before it
abbrev pub chosen_of : ℕ → ℕ → Option Row → Row → Option Row
chosen_of c t found r = cond (counts_at c t r) (Some r) found

-- the last row that counts
abbrev pub last_of : ℕ → ℕ → List Row → Option Row
last_of c t rows = fold (chosen_of c t) None rows

-- a row's number at index k
abbrev pub number_at : ℕ → Row → ℤ
number_at k r = slice_index_or r.numbers k (pos 0)

-- the same, clamped to the range of its kind
abbrev pub number_of : Kind → ℕ → Row → ℤ
number_of kind k r = clamped_of kind (number_at k r)

-- the number of the last row that counts
abbrev pub replayed_at : List Row → ℕ → ℕ → ℕ → Kind → Option ℤ
replayed_at rows c k t kind = option_map (number_of kind k) (last_of c t rows)

-- what the recorded rows mean
unfoldable pub recorded_of : List Row → ℕ → ℕ → ℕ → Option ℤ
recorded_of rows c k t = option_flatten (option_map (replayed_at rows c k t) (asked_of c k))

-- in words: a row of the channel that is not above the tick
abbrev pub Counts : ℕ → ℕ → Row → Type 0
Counts c t r = (r.channel ≡ c) × (r.tick ≤ t)

-- no row counts
abbrev pub NoneCounts : ℕ → ℕ → List Row → Type 0
NoneCounts c t rows = AllByRecursion (λ r. Counts c t r → ⊥) rows

-- the row stands in the list, counts, and no row behind it does
pub record Last (c t : ℕ) (rows : List Row) (row : Row) : Type 0 where
  pub before : List Row
  pub after : List Row
  pub splits : rows ≡ before ++ row ∷ after
  pub row_counts : Counts c t row
  pub none_after : NoneCounts c t after

-- no row counts and there is no reading, or the reading is the number of the last row that counts, clamped
abbrev pub LastReading : List Row → ℕ → ℕ → ℕ → Kind → Option ℤ → Type 0
LastReading rows c k t kind reading =
    (NoneCounts c t rows × (reading ≡ None))
    ⊎ ((row : Row) × (v : ℤ) × Last c t rows row × Clamped kind (number_at k row) v × (reading ≡ Some v))

-- a reading of recorded rows
pub record Replayed (rows : List Row) (c k t : ℕ) (reading : Option ℤ) : Type 0 where
  pub not_asked : ((kind : Kind) → Asked c k kind → ⊥) → reading ≡ None
  pub asked : (kind : Kind) → Asked c k kind → LastReading rows c k t kind reading
