-- Lists whose elements are bytes: their elements and parts, and the bytes of numbers.
use Rattle.std.proofs.Common.{ℕ, zero, suc, ◌<◌, List, [], ◌∷◌, ◌++◌, length, get_or, take, drop, replicate, mod-lt, arith, lit<, Fits, w8}
use Rattle.xbus.specs.Numbers.{Bytes, be}

pub bytes_all : (xs : List ℕ) → ((k : ℕ) → k < length xs → get_or xs k 0 < 256) → Bytes xs
bytes_all [] h = tt
bytes_all (x ∷ xs) h = (h 0 (omega arith), bytes_all xs (λ k l. h (suc k) (omega arith)))

-- the elements of a list of u8
pub bytes_typed : (xs : List ℕ) → ((k : ℕ) → Fits w8 (get_or xs k 0)) → Bytes xs
bytes_typed xs typed = bytes_all xs (λ k h. (typed k).fits)

pub bytes_at : (xs : List ℕ) (i : ℕ) → Bytes xs → get_or xs i 0 < 256
bytes_at [] i bs = omega arith
bytes_at (x ∷ xs) zero bs = bs.0
bytes_at (x ∷ xs) (suc i) bs = bytes_at xs i bs.1

pub bytes_take : (n : ℕ) (xs : List ℕ) → Bytes xs → Bytes (take n xs)
bytes_take zero xs bs = tt
bytes_take (suc n) [] bs = tt
bytes_take (suc n) (x ∷ xs) bs = (bs.0, bytes_take n xs bs.1)

pub bytes_drop : (n : ℕ) (xs : List ℕ) → Bytes xs → Bytes (drop n xs)
bytes_drop zero xs bs = bs
bytes_drop (suc n) [] bs = tt
bytes_drop (suc n) (x ∷ xs) bs = bytes_drop n xs bs.1

pub bytes_append : (xs ys : List ℕ) → Bytes xs → Bytes ys → Bytes (xs ++ ys)
bytes_append [] ys bs cs = cs
bytes_append (x ∷ xs) ys bs cs = (bs.0, bytes_append xs ys bs.1 cs)

pub bytes_zeros : (n : ℕ) → Bytes (replicate n 0)
bytes_zeros zero = tt
bytes_zeros (suc n) = (omega arith, bytes_zeros n)

pub bytes_be : (k n : ℕ) → Bytes (be k n)
bytes_be zero n = tt
bytes_be (suc k) n = (mod-lt _ (lit< tt), bytes_be k n)
