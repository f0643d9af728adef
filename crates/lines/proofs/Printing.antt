-- What is printed reads back.
use Rattle.std.proofs.Common.{◌≡◌, ℕ, ◌/◌, ◌%◌, ◌<◌, List, [], ◌∷◌, ◌++◌, map, get_or, Some, Result, Ok, Err, IsUtf8, refl, ap, ◌∙◌, arith}
use Rattle.std.specs.List.{AllByRecursion}
use Rattle.std.specs.Result.{MatchResult, IsOk}
use Rattle.std.proofs.ByRecursion.{IsAscii-from_all}
use Rattle.std.proofs.lemmas.Str.{IsUtf8-from_ascii}
use Rattle.std.proofs.lemmas.Bool.{ne_eqb}
use Rattle.std.proofs.lemmas.Bool.Decides.{nat_tests}
use Rattle.lines.specs.Cuts.{before, from}
use Rattle.lines.specs.Words.{past_spaces, word_at, words_of}
use Rattle.lines.specs.Bytes.{hex_digit, digits_of, joined_to, bytes_in, printed, ReadsBack, CommandReadsBack}
use Rattle.lines.proofs.Pairs.{byte_of_digits}
use Rattle.lines.proofs.WordParts.{words_first}

-- ---- a word in front of a space or the end

before_word : (word rest : List ℕ) → AllByRecursion (λ x. x ≡ 32 → ⊥) word → before 32 rest ≡ [] → before 32 (word ++ rest) ≡ word
before_word [] rest a e = e
before_word (x ∷ word) rest a e = rw (ne_eqb x 32 a.0) (ap (λ l. x ∷ l) (before_word word rest a.1 e))

from_word : (word rest : List ℕ) → AllByRecursion (λ x. x ≡ 32 → ⊥) word → from 32 rest ≡ rest → from 32 (word ++ rest) ≡ rest
from_word [] rest a e = e
from_word (x ∷ word) rest a e = rw (ne_eqb x 32 a.0) (from_word word rest a.1 e)

before_printed : (xs : List ℕ) → before 32 (printed xs) ≡ []
before_printed [] = refl
before_printed (x ∷ xs) = refl

from_printed : (xs : List ℕ) → from 32 (printed xs) ≡ printed xs
from_printed [] = refl
from_printed (x ∷ xs) = refl

pub command_reads_back : CommandReadsBack
command_reads_back [] xs h a = absurd (omega arith)
command_reads_back (x ∷ word) xs h a =
    let b = before_word (x ∷ word) (printed xs) a (before_printed xs) in
    let f = from_word (x ∷ word) (printed xs) a (from_printed xs) in
    ap word_at (past x (word ++ printed xs) a.0) ∙ (λ i. Some (b i, f i))
  where
    past : (y : ℕ) (ys : List ℕ) → (y ≡ 32 → ⊥) → past_spaces (y ∷ ys) ≡ y ∷ ys
    past y ys n = rw (ne_eqb y 32 n) refl

-- ---- bytes

digit_no_space : (n : ℕ) → hex_digit n ≡ 32 → ⊥
digit_no_space n e = grind (arith, nat_tests)

words_printed : (xs : List ℕ) → words_of (printed xs) ≡ map digits_of xs
words_printed [] = refl
words_printed (x ∷ xs) =
    let no : AllByRecursion (λ y. y ≡ 32 → ⊥) (digits_of x) = (digit_no_space (x / 16), (digit_no_space (x % 16), tt)) in
    let b = before_word (digits_of x) (printed xs) no (before_printed xs) in
    let f = from_word (digits_of x) (printed xs) no (from_printed xs) in
    words_first (hex_digit (x / 16)) (hex_digit (x % 16) ∷ printed xs) (ne_eqb _ 32 (digit_no_space (x / 16)))
    ∙ (λ i. b i ∷ (ap words_of f ∙ words_printed xs) i)

bytes_of_digits : (xs : List ℕ) → AllByRecursion (λ x. x < 256) xs → bytes_in (map digits_of xs) ≡ Some xs
bytes_of_digits [] a = refl
bytes_of_digits (x ∷ xs) a = λ i. joined_to (byte_of_digits x a.0 i) (bytes_of_digits xs a.1 i)

pub reads_back : ReadsBack
reads_back xs a = ap bytes_in (words_printed xs) ∙ bytes_of_digits xs a

-- ---- what is appended

digit_ascii : (n : ℕ) → n < 16 → hex_digit n < 128
digit_ascii n h = grind (arith, nat_tests)

pub digits_ascii : (ds : List ℕ) (b : ℕ) → b < 256 → ds ≡ digits_of b → (get_or ds 0 0 < 128) × (get_or ds 1 0 < 128)
digits_ascii ds b h e = rw e (digit_ascii (b / 16) (omega arith), digit_ascii (b % 16) (omega arith))

pub three_text : (x y z : ℕ) → x < 128 → y < 128 → z < 128 → IsUtf8 (x ∷ y ∷ z ∷ [])
three_text x y z p q r = IsUtf8-from_ascii (x ∷ y ∷ z ∷ []) (IsAscii-from_all (x ∷ y ∷ z ∷ []) (p, (q, (r, tt))))

-- what is read, and is text, is no error
pub text_is_read : {T E U : Type 0} (P : T → Type 0) (Q : E → Type 0) (r : Result T E) → MatchResult r P (λ e. (U → ⊥) × Q e) → U → IsOk r
text_is_read P Q (Ok x) m u = refl
text_is_read P Q (Err e) m u = absurd (m.0 u)
