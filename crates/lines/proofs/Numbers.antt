-- Decimal digits read one by one from the front.
use Rattle.std.proofs.Common.{◌≡◌, ℕ, ◌+◌, ◌-◌, ◌*◌, ◌^◌, ◌<◌, ◌≤◌, true, false, ◌&&◌, ◌⊎◌, List, [], ◌∷◌, length, get_or, drop, Some, None, decimal, sym, refl, ap, ◌∙◌, inl, inr, ⊎_elim, arith, rules}
use Rattle.std.specs.Char.{is_ascii_digit}
use Rattle.std.specs.Str.{all_ascii_digits}
use Rattle.std.proofs.lemmas.List.{at_drop_more}
use Rattle.std.proofs.lemmas.Bool.{lt-ltb, le-ltb, and_right}
use Rattle.std.proofs.lemmas.Bool.Decides.{nat_tests}
use Rattle.std.proofs.lemmas.Str.Parse.{IsNumeralModel, numerals_by_fold}
use Rattle.std.proofs.lemmas.Fmt.{decimal_nonempty, digits_decimal, digits_value-decimal}
use Rattle.lines.specs.Decimals.{value_after, with_digit, decimal_of, DecimalReadsBack}

with_digit_none : (n c : ℕ) → with_digit n c ≡ None → (is_ascii_digit c ≡ false) ⊎ (2 ^ 64 ≤ 10 * n + (c - 48))
with_digit_none n c e = grind (arith, nat_tests)

value_ge : (n : ℕ) (cs : List ℕ) → n ≤ value_after n cs
value_ge n [] = omega arith
value_ge n (c ∷ cs) = omega (arith, value_ge (10 * n + (c - 48)) cs)

no_number : (word : List ℕ) → (all_ascii_digits word ≡ false) ⊎ (2 ^ 64 ≤ value_after 0 word) → None ≡ decimal_of word
no_number [] o = refl
no_number (c ∷ cs) o =
    ⊎_elim (λ e. rw e refl) (λ h. rw (and_right (all_ascii_digits (c ∷ cs)) _ (le-ltb (value_after 0 (c ∷ cs)) (2 ^ 64) h)) refl) o

pub digit_fails : (word : List ℕ) (i n : ℕ) → i < length word → with_digit n (get_or word i 0) ≡ None → value_after n (drop i word) ≡ value_after 0 word → all_ascii_digits (drop i word) ≡ all_ascii_digits word → None ≡ decimal_of word
digit_fails word i n h e v d =
    no_number word
    (⊎_elim
    (λ f. inl (sym d ∙ at_drop_more all_ascii_digits word i 0 h ∙ ap (λ t. t && all_ascii_digits (drop (i + 1) word)) f))
    (λ f.
    let w : value_after n (drop i word) ≡ value_after (10 * n + (get_or word i 0 - 48)) (drop (i + 1) word) = at_drop_more (value_after n) word i 0 h in
    inr (omega (arith, value_ge (10 * n + (get_or word i 0 - 48)) (drop (i + 1) word))))
    (with_digit_none n (get_or word i 0) e))

pub all_read : (word : List ℕ) (n : ℕ) → 0 < length word → value_after 0 word ≡ n → all_ascii_digits word ≡ true → n < 2 ^ 64 → decimal_of word ≡ Some n
all_read [] n h v d l = absurd (omega arith)
all_read (c ∷ cs) n h v d l = rw (d, v, lt-ltb n (2 ^ 64) l) refl

own : IsNumeralModel (λ ds. all_ascii_digits ds ≡ true) (value_after 0)
own = numerals_by_fold _ (search rules) value_after (search rules)

pub decimal_reads_back : DecimalReadsBack
decimal_reads_back n h = all_read (decimal n) n (decimal_nonempty n h) (digits_value-decimal own n h) (digits_decimal own n h) h
