-- What stands where in the Configuration message, and the sizes of answers.
use Rattle.std.proofs.Common.{◌≡◌, ℕ, zero, suc, ◌+◌, ◌-◌, ◌*◌, ◌<◌, ◌≤◌, Bool, true, ◌&&◌, ltb, List, [], ◌∷◌, ◌++◌, length, get_or, replicate, refl, ◌∙◌, subst, ⊎_elim, arith}
use Rattle.std.proofs.lemmas.List.{get_or_append_left, get_or-append_right, get_or_past}
use Rattle.std.proofs.lemmas.Bool.{and_parts, ltb-true, cases_lt}
use Rattle.mti.specs.declared.product.Product.{Product}
use Rattle.mti.specs.declared.product.Product.TheVariants.{Mti3, Mti30, Mti300, MtiG710}
use Rattle.xbus.specs.Numbers.{Bytes, be}
use Rattle.xbus.proofs.Bytes.{bytes_append, bytes_zeros, bytes_be}
use Rattle.xbus.proofs.Widths.{be_back}
use Rattle.settings.specs.declared.record.Entry.{Entry}
use Rattle.settings.specs.Values.{Values}
use Rattle.settings.specs.Rules.{Valid}
use Rattle.settings.proofs.Bounds.{first_below}
use Rattle.settings.proofs.Worded.{valid_said}
use Rattle.decision.specs.declared.actions.Question.{Question}
use Rattle.decision.specs.declared.actions.Question.TheVariants as question
use Rattle.config.specs.Answered.{name_of, output_bytes, data_bytes, configured, configuration_of, by_question, answer_of}
use Rattle.config.specs.Told.{Beside, ConfigurationSaid, AnswerBound}
use Rattle.config.proofs.Sizes.{data_few}

-- ---- zeros

-- none of the places of the numbers
abbrev Free : ℕ → Type 0
Free k = Beside 0 4 k × Beside 96 2 k × Beside 98 4 k × Beside 102 2 k

-- what stands from a place on is zero but for the numbers
abbrev Zero : ℕ → List ℕ → Type 0
Zero at xs = (k : ℕ) → Free (at + k) → get_or xs k 0 ≡ 0

zero_append : (at n : ℕ) (xs ys : List ℕ) → at + length xs ≡ n → Zero at xs → Zero n ys → Zero at (xs ++ ys)
zero_append at n xs ys e f g k free =
    ⊎_elim (λ l. get_or_append_left xs ys 0 k l ∙ f k free)
    (λ l.
    let m : at + k ≡ n + (k - length xs) = omega arith in
    get_or-append_right xs ys (length xs) k 0 refl l ∙ g (k - length xs) (subst Free m free))
    (cases_lt k (length xs))

zero_zeros : (at n : ℕ) → Zero at (replicate n 0)
zero_zeros at zero k free = refl
zero_zeros at (suc n) zero free = refl
zero_zeros at (suc n) (suc k) free = zero_zeros (suc at) n k (subst Free (omega arith) free)

zero_number : (at : ℕ) (xs : List ℕ) → ((k : ℕ) → k < length xs → Free (at + k) → ⊥) → Zero at xs
zero_number at xs taken k free =
    ⊎_elim (λ l. absurd (taken k l free)) (λ l. get_or_past xs k 0 l) (cases_lt k (length xs))

-- the parts, one after the other

abbrev first96 : ℕ → List ℕ
first96 id = be 4 id ++ replicate 92 0

abbrev first98 : ℕ → List ℕ
first98 id = first96 id ++ be 2 1

abbrev first102 : ℕ → List ℕ
first102 id = first98 id ++ be 4 id

abbrev first104 : ℕ → ℕ → List ℕ
first104 id size = first102 id ++ be 2 size

zeros_beside : (id size : ℕ) → Zero 0 (configured id size)
zeros_beside id size =
    zero_append 0 104 (first104 id size) (replicate 14 0) refl
    (zero_append 0 102 (first102 id) (be 2 size) refl
    (zero_append 0 98 (first98 id) (be 4 id) refl
    (zero_append 0 96 (first96 id) (be 2 1) refl
    (zero_append 0 4 (be 4 id) (replicate 92 0) refl (zero_number 0 (be 4 id) (λ k l f. f.0 (omega arith) (omega arith))) (zero_zeros 4 92))
    (zero_number 96 (be 2 1) (λ k l f. f.1 (omega arith) (omega arith))))
    (zero_number 98 (be 4 id) (λ k l f. f.2 (omega arith) (omega arith))))
    (zero_number 102 (be 2 size) (λ k l f. f.3 (omega arith) (omega arith))))
    (zero_zeros 104 14)

pub configuration_said : ConfigurationSaid
unfolding configuration_of
configuration_said = record {
  size = λ id c. refl;
  device = λ id c h. be_back 4 id h;
  devices = λ id c. refl;
  device_again = λ id c h. be_back 4 id h;
  all_data = λ id c v.
      let few = (valid_said.sound c v).few in
      be_back 2 (data_bytes c.entries) (omega (arith, data_few c.entries));
  zeros = λ id c k a b d e. zeros_beside id (data_bytes c.entries) k (let z : k ≡ 0 + k = omega arith in subst Free z (a, b, d, e));
}

-- ---- answers

abbrev small : List ℕ → Bool
small [] = true
small (x ∷ xs) = ltb x 256 && small xs

bytes_small : (xs : List ℕ) → small xs ≡ true → Bytes xs
bytes_small [] t = tt
bytes_small (x ∷ xs) t = let p = and_parts (ltb x 256) _ t in (ltb-true _ _ p.0, bytes_small xs p.1)

bytes_name : (p : Product) → (length (name_of p) ≤ 128) × Bytes (name_of p)
bytes_name Mti3 = (omega arith, bytes_small (name_of Mti3) refl)
bytes_name Mti30 = (omega arith, bytes_small (name_of Mti30) refl)
bytes_name Mti300 = (omega arith, bytes_small (name_of Mti300) refl)
bytes_name MtiG710 = (omega arith, bytes_small (name_of MtiG710) refl)

length_outputs : (es : List Entry) → length (output_bytes es) ≡ 4 * length es
length_outputs [] = refl
length_outputs (e ∷ es) = omega (arith, length_outputs es)

bytes_outputs : (es : List Entry) → Bytes (output_bytes es)
bytes_outputs [] = tt
bytes_outputs (e ∷ es) =
    bytes_append (be 2 e.identifier ++ be 2 e.frequency) (output_bytes es)
    (bytes_append (be 2 e.identifier) (be 2 e.frequency) (bytes_be 2 e.identifier) (bytes_be 2 e.frequency))
    (bytes_outputs es)

bytes_configured : (id size : ℕ) → Bytes (configured id size)
bytes_configured id size =
    bytes_append (first104 id size) (replicate 14 0)
    (bytes_append (first102 id) (be 2 size)
    (bytes_append (first98 id) (be 4 id)
    (bytes_append (first96 id) (be 2 1) (bytes_append (be 4 id) (replicate 92 0) (bytes_be 4 id) (bytes_zeros 92)) (bytes_be 2 1))
    (bytes_be 4 id))
    (bytes_be 2 size))
    (bytes_zeros 14)

-- each answer of valid settings has few bytes, and they are bytes
answered : (id : ℕ) (c : Values) (q : Question) → Valid c → (length (by_question id c q) ≤ 128) × Bytes (by_question id c q)
unfolding configuration_of
answered id c question.DeviceId v = (omega arith, bytes_be 4 id)
answered id c question.Name v = bytes_name c.product
answered id c question.Firmware v = (omega arith, bytes_small (1 ∷ replicate 10 0) refl)
answered id c question.Configuration v = (omega arith, bytes_configured id (data_bytes c.entries))
answered id c question.Baud v = (omega arith, (⊎_elim (λ h. omega arith) (λ h. omega arith) v.baud, tt))
answered id c question.ErrorMode v = (omega arith, bytes_be 2 c.error_mode)
answered id c question.Location v = (omega arith, bytes_be 2 c.location)
answered id c question.Profile v = (omega arith, (omega arith, (omega (arith, v.profile.1, first_below c.product), tt)))
answered id c question.Flags v = (omega arith, bytes_be 4 c.flags)
answered id c question.Outputs v = (omega (arith, length_outputs c.entries, v.few), bytes_outputs c.entries)

pub answer_bound : AnswerBound
unfolding answer_of
answer_bound = record {
  few = λ id c q v. (answered id c q (valid_said.sound c v)).0;
  bytes = λ id c q v. (answered id c q (valid_said.sound c v)).1;
}
