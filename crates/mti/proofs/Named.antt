-- What an identifier names, in the words of the table, and the bound of its data size.
use Rattle.std.proofs.Common.{◌≡◌, ℕ, ◌%◌, ◌≤◌, true, Some, None, Option, sym, refl, ap, ◌∙◌, subst, ⊎_elim, arith}
use Rattle.std.specs.Option.{option_map}
use Rattle.std.proofs.lemmas.Bool.{cond_both, cond-true}
use Rattle.mti.specs.declared.channel.Channel.{Channel}
use Rattle.mti.specs.declared.channel.Kind.{Kind}
use Rattle.mti.specs.declared.channel.Kind.TheVariants.{Real, Whole}
use Rattle.mti.specs.declared.output.Output.{Output}
use Rattle.mti.specs.declared.precision.Precision.{Precision}
use Rattle.mti.specs.declared.precision.Precision.TheVariants.{Single, Fixed32, Fixed48, Double}
use Rattle.mti.specs.Channels.{channel_of, taken_by}
use Rattle.mti.specs.Exactly.{Exactly}
use Rattle.mti.specs.Identifiers.{plain, combined, known_of, identifier_of, bytes_of, size_of, data_size_of, Known, KnownSize, Bounded}
use Rattle.mti.specs.Precisions.{digit_of, precision_of}
use Rattle.mti.specs.Table.{Moderate}
use Rattle.mti.proofs.Exact.{exactly, none_not_some}
use Rattle.mti.proofs.Digits.{digit_small, digit_of_found, precision_of_digit}
use Rattle.mti.proofs.Rows.{orderly_table, channel_of_row, row_of_channel}

-- a combination has these parts, and its channel takes its precision
abbrev Made : Option Channel → Option Precision → Output → Type 0
Made c p o = (c ≡ Some o.channel) × (p ≡ Some o.precision) × (taken_by o.channel.kind o.precision ≡ true)

combined_made : (c : Option Channel) (p : Option Precision) (o : Output) → combined c p ≡ Some o → Made c p o
combined_made None p o e = absurd (none_not_some o e)
combined_made (Some c) None o e = absurd (none_not_some o e)
combined_made (Some c) (Some p) o e =
    let q : Output = record { channel = c; precision = p } in
    let P : Option Output → Type 0 = λ r. r ≡ Some o → Made (Some c) (Some p) o in
    cond_both (taken_by c.kind p) (Some q) None P
    (λ t f. let same : q ≡ o = cc in subst (Made (Some c) (Some p)) same (refl, refl, t))
    (λ t f. absurd (none_not_some o f))
    e

pub known_sound : (i : ℕ) (o : Output) → known_of i ≡ Some o → Known i o
known_sound i o e =
    let p = combined_made (channel_of (plain i)) (precision_of (i % 16)) o e in
    let b = row_of_channel (plain i) o.channel p.0 in
    let d = digit_of_found (i % 16) o.precision p.1 in
    record { row = b.0; taken = p.2; spelt = omega (arith, b.1, d) }

pub known_complete : (i : ℕ) (o : Output) → Known i o → known_of i ≡ Some o
known_complete i o k =
    let z = (orderly_table.regular o.channel k.row).format_0 in
    let s = digit_small o.precision in
    let d : i % 16 ≡ digit_of o.precision = omega (arith, k.spelt) in
    let b : plain i ≡ o.channel.identifier = omega (arith, k.spelt) in
    let c = ap channel_of b ∙ channel_of_row o.channel k.row in
    let p = ap precision_of d ∙ precision_of_digit o.precision in
    ap (λ (x : Option Channel). combined x (precision_of (i % 16))) c
    ∙ ap (λ (x : Option Precision). combined (Some o.channel) x) p ∙ cond-true _ _ _ k.taken

pub known_exactly : (i : ℕ) (r : Option Output) → r ≡ known_of i → Exactly (Known i) r
known_exactly i r e =
    exactly (Known i) r (λ o f. known_sound i o (sym e ∙ f)) (λ o k. e ∙ known_complete i o k)

-- the identifier of what is known is the one that it is known by
pub known_identifier : (i : ℕ) (o : Output) → Known i o → identifier_of o ≡ i
known_identifier i o k = let z = (orderly_table.regular o.channel k.row).format_0 in omega (arith, k.spelt)

bytes_bounded : (k : Kind) (p : Precision) → Moderate k → (1 ≤ bytes_of k p) × (bytes_of k p ≤ 72)
bytes_bounded (Real n) Single h = (omega arith, omega arith)
bytes_bounded (Real n) Fixed32 h = (omega arith, omega arith)
bytes_bounded (Real n) Fixed48 h = (omega arith, omega arith)
bytes_bounded (Real n) Double h = (omega arith, omega arith)
bytes_bounded (Whole w) p h =
    ⊎_elim (λ e. (omega arith, omega arith)) (⊎_elim (λ e. (omega arith, omega arith)) (λ e. (omega arith, omega arith))) h

pub known_size_bounded : (i : ℕ) (o : Output) → Known i o → (1 ≤ size_of o) × (size_of o ≤ 72)
known_size_bounded i o k = bytes_bounded o.channel.kind o.precision (orderly_table.regular o.channel k.row).moderate

-- the same, at an answer
pub answer_bounded : (i : ℕ) (r : Option Output) → r ≡ known_of i → Bounded (option_map size_of r)
answer_bounded i None e = tt
answer_bounded i (Some o) e = known_size_bounded i o (known_sound i o (sym e))

size_of_answer : (r : Option Output) (n : ℕ) → option_map size_of r ≡ Some n → (o : Output) × (r ≡ Some o) × (size_of o ≡ n)
size_of_answer None n e = absurd (none_not_some n e)
size_of_answer (Some o) n e = (o, refl, cc)

pub size_exactly : (i : ℕ) (r : Option ℕ) → r ≡ data_size_of i → Exactly (KnownSize i) r
size_exactly i r e =
    exactly (KnownSize i) r
    (λ n f. let a = size_of_answer (known_of i) n (sym e ∙ f) in (a.0, known_sound i a.0 a.1, a.2))
    (λ n k. e ∙ ap (λ (x : Option Output). option_map size_of x) (known_complete i k.0 k.1) ∙ ap (λ (m : ℕ). Some m) k.2)

pub size_bounded : (i : ℕ) (r : Option ℕ) → r ≡ data_size_of i → Bounded r
size_bounded i r e = subst Bounded (sym e) (answer_bounded i (known_of i) refl)
