-- An interval divides a phase exactly if a second's ticks divide the phase times the frequency.
use Rattle.std.proofs.Common.{◌≡◌, ℕ, zero, suc, ◌+◌, ◌*◌, ◌/◌, ◌%◌, ◌<◌, eqb, sym, ap, ap₂, ◌∙◌, zero-mul, add-zero, mul_comm, arith}
use native.Mathlib.Nat.{mul-div_left, mul-mod_left}
use lib.Arith.{mod-mul}
use Rattle.std.proofs.lemmas.Bool.{ne_eqb}
use Rattle.settings.specs.Rates.{Divides}
use Rattle.settings.proofs.Divisors.{divisor_pos}
use Rattle.samples.proofs.message.due.Goals as goal

scaled : (n f : ℕ) → 0 < f → eqb (n * f) 0 ≡ eqb n 0
scaled zero f h = ap (λ m. eqb m 0) (zero-mul f)
scaled (suc n) f h = ne_eqb _ _ (λ e. omega (arith, e)) ∙ sym (ne_eqb _ _ (λ e. omega (arith, e)))

-- of q intervals of f ticks each, so many are left over
rest : (n q f : ℕ) → 0 < q → 0 < f → n * f % (q * f) ≡ n % q * f
rest n q f p h =
    mod-mul (n * f) {m = q} {c = f} p h ∙ ap (λ m. n * f / f % q * f + m) (mul-mod_left n f) ∙ add-zero _
    ∙ ap (λ m. m % q * f) (mul-div_left n h)

due_by : (n f : ℕ) → Divides f 2000 → eqb (n * f % 2000) 0 ≡ eqb (n % (2000 / f)) 0
due_by n f (q, e) =
    let h : 0 < f = divisor_pos 2000 f (omega arith) (q, e) in
    let p : 0 < q = divisor_pos 2000 q (omega arith) (f, mul_comm f q ∙ e) in
    let w : 2000 / f ≡ q = ap (λ m. m / f) (sym e) ∙ mul-div_left q h in
    ap (λ m. eqb (n * f % m) 0) (sym e) ∙ ap (λ m. eqb m 0) (rest n q f p h) ∙ scaled (n % q) f h ∙ ap (λ m. eqb (n % m) 0) (sym w)

pub returns : goal.returns
returns c =
    ap₂ (λ m n. eqb (m * n % 2000) 0) c.from.ensures c.from-2.ensures ∙ due_by c.args.phase c.args.entry.frequency c.requires
