-- What a sensor that keeps to the ranges gives: whole numbers, and real numbers one behind the other.
use Rattle.std.proofs.Common.{◌≡◌, ℕ, zero, suc, ◌+◌, ◌^◌, ◌<◌, true, List, [], ◌++◌, ℤ, pos, negsuc, nat_abs, Some, None, Option, Ok, Result, ltb, ◌≤◌, ◌*◌, ◌-◌, length, take, drop, sym, refl, ap, ◌∙◌, subst, w64, SFits, Fits, to_z, of_z, append-nil, append_assoc, add-zero, zero-add, add-one, arith}
use Rattle.std.proofs.lemmas.Int.{ints, to_z-of_z}
use Rattle.std.proofs.lemmas.Bool.{cond-false, le-ltb}
use Rattle.std.proofs.lemmas.List.{length-append, length-drop, length-take-le, take_at}
use Rattle.std.proofs.Math.Nat.{mul-le-mul_right}
use borrow.Rule.Slice.PartMut.{put_mid}
use lib.Dec.{T}
use lib.Signed.{non_neg}
use Rattle.mti.specs.declared.channel.Channel.{Channel}
use Rattle.mti.specs.declared.channel.Kind.{Kind}
use Rattle.mti.specs.declared.channel.Kind.TheVariants.{Real, Whole}
use Rattle.mti.specs.declared.precision.Precision.{Precision}
use Rattle.mti.specs.Table.{Bearer}
use Rattle.mti.proofs.Exact.{none_not_some}
use Rattle.mti.specs.Precisions.{width_of}
use Rattle.numbers.specs.Encoding.{in_range, encoded}
use Rattle.numbers.specs.declared.put.NumberError.{NumberError}
use Rattle.numbers.specs.Putting.{putting, put}
use Rattle.numbers.proofs.Bytes.{encoded_length}
use Rattle.sensor.specs.Ranges.{Within, Ranged}
use Rattle.sensor.specs.Questions.{count_of}
use Rattle.session.specs.Model.{Meaning}
use Rattle.session.specs.Sampling.{reals_by, reals_from}

-- ---- whole numbers

-- the channel is one of the table that sends a whole number
abbrev pub SendsWhole : ℕ → Type 0
SendsWhole c = (ch : Channel) × ((w : ℕ) × (Bearer c ch × (ch.kind ≡ Whole w)))

pub whole_within : (m : Meaning) (c t : ℕ) (v : ℤ) → Ranged m → SendsWhole c → t < 2 ^ 32 → Some v ≡ m c 0 t → Within (Whole 0) v
whole_within m c t v r s h e =
    let few : 0 < count_of s.0.kind = subst (λ (k : Kind). 0 < count_of k) (sym s.1.1.1) (omega arith) in
    subst (λ (k : Kind). Within k v) s.1.1.1 (r.in_range c 0 t h s.0 v s.1.1.0 few (sym e))

pub cast_fits : (v : ℤ) → SFits w64 v → Within (Whole 0) v → T (non_neg (to_z w64 (of_z w64 v))) × Fits w64 (nat_abs (to_z w64 (of_z w64 v)))
cast_fits (pos n) f h = rw (to_z-of_z w64 (pos n) f) (tt, omega (arith, ints))
cast_fits (negsuc n) f h = absurd (omega (arith, ints))

pub cast_back : (v : ℤ) → SFits w64 v → Within (Whole 0) v → pos (nat_abs (to_z w64 (of_z w64 v))) ≡ v
cast_back (pos n) f h = ap (λ (z : ℤ). pos (nat_abs z)) (to_z-of_z w64 (pos n) f)
cast_back (negsuc n) f h = absurd (omega (arith, ints))

-- ---- real numbers

-- a reading of a sensor that means what it did before
pub as_before : (m w : Meaning) (c k t : ℕ) (r : Option ℤ) → r ≡ w c k t → w ≡ m → m c k t ≡ r
as_before m w c k t r e same = sym (e ∙ ap (λ (x : Meaning). x c k t) same)

more_by : (p : Precision) (e : List ℕ) (a : Option ℤ) (r s : Option (List ℕ)) (xs : List ℕ) → reals_by p a r ≡ Some xs
    → ((ys : List ℕ) → r ≡ Some ys → s ≡ Some (ys ++ e)) → reals_by p a s ≡ Some (xs ++ e)
more_by p e None r s xs h f = absurd (none_not_some xs h)
more_by p e (Some u) None s xs h f = absurd (none_not_some xs h)
more_by p e (Some u) (Some ys) s xs h f =
    let same : encoded p u ++ ys ≡ xs = cc in
    rw (f ys refl) (ap (λ (zs : List ℕ). Some zs) (sym (append_assoc (encoded p u) ys e) ∙ ap (λ (zs : List ℕ). zs ++ e) same))

-- one index more
pub reals_more : (f : ℕ → Option ℤ) (p : Precision) (k n : ℕ) (xs : List ℕ) (v : ℤ) → reals_from f p k n ≡ Some xs → f (k + n) ≡ Some v
    → reals_from f p k (suc n) ≡ Some (xs ++ encoded p v)
reals_more f p k zero xs v h e =
    let same : [] ≡ xs = cc in
    let at : f k ≡ Some v = ap f (sym (add-zero k)) ∙ e in
    rw at (ap (λ (zs : List ℕ). Some zs) (append-nil (encoded p v) ∙ ap (λ (zs : List ℕ). zs ++ encoded p v) same))
reals_more f p k (suc n) xs v h e =
    let next : k + suc n ≡ k + 1 + n = omega arith in
    more_by p (encoded p v) (f k) (reals_from f p (k + 1) n) (reals_from f p (k + 1) (suc n)) xs h
    (λ ys r. reals_more f p (k + 1) n ys v r (ap f (sym next) ∙ e))

-- ---- a real number that is written

pub real_within : (m : Meaning) (c t k n : ℕ) (ch : Channel) (v : ℤ) → Ranged m → Bearer c ch → ch.kind ≡ Real n → k < n → t < 2 ^ 32
    → Some v ≡ m c k t → Within (Real 0) v
real_within m c t k n ch v r b e h l s =
    let few : k < count_of ch.kind = subst (λ (x : Kind). k < count_of x) (sym e) h in
    subst (λ (x : Kind). Within x v) e (r.in_range c k t l ch v b few (sym s))

-- in range and with room, it is written
pub real_put : (r : Result ℕ NumberError) (p : Precision) (v : ℤ) (i n at : ℕ) (out : List ℕ) → SFits w64 v → Within (Real 0) v → i < n
    → at ≡ i * width_of p → length out ≡ n * width_of p
    → r ≡ putting (length (take (length out - at) (drop at out))) p (to_z w64 (of_z w64 v)) → r ≡ Ok (width_of p)
real_put r p v i n at out f h l a size e =
    let range : in_range v ≡ true = grind (arith, ints) in
    let m : suc i * width_of p ≤ n * width_of p = mul-le-mul_right (width_of p) l in
    let room : ℕ = length (take (length out - at) (drop at out)) in
    let enough : width_of p ≤ room =
    omega (arith, length-take-le (length out - at) (drop at out) (omega (arith, length-drop at out)), length-drop at out) in
    e ∙ ap (putting room p) (to_z-of_z w64 v f) ∙ rw range (cond-false (ltb room (width_of p)) _ _ (le-ltb room (width_of p) enough))

-- its bytes stand behind those before it
real_laid : (out new rest : List ℕ) (at w n : ℕ) (p : Precision) (v : ℤ) → SFits w64 v → at ≤ length out → w ≡ width_of p
    → new ≡ put (Ok w) rest p (to_z w64 (of_z w64 v)) → take (at + w) (put_mid at n out new) ≡ take at out ++ encoded p v
real_laid out new rest at w n p v f h e is =
    let front : List ℕ = take at out in
    let more : List ℕ = drop w rest in
    let end : List ℕ = drop n (drop at out) in
    let l : length (front ++ encoded p v) ≡ at + w =
    length-append front (encoded p v) ∙ omega (arith, length-take-le at out h, encoded_length p v) in
    ap (λ (zs : List ℕ). take (at + w) (front ++ (zs ++ end))) (is ∙ ap (λ (z : ℤ). encoded p z ++ more) (to_z-of_z w64 v f))
    ∙ ap (λ (zs : List ℕ). take (at + w) (front ++ zs)) (append_assoc (encoded p v) more end)
    ∙ ap (take (at + w)) (sym (append_assoc front (encoded p v) (more ++ end)))
    ∙ take_at (front ++ encoded p v) (more ++ end) (at + w) l

-- one real number more
pub real_step : (f : ℕ → Option ℤ) (p : Precision) (k at w n : ℕ) (out new rest : List ℕ) (r : Result ℕ NumberError) (v : ℤ) → SFits w64 v
    → reals_from f p 0 k ≡ Some (take at out) → f k ≡ Some v → at ≤ length out → w ≡ width_of p → r ≡ Ok w
    → new ≡ put r rest p (to_z w64 (of_z w64 v)) → reals_from f p 0 (k + 1) ≡ Some (take (at + w) (put_mid at n out new))
real_step f p k at w n out new rest r v fits so_far there inside width ok is =
    let more = reals_more f p 0 k (take at out) v so_far (ap f (zero-add k) ∙ there) in
    let laid = real_laid out new rest at w n p v fits inside width (is ∙ ap (λ (x : Result ℕ NumberError). put x rest p (to_z w64 (of_z w64 v))) ok) in
    ap (reals_from f p 0) (add-one k) ∙ more ∙ ap (λ (zs : List ℕ). Some zs) (sym laid)
