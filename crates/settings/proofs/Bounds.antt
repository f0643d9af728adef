-- What valid settings hold fits its places in the image.
use Rattle.std.proofs.Common.{◌≡◌, ◌<◌, ◌≤◌, true, length, ⊎_elim, arith}
use lib.Bits.{bit_and}
use Rattle.std.specs.List.{AllByRecursion}
use Rattle.std.proofs.lemmas.Nat.{and_le_r}
use Rattle.std.proofs.ByRecursion.{All-weaker}
use Rattle.std.proofs.lemmas.Bool.{eqb-true}
use Rattle.mti.specs.declared.product.Product.{Product}
use Rattle.mti.specs.declared.product.Product.TheVariants.{Mti3, Mti30, Mti300, MtiG710}
use Rattle.mti.proofs.Digits.{digit_small}
use Rattle.mti.proofs.Rows.{orderly_table}
use Rattle.settings.specs.declared.record.Entry.{Entry}
use Rattle.settings.specs.Values.{Values}
use Rattle.settings.specs.Valid.{first_profile, flag_bits, valid}
use Rattle.settings.specs.Rules.{Offered}
use Rattle.settings.proofs.Divisors.{divides_mod, mod_le}
use Rattle.settings.proofs.Judged.{valid_passed}
use Rattle.settings.proofs.Worded.{entries_each, valid_said}

pub first_below : (p : Product) → first_profile p ≤ 50
first_below Mti3 = omega arith
first_below Mti30 = omega arith
first_below Mti300 = omega arith
first_below MtiG710 = omega arith

flag_bits_below : (p : Product) → flag_bits p < 256
flag_bits_below Mti3 = omega arith
flag_bits_below Mti30 = omega arith
flag_bits_below Mti300 = omega arith
flag_bits_below MtiG710 = omega arith

abbrev pub Fit : Entry → Type 0
Fit e = (e.identifier < 65536) × (e.frequency < 65536)

-- an identifier is a channel's with a digit below 16; a divisor of a maximum is not above it
offered_fit : (p : Product) (e : Entry) → Offered p e → Fit e
offered_fit p e w =
    let c = w.output.channel in
    let r = orderly_table.regular c w.known.row in
    let d = digit_small w.output.precision in
    let hz = mod_le c.max_hz e.frequency r.some_hz (divides_mod _ _ w.divides) in
    let most = mod_le 2000 c.max_hz (omega arith) r.divides in
    (omega (arith, w.known.spelt, r.two_bytes, r.format_0), omega arith)

pub record Fits (c : Values) : Type 0 where
  pub baud : c.baud < 256
  pub profile : c.profile < 256
  pub error_mode : c.error_mode < 65536
  pub location : c.location < 65536
  pub flags : c.flags < 256
  pub few : length c.entries ≤ 32
  pub each : AllByRecursion Fit c.entries

pub fits : (c : Values) → valid c ≡ true → Fits c
fits c v =
    let w = valid_said.sound c v in
    let p = valid_passed c v in
    let e = eqb-true (bit_and c.flags (flag_bits c.product)) c.flags p.framed.flags in
    record {
      baud = ⊎_elim (λ h. omega arith) (λ h. omega arith) w.baud;
      profile = omega (arith, w.profile.1, first_below c.product);
      error_mode = omega (arith, w.error_mode);
      location = w.location;
      flags = omega (arith, and_le_r c.flags (flag_bits c.product), flag_bits_below c.product);
      few = w.few;
      each = All-weaker (Offered c.product) Fit (offered_fit c.product) c.entries (entries_each c.product c.entries p.entries);
    }
