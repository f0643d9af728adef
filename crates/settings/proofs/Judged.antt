-- The test of settings, by its parts.
use Rattle.std.proofs.Common.{◌≡◌, Bool, true, false, ltb, leb, List, length, Some, None, Option, sym, ap, ◌∙◌, ⊎_elim}
use Rattle.std.specs.Option.{MatchOption}
use Rattle.std.proofs.lemmas.Bool.{and_parts, cases_Bool}
use Rattle.mti.specs.declared.product.Product.{Product}
use Rattle.mti.specs.declared.output.Output.{Output}
use Rattle.mti.specs.Identifiers.{known_of}
use Rattle.settings.specs.declared.record.Entry.{Entry}
use Rattle.settings.specs.Values.{Values}
use Rattle.settings.specs.Valid.{valid_baud, valid_profile, valid_flags, suits, valid_entry, valid_entries, valid}

-- each test is passed but that of the entries
pub record Framed (c : Values) : Type 0 where
  pub baud : valid_baud c.baud ≡ true
  pub profile : valid_profile c.product c.profile ≡ true
  pub error_mode : leb c.error_mode 3 ≡ true
  pub location : ltb c.location 65536 ≡ true
  pub flags : valid_flags c.product c.flags ≡ true
  pub few : leb (length c.entries) 32 ≡ true

pub record Passed (c : Values) : Type 0 where
  pub framed : Framed c
  pub entries : valid_entries c.product c.entries ≡ true

pub valid_passed : (c : Values) → valid c ≡ true → Passed c
unfolding valid
valid_passed c v =
    let p1 = and_parts (valid_baud c.baud) _ v in
    let p2 = and_parts (valid_profile c.product c.profile) _ p1.1 in
    let p3 = and_parts (leb c.error_mode 3) _ p2.1 in
    let p4 = and_parts (ltb c.location 65536) _ p3.1 in
    let p5 = and_parts (valid_flags c.product c.flags) _ p4.1 in
    let p6 = and_parts (leb (length c.entries) 32) _ p5.1 in
    record {
      framed = record { baud = p1.0; profile = p2.0; error_mode = p3.0; location = p4.0; flags = p5.0; few = p6.0 };
      entries = p6.1;
    }

-- then the entries decide
pub framed_valid : (c : Values) → Framed c → valid_entries c.product c.entries ≡ valid c
unfolding valid
framed_valid c f = rw (f.baud, f.profile, f.error_mode, f.location, f.flags, f.few)

-- wherever they stand
pub framed_by : (c : Values) (es : List Entry) (r : Bool) → r ≡ valid_entries c.product es → es ≡ c.entries → Framed c → r ≡ valid c
framed_by c es r t e f = t ∙ ap (valid_entries c.product) e ∙ framed_valid c f

pub refused : (c : Values) → (Passed c → ⊥) → false ≡ valid c
refused c wrong =
    ⊎_elim (λ (y : valid c ≡ true). absurd (wrong (valid_passed c y))) (λ (n : valid c ≡ false). sym n) (cases_Bool (valid c))

-- an entry by what its identifier names
pub entry_test : (p : Product) (e : Entry) (o : Option Output) → o ≡ known_of e.identifier → suits p e.frequency o ≡ valid_entry p e
unfolding valid_entry
entry_test p e o k = ap (suits p e.frequency) k

-- by what a test of the output says where there is one
pub entry_judged : (p : Product) (e : Entry) (o : Option Output) (r : Bool) (Said : Output → Type 0) → o ≡ known_of e.identifier
    → MatchOption o (r ≡ false) Said → ((x : Output) → Said x → r ≡ suits p e.frequency (Some x)) → r ≡ valid_entry p e
entry_judged p e None r Said k m h = m ∙ entry_test p e None k
entry_judged p e (Some o) r Said k m h = h o m ∙ entry_test p e (Some o) k
