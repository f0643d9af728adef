-- What the crates below give: settings are valid and stay so, and what is sent of them is bytes of a frame's size.
use Rattle.std.proofs.Common.{◌≡◌, ℕ, ◌≤◌, true, List, length, Some, refl, subst, arith}
use Rattle.mti.specs.declared.product.Product.{Product}
use Rattle.xbus.specs.Numbers.{Bytes}
use Rattle.decision.specs.declared.actions.Question.{Question}
use Rattle.decision.specs.declared.actions.Question.TheVariants as question
use Rattle.decision.specs.Asked.{Changing, Baud, ErrorMode, Location, Profile, Flags, Outputs, Factory}
use Rattle.settings.specs.Values.{Values}
use Rattle.settings.specs.Valid.{valid}
use Rattle.settings.specs.Factory.{factory_of}
use Rattle.settings.specs.Image.{image_of, load_of}
pub use Rattle.settings.proofs.FromFactory.{factory_valid}
use Rattle.settings.proofs.Stores.{stored_said}
use Rattle.config.specs.Changed.{with_baud, with_profile, with_error_mode, with_location, with_flags, new_flags, changed_of}
use Rattle.config.specs.Answered.{answer_of, configuration_of, output_bytes}
use Rattle.config.proofs.Edits.{checked_some}
use Rattle.config.proofs.Fittings.{outputs_sound}
use Rattle.config.proofs.Layouts.{configuration_said, answer_bound}

pub changed_valid : (s t : Values) (ch : Changing) → changed_of s ch ≡ Some t → valid t ≡ true
unfolding changed_of
changed_valid s t (Baud v) e = (checked_some (with_baud s v) t e).1
changed_valid s t (ErrorMode v) e = (checked_some (with_error_mode s v) t e).1
changed_valid s t (Location v) e = (checked_some (with_location s v) t e).1
changed_valid s t (Profile v) e = (checked_some (with_profile s v) t e).1
changed_valid s t (Flags v w) e = (checked_some (with_flags s (new_flags s.flags v w)) t e).1
changed_valid s t (Outputs xs) e = (outputs_sound s xs t e).1
changed_valid s t Factory e =
    let f : factory_of s.product ≡ t = cc in
    subst (λ (x : Values). valid x ≡ true) f (factory_valid s.product)

pub factory_product : (p : Product) → (factory_of p).product ≡ p
unfolding factory_of
factory_product p = refl

pub loaded_valid : (p : Product) (xs : List ℕ) (s : Values) → load_of p xs ≡ Some s → valid s ≡ true
loaded_valid p xs s e = (stored_said.exact p s xs e).valid

pub loaded_product : (p : Product) (xs : List ℕ) (s : Values) → load_of p xs ≡ Some s → s.product ≡ p
loaded_product p xs s e = (stored_said.exact p s xs e).product

pub load_back : (s : Values) → valid s ≡ true → load_of s.product (image_of s) ≡ Some s
load_back s v = stored_said.back s.product s (image_of s) (record { product = refl; valid = v; image = refl })

pub answer_bytes : (id : ℕ) (s : Values) (q : Question) → valid s ≡ true → Bytes (answer_of id s q)
answer_bytes id s q v = answer_bound.bytes id s q v

pub answer_short : (id : ℕ) (s : Values) (q : Question) → valid s ≡ true → length (answer_of id s q) ≤ 2048
answer_short id s q v = omega (arith, answer_bound.few id s q v)

-- the Configuration message and the list of outputs are answers too

pub configuration_bytes : (id : ℕ) (s : Values) → valid s ≡ true → Bytes (configuration_of id s)
unfolding answer_of
configuration_bytes id s v = answer_bound.bytes id s question.Configuration v

pub configuration_short : (id : ℕ) (s : Values) → length (configuration_of id s) ≤ 2048
configuration_short id s = omega (arith, configuration_said.size id s)

pub outputs_bytes : (s : Values) → valid s ≡ true → Bytes (output_bytes s.entries)
unfolding answer_of
outputs_bytes s v = answer_bound.bytes 0 s question.Outputs v

pub outputs_short : (s : Values) → valid s ≡ true → length (output_bytes s.entries) ≤ 2048
unfolding answer_of
outputs_short s v = omega (arith, answer_bound.few 0 s question.Outputs v)
