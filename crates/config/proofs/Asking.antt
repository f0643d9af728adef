-- Asking for what was set, and for the rest.
use Rattle.std.proofs.Common.{◌≡◌, ℕ, ◌/◌, ◌%◌, List, [], ◌∷◌, ◌++◌, Some, refl, ap, ◌∙◌, div-one}
use Rattle.std.specs.List.{flat_map}
use Rattle.mti.specs.declared.product.Product.{Product}
use Rattle.mti.specs.declared.product.Product.TheVariants.{Mti3, Mti30, Mti300, MtiG710}
use Rattle.xbus.specs.Numbers.{be}
use Rattle.settings.specs.declared.record.Entry.{Entry}
use Rattle.settings.specs.Values.{Values}
use Rattle.decision.specs.Asked.{Changing, Baud, ErrorMode, Location, Profile, Flags, Outputs, Factory}
use Rattle.decision.specs.declared.actions.Question.{Question}
use Rattle.decision.specs.declared.actions.Question.TheVariants as question
use Rattle.config.specs.Changed.{with_baud, with_profile, with_error_mode, with_location, with_flags, new_flags, changed_of}
use Rattle.config.specs.Answered.{name_of, output_bytes, by_question, answer_of}
use Rattle.config.specs.Told.{spelled, entry_sent, Apart, AskedSaid}
use Rattle.config.proofs.Edits.{checked_some}
use Rattle.config.proofs.Exacts.{changed_said}
use Rattle.config.proofs.Fittings.{outputs_sound}
use Rattle.config.proofs.Staying.{baud_apart, error_mode_apart, location_apart, profile_apart, flags_apart, outputs_apart}

name_spelled : (p : Product) → name_of p ≡ spelled p
name_spelled Mti3 = refl
name_spelled Mti30 = refl
name_spelled Mti300 = refl
name_spelled MtiG710 = refl

outputs_sent : (es : List Entry) → output_bytes es ≡ flat_map entry_sent es
outputs_sent [] = refl
outputs_sent (e ∷ es) = ap (λ l. be 2 e.identifier ++ be 2 e.frequency ++ l) (outputs_sent es)

-- the answer of the settings that a change made
abbrev asked : ℕ → Question → Values → List ℕ
asked id q d = by_question id d q

stays : (id : ℕ) (c d : Values) (x : Changing) (q : Question) → changed_of c x ≡ Some d → Apart x q → by_question id d q ≡ by_question id c q
unfolding changed_of
stays id c d (Baud v) q e h = ap (asked id q) (checked_some (with_baud c v) d e).0 ∙ baud_apart id v c q h
stays id c d (ErrorMode v) q e h = ap (asked id q) (checked_some (with_error_mode c v) d e).0 ∙ error_mode_apart id v c q h
stays id c d (Location v) q e h = ap (asked id q) (checked_some (with_location c v) d e).0 ∙ location_apart id v c q h
stays id c d (Profile v) q e h = ap (asked id q) (checked_some (with_profile c v) d e).0 ∙ profile_apart id v c q h
stays id c d (Flags s k) q e h =
    let n : ℕ = new_flags c.flags s k in
    ap (asked id q) (checked_some (with_flags c n) d e).0 ∙ flags_apart id n c q h
stays id c d (Outputs xs) q e h =
    let p = outputs_sound c xs d e in
    ap (asked id q) p.0.2 ∙ outputs_apart id p.0.0 c q h
stays id c d Factory q e h = absurd h

pub asked_said : AskedSaid
unfolding answer_of changed_of
asked_said = record {
  device_id = λ id c. ap (λ n. id / 16777216 % 256 ∷ id / 65536 % 256 ∷ id / 256 % 256 ∷ n % 256 ∷ []) (div-one id);
  name = λ id c. name_spelled c.product;
  firmware = λ id c. refl;
  baud = λ id v c d e. ap (asked id question.Baud) (checked_some (with_baud c v) d e).0;
  error_mode = λ id v c d e. ap (asked id question.ErrorMode) (checked_some (with_error_mode c v) d e).0;
  location = λ id v c d e. ap (asked id question.Location) (checked_some (with_location c v) d e).0;
  profile = λ id v c d e. ap (asked id question.Profile) (checked_some (with_profile c v) d e).0;
  flags = λ id s k c d v h e.
      let p = (changed_said.exact c (Flags s k) v h).sound d e in
      (p.0.0, p.0.1, ap (asked id question.Flags) p.0.2);
  outputs = λ id xs c d e.
      let p = outputs_sound c xs d e in
      (p.0.0, p.0.1, ap (asked id question.Outputs) p.0.2 ∙ outputs_sent p.0.0);
  stays = stays;
}
