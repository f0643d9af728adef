-- What a change does not set is answered as before.
use Rattle.std.proofs.Common.{◌≡◌, ℕ, List, refl}
use Rattle.settings.specs.declared.record.Entry.{Entry}
use Rattle.settings.specs.Values.{Values}
use Rattle.decision.specs.declared.actions.Question.{Question}
use Rattle.decision.specs.declared.actions.Question.TheVariants as question
use Rattle.config.specs.Changed.{with_baud, with_profile, with_error_mode, with_location, with_flags, with_entries}
use Rattle.config.specs.Answered.{configuration_of, by_question}

pub baud_apart : (id v : ℕ) (c : Values) (q : Question) → (q ≡ question.Baud → ⊥) → by_question id (with_baud c v) q ≡ by_question id c q
unfolding configuration_of
baud_apart id v c question.DeviceId h = refl
baud_apart id v c question.Name h = refl
baud_apart id v c question.Firmware h = refl
baud_apart id v c question.Configuration h = refl
baud_apart id v c question.Baud h = absurd (h refl)
baud_apart id v c question.ErrorMode h = refl
baud_apart id v c question.Location h = refl
baud_apart id v c question.Profile h = refl
baud_apart id v c question.Flags h = refl
baud_apart id v c question.Outputs h = refl

pub error_mode_apart : (id v : ℕ) (c : Values) (q : Question) → (q ≡ question.ErrorMode → ⊥) → by_question id (with_error_mode c v) q ≡ by_question id c q
unfolding configuration_of
error_mode_apart id v c question.DeviceId h = refl
error_mode_apart id v c question.Name h = refl
error_mode_apart id v c question.Firmware h = refl
error_mode_apart id v c question.Configuration h = refl
error_mode_apart id v c question.Baud h = refl
error_mode_apart id v c question.ErrorMode h = absurd (h refl)
error_mode_apart id v c question.Location h = refl
error_mode_apart id v c question.Profile h = refl
error_mode_apart id v c question.Flags h = refl
error_mode_apart id v c question.Outputs h = refl

pub location_apart : (id v : ℕ) (c : Values) (q : Question) → (q ≡ question.Location → ⊥) → by_question id (with_location c v) q ≡ by_question id c q
unfolding configuration_of
location_apart id v c question.DeviceId h = refl
location_apart id v c question.Name h = refl
location_apart id v c question.Firmware h = refl
location_apart id v c question.Configuration h = refl
location_apart id v c question.Baud h = refl
location_apart id v c question.ErrorMode h = refl
location_apart id v c question.Location h = absurd (h refl)
location_apart id v c question.Profile h = refl
location_apart id v c question.Flags h = refl
location_apart id v c question.Outputs h = refl

pub profile_apart : (id v : ℕ) (c : Values) (q : Question) → (q ≡ question.Profile → ⊥) → by_question id (with_profile c v) q ≡ by_question id c q
unfolding configuration_of
profile_apart id v c question.DeviceId h = refl
profile_apart id v c question.Name h = refl
profile_apart id v c question.Firmware h = refl
profile_apart id v c question.Configuration h = refl
profile_apart id v c question.Baud h = refl
profile_apart id v c question.ErrorMode h = refl
profile_apart id v c question.Location h = refl
profile_apart id v c question.Profile h = absurd (h refl)
profile_apart id v c question.Flags h = refl
profile_apart id v c question.Outputs h = refl

pub flags_apart : (id n : ℕ) (c : Values) (q : Question) → (q ≡ question.Flags → ⊥) → by_question id (with_flags c n) q ≡ by_question id c q
unfolding configuration_of
flags_apart id n c question.DeviceId h = refl
flags_apart id n c question.Name h = refl
flags_apart id n c question.Firmware h = refl
flags_apart id n c question.Configuration h = refl
flags_apart id n c question.Baud h = refl
flags_apart id n c question.ErrorMode h = refl
flags_apart id n c question.Location h = refl
flags_apart id n c question.Profile h = refl
flags_apart id n c question.Flags h = absurd (h refl)
flags_apart id n c question.Outputs h = refl

pub outputs_apart : (id : ℕ) (es : List Entry) (c : Values) (q : Question) → (q ≡ question.Outputs → ⊥) × (q ≡ question.Configuration → ⊥) → by_question id (with_entries c es) q ≡ by_question id c q
outputs_apart id es c question.DeviceId h = refl
outputs_apart id es c question.Name h = refl
outputs_apart id es c question.Firmware h = refl
outputs_apart id es c question.Configuration h = absurd (h.1 refl)
outputs_apart id es c question.Baud h = refl
outputs_apart id es c question.ErrorMode h = refl
outputs_apart id es c question.Location h = refl
outputs_apart id es c question.Profile h = refl
outputs_apart id es c question.Flags h = refl
outputs_apart id es c question.Outputs h = absurd (h.0 refl)
