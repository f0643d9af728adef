-- What a change makes of the settings, in words.
use Rattle.std.specs.Prelude.{◌≡◌, ℕ, ◌+◌, ◌*◌, ◌^◌, ◌<◌, ◌≤◌, true, ◌⊎◌, List, [], ◌∷◌, ◌++◌, length, Some, None, ◌≢◌}
use Rattle.mti.specs.declared.output.Output.{Output}
use Rattle.mti.specs.Exactly.{Exactly}
use Rattle.mti.specs.Identifiers.{Known}
use Rattle.settings.specs.declared.record.Entry.{Entry}
use Rattle.settings.specs.Values.{Values, entry}
use Rattle.settings.specs.Rates.{Largest}
use Rattle.settings.specs.Rules.{Bit}
use Rattle.settings.specs.Valid.{valid}
use Rattle.settings.specs.Factory.{factory_of}
use Rattle.decision.specs.Asked.{Changing, Baud, ErrorMode, Location, Profile, Flags, Outputs, Factory}
use Rattle.config.specs.Changed.{with_baud, with_profile, with_error_mode, with_location, with_flags, with_entries, changed_of}

-- each flag: Set, or as it was and not Clear
abbrev pub Flagged : ℕ → ℕ → ℕ → ℕ → Type 0
Flagged old set clear n =
    (k : ℕ) → (Bit n k → Bit set k ⊎ (Bit old k × (Bit clear k → ⊥))) × (Bit set k ⊎ (Bit old k × (Bit clear k → ⊥)) → Bit n k)

-- four bytes for each entry: the identifier and the frequency asked, of which the channel gives its largest divisor
pub data Spelt : List ℕ → List Entry → Type 0 where
  none : Spelt [] []
  more : {a b c d f : ℕ} {xs : List ℕ} {es : List Entry}
      → ((o : Output) → Known (a * 256 + b) o → Largest o.channel.max_hz (c * 256 + d) f)
      → Spelt xs es → Spelt (a ∷ b ∷ c ∷ d ∷ xs) (entry (a * 256 + b) f ∷ es)

-- four zeros for no outputs, else 1 to 32 entries
pub data Lists : List ℕ → List Entry → Type 0 where
  emptied : Lists (0 ∷ 0 ∷ 0 ∷ 0 ∷ []) []
  entries : {xs : List ℕ} {es : List Entry} → (xs ≢ 0 ∷ 0 ∷ 0 ∷ 0 ∷ []) → Spelt xs es → 1 ≤ length es → length es ≤ 32 → Lists xs es

-- d is c after the change
abbrev pub After : Values → Changing → Values → Type 0
After c (Baud v) d = d ≡ with_baud c v
After c (ErrorMode v) d = d ≡ with_error_mode c v
After c (Location v) d = d ≡ with_location c v
After c (Profile v) d = d ≡ with_profile c v
After c (Flags s k) d = (n : ℕ) × Flagged c.flags s k n × (d ≡ with_flags c n)
After c (Outputs xs) d = (es : List Entry) × Lists xs es × (d ≡ with_entries c es)
After c Factory d = d ≡ factory_of c.product

-- Clear has four bytes
abbrev pub Small : Changing → Type 0
Small (Baud v) = Unit {0}
Small (ErrorMode v) = Unit {0}
Small (Location v) = Unit {0}
Small (Profile v) = Unit {0}
Small (Flags s k) = k < 2 ^ 32
Small (Outputs xs) = Unit {0}
Small Factory = Unit {0}

pub record ChangedSaid : Type 0 where
  -- a change gives exactly what it makes of the settings if that is valid, and is refused exactly if it is not
  pub exact : (c : Values) (x : Changing) → valid c ≡ true → Small x
      → Exactly (λ d. After c x d × (valid d ≡ true)) (changed_of c x)
  pub product : (c d : Values) (x : Changing) → changed_of c x ≡ Some d → d.product ≡ c.product
  -- an entry at 0 Hz is refused
  pub zero : (c : Values) (before after : List ℕ) (n a b : ℕ) → length before ≡ 4 * n
      → (before ++ (a ∷ b ∷ 0 ∷ 0 ∷ after) ≢ 0 ∷ 0 ∷ 0 ∷ 0 ∷ [])
      → changed_of c (Outputs (before ++ (a ∷ b ∷ 0 ∷ 0 ∷ after))) ≡ None
