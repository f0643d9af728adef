-- What is known of a message from what is decided of it: its identifier, and whether it is a change.
use Rattle.std.proofs.Common.{◌≡◌, ℕ, ◌+◌, ◌%◌, Bool, true, false, cond, ◌&&◌, eqb, ltb, List, [], ◌∷◌, length, Some, Ok, Err, Option, sym, refl, ◌∙◌, subst, arith}
use lib.Dec.{eqb-suc-zero}
use Rattle.std.proofs.lemmas.Bool.{cond_both, eqb-true, lt-ltb, and_from, and_left, and_right}
use Rattle.mti.specs.declared.product.Product.{Product}
use Rattle.decision.specs.declared.states.State.{State}
use Rattle.decision.specs.declared.states.State.TheVariants.{WakeUp, Config, Measurement}
use Rattle.decision.specs.declared.actions.Question.{Question}
use Rattle.decision.specs.declared.deciding.MessageError.{MessageError}
use Rattle.decision.specs.declared.deciding.MessageError.TheVariants.{NotAllowed, WrongLength}
use Rattle.decision.specs.Asked.{Asked, Changing, Wake, Configure, Measure, Reset, Ask, Set}
use Rattle.decision.specs.Decided.{Decision, bare, ask_or_set, error_mode, in_config, in_measurement, decided, has_error_mode}
use Rattle.decision.specs.Decided as decision
use Rattle.session.specs.Counting.{in_wake_up, changes}

-- WakeUpAck in time, of this identifier and these data in this state
abbrev awake : Option State → ℕ → List ℕ → Bool
awake o i xs = in_wake_up o && (eqb i 0x3F && eqb (length xs) 0)

abbrev change : ℕ → List ℕ → Bool
change i xs = changes (record { address = 0; identifier = i; content = xs })

-- an allowed message that is no WakeUpAck: whether it is GoToConfig, Reset, message 10, a change; its reply is no Error
pub record Signs (o : Option State) (i : ℕ) (xs : List ℕ) (g r m k : Bool) : Type 0 where
  pub asleep : awake o i xs ≡ false
  pub configures : eqb i 0x30 ≡ g
  pub reset : eqb i 0x40 ≡ r
  pub passage : eqb i 0x10 ≡ m
  pub changing : change i xs ≡ k
  pub reply : eqb ((i + 1) % 256) 0x42 ≡ false
  pub small : ltb i 256 ≡ true

abbrev pub Facts : Option State → ℕ → List ℕ → Decision → Type 0
Facts o i xs (Err e) = awake o i xs ≡ false
Facts o i xs (Ok Wake) = awake o i xs ≡ true
Facts o i xs (Ok Configure) = Signs o i xs true false false false
Facts o i xs (Ok Measure) = Signs o i xs false false true false
Facts o i xs (Ok Reset) = Signs o i xs false true false false
Facts o i xs (Ok (Ask q)) = Signs o i xs false false false false
Facts o i xs (Ok (Set ch)) = Signs o i xs false false false true

signs : {o : Option State} {i : ℕ} {xs : List ℕ} {g r m k : Bool} → awake o i xs ≡ false → eqb i 0x30 ≡ g → eqb i 0x40 ≡ r → eqb i 0x10 ≡ m → change i xs ≡ k
    → eqb ((i + 1) % 256) 0x42 ≡ false → ltb i 256 ≡ true → Signs o i xs g r m k
signs a g b c d e f = record { asleep = a; configures = g; reset = b; passage = c; changing = d; reply = e; small = f }

bare_facts : (s : State) (i : ℕ) (a : Asked) → in_wake_up (Some s) ≡ false → Facts (Some s) i [] (Ok a) → (xs : List ℕ)
    → Facts (Some s) i xs (bare a xs)
bare_facts s i a late f [] = f
bare_facts s i a late f (x ∷ xs) = rw (eqb-suc-zero (length xs)) (and_left _ _ late)

some : (x : ℕ) (xs : List ℕ) → ltb 0 (length (x ∷ xs)) ≡ true
some x xs = lt-ltb 0 (length (x ∷ xs)) (omega arith)

asked_facts : (i : ℕ) (q : Question) (fits : Bool) (ch : Changing) → Signs (Some Config) i [] false false false false
    → ((x : ℕ) (ys : List ℕ) → change i (x ∷ ys) ≡ (ltb 0 (length (x ∷ ys)) && true)) → (xs : List ℕ)
    → Facts (Some Config) i xs (ask_or_set q fits ch xs)
asked_facts i q fits ch f g [] = f
asked_facts i q fits ch f g (x ∷ xs) =
    rw (eqb-suc-zero (length xs))
    (cond_both fits _ _ (Facts (Some Config) i (x ∷ xs))
    (λ _. signs refl f.configures f.reset f.passage (g x xs ∙ and_from _ _ (some x xs) refl) f.reply f.small) (λ _. refl))

module _ (p : Product) (i : ℕ) (xs : List ℕ) where
  -- a message without data, of the identifier k
  one : (s : State) (k : ℕ) (a : Asked) (d : Decision) → in_wake_up (Some s) ≡ false → Facts (Some s) k [] (Ok a) → Facts (Some s) i xs d
      → Facts (Some s) i xs (cond (eqb i k) (bare a xs) d)
  one s k a d late f rest =
      cond_both (eqb i k) (bare a xs) d (Facts (Some s) i xs)
      (λ e. subst (λ (j : ℕ). Facts (Some s) j xs (bare a xs)) (sym (eqb-true i k e)) (bare_facts s k a late f xs)) (λ _. rest)

  -- a question without data, and a change with data, of the identifier k
  two : (k : ℕ) (q : Question) (fits : Bool) (ch : Changing) (d : Decision) → Signs (Some Config) k [] false false false false
      → ((x : ℕ) (ys : List ℕ) → change k (x ∷ ys) ≡ (ltb 0 (length (x ∷ ys)) && true)) → Facts (Some Config) i xs d
      → Facts (Some Config) i xs (cond (eqb i k) (ask_or_set q fits ch xs) d)
  two k q fits ch d f g rest =
      cond_both (eqb i k) (ask_or_set q fits ch xs) d (Facts (Some Config) i xs)
      (λ e. subst (λ (j : ℕ). Facts (Some Config) j xs (ask_or_set q fits ch xs)) (sym (eqb-true i k e)) (asked_facts k q fits ch f g xs)) (λ _. rest)

  mode_facts : (d : Decision) → Facts (Some Config) i xs d → Facts (Some Config) i xs (cond (eqb i 0xDA) (error_mode p xs) d)
  mode_facts d f =
      cond_both (has_error_mode p) _ _ (λ e. Facts (Some Config) i xs (cond (eqb i 0xDA) e d))
      (λ _. two 0xDA _ _ _ _ (signs refl refl refl refl refl refl refl) (λ _ _. refl) f)
      (λ _. cond_both (eqb i 0xDA) _ _ (Facts (Some Config) i xs) (λ _. refl) (λ _. f))

  config_facts : Facts (Some Config) i xs (in_config p i xs)
  config_facts =
      one Config 0x30 _ _ refl (signs refl refl refl refl refl refl refl)
      (one Config 0x10 _ _ refl (signs refl refl refl refl refl refl refl)
      (one Config 0x40 _ _ refl (signs refl refl refl refl refl refl refl)
      (one Config 0x0E _ _ refl (signs refl refl refl refl refl refl refl)
      (one Config 0x00 _ _ refl (signs refl refl refl refl refl refl refl)
      (one Config 0x1C _ _ refl (signs refl refl refl refl refl refl refl)
      (one Config 0x12 _ _ refl (signs refl refl refl refl refl refl refl)
      (one Config 0x0C _ _ refl (signs refl refl refl refl refl refl refl)
      (two 0x18 _ _ _ _ (signs refl refl refl refl refl refl refl) (λ _ _. refl)
      (mode_facts _
      (two 0x84 _ _ _ _ (signs refl refl refl refl refl refl refl) (λ _ _. refl)
      (two 0x64 _ _ _ _ (signs refl refl refl refl refl refl refl) (λ _ _. refl)
      (two 0x48 _ _ _ _ (signs refl refl refl refl refl refl refl) (λ _ _. refl)
      (two 0xC0 _ _ _ _ (signs refl refl refl refl refl refl refl) (λ _ _. refl) refl)))))))))))))

  measurement_facts : Facts (Some Measurement) i xs (in_measurement i xs)
  measurement_facts =
      one Measurement 0x30 _ _ refl (signs refl refl refl refl refl refl refl)
      (one Measurement 0x40 _ _ refl (signs refl refl refl refl refl refl refl) refl)

waking_facts : (i : ℕ) (xs : List ℕ) → Facts (Some WakeUp) i xs (decision.in_wake_up i xs)
waking_facts i xs =
    cond_both (eqb i 0x3F) _ _ (Facts (Some WakeUp) i xs)
    (λ e. cond_both (eqb (length xs) 0) _ _ (Facts (Some WakeUp) i xs) (λ f. and_from _ _ e f) (λ f. and_right _ _ f))
    (λ e. and_left _ _ e)

-- only Config allows a change

abbrev NoChange : Decision → Type 0
NoChange d = (ch : Changing) → d ≡ Ok (Set ch) → ⊥

no_change_wrong : (e : MessageError) → NoChange (Err e)
no_change_wrong e ch h = let z : ◌≡◌ {A = ℕ} 0 1 = cc in omega arith

no_change_bare : (a : Asked) (xs : List ℕ) → NoChange (Ok a) → NoChange (bare a xs)
no_change_bare a xs n = cond_both (eqb (length xs) 0) _ _ NoChange (λ _. n) (λ _. no_change_wrong WrongLength)

no_change : (a : Asked) (k i : ℕ) (xs : List ℕ) (d : Decision) → NoChange (Ok a) → NoChange d → NoChange (cond (eqb i k) (bare a xs) d)
no_change a k i xs d n m = cond_both (eqb i k) _ _ NoChange (λ _. no_change_bare a xs n) (λ _. m)

pub changes_in_config : (s : State) (p : Product) (i : ℕ) (xs : List ℕ) (ch : Changing) → decided s p i xs ≡ Ok (Set ch) → s ≡ Config
unfolding decided
changes_in_config WakeUp p i xs ch e =
    absurd (no_change Wake 0x3F i xs _ (λ ch h. let z : ◌≡◌ {A = ℕ} 0 1 = cc in omega arith) (no_change_wrong NotAllowed) ch e)
changes_in_config Config p i xs ch e = refl
changes_in_config Measurement p i xs ch e =
    absurd
    (no_change Configure 0x30 i xs _ (λ ch h. let z : ◌≡◌ {A = ℕ} 0 1 = cc in omega arith)
    (no_change Reset 0x40 i xs _ (λ ch h. let z : ◌≡◌ {A = ℕ} 0 1 = cc in omega arith) (no_change_wrong NotAllowed)) ch e)

pub decided_facts : (s : State) (p : Product) (i : ℕ) (xs : List ℕ) → Facts (Some s) i xs (decided s p i xs)
unfolding decided
decided_facts WakeUp p i xs = waking_facts i xs
decided_facts Config p i xs = config_facts p i xs
decided_facts Measurement p i xs = measurement_facts p i xs
