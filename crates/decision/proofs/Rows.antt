-- Looking a message up in the table: as it is decided, and as the table says it.
use Rattle.std.proofs.Common.{◌≡◌, ℕ, zero, suc, Bool, true, false, cond, not, ◌&&◌, ◌||◌, eqb, ◌⊎◌, List, [], ◌∷◌, Err, Decides, sym, refl, ap, ◌∙◌, subst, inl, inr, ⊎_elim, arith}
use Rattle.std.specs.List.{Contains}
use Rattle.std.proofs.lemmas.Bool.{false≢true, both_ways, not-true, and_parts, or_right, eqb-true, eqb-false, cases_Bool, cond_both}
use Rattle.std.proofs.lemmas.List.Elements.{Decides-contains}
use Rattle.std.proofs.lemmas.Bool.Decides.{Decides-eqb, Decides-like, Decides-and, Decides-by_or}
use Rattle.mti.specs.declared.product.Product.{Product}
use Rattle.mti.specs.declared.product.Product.TheVariants.{Mti3, Mti30, Mti300, MtiG710}
use Rattle.decision.specs.declared.states.State.{State}
use Rattle.decision.specs.declared.states.State.TheVariants.{WakeUp, Config, Measurement}
use Rattle.decision.specs.declared.deciding.MessageError.TheVariants.{NotAllowed}
use Rattle.decision.specs.Decided.{Decision, has_error_mode, decided}
use Rattle.decision.specs.Table.{Message, messages, Allows}
use Rattle.decision.proofs.Carried.{full, carried}

-- ---- which row allows a message, as a test

abbrev code_of : State → ℕ
code_of WakeUp = 0
code_of Config = 1
code_of Measurement = 2

abbrev state_of : ℕ → State
state_of n = cond (eqb n 0) WakeUp (cond (eqb n 1) Config Measurement)

state_back : (s : State) → state_of (code_of s) ≡ s
state_back WakeUp = refl
state_back Config = refl
state_back Measurement = refl

abbrev listed : State → List State → Bool
listed s [] = false
listed s (t ∷ ts) = eqb (code_of t) (code_of s) || listed s ts

abbrev offered : Product → ℕ → Bool
offered p i = not (eqb i 0xDA) || has_error_mode p

abbrev allowed : State → Product → ℕ → Message → Bool
allowed s p i m = listed s m.states && (offered p m.identifier && eqb i m.identifier)

listed_is : (s : State) (ts : List State) → Decides (listed s ts) (Contains ts s)
listed_is s ts =
    Decides-contains ts s (listed s ts)
    (Decides-by_or (λ t. eqb (code_of t) (code_of s)) (λ t. t ≡ s) (listed s)
    (λ t.
    Decides-like _ (λ e. sym (state_back t) ∙ ap state_of e ∙ state_back s) (ap code_of)
    (Decides-eqb (code_of t) (code_of s)))
    refl (λ _ _. refl) ts)

error_mode_offered : (p : Product) → (p ≡ Mti3 → ⊥) → has_error_mode p ≡ true
error_mode_offered Mti3 h = absurd (h refl)
error_mode_offered Mti30 h = refl
error_mode_offered Mti300 h = refl
error_mode_offered MtiG710 h = refl

offered_is : (p : Product) (i : ℕ) → Decides (offered p i) (i ≡ 0xDA → p ≡ Mti3 → ⊥)
offered_is p i = (
  λ t e f. false≢true (sym (λ j. offered (f j) (e j)) ∙ t),
  λ h.
      ⊎_elim (λ t. or_right (not (eqb i 0xDA)) _ (error_mode_offered p (h (eqb-true _ _ t)))) (λ f. rw f refl)
      (cases_Bool (eqb i 0xDA)),
)

allowed_is : (s : State) (p : Product) (i : ℕ) (m : Message)
    → Decides (allowed s p i m) (Contains m.states s × ((m.identifier ≡ 0xDA → p ≡ Mti3 → ⊥) × (i ≡ m.identifier)))
allowed_is s p i m =
    Decides-and _ _ (listed_is s m.states)
    (Decides-and _ _ (offered_is p m.identifier) (Decides-eqb i m.identifier))

pub allows : (s : State) (p : Product) (i : ℕ) (m : Message) → Contains messages m → allowed s p i m ≡ true → Allows s p i m
allows s p i m r t =
    let q = (allowed_is s p i m).0 t in
    record { row = r; identifier = sym q.1.1; state = q.0; product = λ e. q.1.0 (sym q.1.1 ∙ e) }

pub allowed_by : {s : State} {p : Product} {i : ℕ} {m : Message} → Allows s p i m → allowed s p i m ≡ true
allowed_by {s} {p} {i} {m} a =
    (allowed_is s p i m).1 (a.state, (λ e. a.product (sym a.identifier ∙ e), sym a.identifier))

-- ---- rows of a list

has_head : {X : Type 0} (x : X) (xs : List X) → Contains (x ∷ xs) x
has_head x xs = (0, omega arith, refl)

has_tail : {X : Type 0} (x : X) (xs : List X) (y : X) → Contains xs y → Contains (x ∷ xs) y
has_tail x xs y h = (suc h.0, omega (arith, h.1), h.2)

has_cases : {X : Type 0} (x : X) (xs : List X) (y : X) → Contains (x ∷ xs) y → (x ≡ y) ⊎ Contains xs y
has_cases x xs y (zero, h, e) = inl e
has_cases x xs y (suc k, h, e) = inr (k, omega arith, e)

-- ---- the row that allows a message, if any

abbrev looked : State → Product → ℕ → List ℕ → List Message → Decision
looked s p i xs [] = Err NotAllowed
looked s p i xs (m ∷ ms) = cond (allowed s p i m) (carried m.carries xs) (looked s p i xs ms)

looked_by : (P : Decision → Type 0) (s : State) (p : Product) (i : ℕ) (xs : List ℕ) (ms : List Message)
    → ((m : Message) → Contains ms m → allowed s p i m ≡ true → P (carried m.carries xs))
    → (((m : Message) → Contains ms m → allowed s p i m ≡ true → ⊥) → P (Err NotAllowed)) → P (looked s p i xs ms)
looked_by P s p i xs [] some none = none (λ m h t. absurd (omega (arith, h.1)))
looked_by P s p i xs (m ∷ ms) some none =
    cond_both (allowed s p i m) _ _ P (some m (has_head m ms))
    (λ f.
    looked_by P s p i xs ms (λ n h. some n (has_tail m ms n h))
    (λ no.
    none
    (λ n h t.
    ⊎_elim (λ e. both_ways (allowed s p i n) (ap (allowed s p i) (sym e) ∙ f) t) (λ k. no n k t) (has_cases m ms n h))))

-- the table says what is decided
decided_looked : (s : State) (p : Product) (i : ℕ) (xs : List ℕ) → decided s p i xs ≡ looked s p i xs messages
unfolding decided
decided_looked WakeUp p i xs = refl
decided_looked Config Mti3 i xs =
    ⊎_elim (λ t. let e : i ≡ 0xDA = eqb-true _ _ t in rw e refl) (λ f. rw f refl) (cases_Bool (eqb i 0xDA))
decided_looked Config Mti30 i xs = refl
decided_looked Config Mti300 i xs = refl
decided_looked Config MtiG710 i xs = refl
decided_looked Measurement p i xs = refl

pub decided_by : (P : Decision → Type 0) (s : State) (p : Product) (i : ℕ) (xs : List ℕ)
    → ((m : Message) → Allows s p i m → P (carried m.carries xs))
    → (((m : Message) → Allows s p i m → ⊥) → P (Err NotAllowed)) → P (decided s p i xs)
decided_by P s p i xs some none =
    subst P (sym (decided_looked s p i xs))
    (looked_by P s p i xs messages (λ m h t. some m (allows s p i m h t))
    (λ no. none (λ m a. no m a.row (allowed_by a))))

-- ---- no two rows have one identifier, and no value is empty: one test over the table

abbrev lacks : ℕ → List Message → Bool
lacks i [] = true
lacks i (m ∷ ms) = not (eqb m.identifier i) && lacks i ms

abbrev orderly : List Message → Bool
orderly [] = true
orderly (m ∷ ms) = not (full m.carries 0) && (lacks m.identifier ms && orderly ms)

lacks_has : (i : ℕ) (ms : List Message) → lacks i ms ≡ true → (m : Message) → Contains ms m → m.identifier ≡ i → ⊥
lacks_has i [] t m h e = omega (arith, h.1)
lacks_has i (n ∷ ms) t m h e =
    let p = and_parts (not (eqb n.identifier i)) _ t in
    ⊎_elim
    (λ same. eqb-false _ _ (not-true _ p.0) (ap (λ (w : Message). w.identifier) same ∙ e))
    (λ k. lacks_has i ms p.1 m k e) (has_cases n ms m h)

unique : (ms : List Message) → orderly ms ≡ true → (m n : Message) → Contains ms m → Contains ms n → m.identifier ≡ n.identifier → m ≡ n
unique [] t m n h k e = absurd (omega (arith, h.1))
unique (x ∷ ms) t m n h k e =
    let p = and_parts (not (full x.carries 0)) _ t in
    let q = and_parts (lacks x.identifier ms) _ p.1 in
    let far : (y z : Message) → x ≡ y → Contains ms z → z.identifier ≡ y.identifier → ⊥ =
    λ y z f g d. lacks_has x.identifier ms q.0 z g (d ∙ ap (λ (w : Message). w.identifier) (sym f)) in
    ⊎_elim
    (λ f. ⊎_elim (λ g. sym f ∙ g) (λ g. absurd (far m n f g (sym e))) (has_cases x ms n k))
    (λ f. ⊎_elim (λ g. absurd (far n m g f e)) (λ g. unique ms q.1 m n f g e) (has_cases x ms n k))
    (has_cases x ms m h)

some_value : (ms : List Message) → orderly ms ≡ true → (m : Message) → Contains ms m → full m.carries 0 ≡ false
some_value [] t m h = absurd (omega (arith, h.1))
some_value (x ∷ ms) t m h =
    let p = and_parts (not (full x.carries 0)) _ t in
    let q = and_parts (lacks x.identifier ms) _ p.1 in
    ⊎_elim (λ e. subst (λ (w : Message). full w.carries 0 ≡ false) e (not-true _ p.0)) (some_value ms q.1 m) (has_cases x ms m h)

table_orderly : orderly messages ≡ true
table_orderly = refl

pub row_value : {s : State} {p : Product} {i : ℕ} {m : Message} → Allows s p i m → full m.carries 0 ≡ false
row_value {s} {p} {i} {m} a = some_value messages table_orderly m a.row

-- a row that allows the message decides it
pub decided_row : {s : State} {p : Product} {i : ℕ} {m : Message} (xs : List ℕ) → Allows s p i m → decided s p i xs ≡ carried m.carries xs
decided_row {s} {p} {i} {m} xs a =
    decided_by (λ d. d ≡ carried m.carries xs) s p i xs
    (λ n b.
    ap (λ (k : Message). carried k.carries xs)
    (unique messages table_orderly n m b.row a.row (b.identifier ∙ sym a.identifier)))
    (λ none. absurd (none m a))
