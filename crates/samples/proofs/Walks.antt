-- A draft that takes the packets of valid entries one after the other: each entry's rate, and room for its packet.
use Rattle.std.proofs.Common.{◌≡◌, ℕ, zero, suc, ◌+◌, ◌*◌, ◌<◌, ◌≤◌, true, List, [], ◌∷◌, ◌++◌, length, take, drop, get_or, sym, ap, ◌∙◌, mul_assoc, arith}
use Rattle.std.specs.List.{flat_map, AllByRecursion}
use Rattle.std.proofs.lemmas.List.{length-append, take-append-drop, take_more}
use Rattle.std.proofs.lemmas.List.Concat.{flat_map-append}
use Rattle.mti.specs.declared.product.Product.{Product}
use Rattle.mti.proofs.Rows.{orderly_table}
use Rattle.mtdata2.specs.Packets.{Item, packet_bytes}
use Rattle.draft.specs.declared.draft.Draft.{Draft}
use Rattle.draft.specs.Composed.{Holding}
use Rattle.settings.specs.declared.record.Entry.{Entry}
use Rattle.settings.specs.declared.checked.Settings.{Settings}
use Rattle.settings.specs.Valid.{valid_entries}
use Rattle.settings.specs.Rates.{Divides}
use Rattle.settings.specs.Rules.{Offered}
use Rattle.settings.specs.View.{values_of}
use Rattle.settings.proofs.Divisors.{divides_from}
use Rattle.settings.proofs.Judged.{valid_passed}
use Rattle.settings.proofs.Worded.{entries_each}
use Rattle.session.specs.declared.counts.Counts.{Counts}
use Rattle.session.specs.Model.{Meaning}
use Rattle.session.specs.Sampling.{packets}
use Rattle.samples.proofs.Bounds.{entries_few}
use Rattle.samples.proofs.Adds.{packets_append}

-- the entries of settings are valid
pub settings_entries : (s : Settings) (es : List Entry) → es ≡ (values_of s).entries → valid_entries s.product es ≡ true
settings_entries s es e = ap (valid_entries s.product) e ∙ (valid_passed (values_of s) s.ok).entries

-- a second's ticks are a multiple of the frequency
abbrev pub Rated : Entry → Type 0
Rated e = Divides e.frequency 2000

offered_rated : (p : Product) (e : Entry) → Offered p e → Rated e
offered_rated p e w =
    let c = w.output.channel in
    let d : Divides c.max_hz 2000 = divides_from 2000 c.max_hz (orderly_table.regular c w.known.row).divides in
    (d.0 * w.divides.0, mul_assoc d.0 w.divides.0 e.frequency ∙ ap (λ n. d.0 * n) w.divides.1 ∙ d.1)

rated_at : (p : Product) (es : List Entry) → AllByRecursion (Offered p) es → (i : ℕ) (d : Entry) → i < length es → Rated (get_or es i d)
rated_at p [] a i d h = absurd (omega arith)
rated_at p (e ∷ es) a zero d h = offered_rated p e a.0
rated_at p (e ∷ es) a (suc i) d h = rated_at p es a.1 i d (omega arith)

module _ (p : Product) (es : List Entry) (v : valid_entries p es ≡ true) where
  pub rated : (i : ℕ) (d : Entry) → i < length es → Rated (get_or es i d)
  rated = rated_at p es (entries_each p es v)

  -- with the packets of some of the entries there is room for one more
  pub room_for : (f : Meaning) (n : Counts) (i : ℕ) (tray : List ℕ) (d : Draft) → Holding (packets f n (take i es)) tray d
      → d.extent.size.len + 75 ≤ 2048
  room_for f n i tray d h =
      let first : List Item = packets f n (take i es) in
      let rest : List Item = packets f n (drop i es) in
      let all : flat_map packet_bytes (packets f n es) ≡ flat_map packet_bytes first ++ flat_map packet_bytes rest =
      ap (λ (gs : List Entry). flat_map packet_bytes (packets f n gs)) (sym (take-append-drop i es))
      ∙ ap (flat_map packet_bytes) (packets_append f n (take i es) (drop i es))
      ∙ flat_map-append packet_bytes first rest in
      omega (arith, h.sized, entries_few f n p es v, ap length all, length-append (flat_map packet_bytes first) (flat_map packet_bytes rest))

-- one entry more
pub entry_more : (f g : Meaning) (n : Counts) (es : List Entry) (i : ℕ) (d : Entry) → i < length es → g ≡ f
    → packets f n (take i es) ++ packets g n (get_or es i d ∷ []) ≡ packets f n (take (i + 1) es)
entry_more f g n es i d h same =
    ap (λ (m : Meaning). packets f n (take i es) ++ packets m n (get_or es i d ∷ [])) same
    ∙ sym (packets_append f n (take i es) (get_or es i d ∷ [])) ∙ ap (packets f n) (sym (take_more es i d h))
