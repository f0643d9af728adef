-- Entries that are tested against those behind them.
use Rattle.std.proofs.Common.{◌≡◌, ℕ, ◌+◌, ◌-◌, Bool, ◌&&◌, List, [], ◌∷◌, length, take, drop, sym, refl, ap, ◌∙◌}
use Rattle.std.specs.List.{list_all, enumerate_from}
use Rattle.std.proofs.lemmas.List.{take_rest, drop-drop}
use Rattle.std.proofs.Math.Bool.{and_assoc}
use Rattle.mti.specs.Identifiers.{plain}
use Rattle.mti.specs.declared.product.Product.{Product}
use Rattle.settings.specs.declared.record.Entry.{Entry}
use Rattle.settings.specs.Valid.{valid_entry, unlisted, valid_entries}

-- the entry is valid, and none behind it is of its channel
abbrev pub entry_passes : Product → List Entry → ℕ × Entry → Bool
entry_passes p es q =
    valid_entry p q.1 && unlisted (plain q.1.identifier) (take (length es - (q.0 + 1)) (drop (q.0 + 1) es))

drop_next : (es : List Entry) (i : ℕ) (x : Entry) (rest : List Entry) → drop i es ≡ x ∷ rest → drop (i + 1) es ≡ rest
drop_next es i x rest e = sym (drop-drop 1 i es) ∙ ap (drop 1) e

passes_from : (p : Product) (es : List Entry) (i : ℕ) (rest : List Entry) → drop i es ≡ rest
    → list_all (entry_passes p es) (enumerate_from i rest) ≡ valid_entries p rest
passes_from p es i [] e = refl
passes_from p es i (x ∷ rest) e =
    let n = drop_next es i x rest e in
    rw (take_rest es (i + 1), n, passes_from p es (i + 1) rest n, and_assoc)

pub passes_all : (p : Product) (es : List Entry) → list_all (entry_passes p es) (enumerate_from 0 es) ≡ valid_entries p es
passes_all p es = passes_from p es 0 es refl
