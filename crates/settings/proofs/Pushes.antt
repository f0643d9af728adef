-- One more entry where there is room.
use Rattle.std.proofs.Common.{◌≡◌, ◌<◌, Bool, cond, ltb, List, [], ◌∷◌, ◌++◌, length, true, ap, ◌∙◌}
use Rattle.std.proofs.lemmas.Bool.{cond-true, lt-ltb}
use Rattle.settings.specs.declared.record.Entry.{Entry}

pub room : (old sofar : List Entry) (r : Bool) → r ≡ ltb (length old) 32 → old ≡ sofar → length sofar < 32 → r ≡ true
room old sofar r is e few = is ∙ ap (λ es. ltb (length es) 32) e ∙ lt-ltb _ _ few

pub pushed : (old new sofar : List Entry) (x : Entry) (r : Bool) → r ≡ ltb (length old) 32 → new ≡ cond r (old ++ (x ∷ [])) old
    → old ≡ sofar → length sofar < 32 → new ≡ sofar ++ (x ∷ [])
pushed old new sofar x r is after e few =
    after ∙ cond-true r _ _ (room old sofar r is e few) ∙ ap (λ es. es ++ (x ∷ [])) e
