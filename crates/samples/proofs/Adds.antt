-- The packets of entries, one after the other, and a draft that gets one more.
use Rattle.std.proofs.Common.{◌≡◌, ℕ, Bool, true, false, cond, is_some, List, [], ◌∷◌, ◌++◌, length, Some, None, Option, sym, refl, ap, ◌∙◌, subst, append-nil, arith}
use Rattle.std.proofs.lemmas.List.{take_all}
use Rattle.mti.specs.declared.output.Output.{Output}
use Rattle.mti.specs.Identifiers.{known_of}
use Rattle.mtdata2.specs.Packets.{Item, item_of}
use Rattle.settings.specs.declared.record.Entry.{Entry}
use Rattle.draft.specs.declared.draft.Draft.{Draft}
use Rattle.draft.specs.Composed.{asked, Holding, Added}
use Rattle.session.specs.declared.counts.Counts.{Counts}
use Rattle.session.specs.Model.{Meaning}
use Rattle.session.specs.Sampling.{due, data_of, data_by, packet_by, packets}
use Rattle.samples.specs.Filling.{Fills}

-- ---- packets

packet_more : (d : Bool) (i : ℕ) (r : Option (List ℕ)) (is js : List Item)
    → cond d (packet_by i r (is ++ js)) (is ++ js) ≡ cond d (packet_by i r is) is ++ js
packet_more true i None is js = refl
packet_more true i (Some xs) is js = refl
packet_more false i r is js = refl

pub packets_append : (f : Meaning) (n : Counts) (es gs : List Entry) → packets f n (es ++ gs) ≡ packets f n es ++ packets f n gs
unfolding packets
packets_append f n [] gs = refl
packets_append f n (e ∷ es) gs =
    let r : Option (List ℕ) = data_by f n (known_of e.identifier) in
    ap (λ (is : List Item). cond (due n.phase e) (packet_by e.identifier r is) is) (packets_append f n es gs)
    ∙ packet_more (due n.phase e) e.identifier r (packets f n es) (packets f n gs)

-- the packets of one entry: none if it is not due, names nothing, or its data are absent

pub resting : (f : Meaning) (n : Counts) (e : Entry) → due n.phase e ≡ false → packets f n (e ∷ []) ≡ []
unfolding packets
resting f n e d = rw d refl

either_none : (d : Bool) → ◌≡◌ {A = List Item} (cond d [] []) []
either_none true = refl
either_none false = refl

pub unknown : (f : Meaning) (n : Counts) (e : Entry) → None ≡ known_of e.identifier → packets f n (e ∷ []) ≡ []
unfolding packets
unknown f n e k = rw (sym k) (either_none (due n.phase e))

pub absent : (f : Meaning) (n : Counts) (e : Entry) (o : Output) → Some o ≡ known_of e.identifier → data_of f n o ≡ None → packets f n (e ∷ []) ≡ []
unfolding packets
absent f n e o k d = rw (sym k, d) (either_none (due n.phase e))

pub sent : (f : Meaning) (n : Counts) (e : Entry) (o : Output) (xs : List ℕ) → due n.phase e ≡ true → Some o ≡ known_of e.identifier
    → data_of f n o ≡ Some xs → packets f n (e ∷ []) ≡ item_of e.identifier xs ∷ []
unfolding packets
sent f n e o xs d k s =
    ap (λ (b : Bool). cond b (packet_by e.identifier (data_by f n (known_of e.identifier)) []) []) d
    ∙ ap (λ (r : Option Output). packet_by e.identifier (data_by f n r) []) (sym k)
    ∙ ap (λ (r : Option (List ℕ)). packet_by e.identifier r []) s

-- ---- a draft

pub none_added : (is : List Item) (tray : List ℕ) (d : Draft) → is ≡ [] → (items : List Item) → Holding items tray d → Holding (items ++ is) tray d
none_added is tray d e items h = rw (e, append-nil) h

pub one_added : (is : List Item) (i : ℕ) (xs t u : List ℕ) (d e : Draft) → is ≡ item_of i xs ∷ [] → Added d e t u (asked xs i 0 (length xs))
    → (items : List Item) → Holding items t d → Holding (items ++ is) u e
one_added is i xs t u d e s a items h =
    let all : asked xs i 0 (length xs) ≡ item_of i xs = ap (item_of i) (take_all (length xs) xs (omega arith)) in
    subst (λ (js : List Item). Holding (items ++ js) u e) (ap (λ (x : Item). x ∷ []) all ∙ sym s) (a.holds items h)

-- ---- data that were filled in, or not

pub filled : (all : Option (List ℕ)) (r : Option (Unit {0})) (out : List ℕ) → Fills all r out → is_some r ≡ true → all ≡ Some out
filled all None out h e = absurd (let z : ◌≡◌ {A = ℕ} 0 1 = cc in omega arith)
filled all (Some x) out h e = h

pub not_filled : (all : Option (List ℕ)) (r : Option (Unit {0})) (out : List ℕ) → Fills all r out → is_some r ≡ false → all ≡ None
not_filled all None out h e = h
not_filled all (Some x) out h e = absurd (let z : ◌≡◌ {A = ℕ} 0 1 = cc in omega arith)
