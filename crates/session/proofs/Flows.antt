-- What happens in a session is read off its tape alone: frames as reading takes them, power and ticks between them.
use Rattle.std.proofs.Common.{◌≡◌, ℕ, false, List, [], ◌∷◌, ◌++◌, map, take, sym, refl, ap, ◌∙◌, ap₂, append_assoc}
use Rattle.std.proofs.lemmas.List.{append-nil, map-append}
use Rattle.xbus.specs.declared.front.Front.TheVariants.{Whole}
use Rattle.xbus.specs.Front.{front_of}
use Rattle.xbus.specs.Parts.{parts_of}
use Rattle.session.specs.Filling.{is_whole, fills, filled}
use Rattle.session.specs.Sessions.{Event, Powered, Byte, Ticked}
use Rattle.session.specs.Moments.{Happening, powers, serves, ticks, frames_in, left_in}
use Rattle.stream.specs.Waiting.{passed}
use Rattle.session.proofs.Readings.{Read, reads, onto, reads_quiet, reads_filled, reads_passed, Settled}

-- happenings, and the bytes that wait behind them
abbrev pub Flow : Type 0
Flow = List Happening × List ℕ

abbrev pub ahead : List Happening → Flow → Flow
ahead hs f = (hs ++ f.0, f.1)

abbrev pub framed : List (List ℕ) → List Happening
framed fs = map (λ f. serves (parts_of f)) fs

-- bytes are read as they come; power and ticks find the frames before them served
pub flow : List ℕ → List Event → Flow
flow w [] = (framed (frames_in w), left_in w)
flow w (Powered ∷ t) = ahead (framed (frames_in w) ++ (powers ∷ [])) (flow (left_in w) t)
flow w (Byte b ∷ t) = flow (w ++ (b ∷ [])) t
flow w (Ticked ∷ t) = ahead (framed (frames_in w) ++ (ticks ∷ [])) (flow (left_in w) t)

pub flow_end : (w : List ℕ) → flow w [] ≡ (framed (frames_in w), left_in w)
unfolding flow
flow_end w = refl

pub flow_bytes : (bs w : List ℕ) (t : List Event) → flow w (map Byte bs ++ t) ≡ flow (w ++ bs) t
unfolding flow
flow_bytes [] w t = ap (λ (x : List ℕ). flow x t) (sym (append-nil w))
flow_bytes (b ∷ bs) w t = flow_bytes bs (w ++ (b ∷ [])) t ∙ ap (λ (x : List ℕ). flow x t) (append_assoc w (b ∷ []) bs)

-- v reads as these frames and then w, whatever is behind
abbrev pub ReadsAs : List ℕ → List (List ℕ) → List ℕ → Type 0
ReadsAs v fs w = (more : List ℕ) → reads (v ++ more) ≡ onto fs (reads (w ++ more))

now_read : (v w : List ℕ) (fs : List (List ℕ)) → ReadsAs v fs w → reads v ≡ onto fs (reads w)
now_read v w fs h = ap reads (sym (append-nil v)) ∙ h [] ∙ ap (λ (x : List ℕ). onto fs (reads x)) (append-nil w)

framed_onto : (v w : List ℕ) (fs : List (List ℕ)) → ReadsAs v fs w → framed (frames_in v) ≡ framed fs ++ framed (frames_in w)
framed_onto v w fs h = ap (λ (r : Read). framed r.0) (now_read v w fs h) ∙ map-append (λ f. serves (parts_of f)) fs (frames_in w)

left_onto : (v w : List ℕ) (fs : List (List ℕ)) → ReadsAs v fs w → left_in v ≡ left_in w
left_onto v w fs h = ap (λ (r : Read). r.1) (now_read v w fs h)

ahead_ahead : (a b : List Happening) (f : Flow) → ahead (a ++ b) f ≡ ahead a (ahead b f)
ahead_ahead a b f = ap (λ (x : List Happening). (x, f.1)) (append_assoc a b f.0)

-- an event between: the frames so far, then what it is
flow_between : (h : Happening) (t : List Event) (v w : List ℕ) (fs : List (List ℕ)) → ReadsAs v fs w
    → ahead (framed (frames_in v) ++ (h ∷ [])) (flow (left_in v) t) ≡ ahead (framed fs) (ahead (framed (frames_in w) ++ (h ∷ [])) (flow (left_in w) t))
flow_between h t v w fs r =
    ap₂ (λ (x : List Happening) (y : List ℕ). ahead (x ++ (h ∷ [])) (flow y t)) (framed_onto v w fs r) (left_onto v w fs r)
    ∙ ap (λ (x : List Happening). ahead x (flow (left_in w) t)) (append_assoc (framed fs) (framed (frames_in w)) (h ∷ []))
    ∙ ahead_ahead (framed fs) (framed (frames_in w) ++ (h ∷ [])) (flow (left_in w) t)

pub flow_reads : (t : List Event) (v w : List ℕ) (fs : List (List ℕ)) → ReadsAs v fs w → flow v t ≡ ahead (framed fs) (flow w t)
unfolding flow
flow_reads [] v w fs h = ap₂ (λ (x : List Happening) (y : List ℕ). (x, y)) (framed_onto v w fs h) (left_onto v w fs h)
flow_reads (Powered ∷ t) v w fs h = flow_between powers t v w fs h
flow_reads (Byte b ∷ t) v w fs h =
    flow_reads t (v ++ (b ∷ [])) (w ++ (b ∷ [])) fs
    (λ more. ap reads (append_assoc v (b ∷ []) more) ∙ h (b ∷ more) ∙ ap (λ (x : List ℕ). onto fs (reads x)) (sym (append_assoc w (b ∷ []) more)))
flow_reads (Ticked ∷ t) v w fs h = flow_between ticks t v w fs h

-- a feed: the bytes that it takes lead to what waits, or to the frame that it serves

pub filled_reads : (w bs : List ℕ) → ReadsAs (w ++ take (fills w bs) bs) [] (filled w bs)
filled_reads w bs more = ap reads (append_assoc w (take (fills w bs) bs) more) ∙ sym (reads_filled bs w more)

pub passed_reads : (w bs : List ℕ) (k : ℕ) → front_of (filled w bs) ≡ Whole k
    → ReadsAs (w ++ take (fills w bs) bs) (take k (filled w bs) ∷ []) (passed (filled w bs))
passed_reads w bs k e more = filled_reads w bs more ∙ reads_passed (filled w bs) more k e

-- where no frame waits, an event comes first
pub flow_quiet : (h : Happening) (w : List ℕ) (t : List Event) → is_whole w ≡ false → Settled w
    → ahead (framed (frames_in w) ++ (h ∷ [])) (flow (left_in w) t) ≡ ahead (h ∷ []) (flow w t)
flow_quiet h w t e s =
    ap (λ (r : Read). ahead (framed r.0 ++ (h ∷ [])) (flow r.1 t)) (reads_quiet w e s)

pub flow_power : (w : List ℕ) (t : List Event) → is_whole w ≡ false → Settled w → flow w (Powered ∷ t) ≡ ahead (powers ∷ []) (flow w t)
unfolding flow
flow_power w t e s = flow_quiet powers w t e s

pub flow_tick : (w : List ℕ) (t : List Event) → is_whole w ≡ false → Settled w → flow w (Ticked ∷ t) ≡ ahead (ticks ∷ []) (flow w t)
unfolding flow
flow_tick w t e s = flow_quiet ticks w t e s
