-- Each place follows those before it.
use Rattle.std.proofs.Common.{◌≡◌, map, length, take, get_or, ◌+◌, ◌-◌, sym, refl, ap, ◌∙◌, arith}
use Rattle.std.proofs.lemmas.List.{map_more, length-map, length-take-le}
use Rattle.xbus.specs.Numbers.{be}
use Rattle.xbus.proofs.Widths.{two_bytes}
use Rattle.settings.specs.Values.{entry}
use Rattle.settings.specs.Image.{places}
use Rattle.settings.proofs.Columns.{place_more}
use Rattle.settings.proofs.checked.image.column.Goals as goal

pub loop-i-init : goal.loop-i-init
unfolding places
loop-i-init g c = λ f h. refl

pub loop-i-preserved : goal.loop-i-preserved
loop-i-preserved g c = λ f h.
    let es = c.as_slice-entry-items.result.now in
    let i = c.loop-i.i in
    let l : length (map f (take i es)) ≡ i = length-map (take i es) f ∙ length-take-le i es (omega arith) in
    let n : i + (1 + (31 - i)) ≡ 32 = omega arith in
    let v = h (get_or es i (entry 0 0)) c.number.result (record { shown = _; shows = refl; says = record { met = c.number.ensures } }) in
    place_more i (31 - i) (map f (take i es)) l 32 (f (get_or es i (entry 0 0))) c.loop-i.out c.copy_from_slice.new.self n
    (c.copy_from_slice.ensures.after ∙ c.to_be_bytes.ensures ∙ two_bytes c.number.result ∙ ap (be 2) v)
    (c.loop-i.invariant f h)
    ∙ ap (places 32) (sym (map_more f es i (entry 0 0) (omega arith)))
