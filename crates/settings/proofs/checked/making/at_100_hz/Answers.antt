-- Each identifier gives one entry more, for which there is room.
use Rattle.std.proofs.Common.{map, get_or, take, sym, ap, ◌∙◌, arith}
use Rattle.std.proofs.lemmas.List.{map_more, take_all, length-map, length-take}
use Rattle.std.specs.Result.{is_ok}
use Rattle.settings.specs.Values.{entry, listed}
use Rattle.settings.proofs.Pushes.{pushed}
use Rattle.settings.proofs.checked.making.at_100_hz.Goals as goal

pub loop-identifier-preserved : goal.loop-identifier-preserved
loop-identifier-preserved c =
    let xs = c.args.identifiers.now in
    let i = c.loop-identifier.identifier-index in
    pushed (listed c.loop-identifier.entries) (listed c.push.new.self) (map (λ i. entry i 100) (take i xs)) (entry (get_or xs i 0) 100)
    (is_ok c.push.result) c.push.ensures.is c.push.ensures.after c.loop-identifier.invariant (simp (length-map, length-take) (omega arith))
    ∙ sym (map_more (λ i. entry i 100) xs i 0 (omega arith))

pub returns : goal.returns
returns c =
    c.loop-identifier.invariant
    ∙ ap (map (λ i. entry i 100)) (take_all c.loop-identifier.identifier-index c.args.identifiers.now (omega arith))
