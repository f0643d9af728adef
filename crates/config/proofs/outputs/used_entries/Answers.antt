-- Each four bytes give one entry more.
use Rattle.std.proofs.Common.{◌≡◌, ◌≤◌, true, [], ◌∷◌, ◌++◌, map, length, take, get_or, sym, ap, ◌∙◌, arith}
use Rattle.std.proofs.lemmas.Grind.{common_steps}
use Rattle.std.proofs.lemmas.List.{map_more, take_all, length-map, length-take}
use Rattle.std.specs.Result.{is_ok}
use Rattle.settings.specs.Values.{entry, listed}
use Rattle.settings.proofs.Pushes.{room, pushed}
use Rattle.config.specs.Changed.{used}
use Rattle.config.proofs.Entered.{used_first, fours_used, fours_few}
use Rattle.config.proofs.outputs.used_entries.Goals as goal

pub unwrap-requires : goal.unwrap-requires
unwrap-requires c =
    let fours = c.as_chunks.result.0.now in
    let few : length fours ≤ 32 = fours_few c.args.bytes.now fours c.as_chunks.ensures.front c.requires in
    let is : is_ok c.push.result ≡ true =
    room (listed c.loop-four.entries) (map used_first (take c.loop-four.four-index fours)) (is_ok c.push.result) c.push.ensures.is
    c.loop-four.invariant (simp (length-map, length-take) (omega arith)) in
    grind (arith, common_steps)

pub loop-four-preserved : goal.loop-four-preserved
loop-four-preserved c =
    let fours = c.as_chunks.result.0.now in
    let i = c.loop-four.four-index in
    let few : length fours ≤ 32 = fours_few c.args.bytes.now fours c.as_chunks.ensures.front c.requires in
    let is : c.used_entry-entry.result ≡ used_first (get_or fours i []) =
    c.used_entry-entry.ensures ∙ (λ t. used (entry (c.from_be_bytes.ensures t) (c.from_be_bytes-in-loop-four.ensures t))) in
    pushed (listed c.loop-four.entries) (listed c.push.new.self) (map used_first (take i fours)) c.used_entry-entry.result
    (is_ok c.push.result) c.push.ensures.is c.push.ensures.after c.loop-four.invariant (simp (length-map, length-take) (omega arith))
    ∙ ap (λ e. map used_first (take i fours) ++ (e ∷ [])) is
    ∙ sym (map_more used_first fours i [] (omega arith))

pub returns : goal.returns
returns c =
    let fours = c.as_chunks.result.0.now in
    c.loop-four.invariant ∙ ap (map used_first) (take_all c.loop-four.four-index fours (omega arith))
    ∙ fours_used c.args.bytes.now fours c.as_chunks.ensures.front
