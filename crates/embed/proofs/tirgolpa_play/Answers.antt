-- A unit is made over the page, and the script is played on it.
use Rattle.std.proofs.Common.{ap, ◌∙◌, rules}
use Rattle.session.specs.Model.{making}
use Rattle.store.specs.Slots.{left_in}
use Rattle.embed.specs.Playing.{world}
use Rattle.embed.proofs.Running.{script_played}
use Rattle.embed.proofs.tirgolpa_play.Goals as goal

pub returns-clause-played : goal.returns-clause-played
returns-clause-played c =
    script_played (world c.args.device_id c.args.page.now) c.map_or.result c.play-calls.result.1 c.writes_left.result
    (c.new-device.ensures.model ∙ ap (λ b. making (world c.args.device_id b)) c.over.ensures.bytes)
    c.play-calls.ensures.played (search rules)
    (c.writes_left.ensures.value ∙ ap (λ s. left_in s.bytes.now) c.into_parts-store.ensures.store)
