-- Every location is allowed, and no list has more than 32 entries.
use Rattle.std.proofs.Common.{arith}
use Rattle.std.proofs.lemmas.Grind.{common_steps}
use Rattle.std.proofs.lemmas.List.{length-take}
use Rattle.std.proofs.lemmas.Bool.{le-leb, lt-ltb}
use Rattle.settings.specs.Values.{recorded}
use Rattle.settings.proofs.Judged.{framed_by}
use Rattle.settings.proofs.rules.is_valid.Goals as goal

pub returns-then-valid_flags : goal.returns-then-valid_flags
returns-then-valid_flags c =
    let v = c.args.values.now in
    framed_by (recorded c.args.product v) c.as_slice.result.now c.valid_entries.result c.valid_entries.ensures c.as_slice.ensures.is
    (record {
      baud = grind (arith, common_steps);
      profile = grind (arith, common_steps);
      error_mode = grind (arith, common_steps);
      location = lt-ltb _ _ (omega arith);
      flags = grind (arith, common_steps);
      few = le-leb _ _ (simp length-take (omega (arith, v.entries.fits)));
    })
