-- An entry is taken exactly where fewer than 32 stand, and it is the element behind them.
use Rattle.std.proofs.Common.{length, sym, arith}
use Rattle.std.proofs.lemmas.List.{length-take-le, take_more_set}
use Rattle.std.proofs.lemmas.Bool.{lt-ltb}
use Rattle.settings.specs.Values.{listed}
use Rattle.settings.proofs.record.Entries.push.Goals as goal

pub returns : goal.returns
returns c =
    let s = c.args.self.now in
    let n = length-take-le s.count s.list (omega (arith, s.sized, s.fits)) in
    record {
      is = sym (lt-ltb (length (listed s)) 32 (omega (arith, s.fits)));
      after = take_more_set s.list s.count c.args.entry (omega (arith, s.sized, s.fits));
    }
