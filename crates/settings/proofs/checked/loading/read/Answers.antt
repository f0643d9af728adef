-- Each value is the number at its place, and there are as many entries as byte 1 says.
use Rattle.std.proofs.Common.{ap, ◌∙◌, arith}
use Rattle.settings.specs.Image.{entries_at, read_of}
use Rattle.settings.proofs.Spelt.{byte_at, two_at, four_at}
use Rattle.settings.proofs.checked.loading.read.Goals as goal

pub returns : goal.returns
unfolding read_of
returns c p =
    let xs = c.args.image.now in
    let es = c.read_entries.ensures ∙ ap (entries_at xs) (c.from.ensures ∙ byte_at xs 1 (omega arith)) in
    let mode = c.from_be_bytes.ensures ∙ two_at xs 4 (omega arith) in
    let location = c.from_be_bytes-2.ensures ∙ two_at xs 6 (omega arith) in
    let flags = c.from_be_bytes-3.ensures ∙ four_at xs 8 (omega arith) in
    λ i. record {
      product = p;
      baud = byte_at xs 2 (omega arith) i;
      profile = byte_at xs 3 (omega arith) i;
      error_mode = mode i;
      location = location i;
      flags = flags i;
      entries = es i;
    }
