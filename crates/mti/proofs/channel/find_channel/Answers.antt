-- What is found is the row under its own identifier, and with it go the table's theorems.
use Rattle.std.proofs.Common.{◌≡◌, Some, sym, ap, ◌∙◌, rules}
use Rattle.mti.specs.Channels.{channel_of}
use Rattle.mti.proofs.Rows.{channel_exactly, named_so, orderly_table}
use Rattle.mti.proofs.channel.find_channel.Goals as goal

pub returns-in_err-row-clause-exact : goal.returns-in_err-row-clause-exact
returns-in_err-row-clause-exact c =
    let is : c.from_residual.result ≡ channel_of c.args.identifier = search rules in channel_exactly _ _ is

pub returns-in_err-row-clause-table : goal.returns-in_err-row-clause-table
returns-in_err-row-clause-table c = orderly_table

pub returns : goal.returns
returns c =
    let found : channel_of c.args.identifier ≡ Some c.in_ok-row.row.now = search rules in
    let is = ap Some (named_so c.args.identifier c.in_ok-row.row.now found) ∙ sym found in
    record { is = is; exact = channel_exactly _ _ is; table = orderly_table }
