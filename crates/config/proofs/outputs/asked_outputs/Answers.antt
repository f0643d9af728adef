-- By the two tests.
use Rattle.std.proofs.Common.{true, false, List, length, Some, sym, ap, ◌∙◌, arith}
use Rattle.std.proofs.lemmas.Bool.{cond-false}
use Rattle.settings.specs.declared.record.Entry.{Entry}
use Rattle.decision.proofs.Carried.{fits_is}
use Rattle.config.specs.Changed.{asked_outputs}
use Rattle.config.proofs.Entered.{entries_few, outputs_asked}
use Rattle.config.proofs.outputs.asked_outputs.Goals as goal

pub returns-then-not-fits_entries : goal.returns-then-not-fits_entries
unfolding asked_outputs
returns-then-not-fits_entries c = sym (cond-false _ _ _ (sym c.if-not-fits_entries.ensures))

pub returns-then-is_emptying : goal.returns-then-is_emptying
returns-then-is_emptying c =
    ap (λ (es : List Entry). Some es) c.new.ensures
    ∙ outputs_asked c.args.bytes.now true (sym c.if-not-fits_entries.ensures) (sym c.if-is_emptying.ensures)

pub used_entries-requires : goal.used_entries-requires
used_entries-requires c =
    let xs = c.args.bytes.now in
    omega (arith, entries_few xs, fits_is (length xs) (sym c.if-not-fits_entries.ensures))

pub returns : goal.returns
returns c =
    ap (λ (es : List Entry). Some es) c.used_entries.ensures
    ∙ outputs_asked c.args.bytes.now false (sym c.if-not-fits_entries.ensures) (sym c.if-is_emptying.ensures)
