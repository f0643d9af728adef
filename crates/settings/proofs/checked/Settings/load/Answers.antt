-- On each of its ways.
use Rattle.std.proofs.Common.{arith, ap, ◌∙◌}
use Rattle.std.specs.Option.{option_map}
use Rattle.std.proofs.lemmas.Slice.Eq.{slice_eq-Decides}
use Rattle.std.proofs.lemmas.Bool.Decides.{Decides-eqb}
use Rattle.settings.specs.Values.{recorded}
use Rattle.settings.specs.Image.{load_of}
use Rattle.settings.specs.View.{values_of}
use Rattle.settings.proofs.Spelt.{byte_at}
use Rattle.settings.proofs.Loads.{wrong_size, too_many, not_valid, compared, handed_out, taken, not_taken}
use Rattle.settings.proofs.Stores.{stored_said}
use Rattle.settings.proofs.checked.Settings.load.Goals as goal

pub returns-in_err-image : goal.returns-in_err-image
returns-in_err-image c =
    rw c.from_residual.ensures
    (record {
      is = wrong_size c.args.product c.args.bytes.now (not_taken c.try_from.result _ _ c.in_err-image.ensures.value c.try_from.ensures.1);
      said = stored_said;
    })

pub returns-then-from-gt-MOST_ENTRIES : goal.returns-then-from-gt-MOST_ENTRIES
returns-then-from-gt-MOST_ENTRIES c =
    let same = (taken c.try_from.result _ _ c.in_ok-image.image c.in_ok-image.ensures.value c.try_from.ensures.1).same in
    record {
      is =
          too_many c.args.product c.in_ok-image.image.now
          (omega (arith, c.from.ensures, c.if-from-gt-MOST_ENTRIES.true, byte_at c.in_ok-image.image.now 1 (omega arith)))
          ∙ ap (load_of c.args.product) same;
      said = stored_said;
    }

pub returns-in_err-settings : goal.returns-in_err-settings
returns-in_err-settings c =
    let same = (taken c.try_from.result _ _ c.in_ok-image.image c.in_ok-image.ensures.value c.try_from.ensures.1).same in
    rw c.from_residual-in_err-settings.ensures
    (record {
      is =
          not_valid c.args.product c.in_ok-image.image.now (recorded c.args.product c.read.result) (c.read.ensures c.args.product)
          c.in_err-settings.ensures.is ∙ ap (load_of c.args.product) same;
      said = stored_said;
    })

pub returns : goal.returns
returns c =
    let same = (taken c.try_from.result _ _ c.in_ok-image.image c.in_ok-image.ensures.value c.try_from.ensures.1).same in
    record {
      is =
          ap (option_map values_of) c.then_some.ensures ∙ handed_out c.eq.result c.in_ok-settings.settings
          ∙ compared c.args.product c.in_ok-image.image.now (recorded c.args.product c.read.result) (c.read.ensures c.args.product)
          (values_of c.in_ok-settings.settings) c.in_ok-settings.ensures.is c.image.result c.image.ensures.is
          c.eq.result (slice_eq-Decides Decides-eqb _ _ _ c.eq.ensures)
          ∙ ap (load_of c.args.product) same;
      said = stored_said;
    }
