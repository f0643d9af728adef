-- The parts that are written, between zeros.
use Rattle.std.proofs.Common.{◌≡◌, ap, ◌∙◌}
use Rattle.settings.specs.Values.{Values}
use Rattle.settings.specs.View.{values_of}
use Rattle.config.specs.Answered.{data_bytes, configured, configuration_of}
use Rattle.config.proofs.Layouts.{configuration_said}
use Rattle.config.proofs.Sizes.{configured_is}
use Rattle.config.proofs.layout.configuration.Goals as goal

pub returns : goal.returns
unfolding configuration_of
returns c =
    let size : c.data_bytes.result ≡ data_bytes (values_of c.args.settings.now).entries =
    c.data_bytes.ensures ∙ ap (λ (v : Values). data_bytes v.entries) c.values-values.ensures in
    record {
      is =
          rw (c.copy_from_slice.ensures.after, c.copy_from_slice-2.ensures.after, c.to_be_bytes-id.ensures, c.to_be_bytes-size.ensures)
          (configured_is c.args.device_id c.data_bytes.result ∙ ap (configured c.args.device_id) size);
      said = configuration_said;
    }
