-- Each number is the bytes of its width.
use Rattle.std.proofs.Common.{length, ap, arith}
use Rattle.settings.specs.Values.{listed}
use Rattle.settings.specs.Image.{fields_of}
use Rattle.settings.specs.View.{values_of}
use Rattle.settings.proofs.Bounds.{fits}
use Rattle.settings.proofs.Columns.{fields_are}
use Rattle.settings.proofs.checked.image.fields.Goals as goal

pub returns : goal.returns
unfolding fields_of
returns c =
    let v = c.args.settings.now.values in
    let f = fits (values_of c.args.settings.now) c.args.settings.now.ok in
    rw (c.to_be_bytes-mode.ensures, c.to_be_bytes-location.ensures, c.to_be_bytes-flags.ensures, c.as_slice.ensures.is)
    (fields_are (length (listed v.entries)) v.baud v.profile v.error_mode v.location v.flags
    (omega (arith, c.as_slice.ensures.few, ap length c.as_slice.ensures.is)) f.baud f.profile)
