-- The data are copied to their place, so that what is sealed is the frame of them.
use Rattle.std.proofs.Common.{◌∙◌, rules}
use Rattle.xbus.proofs.Writes.{copied}
use Rattle.xbus.proofs.writing.fill_frame.Goals as goal

pub returns : goal.returns
returns c =
    let header = c.args.frame.header in
    c.seal.ensures
    ∙ copied c.args.out.now c.copy_from_slice.new.self c.args.frame.content.now header.address header.identifier
    c.content_start-start.result c.args.len.len c.requires.0 (search rules) c.copy_from_slice.ensures.after c.content_start-start.ensures
