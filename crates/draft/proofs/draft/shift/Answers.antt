-- Bytes that stay in their place are pasted over themselves.
use Rattle.std.proofs.Common.{◌≡◌, drop, ap, ◌∙◌, arith}
use lib.Seq.{paste}
use Rattle.draft.proofs.Extends.{paste_self}
use Rattle.draft.proofs.draft.shift.Goals as goal

pub returns-else-new-old-clause-bytes : goal.returns-else-new-old-clause-bytes
returns-else-new-old-clause-bytes c =
    let xs = c.args.frame.now in
    let same : c.args.new ≡ c.args.old = omega arith in
    paste_self xs c.args.new c.args.len ∙ ap (λ k. paste xs c.args.new (drop k xs) c.args.len) same
