-- The first word and the rest of a line.
use Rattle.std.proofs.Common.{Some, ap, ◌∙◌, arith}
use Rattle.std.specs.Option.{option_map}
use Rattle.lines.specs.Cuts.{seen}
use Rattle.lines.proofs.WordParts.{no_word, word_there, word_is, word_cases, words_cases}
use Rattle.lines.proofs.words.next_word.Goals as goal

pub returns-in_err-start : goal.returns-in_err-start
returns-in_err-start c =
    let v = ap (option_map seen) c.from_residual.ensures ∙ no_word c.args.line.now c.word_start.result c.word_start.ensures c.in_err-start.was in
    record { value = v; parts = word_cases _ c.args.line.now v; words = words_cases _ c.args.line.now v }

pub returns : goal.returns
returns c =
    let w = word_there c.args.line.now c.word_start.result c.in_ok-start.start c.word_start.ensures c.in_ok-start.was in
    let v = word_is c.args.line.now c.cut.result _ w.0 (omega (arith, w.1)) c.cut.ensures.front c.cut.ensures.back in
    record { value = v; parts = word_cases (Some c.cut.result) c.args.line.now v; words = words_cases (Some c.cut.result) c.args.line.now v }
