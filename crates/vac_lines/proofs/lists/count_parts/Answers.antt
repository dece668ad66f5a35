use Rattle.std.proofs.Common.{◌≤◌, ◌+◌, length, ap, sym, ◌∙◌, arith}
use Rattle.std.specs.List.{count_by}
use Rattle.std.proofs.lemmas.List.{take_all}
use Rattle.std.proofs.lemmas.List.Splits.{length-slice_split}
use Rattle.vac_lines.specs.Lines.{texts}
use Rattle.vac_lines.specs.Words.{is_separator}
use Rattle.vac_lines.proofs.lists.count_parts.Goals as goal

pub returns-clause-count : goal.returns-clause-count
returns-clause-count c =
    let ended : length c.args.words.now ≤ c.loop-word.word-index = omega arith in
    c.loop-word.invariant.count ∙ ap (λ ws. count_by is_separator (texts ws) + 1)
    (take_all c.loop-word.word-index c.args.words.now ended)
    ∙ sym (length-slice_split is_separator (texts c.args.words.now))
