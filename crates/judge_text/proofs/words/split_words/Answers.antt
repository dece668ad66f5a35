use Rattle.std.proofs.Common.{sym, ap, ◌∙◌, ◌++◌}
use Rattle.vac_lines.specs.Lines.{words_of, texts}
use Rattle.vac_lines.proofs.Splitting.{word_cut, word_last}
use Rattle.judge_text.proofs.words.split_words.Goals as goal

pub words-preserved : goal.words-preserved
words-preserved c =
    word_cut c.args.line.now c.in-Some.behind.now c.words.rest.now c.words.words.items c.in-Some.word c.words.invariant
    c.in-Some.ensures.0 c.in-Some.ensures.1
    ∙ ap (λ v. texts v ++ words_of c.in-Some.behind.now) (sym c.in_ok-push.ensures.items)

pub returns : goal.returns
returns c =
    ap texts c.in_ok-push-2.ensures.items
    ∙ word_last c.args.line.now c.words.words.items c.words.rest c.words.invariant c.in_default.ensures
