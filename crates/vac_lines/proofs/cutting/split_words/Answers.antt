use Rattle.std.proofs.Common.{arith, sym, ap, ◌∙◌, ◌++◌}
use Rattle.vac_lines.specs.Lines.{words_of, texts}
use Rattle.vac_lines.proofs.Splitting.{word_cut, word_last}
use Rattle.vac_lines.proofs.cutting.split_words.Goals as goal

pub loop-word-preserved : goal.loop-word-preserved
loop-word-preserved c =
    let at = c.loop-word in
    let pushed = c.in_ok-push.ensures in
    record {
      words = word_cut c.args.line.now c.in-Some.behind.now at.rest.now at.words.items c.in-Some.word at.invariant.words
          c.in-Some.ensures.0 c.in-Some.ensures.1
          ∙ ap (λ v. texts v ++ words_of c.in-Some.behind.now) (sym pushed.ok);
      inline = λ few. pushed.had_room (omega (arith, pushed.len, at.invariant.inline)) ∙
          at.invariant.inline (omega (arith, pushed.len));
    }

pub returns-clause-words : goal.returns-clause-words
returns-clause-words c =
    ap texts c.in_ok-push-2.ensures.ok
    ∙ word_last c.args.line.now c.loop-word.words.items c.loop-word.rest c.loop-word.invariant.words
    c.in_default.ensures
