use Rattle.std.proofs.Common.{◌<◌, ◌+◌, length, get_or, refl, sym, ◌∙◌, arith}
use Rattle.std.proofs.lemmas.Bool.Decides.{nat_tests}
use Rattle.judge_part_text.proofs.Named.{items_more, no_word}
use Rattle.judge_part_text.proofs.naming.items_of.Goals as goal

pub words-preserved : goal.words-preserved
words-preserved c =
    let words = c.args.words.now in
    let less = c.words-test.true in
    let more = c.if-at-words.false in
    let next : c.words.at + 1 < length words = grind (arith, nat_tests) in
    items_more words c.words.at (get_or words c.words.at no_word)
    (get_or words (c.words.at + 1) no_word) no_word no_word
    c.words.items.items _ c.in-Some.item c.words.invariant less next refl refl (sym c.item_of.ensures ∙ c.in-Some.is)
    c.in_ok-push-in-Some.ensures.items
