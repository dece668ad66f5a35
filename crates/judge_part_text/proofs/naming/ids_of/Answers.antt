use Rattle.std.proofs.Common.{refl, sym, ◌∙◌}
use Rattle.judge_part_text.specs.Naming.{ids_of}
use Rattle.judge_part_text.proofs.Named.{ahead_none, ids_more, ids_bad, ids_all, texts_of, no_word}
use Rattle.judge_part_text.proofs.naming.ids_of.Goals as goal

pub words-init : goal.words-init
words-init c = ahead_none _ (ids_of (texts_of c.args.words.now)) c.new-ids.ensures.items

pub words-preserved : goal.words-preserved
words-preserved c = ids_more c.args.words.now c.words.at _ no_word c.words.ids.items _ c.in-Some.id
    c.words.invariant c.words-test.true refl (sym c.id_of.ensures ∙ c.in-Some.is)
    c.in_ok-push-in-Some.ensures.items

pub returns-in-None : goal.returns-in-None
returns-in-None c = ids_bad c.args.words.now c.words.at _ no_word c.words.ids.items
    c.words.invariant c.words-test.true refl (sym c.id_of.ensures ∙ c.in-None.is)

pub returns : goal.returns
returns c = ids_all c.args.words.now c.words.at c.words.ids.items c.words.invariant c.words-test.false
