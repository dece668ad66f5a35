use Rattle.std.proofs.Common.{◌+◌, ap, ◌∙◌, subst, length, sym}
use Rattle.judge_text.specs.Classing.{object_of, for_object}
use Rattle.judge_text.specs.Numbers.{HasNumber}
use Rattle.judge_text.proofs.Grouping.{numbers_more, AreFoundTo, one_more}
use Rattle.judge_text.proofs.runs.numbers_of.Goals as goal

pub lines-preserved : goal.lines-preserved
lines-preserved g c =
    let name = for_object (object_of c.args.names.now) (g.M.Named.name) in
    let lines = c.args.lines.now in
    let i = c.lines.invariant in
    record {
      formed = c.in_ok-number.ensures.formed;
      long = ap length c.in_ok-push.ensures.items
          ∙ sym (one_more c.lines.found.items c.in_ok-number.number c.lines.place (sym i.long));
      each = subst (λ found. AreFoundTo name c.number_of.new.self lines found (c.lines.place + 1))
          (sym c.in_ok-push.ensures.items)
          (numbers_more name c.lines.numbers c.number_of.new.self lines c.lines.found.items c.lines.place
          c.in_ok-number.number c.index-lines-place.result i.long c.in_ok-number.ensures.kept i.each c.lines-test.true
          (subst (λ k. HasNumber c.number_of.new.self k c.in_ok-number.number) c.name.ensures
          c.in_ok-number.ensures.number));
    }
