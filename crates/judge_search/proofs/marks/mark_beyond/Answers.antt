use Rattle.std.proofs.Common.{ap, ◌∙◌}
use Rattle.judge_search.specs.Marks.{is_made}
use Rattle.judge_search.proofs.Marking.{mark_among}
use Rattle.judge_search.proofs.marks.mark_beyond.Goals as goal

pub returns : goal.returns
returns c = λ low other.
    ap (λ l. is_made low l other) c.in_ok-insert.ensures.items
    ∙ mark_among low c.args.beyond.items c.args.place c.marks.number other
