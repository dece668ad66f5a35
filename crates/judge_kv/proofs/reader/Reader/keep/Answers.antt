use Rattle.std.proofs.Common.{Some, sym, ap, ◌∙◌}
use Rattle.judge_text.specs.Quoting.{unquoted}
use Rattle.judge_kv.proofs.Keeping.{one_kept}
use Rattle.judge_kv.proofs.reader.Reader.keep.Goals as goal

pub invariant_of-self-then-word-le-MOST_BYTES : goal.invariant_of-self-then-word-le-MOST_BYTES
invariant_of-self-then-word-le-MOST_BYTES c =
    one_kept c.self.inside.values c.insert.new.self c.in_ok-key.key c.in_ok-other.other c.self.invariant
    (ap unquoted c.in_ok-key.ensures.items ∙ c.requires ∙ ap Some (sym c.in_ok-other.ensures))
    c.in_ok-insert.ensures.updates
