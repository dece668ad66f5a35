use Rattle.std.proofs.Common.{Some, sym, ap, ◌∙◌}
use Rattle.judge_kv.proofs.reader.Reader.read_value.Goals as goal

pub returns-in-Some : goal.returns-in-Some
returns-in-Some c =
    c.self.invariant c.args.word.now c.in-Some.value.now (sym c.in-Some.ensures.value)
    ∙ ap Some (sym c.in_ok-other.ensures)
