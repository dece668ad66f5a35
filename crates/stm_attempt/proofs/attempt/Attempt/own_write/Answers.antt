use Rattle.std.proofs.Common.{refl, sym, ◌∙◌}
use Rattle.stm_attempt.proofs.Marking.{unmarked_runs, none_of, some_of}
use Rattle.stm_attempt.proofs.attempt.Attempt.own_write.Goals as goal

pub returns-then-not-is_marked-clause-ok : goal.returns-then-not-is_marked-clause-ok
returns-then-not-is_marked-clause-ok g c =
    let s = c.args.self.now in
    let away = sym c.is_marked.ensures ∙ c.if-not-is_marked.true in (
      sym (s.covered c.requires c.args.addr.0 away),
      unmarked_runs s.stopped s.logs.now.marks c.args.addr.0 (s.marked c.requires) away,
    )

pub returns-then-is_some-clause-stopped : goal.returns-then-is_some-clause-stopped
returns-then-is_some-clause-stopped g c = (refl, some_of _ (sym c.is_some.ensures ∙ c.if-is_some.true))

pub returns-clause-ok : goal.returns-clause-ok
returns-clause-ok g c = (c.get.ensures, none_of _ (sym c.is_some.ensures ∙ c.if-is_some.false))
