use Rattle.std.proofs.Common.{rules}
use Rattle.vac_manager.proofs.Openings.{closes}
use Rattle.stm_object.specs.History.{Closes}
use Rattle.vac_manager.specs.Law.{vacation}
use Rattle.vac_manager.proofs.manager.Manager.renew.Goals as goal

pub returns-in-Ok-clause-renewed : goal.returns-in-Ok-clause-renewed
returns-in-Ok-clause-renewed c = record {
  manager = search rules;
  client = search rules;
  words = (
    c.in-Ok.ensures.words.0,
    closes _ _ _ _ _ _ c.self.invariant c.in-Ok.ensures.words.1.ends (search rules)
        (search rules),
  );
  ranges = search rules;
}

pub returns-in-Err-Closed-clause-refused : goal.returns-in-Err-Closed-clause-refused
returns-in-Err-Closed-clause-refused c =
    let ends : Closes vacation c.self.inside.shared c.args.client.value c.in-Err-Closed.words.items
    c.in-Err-Closed.last = search rules in
    (closes _ _ _ _ _ _ c.self.invariant ends.ends (search rules) (search rules), search rules)
