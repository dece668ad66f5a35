use Rattle.std.proofs.Common.{◌≡◌, ◌∙◌, length, sym, ap, subst, arith}
use Rattle.stm_core.specs.Client.{all_aborted}
use Rattle.stm_region.specs.Shown.{RegionShown}
use Rattle.vac_manager.specs.Called.{CallerShown}
use Rattle.load_run.specs.Keeping.{contents}
use Rattle.load_run.specs.Slots.{shown}
use Rattle.load_run.specs.Alone.{IsInRenewal, IsReadyForRound}
use Rattle.load_run.specs.Load.{RanAll}
use Rattle.load_run.proofs.Ranges.{few, few_tries}
use Rattle.load_run.proofs.Pairs.{paired_length}
use Rattle.load_run.proofs.Shares.{ran_all, ran_in, can_gather}
use Rattle.load_run.proofs.plan.Plan.run_round.Goals as goal

pub split_crew-requires-clause-tries : goal.split_crew-requires-clause-tries
split_crew-requires-clause-tries g c = few_tries c.args.self.settings c.args.self.in_range

pub gather_all-client-requires : goal.gather_all-client-requires
gather_all-client-requires g c =
    let most = few c.args.self.settings c.args.self.in_range in
    let same = paired_length _ _ _ c.in_ok-crew-2.ensures.1.0.others in
    let count : length c.args.slots.items ≡ c.args.self.settings.clients =
    sym c.args.slots.ok.0 ∙ c.requires.number in
    record {
      can = can_gather g.D.Draws.leads (shown (contents g.K.Recorder.notes g.K.Recorder.traced g.K.Recorder.latest))
          c.args.self.settings
          c.caller-caller.result
          c.args.slots.items
          _ _
          most.clients most.tasks count c.in_ok-crew.ensures.crew c.in_ok-crew-2.ensures.1.0;
      room = omega (arith, c.in_ok-crew.ensures.number, same, c.in-Ok.ensures.capacity, c.len.ensures);
      empty = c.in-Ok.ensures.items;
    }

pub returns-clause-round : goal.returns-clause-round
returns-clause-round g c =
    let same = paired_length _ _ _ c.in_ok-crew-2.ensures.1.0.others in
    let handed = paired_length _ _ _ c.gather_all-client.ensures.slots in
    let opened = c.caller-caller.ensures in
    let ready = subst (λ (y : CallerShown). IsReadyForRound c.args.self.settings y) (sym opened) c.requires.ready in
    let first = ap (λ (y : CallerShown). y.shared) c.in_ok-crew-2.ensures.1.0.first.caller ∙
    (c.in_ok-crew.ensures.crew.opening.manager_is ∙ ap (λ (y : CallerShown). y.shared) opened) in
    record {
      number = omega (arith, c.in_ok-crew.ensures.number, same, handed, c.requires.number);
      tries = c.gather_all-client.ensures.tries ∙ c.in_ok-crew-2.ensures.1.0.first.tries;
      alone = record {
        own = c.gather_all-client.ensures.own ∙ ap (λ (m : RegionShown). m.table) first;
        alone = c.gather_all-client.ensures.alone;
        era = subst (λ (y : CallerShown). IsInRenewal y.shared.renewal c.gather_all-client.result.0.value.records)
            opened
            (ran_in g.D.Draws.leads (shown (contents g.K.Recorder.notes g.K.Recorder.traced g.K.Recorder.latest))
            c.args.self.settings
            c.caller-caller.result _ _ _
            c.gather_all-client.result.0.value _ ready c.in_ok-crew.ensures.crew c.in_ok-crew-2.ensures.1.0
            c.gather_all-client.ensures.gathered
            (subst (λ (y : CallerShown). IsInRenewal y.shared.renewal y.user.value.records) (sym opened)
            c.requires.alone.era));
      };
    }

pub returns-clause-ran : goal.returns-clause-ran
returns-clause-ran g c =
    let opened = c.caller-caller.ensures in
    let ready = subst (λ (y : CallerShown). IsReadyForRound c.args.self.settings y) (sym opened) c.requires.ready in
    subst (λ (y : CallerShown). RanAll g.D.Draws.leads c.args.self.settings
    (shown (contents g.K.Recorder.notes g.K.Recorder.traced g.K.Recorder.latest))
    c.args.self.settings.tasks y.shared.renewal
    y.shared.renewal y.user.value.records c.args.slots.items
    c.gather_all-client.result.0.value.records c.gather_all-client.result.1.items c.gather_all-client.result.2.outcomes
    c.gather_all-client.result.2.attempts (all_aborted y.user.value) (all_aborted c.gather_all-client.result.0.value))
    opened (ran_all g.D.Draws.leads (shown (contents g.K.Recorder.notes g.K.Recorder.traced g.K.Recorder.latest))
    c.args.self.settings
    c.caller-caller.result _ _ _ _
    c.gather_all-client.result.0.value _ _ ready c.in_ok-crew.ensures.crew c.in_ok-crew-2.ensures.1.0
    c.gather_all-client.ensures.gathered c.gather_all-client.ensures.slots c.gather_all-client.ensures.attempts
    c.gather_all-client.ensures.aborted)
