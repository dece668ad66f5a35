use Rattle.std.proofs.Common.{inl, ◌≡◌, ◌∙◌, ◌*◌, ◌≤◌, length, ℕ, refl, sym, ap, subst, arith}
use Rattle.stm_region.specs.Shown.{RegionShown}
use Rattle.load_run.specs.Keeping.{contents}
use Rattle.load_run.specs.Attempted.{AreStatistics, TaskCountsShown}
use Rattle.load_run.specs.Alone.{caller_of}
use Rattle.load_run.specs.Slots.{shown, kept_at}
use Rattle.load_run.specs.Load.{LoadedKept, StopsLoad, RoundHasRun}
use Rattle.load_run.proofs.Opened.{handed_on}
use Rattle.load_run.proofs.Ranges.{few}
use Rattle.load_run.proofs.Joining.{ran_more, ran_total, few_all, few_each}
use Rattle.load_run.proofs.Loads.{loaded_kept, kept_returned, opened_ready, stop_behind}
use Rattle.load_run.proofs.load.Load.run.Goals as goal

pub run_round-requires-clause-ready : goal.run_round-requires-clause-ready
run_round-requires-clause-ready g c = λ _ _. opened_ready _ _ _ _ _ c.in_ok-manager.ensures.opened

pub rounds-init : goal.rounds-init
rounds-init g c =
    let s = c.args.self.plan.settings in
    let one : s.tasks ≡ 1 * s.tasks = omega arith in
    let first : c.in_ok-round.round.manager.renewal ≡ c.in_ok-manager.manager.renewal =
    ap (λ (m : RegionShown). m.renewal) c.in_ok-round.ensures.manager in
    record {
      renewals = omega (arith, first, c.in_ok-manager.ensures.opened.opens.renewal);
      size = refl;
      first = refl;
      round = c.in_ok-round.ensures.round;
      ran = λ y h. subst (λ (n : ℕ). RoundHasRun g.D.Draws.leads
          (shown (contents g.K.Recorder.notes g.K.Recorder.traced g.K.Recorder.latest)) s n y c.args.self.slots.items
          c.in_ok-round.round) one h;
    }

pub renewed-requires : goal.renewed-requires
renewed-requires g c =
    let most = few c.args.self.plan.settings c.args.self.plan.in_range in
    record {
      alone = c.rounds.invariant.round.alone;
      renewals = omega (arith, c.rounds.invariant.renewals, c.rounds-test.true, most.rounds);
      settings = c.args.self.plan.in_range;
    }

pub run_round-requires-in-rounds-clause-number : goal.run_round-requires-in-rounds-clause-number
run_round-requires-in-rounds-clause-number g c = λ _ _. c.rounds.invariant.round.number

pub run_round-requires-in-rounds-clause-ready : goal.run_round-requires-in-rounds-clause-ready
run_round-requires-in-rounds-clause-ready g c = λ _ _. c.in_ok-manager-2.ensures.renewed.ready

pub run_round-requires-in-rounds-clause-alone : goal.run_round-requires-in-rounds-clause-alone
run_round-requires-in-rounds-clause-alone g c = λ _ _. c.in_ok-manager-2.ensures.renewed.alone

pub plus-requires : goal.plus-requires
plus-requires g c =
    let most = few c.args.self.plan.settings c.args.self.plan.in_range in
    let count : length c.args.self.slots.items ≡ c.args.self.plan.settings.clients =
    sym c.args.self.slots.ok.0 ∙ c.args.self.number in
    let here : length c.rounds.round.slots.items ≡ c.args.self.plan.settings.clients =
    sym c.rounds.round.slots.ok.0 ∙ c.rounds.invariant.round.number in
    let rounds : c.rounds.done ≤ 100 = omega (arith, most.rounds, c.rounds-test.true) in
    let ran = c.rounds.invariant.ran (caller_of c.in_ok-manager.manager c.in_ok-manager.client)
    c.in_ok-round.ensures.ran in
    let so_far = few_all _ _ _ c.rounds.done _ (ran_total _ _ _ _ _ _ _ _ _ _ _ _ _ _ ran) count
    most.clients rounds most.tasks in
    let more = few_each _ _ _ _ (ran_total _ _ _ _ _ _ _ _ _ _ _ _ _ _ c.in_ok-more.ensures.ran) here most.clients
    most.tasks in
    record {
      fits = omega (arith, so_far, more);
      same = c.in_ok-more.ensures.round.tries ∙ sym c.rounds.invariant.round.tries;
    }

pub rounds-preserved : goal.rounds-preserved
rounds-preserved g c =
    let i = c.rounds.invariant in
    let renewed = c.in_ok-manager-2.ensures.renewed in
    let more = c.in_ok-more.ensures in
    record {
      renewals = omega (arith, ap (λ (m : RegionShown). m.renewal) more.manager ∙ renewed.renewal, i.renewals);
      size = ap (λ (m : RegionShown). m.size) more.manager ∙ (renewed.size ∙ i.size);
      first = ap (λ (m : RegionShown). m.first) more.manager ∙ (renewed.first ∙ i.first);
      round = record {
        number = more.round.number;
        tries = ap (λ (x : TaskCountsShown). x.tries) c.plus.ensures ∙ i.round.tries;
        alone = more.round.alone;
      };
      ran = λ y h. ran_more g.D.Draws.leads
          (shown (contents g.K.Recorder.notes g.K.Recorder.traced g.K.Recorder.latest))
          c.args.self.plan.settings c.rounds.done y
          (caller_of c.in_ok-manager-2.manager c.in_ok-manager-2.client)
          c.args.self.slots.items c.rounds.round c.in_ok-more.more c.plus.result
          (i.ran y h) renewed.records renewed.aborted (omega (arith, renewed.renewal)) more.ran
          (ap (λ (x : TaskCountsShown). x.outcomes) c.plus.ensures)
          (ap (λ (x : TaskCountsShown). x.attempts) c.plus.ensures);
    }

pub recorders_of-clients-requires : goal.recorders_of-clients-requires
recorders_of-clients-requires g c =
    let here = c.rounds.invariant.round.number in
    record {
      room = omega (arith, here, c.args.self.number, c.in-Ok.ensures.capacity, c.len.ensures);
      empty = c.in-Ok.ensures.items;
    }

pub returns-clause-kept : goal.returns-clause-kept
returns-clause-kept g c =
    let s = c.args.self.plan.settings in
    let notes = contents g.K.Recorder.notes g.K.Recorder.traced g.K.Recorder.latest in
    let most = few s c.args.self.plan.in_range in
    let n : length c.args.self.slots.items ≡ s.clients = sym c.args.self.slots.ok.0 ∙ c.args.self.number in
    let opened = caller_of c.in_ok-manager.manager c.in_ok-manager.client in
    let done : c.rounds.done ≡ s.rounds = omega (arith, most.some) in
    let ran = subst (λ (k : ℕ). RoundHasRun g.D.Draws.leads (shown notes) s (k * s.tasks) opened
    c.args.self.slots.items c.rounds.round) done (c.rounds.invariant.ran opened c.in_ok-round.ensures.ran) in
    let size = c.rounds.invariant.size ∙ ap (λ (m : RegionShown). m.size) c.in_ok-round.ensures.manager in
    let first = c.rounds.invariant.first ∙ ap (λ (m : RegionShown). m.first) c.in_ok-round.ensures.manager in
    rw c.apart.ensures.outcomes (rw c.apart.ensures.attempts (kept_returned (λ slot. slot.keep) notes
    c.rounds.round.slots.items
    c.recorders_of-clients.result.items c.recorders_of-clients.ensures
    (λ afters. LoadedKept g.D.Draws.leads s (λ slot. slot.draws) c.args.self.draws c.args.self.slots.items
    c.rounds.round.counts.outcomes c.report_of-report.result c.rounds.round.counts.attempts
    (notes c.args.self.keep) (notes c.open_load.new.keep)
    (kept_at notes c.args.self.slots.items) afters)
    (loaded_kept g.D.Draws.leads notes s c.args.self.draws
    c.open_load.new.opening c.args.self.slots.items opened c.rounds.round _ _ c.in_ok-words.words.items
    c.report_of-report.result n c.in_ok-manager.ensures.opened c.in_ok-manager.ensures.kept ran
    c.in_ok-words.ensures.versioned size first c.in_ok-words.ensures.closes c.report_of-report.ensures)))

pub returns-in_default-clause-refused : goal.returns-in_default-clause-refused
returns-in_default-clause-refused g c = (c.args.self.draws, inl refl)

pub returns-in_err-manager-clause-refused : goal.returns-in_err-manager-clause-refused
returns-in_err-manager-clause-refused g c = handed_on c.from_residual.result c.in_err-manager.field-0.0
    (λ e. StopsLoad g.D.Draws.leads c.args.self.plan.settings c.args.self.draws e)
    c.from_residual.ensures.1 (c.open_load.new.opening, c.in_err-manager.ensures.stopped)

pub returns-in_err-round-clause-refused : goal.returns-in_err-round-clause-refused
returns-in_err-round-clause-refused g c =
    let leads = g.D.Draws.leads in
    let s = c.args.self.plan.settings in
    let left = c.open_load.new.opening in
    handed_on c.from_residual-in_err-round.result c.in_err-round.field-0.0
    (λ e. StopsLoad leads s c.args.self.draws e) c.from_residual-in_err-round.ensures.1 (
      left,
      stop_behind leads s c.args.self.draws left c.in_err-round.field-0.0
          (_, c.in_ok-manager.ensures.opened) c.in_err-round.ensures.refused,
    )

pub returns-in_err-manager-2-clause-refused : goal.returns-in_err-manager-2-clause-refused
returns-in_err-manager-2-clause-refused g c =
    let leads = g.D.Draws.leads in
    let s = c.args.self.plan.settings in
    let left = c.open_load.new.opening in
    handed_on c.from_residual-in_err-manager-2.result c.in_err-manager-2.field-0.0
    (λ e. StopsLoad leads s c.args.self.draws e) c.from_residual-in_err-manager-2.ensures.1 (
      left,
      stop_behind leads s c.args.self.draws left c.in_err-manager-2.field-0.0
          (_, c.in_ok-manager.ensures.opened) (inl c.in_err-manager-2.ensures.refused),
    )

pub returns-in_err-more-clause-refused : goal.returns-in_err-more-clause-refused
returns-in_err-more-clause-refused g c =
    let leads = g.D.Draws.leads in
    let s = c.args.self.plan.settings in
    let left = c.open_load.new.opening in
    handed_on c.from_residual-in_err-more.result c.in_err-more.field-0.0
    (λ e. StopsLoad leads s c.args.self.draws e) c.from_residual-in_err-more.ensures.1 (
      left,
      stop_behind leads s c.args.self.draws left c.in_err-more.field-0.0
          (_, c.in_ok-manager.ensures.opened) c.in_err-more.ensures.refused,
    )

pub returns-in_err-words-clause-refused : goal.returns-in_err-words-clause-refused
returns-in_err-words-clause-refused g c =
    let leads = g.D.Draws.leads in
    let s = c.args.self.plan.settings in
    let left = c.open_load.new.opening in
    handed_on c.from_residual-in_err-words.result c.in_err-words.field-0.0
    (λ e. StopsLoad leads s c.args.self.draws e) c.from_residual-in_err-words.ensures.1 (
      left,
      stop_behind leads s c.args.self.draws left c.in_err-words.field-0.0
          (_, c.in_ok-manager.ensures.opened) (inl c.in_err-words.ensures.refused),
    )

pub returns-clause-statistics : goal.returns-clause-statistics
returns-clause-statistics g c = subst (λ (n : ℕ). AreStatistics n c.apart.result.0 c.apart.result.1)
    c.rounds.invariant.round.tries c.apart.ensures.statistics
