use Rattle.std.proofs.Common.{rules, inl, inr, ◌≡◌, ◌+◌, ◌≤◌, ℕ, refl, subst, arith}
use Rattle.load_tasks.specs.Draws.{for_each}
use Rattle.load_tasks.specs.Tasks.{stocks}
use Rattle.load_run.specs.Keeping.{HasKeptAdded, contents}
use Rattle.load_run.specs.Opening.{IsAnswered, RanDrawn}
use Rattle.load_run.proofs.Answering.{answered_quiet}
use Rattle.load_run.proofs.Opened.{last_answered, Opening, opening_more, opening_all, asked_none, asked_more}
use Rattle.load_run.proofs.Opened.{opening_stopped_at_items, opening_stopped_at_customer}
use Rattle.load_run.proofs.Callers.{of_manager}
use Rattle.load_run.proofs.Notes.{kept_none, kept_both}
use Rattle.load_run.proofs.Ranges.{some_items}
use Rattle.load_run.proofs.opening.open_kept.Goals as goal

pub items-init : goal.items-init
items-init g c = record {
  asked = asked_none g.D.Draws.leads stocks c.args.caller.now _ tt c.requires.alone;
  kept = kept_none _ _ _ _ refl;
}

pub items-preserved : goal.items-preserved
items-preserved g c = record {
  asked = asked_more g.D.Draws.leads c.items.place stocks c.args.caller.now c.items.caller c.add_items.new.caller
      _ _ _ tt tt c.items.invariant.asked c.in_ok-add_items.ensures.asked;
  kept = kept_both _ _ _ _ _ _ _ c.items.invariant.kept
      (of_manager (λ m. HasKeptAdded m.renewal c.items.caller.user.value c.add_items.new.caller.user.value
      (contents g.K.Recorder.notes g.K.Recorder.traced g.K.Recorder.latest c.items.keep)
      (contents g.K.Recorder.notes g.K.Recorder.traced g.K.Recorder.latest c.add_items.new.keep))
      c.args.caller.now c.items.caller
      c.items.invariant.asked.caller c.in_ok-add_items.ensures.kept);
}

pub returns-in_err-add_items-clause-opened : goal.returns-in_err-add_items-clause-opened
returns-in_err-add_items-clause-opened g c =
    let less : c.items.place + 1 ≤ c.args.settings.now.items = search rules in
    opening_stopped_at_items g.D.Draws.leads c.args.settings.now c.items.place c.from_residual.result _
    c.args.caller.now c.items.caller c.add_items.new.caller _ _ _ tt less c.from_residual.ensures.1
    c.items.invariant.asked c.in_err-add_items.ensures.asked

pub customers-init : goal.customers-init
customers-init g c =
    let all : c.items.place ≡ c.args.settings.now.items = search rules in
    record {
      caller = c.items.invariant.asked.caller;
      grants = c.items.invariant.asked.grants;
      opening = record {
        between = c.items.caller.user.value;
        items = subst (λ (n : ℕ). RanDrawn g.D.Draws.leads c.args.caller.now.shared.renewal (for_each n stocks)
            c.args.caller.now.user.value c.items.caller.user.value c.args.draws.now c.items.draws) all
            c.items.invariant.asked.ran;
        made = answered_quiet c.args.caller.now.shared.renewal _ _ refl (omega arith) refl;
        near = omega arith;
      };
      kept = c.items.invariant.kept;
      ready = inl refl;
    }

pub customers-preserved : goal.customers-preserved
customers-preserved g c = record {
  caller = search rules;
  grants = search rules;
  opening = opening_more g.D.Draws.leads c.args.settings.now.items c.customers.place c.args.caller.now
      c.customers.caller c.ask_for.new.caller _ _ _ _ c.customers.invariant.caller c.customers.invariant.opening
      c.in_ok-ask_for.ensures.answered;
  kept = kept_both _ _ _ _ _ _ _ c.customers.invariant.kept
      (of_manager (λ m. HasKeptAdded m.renewal c.customers.caller.user.value c.ask_for.new.caller.user.value
      (contents g.K.Recorder.notes g.K.Recorder.traced g.K.Recorder.latest c.customers.keep)
      (contents g.K.Recorder.notes g.K.Recorder.traced g.K.Recorder.latest c.ask_for.new.keep))
      c.args.caller.now c.customers.caller
      c.customers.invariant.caller c.in_ok-ask_for.ensures.answered.kept);
  ready = inr (of_manager (λ m. IsAnswered m c.ask_for.new.caller.user.value) c.args.caller.now c.customers.caller
      c.customers.invariant.caller c.in_ok-ask_for.ensures.answered.ready);
}

pub returns-in_err-ask_for-clause-opened : goal.returns-in_err-ask_for-clause-opened
returns-in_err-ask_for-clause-opened g c =
    let less : c.customers.place + 1 ≤ c.args.settings.now.items = search rules in
    opening_stopped_at_customer g.D.Draws.leads c.args.settings.now c.customers.place
    c.from_residual-in_err-ask_for.result _ c.args.caller.now c.customers.caller c.ask_for.new.caller _ _ less
    c.from_residual-in_err-ask_for.ensures.1 c.customers.invariant.caller c.ask_for.ensures.caller
    c.ask_for.ensures.grants c.customers.invariant.opening c.in_err-ask_for.ensures.refused

pub returns-clause-opened : goal.returns-clause-opened
returns-clause-opened g c =
    let all : c.customers.place ≡ c.args.settings.now.items = search rules in
    record {
      asked = record {
        caller = c.customers.invariant.caller;
        grants = c.customers.invariant.grants;
        ran = opening_all g.D.Draws.leads c.args.caller.now.shared.renewal c.args.settings.now _ _ _ _
            (subst (λ (n : ℕ). Opening g.D.Draws.leads c.args.caller.now.shared.renewal c.args.settings.now.items n
            c.args.caller.now.user.value c.customers.caller.user.value c.args.draws.now c.items.draws) all
            c.customers.invariant.opening);
        stopped = tt;
      };
      ready = last_answered c.args.caller.now.shared c.customers.place c.args.settings.now.items
          c.customers.caller.user.value all (some_items c.args.settings.now c.requires.settings)
          c.customers.invariant.ready;
    }
