use Rattle.std.proofs.Common.{Ok, IfOk}
use Rattle.vac_model.specs.declared.items.Kind.TheVariants.{Car, Flight, Room}
use Rattle.load_tasks.specs.Draws.{joined}
use Rattle.load_tasks.specs.Tasks.{stock, stocks}
use Rattle.load_run.specs.Keeping.{HasKeptAdded, contents}
use Rattle.load_run.proofs.Beginning.{readable_stock}
use Rattle.load_run.proofs.Callers.{of_manager, went_both}
use Rattle.load_run.proofs.Opened.{asked_both, asked_first, asked_handed_on}
use Rattle.load_run.proofs.Notes.{kept_both, kept_then}
use Rattle.load_run.proofs.opening.add_items.Goals as goal

pub returns-clause-asked : goal.returns-clause-asked
returns-clause-asked g c =
    let leads = g.D.Draws.leads in
    let id = c.args.id in
    let y = c.args.caller.now in
    let w = c.add_item-2.new.caller in
    asked_both leads (joined (stock id Car) (stock id Flight)) (stock id Room) y w c.add_item-3.new.caller _ _ _ tt
    c.add_item-3.result
    (asked_both leads (stock id Car) (stock id Flight) y c.add_item.new.caller w _ _ _ tt (Ok tt)
    c.in_ok-add_item.ensures.asked c.in_ok-add_item-2.ensures.asked) c.add_item-3.ensures.asked

pub returns-in_err-add_item-clause-asked : goal.returns-in_err-add_item-clause-asked
returns-in_err-add_item-clause-asked g c =
    let leads = g.D.Draws.leads in
    let id = c.args.id in
    let y = c.args.caller.now in
    let z = c.add_item.new.caller in
    asked_handed_on leads (stocks id) c.from_residual.result _ y z _ _ c.from_residual.ensures.1
    (asked_first leads (joined (stock id Car) (stock id Flight)) (stock id Room) _ y z _ _ (readable_stock id Room)
    (asked_first leads (stock id Car) (stock id Flight) _ y z _ _ (readable_stock id Flight)
    c.in_err-add_item.ensures.asked))

pub returns-in_err-add_item-2-clause-asked : goal.returns-in_err-add_item-2-clause-asked
returns-in_err-add_item-2-clause-asked g c =
    let leads = g.D.Draws.leads in
    let id = c.args.id in
    let y = c.args.caller.now in
    let w = c.add_item-2.new.caller in
    asked_handed_on leads (stocks id) c.from_residual-in_err-add_item-2.result _ y w _ _
    c.from_residual-in_err-add_item-2.ensures.1
    (asked_first leads (joined (stock id Car) (stock id Flight)) (stock id Room) _ y w _ _ (readable_stock id Room)
    (asked_both leads (stock id Car) (stock id Flight) y c.add_item.new.caller w _ _ _ tt _
    c.in_ok-add_item.ensures.asked c.in_err-add_item-2.ensures.asked))

pub returns-clause-kept : goal.returns-clause-kept
returns-clause-kept g c =
    let y = c.args.caller.now in
    let z = c.add_item.new.caller in
    let w = c.add_item-2.new.caller in
    let first = c.in_ok-add_item.ensures.asked.caller in
    let second = went_both y z w first c.in_ok-add_item-2.ensures.asked.caller in
    kept_then y.shared.renewal _ _ _ _ _ _ c.add_item-3.result
    (kept_both y.shared.renewal _ _ _ _ _ _ c.in_ok-add_item.ensures.kept
    (of_manager (λ m. HasKeptAdded m.renewal z.user.value w.user.value
    (contents g.K.Recorder.notes g.K.Recorder.traced g.K.Recorder.latest c.add_item.new.keep)
    (contents g.K.Recorder.notes g.K.Recorder.traced g.K.Recorder.latest c.add_item-2.new.keep)) y z first
    c.in_ok-add_item-2.ensures.kept))
    (of_manager (λ m. IfOk c.add_item-3.result (λ _. HasKeptAdded m.renewal w.user.value
    c.add_item-3.new.caller.user.value
    (contents g.K.Recorder.notes g.K.Recorder.traced g.K.Recorder.latest c.add_item-2.new.keep)
    (contents g.K.Recorder.notes g.K.Recorder.traced g.K.Recorder.latest c.add_item-3.new.keep)))
    y w second c.add_item-3.ensures.kept)
