use Rattle.std.proofs.Common.{refl, ◌+◌, map}
use Rattle.load_record.specs.Lines.{line_entry}
use Rattle.load_record.proofs.Gathered.{client_more, told_more}
use Rattle.load_record.proofs.gathering.add_all.Goals as goal

pub clients-preserved : goal.clients-preserved
clients-preserved g c =
    let ledger = c.index-clients-place.result in
    record {
      added = client_more c.args.opening.now c.args.clients.now c.clients.place (c.clients.place + 1) ledger
          (map line_entry c.clients.lines.items) (map line_entry c.add_client-in-clients.new.lines.items)
          (map line_entry c.args.lines.now.items) c.clients-test.true c.index-clients-place.is refl
          c.clients.invariant.added c.in_ok-add_client-2.ensures.added;
      told = told_more c.args.opening.now c.args.clients.now c.clients.place ledger c.clients-test.true
          c.index-clients-place.is c.clients.invariant.told c.in_ok-add_client-2.ensures.told;
    }
