use Rattle.std.proofs.Common.{◌≡◌, ◌+◌, ◌*◌, length, true}
use Rattle.std.specs.List.{list_all}
use Rattle.vac_model.specs.Amounts.{is_id}
use Rattle.vac_lines.specs.Lines.{texts}
use Rattle.vac_lines.specs.LineTable.{asks_of}
use Rattle.vac_lines.proofs.WordReading.{put_behind}
use Rattle.vac_lines.proofs.lists.read_asks.Given as goal

-- the asks so far
abbrev pub invariant-loop-pair : goal.invariant-loop-pair
invariant-loop-pair l = record {
  pairs : l.pair-iterator.size ≡ 2;
  same : asks_of (texts l.pairs) ≡ put_behind l.asks.items (asks_of (texts l.pair-iterator.rest.now));
  count : 2 * length l.asks.items + length l.pair-iterator.rest.now ≡ length l.pairs;
  in_range : list_all (λ ask. is_id ask.1) l.asks.items ≡ true;
}
