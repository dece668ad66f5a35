use Rattle.vac_records.proofs.Items.{item_inserted, item_replaced, item_removed}
use Rattle.vac_records.proofs.laws.items_follow_their_blocks.Goals as goal

pub returns : goal.returns
returns c = record { inserted = item_inserted; replaced = item_replaced; removed = item_removed }
