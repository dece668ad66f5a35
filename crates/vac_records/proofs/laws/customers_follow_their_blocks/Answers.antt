use Rattle.vac_records.proofs.Customers.{customer_inserted, customer_removed}
use Rattle.vac_records.proofs.laws.customers_follow_their_blocks.Goals as goal

pub returns : goal.returns
returns c = record { inserted = customer_inserted; removed = customer_removed }
