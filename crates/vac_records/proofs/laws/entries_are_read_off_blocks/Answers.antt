use Rattle.vac_records.proofs.Items.{item_found, item_missing}
use Rattle.vac_records.proofs.Customers.{customer_found, customer_missing}
use Rattle.vac_records.proofs.Booked.{booking_found, booking_missing}
use Rattle.vac_records.proofs.laws.entries_are_read_off_blocks.Goals as goal

pub returns : goal.returns
returns c = record {
  item = item_found;
  no_item = item_missing;
  customer = customer_found;
  no_customer = customer_missing;
  booking = booking_found;
  no_booking = booking_missing;
}
