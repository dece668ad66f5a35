use Rattle.vac_records.proofs.Booked.{booking_inserted, booking_replaced, booking_removed}
use Rattle.vac_records.proofs.laws.bookings_follow_their_blocks.Goals as goal

pub returns : goal.returns
returns c = record { inserted = booking_inserted; replaced = booking_replaced; removed = booking_removed }
