use Rattle.vac_records.proofs.Hands.{block_taken, block_drawn, block_given, block_written}
use Rattle.vac_records.proofs.laws.blocks_in_hand_are_no_entries.Goals as goal

pub returns : goal.returns
returns c = record { taken = block_taken; drawn = block_drawn; given = block_given; written = block_written }
