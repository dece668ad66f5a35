use Rattle.load_record.proofs.Loads.{begin_with_heap}
use Rattle.load_record.proofs.opacity_laws.attempts_of_a_load_begin_with_its_heap.Goals as goal

pub returns : goal.returns
returns c = begin_with_heap
