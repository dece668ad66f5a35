-- Sequences of steps of a memory.
pub use Rattle.tx_alloc.specs.Steps.{kept_none, kept_both, stood, at_start, write_at_start}
