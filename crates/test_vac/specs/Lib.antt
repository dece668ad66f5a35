pub mod PlainState
