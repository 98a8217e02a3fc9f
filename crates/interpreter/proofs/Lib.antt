pub mod LoopInvariant
