-- Working definitions: what is told of a symbol, and the worst grade so far.
pub mod Decision
