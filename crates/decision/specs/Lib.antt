-- Working definitions: the decision as a call, which both reports go through.
pub mod Call
