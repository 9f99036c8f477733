-- To be believed: which losses are fair.
pub mod Fair
-- Which were fair by document 01's rule: for one law and one example.
pub mod FairBefore
-- Working definitions: polynomials by their coefficients.
pub mod Polynomial
