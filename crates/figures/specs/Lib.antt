-- To be believed: document 01's figures, as a table of what is given and what the card says.
pub mod Card
