-- To be believed: the causes that stop a player, at a recording and at a frame. How a recording starts is tied to them by `Playing`.
pub mod Stops
