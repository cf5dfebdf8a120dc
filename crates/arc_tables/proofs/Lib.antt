-- What each entry of the tables is: an angle with its tangent, a node with its sine and cosine.
pub mod Tangent
pub mod Angles
pub mod Nodes
