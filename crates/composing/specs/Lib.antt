-- What `compose` prints.
pub mod Composing
-- A line's words.
pub mod Words
-- A decimal as a person writes it.
pub mod Decimal
-- What a line of a circuit's text says.
pub mod Names
pub mod Row
-- The circuit that a text says.
pub mod Draft
-- What is wrong, in words.
pub mod FaultText
-- What the laws of composed texts say.
pub mod Laws
