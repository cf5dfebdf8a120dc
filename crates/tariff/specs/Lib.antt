-- What a call costs: the price as the contract has it, and what it means in the request's words.
pub mod Price
pub mod Meaning
