-- No refusal has an answer's number.
pub mod Numbers
