-- Sheets from other programs, marked.
-- what `mark` answers and prints of an input
pub mod Marked
-- what holds of it
pub mod Laws
-- The marking of a text beside ours.
-- what is answered
pub mod Answer
-- its line of text
pub mod Text
-- what holds of it
pub mod AnswerLaws
