-- Rows found on a lent profile are those of the state that owns it.
mod Lent
