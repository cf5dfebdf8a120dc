-- How closely two near MUFs print, and what a second more costs.
pub mod Jump
pub mod Text
pub mod Second
