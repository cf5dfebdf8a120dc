-- Two traces: places and steps of the merge.
pub mod Places
pub mod Steps
