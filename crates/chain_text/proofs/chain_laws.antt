-- Longer files, what is printed, and the writer's order.
pub mod Longer
pub mod Printed
pub mod Order
