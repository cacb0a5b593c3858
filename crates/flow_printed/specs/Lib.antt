pub mod Printed
pub mod Map
pub mod Line
pub mod Plain
