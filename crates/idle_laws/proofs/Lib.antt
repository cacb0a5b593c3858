pub mod IdleHolds
