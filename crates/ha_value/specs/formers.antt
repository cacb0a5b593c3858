pub mod many
