pub mod OpenText
