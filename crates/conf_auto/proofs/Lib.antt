pub mod CountLemmas
pub mod Lists
pub mod Numbers
pub mod ReadLemmas
pub mod TreeSizes
