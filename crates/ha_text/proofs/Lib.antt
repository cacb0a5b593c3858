pub mod FirstPlace
pub mod LastPlace
pub mod LineLemmas
pub mod PieceLemmas
pub mod Shorten
pub mod SlugLemmas
pub mod Taking
