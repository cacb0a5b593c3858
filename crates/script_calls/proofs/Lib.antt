pub mod ApartLemmas
pub mod CallLemmas
pub mod ResolveLemmas
pub mod SeenLemmas
