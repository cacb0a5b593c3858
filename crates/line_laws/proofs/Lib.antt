pub mod LineFound
