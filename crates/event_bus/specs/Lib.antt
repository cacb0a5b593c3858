pub mod Lists
pub mod Subjects
