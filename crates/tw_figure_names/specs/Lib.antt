pub mod Labels
pub mod Law
pub mod Texts
pub mod Entries
pub mod EntryViews
pub mod Said
pub mod EntriesLaw
pub mod MachineLaw
