pub mod RisingLists
pub mod EntryOrder
pub mod EntriesByIndex
pub mod HeapMoves
pub mod HeapChanges
pub mod EntriesRise
pub mod Found
pub mod Fronts
