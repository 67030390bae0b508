pub mod ListsSeen
pub mod ListsByIndex
pub mod MovesToEnd
pub mod NodeLinks
pub mod LinksHold
pub mod LinkChanges
pub mod LinksRead
