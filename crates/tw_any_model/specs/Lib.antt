pub mod AnyModel
pub mod AnyModelLaws
