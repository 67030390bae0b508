pub mod Fields
pub mod FigureRows
pub mod FigureTables
pub mod Gathering
pub mod Tables
