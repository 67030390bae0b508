-- the network and the end tick stay, and what is given out is of these
pub mod Staying
