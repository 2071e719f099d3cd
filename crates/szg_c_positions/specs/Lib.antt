pub mod Men
pub mod Boards
pub mod Positions
pub mod Fens
