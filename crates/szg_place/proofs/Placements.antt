pub mod Stated
pub mod BoardStated
pub mod Stating
pub mod Placed
