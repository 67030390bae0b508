-- why a run was given up
pub mod GivenUp
-- what workers share may go from one of them to another
pub mod Sent
