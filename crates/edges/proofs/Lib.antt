pub mod Outcomes
pub mod Puts
pub mod RootLists
pub mod Written
