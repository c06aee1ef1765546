pub mod RankCall
pub mod Ranks
