pub mod OpeningFaults
pub mod BlockTimes
pub mod OpeningLines
pub mod Said
pub mod Openings
pub mod Laws
