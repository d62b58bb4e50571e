pub mod Others
pub mod Counting
pub mod UnitEntities
pub mod Made
