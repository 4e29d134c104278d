pub mod LastColons
pub mod Parts
