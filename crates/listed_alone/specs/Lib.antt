pub mod DemandListed
