pub mod DemandCalls
