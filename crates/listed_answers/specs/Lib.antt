pub mod AfterListed
