pub mod AlikeLaws
