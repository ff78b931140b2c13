pub mod ListedBeside
