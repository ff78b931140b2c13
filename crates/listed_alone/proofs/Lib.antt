pub mod AloneListed
