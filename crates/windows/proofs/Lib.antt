pub mod WindowBounds
