pub mod GlideLines
