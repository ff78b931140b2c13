pub mod TextLaws
pub mod PieceLaws
