pub mod LayoutLaws
pub mod OverlayBounds
pub mod OverlayLaws
