pub mod TrailLaws
pub mod MarkLaws
pub mod PenLaws
pub mod CodeLaws
