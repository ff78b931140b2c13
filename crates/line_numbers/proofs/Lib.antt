pub mod HeightLaws
