pub mod ListedBesideLaws
