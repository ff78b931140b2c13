pub mod ScrollCalls
pub mod PanelCalls
