pub mod Bits
pub mod MaskLaws
pub mod PanelLaws
pub mod Counting
pub mod Lighting
pub mod PaperLaws
pub mod SaysLaws
