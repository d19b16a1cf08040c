pub mod CompactFields
pub mod CompactParts
pub mod Compacting
pub mod Fields
pub mod ReadParts
pub mod Room
pub mod RowTexts
