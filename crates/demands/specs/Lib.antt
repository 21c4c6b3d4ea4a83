pub mod Text
pub mod RLines
pub mod Loops
pub mod Examples
pub mod FirstBad
pub mod Spreads
pub mod WritingBack
pub mod HighestCell
