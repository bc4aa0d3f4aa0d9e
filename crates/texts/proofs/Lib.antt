pub mod Texts
pub mod LinesRead
pub mod LineReader
pub mod Forms
