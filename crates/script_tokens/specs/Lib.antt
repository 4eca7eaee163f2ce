pub mod Flaws
pub mod Lines
pub mod Tokens
pub mod Cursors
pub mod Numbers
pub mod Next
pub mod Kinds
