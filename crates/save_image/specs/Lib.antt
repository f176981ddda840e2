pub mod Header
pub mod Reading
pub mod Body
pub mod Image
