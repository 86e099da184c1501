pub mod Threading
pub mod Programs
