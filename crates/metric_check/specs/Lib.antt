pub mod Checked
pub mod Findings
pub mod Known
pub mod Paired
pub mod Rising
pub mod Products
