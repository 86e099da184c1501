pub mod PageCalls
pub mod Served
