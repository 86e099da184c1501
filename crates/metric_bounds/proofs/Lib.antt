pub mod Powers
mod Budgets
mod Extremes
mod Spares
mod Tables
