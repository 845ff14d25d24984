pub mod Unique
pub mod Laying
