pub mod Script
pub mod System
pub mod Hearing
pub mod Dump
pub mod Check
pub mod Reading
