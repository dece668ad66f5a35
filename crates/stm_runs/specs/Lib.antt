pub mod Opaque
