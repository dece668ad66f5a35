pub mod RunsOpaque
