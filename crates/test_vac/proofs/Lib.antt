mod Behind
mod Heaps
