pub mod Box
pub mod Hull
pub mod Row
pub mod Shifted
pub mod Sides
