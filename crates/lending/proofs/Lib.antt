pub mod PartLaws
mod StoreLaws
mod LendLaws
