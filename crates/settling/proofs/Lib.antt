pub mod Widen
mod Offers
mod SettleSteps
mod RunSteps
mod TraceSteps
mod LabelsSeen
mod NearestIsNext
mod StageKept
mod RunEnds
mod TraceIsRoute
pub mod SearchIsRight
pub mod LengthsAndS
mod TreeFollows
mod LeastKeyIsNearest
mod AlongChains
mod StepByStep
