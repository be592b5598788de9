-- Arguments and files as the definitions see them, what is read, and runs side by side.
pub mod Differences
pub mod Compare
pub mod Load
pub mod LinesRefusal
pub mod RunOutputs
pub mod Scene
pub mod Stage
pub mod Wave
pub mod Forms
pub mod Serve
pub mod Edit
pub mod Net
pub mod Ram
pub mod Batch
pub mod Commands
