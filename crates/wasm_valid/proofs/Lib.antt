-- Lemmas of the validator.
mod OperandTypeLaws
mod IntLaws
mod TakenLaws
mod StepLaws
mod AbstractStackLaws
mod BodyLaws
mod PassLaws
mod TypedValues
mod TypedLists
mod TypedCalls
mod TypedInstructions
mod TypedSteps
mod TypedImports
mod TypedModules
mod CalledLaws
pub mod NeverStuck
mod NoneLaws
pub mod ProfileFacts
mod CartLaws
mod ConstantLaws
mod CountLaws
mod DecideLaws
mod ApartLaws
mod ListMaps
mod GlobalLaws
mod TableLaws
mod TypeLaws
mod InstructionLaws
mod CallLaws
pub mod ControlStackLaws
pub mod OperandLaws
pub mod ProfileLaws
pub mod BlockLaws
pub mod PassSteps
pub mod BodyMarkLaws
