-- Lemmas of the writer.
pub mod NumberLaws
pub mod ViewLaws
pub mod OpenLaws
pub mod CombineLaws
pub mod OperationLaws
pub mod InstructionLaws
pub mod ItemLaws
pub mod SectionLaws
pub mod ModuleLaws
pub mod ShapeLaws
pub mod ShortestLaws
pub mod PartLaws
pub mod SequenceLaws
pub mod DrawLaws
pub mod MadeFits
pub mod PartsOfModules
