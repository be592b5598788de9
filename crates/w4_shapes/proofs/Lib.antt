-- Lemmas of the shapes.
mod StepLaws
mod CourseLaws
mod BoxTests
mod CellTests
mod OvalLaws
mod OvalRows
