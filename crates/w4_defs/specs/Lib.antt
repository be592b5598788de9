-- The definitions, one file a subject, in the order in which a reader of the standards meets them.

-- WebAssembly: the structure of modules
pub mod Tree
pub mod TreeCode
pub mod Flattening
pub mod InstructionTable
pub mod TableParts
pub mod Module
pub mod View
pub mod Constants
pub mod Lookup
pub mod Limits
-- the binary format
pub mod BinaryText
pub mod BinaryNumber
pub mod BinaryType
pub mod BinaryBasic
pub mod BinaryInstruction
pub mod BinarySection
pub mod BinaryModule
pub mod EncodeNumber
pub mod EncodeType
pub mod EncodeInstruction
pub mod EncodeModule
-- the profile
pub mod ImportNames
pub mod Imports
pub mod Floats
pub mod Profile
-- validation
pub mod ValueTypes
pub mod OperandTypes
pub mod Typing
pub mod Validity
pub mod Cart
pub mod AbstractStack
-- execution
pub mod Integers
pub mod Bytes
pub mod Outcome
pub mod Program
pub mod Control
pub mod Effects
pub mod Evaluation
pub mod Resume
pub mod InstructionSoundness
pub mod TypeSoundness
-- The console: drawing
pub mod Framebuffer
pub mod Colours
pub mod Shapes
pub mod Blit
pub mod Text
pub mod MemoryMap
pub mod Image
-- devices
pub mod Words
pub mod Logs
pub mod Tones
pub mod Disk
pub mod Traces
-- runs
pub mod State
pub mod EntryPoints
pub mod Reset
pub mod Frame
pub mod Run
pub mod FramesRun
pub mod Board
pub mod Meaning
pub mod AllThere
pub mod FrameTexts
pub mod PlaceTexts
pub mod Film
-- files
pub mod Reading
pub mod Recording
pub mod Lines
pub mod OrderWords
pub mod OrderFile
pub mod Script
pub mod NameLists
-- made carts, netplay, memory search, batches, sound
pub mod Generator
pub mod MadeSummary
pub mod MadeLaws
pub mod Rollback
pub mod NetLog
pub mod Search
pub mod RamQuery
pub mod Batch
pub mod Sound
-- editing
pub mod Session
pub mod SameState
pub mod KeptList
pub mod WorkedSessions
-- the program: the commands, their answers, and how a run of it ends
pub mod World
pub mod Commands
pub mod StatusLines
pub mod Answers
pub mod ScriptAnswers
pub mod LogAnswers
pub mod QueryAnswers
pub mod BatchRows
pub mod Output
pub mod ToolOutputs
pub mod Outputs
pub mod OutputsThere
pub mod Endings
pub mod Causes
pub mod OneOutput
pub mod CartRuns
pub mod Completeness
pub mod Promise
pub mod Units
pub mod UnitsLaws
pub mod Comparison
pub mod InputsText
pub mod RecordingOutputs
pub mod Live
-- worked cases and laws
pub mod WorkedNumbers
pub mod EmptyCart
pub mod WorkedRuns
pub mod WorkedBodies
pub mod WorkedCalls
pub mod WorkedDrawings
pub mod RunLaws
pub mod FrameCases
pub mod WorkedAnswers
