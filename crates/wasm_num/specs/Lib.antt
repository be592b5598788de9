-- The operations are defined in w4_defs, in `specs/Integers.antt`. Here stands what is shown of them.
pub mod Traps
