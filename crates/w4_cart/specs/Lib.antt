-- What the contracts of this crate cite besides the definitions of carts.
pub mod Refusal
