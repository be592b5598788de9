-- Lemmas of the state.
mod StateLaws
