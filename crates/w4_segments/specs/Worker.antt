-- Workers, and what each of them did.
use Rattle.std.specs.Prelude.{◌≡◌, ℕ, ◌<◌, List, length, slice_index_or}
use Rattle.w4_defs.specs.Module.{WasmModule}
use Rattle.w4_defs.specs.State.{HasGlobals}
use Rattle.w4_segments.specs.declared.worker.Worker.{Worker}

-- the console's globals have the cart's types
abbrev pub HasCartTypes : WasmModule → Worker → Type 0
HasCartTypes cart worker = HasGlobals cart worker.console

-- each worker did this
pub record EachDid (Did : Worker → Worker → Type 0) (old new : List Worker) : Type 0 where
  pub many : length new ≡ length old
  pub each : (i : ℕ) (d : Worker) → i < length old → Did (slice_index_or old i d) (slice_index_or new i d)
