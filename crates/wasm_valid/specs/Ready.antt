-- When the calls of a module are made: the profile lets it through, the module rules hold, and
-- its types can be numbered.
use Rattle.std.specs.Prelude.{◌≡◌, ◌^◌, ◌<◌, length, None}
use Rattle.w4_defs.specs.Module.{WasmModule}
use Rattle.w4_defs.specs.Profile.{profile_refusal}
use Rattle.w4_defs.specs.Validity.{KeepsModuleRules}

pub record IsReady (m : WasmModule) : Type 0 where
  pub profile : profile_refusal m ≡ None
  pub rules : KeepsModuleRules m
  pub few : length m.types < 2 ^ 32
