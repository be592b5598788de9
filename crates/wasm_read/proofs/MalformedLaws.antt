-- Bytes from which no module is read are refused as malformed.
use Rattle.std.proofs.Common.{◌≡◌, ℕ, ◌≤◌, List, length, None, refl, arith}
use Rattle.w4_defs.specs.declared.refusal.CartKind.TheVariants.{Malformed}
use Rattle.w4_defs.specs.Cart.{IsRefused}
use Rattle.wasm_read.specs.Combine.{sized_bytes_at, vector_at}
use Rattle.wasm_read.specs.ReadNumber.{unsigned_at}
use Rattle.wasm_read.specs.ReadSection.{section_at, rank_after}
use Rattle.wasm_read.specs.ReadModule.{module_at, sections_at, module_from, front_sections}
use Rattle.wasm_read.specs.MalformedCases.{MalformedCases, size_too_long, last_byte_wrong}
use Rattle.wasm_read.specs.MalformedCases.{section_past_the_end}
use Rattle.wasm_read.proofs.ModuleLaws.{module_complete, no_module_is_read}

unread : (bytes : List ℕ) → length bytes ≤ 65536 → module_at bytes ≡ None → IsRefused bytes Malformed
unread bytes small none =
    (small, λ m spelled. no_module_is_read bytes m none (module_complete bytes m spelled))

pub malformed_cases : MalformedCases
unfolding module_at sections_at section_at sized_bytes_at unsigned_at rank_after module_from front_sections
    vector_at
malformed_cases = (
  unread size_too_long (omega arith) refl,
  unread last_byte_wrong (omega arith) refl,
  unread section_past_the_end (omega arith) refl,
)
