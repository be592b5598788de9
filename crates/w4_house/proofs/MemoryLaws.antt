-- A call whose number isn't in the list isn't to fail.
use Rattle.std.proofs.Common.{◌≡◌, Bool, false, IsTrue}

pub unlisted : (answer listed : Bool) → answer ≡ listed → answer ≡ false → IsTrue listed → ⊥
unlisted answer listed same is_false holds = cc
