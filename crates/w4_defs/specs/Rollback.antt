-- Rollback (project rule; the words are those of GGPO): the pads of four players come as packets, late,
-- again, in any order or never, and what isn't there yet is predicted.
use Rattle.std.specs.Prelude.{◌≡◌, ◌↔◌, ◌<◌, ◌≤◌, ℕ, zero, suc, ◌+◌, ◌==◌, nat_le, ◌&&◌, Bool, is_none, if◌then◌else◌, List, [], ◌∷◌, ◌++◌, map, fold, Contains, Option, Some, None, unwrap_or, option_map, option_and_then, pos, false, true, refl}
use Rattle.std.specs.List.{range_with_len}
use Rattle.w4_defs.specs.declared.console.Input.{Input}
use Rattle.w4_defs.specs.declared.net_refusal.NetRefusal.{NetRefusal}
use Rattle.w4_defs.specs.declared.net_refusal.NetRefusal.TheVariants.{NoPlayer, FrameRange, Conflict}
use Rattle.w4_defs.specs.declared.netplay.Packet.{Packet}
use Rattle.w4_defs.specs.Limits.{frame_limit}

-- what is known of a player's pad in a frame
abbrev pub Known : Type 0
Known = ℕ → ℕ → Option ℕ

abbrev pub nothing_known : Known
nothing_known player frame = None

abbrev pub is_of : Packet → ℕ → ℕ → Bool
is_of packet player frame = packet.player == player && packet.frame == frame

-- the byte that is known where a packet's differs from it
abbrev pub conflict : Known → Packet → Option ℕ
conflict known packet =
    option_and_then (λ kept. if kept == packet.pad then None else Some kept)
    (known packet.player packet.frame)

-- why a packet is refused: for its player, its frame or another byte that is known, in this order
abbrev pub packet_refusal : Known → Packet → Option NetRefusal
packet_refusal known packet =
    if nat_le 4 packet.player then Some NoPlayer else
    if nat_le frame_limit packet.frame then Some FrameRange else
    option_map (λ kept. Conflict kept packet.pad) (conflict known packet)

-- a packet is accepted where nothing refuses it
abbrev pub is_accepted : Known → Packet → Bool
is_accepted known packet = is_none (packet_refusal known packet)

-- an accepted packet is known from then on; any other changes nothing
abbrev pub learned : Known → Packet → Known
learned known packet player frame =
    if is_accepted known packet && is_of packet player frame then Some packet.pad else known player frame

-- what is known after these packets, in this order
abbrev pub received : List Packet → Known
received packets = fold learned nothing_known packets

-- the byte at a frame: the one that is known, else what was predicted for the frame before it, and 0 before
-- the first
abbrev pub predicted : Known → ℕ → ℕ → ℕ
predicted known player zero = unwrap_or (known player zero) 0
predicted known player (suc frame) = unwrap_or (known player (suc frame)) (predicted known player frame)

-- the input of a frame: the four predicted bytes, and nothing else
abbrev pub net_input : Known → ℕ → Input
net_input known frame = record {
  pads = map (λ player. predicted known player frame) (0 ∷ 1 ∷ 2 ∷ 3 ∷ []);
  mouse_x = pos 0;
  mouse_y = pos 0;
  buttons = 0;
  reset = false;
}

-- the inputs of the first so many frames
unfoldable pub net_inputs : Known → ℕ → List Input
net_inputs known frames = map (net_input known) (range_with_len 0 frames)

-- what was predicted is the latest byte that is known up to that frame, and 0 where none is
abbrev pub PredictionIsLatest : Type 0
PredictionIsLatest = (known : Known) (player frame latest byte : ℕ) →
    latest ≤ frame → known player latest ≡ Some byte →
    ((later : ℕ) → latest < later → later ≤ frame → known player later ≡ None) →
    predicted known player frame ≡ byte

abbrev pub NothingPredictsZero : Type 0
NothingPredictsZero = (known : Known) (player frame : ℕ) →
    ((earlier : ℕ) → earlier ≤ frame → known player earlier ≡ None) → predicted known player frame ≡ 0

-- one more frame adds its input at the end
abbrev pub InputsGrow : Type 0
InputsGrow = (known : Known) (frames : ℕ) →
    net_inputs known (frames + 1) ≡ net_inputs known frames ++ net_input known frames ∷ []

-- the packets that are accepted, in this order, from what is known
abbrev pub accepted_from : Known → List Packet → List Packet
accepted_from known [] = []
accepted_from known (packet ∷ packets) =
    let others = accepted_from (learned known packet) packets in
    if is_accepted known packet then packet ∷ others else others

abbrev pub accepted : List Packet → List Packet
accepted packets = accepted_from nothing_known packets

-- the same accepted packets, in whatever order and however often, leave the same known: so predictions and
-- inputs are the same too
abbrev pub SamePacketsSameKnown : Type 0
SamePacketsSameKnown = (first second : List Packet) →
    ((packet : Packet) → Contains (accepted first) packet ↔ Contains (accepted second) packet) →
    received first ≡ received second

abbrev pub SamePacketsSameInputs : Type 0
SamePacketsSameInputs = (first second : List Packet) (frames : ℕ) →
    ((packet : Packet) → Contains (accepted first) packet ↔ Contains (accepted second) packet) →
    net_inputs (received first) frames ≡ net_inputs (received second) frames

-- Worked case: a packet of frame 1 comes twice, and that of frame 0 late; one of another byte for frame 0 and
-- one of a fifth player are refused.
abbrev pub packet_of : ℕ → ℕ → ℕ → Packet
packet_of player frame pad = record { player = player; frame = frame; pad = pad }

abbrev pub pads_of : List Packet → List (List ℕ)
pads_of packets = map (λ input. input.pads) (net_inputs (received packets) 3)

abbrev pub RollbackCases : Type 0
RollbackCases =
    let early = packet_of 0 0 27 in
    let late = packet_of 0 1 228 in
    let other = packet_of 0 0 26 in
    (pads_of (early ∷ []) ≡ (27 ∷ 0 ∷ 0 ∷ 0 ∷ []) ∷ (27 ∷ 0 ∷ 0 ∷ 0 ∷ []) ∷ (27 ∷ 0 ∷ 0 ∷ 0 ∷ []) ∷ [])
    × (pads_of (late ∷ late ∷ early ∷ other ∷ packet_of 4 0 1 ∷ [])
    ≡ (27 ∷ 0 ∷ 0 ∷ 0 ∷ []) ∷ (228 ∷ 0 ∷ 0 ∷ 0 ∷ []) ∷ (228 ∷ 0 ∷ 0 ∷ 0 ∷ []) ∷ [])
    × (conflict (received (early ∷ [])) other ≡ Some 27)
    × (is_accepted nothing_known (packet_of 4 0 1) ≡ false)
    × (is_accepted nothing_known (packet_of 3 36000 1) ≡ false)
    × (is_accepted (received (early ∷ [])) early ≡ true)

pub rollback-cases : RollbackCases
unfolding net_inputs
rollback-cases = (refl, refl, refl, refl, refl, refl)
