-- Predictions, and packets in whatever order.
use Rattle.std.proofs.Common.{◌≡◌, ◌⊎◌, refl, ℕ, zero, suc, inl, inr, Bool, true, false, cond, ◌&&◌, List, [], ◌∷◌, Option, Some, None, sym, ◌∙◌, ap, arith}
use Rattle.std.specs.Prelude.{◌==◌, All, Contains, fold, unwrap_or, option_and_then, option_map, is_none, nat_le}
use Rattle.std.proofs.lemmas.Bool.{true≢false, cases_lt, cases_Bool, eqb-true, eq-eqb, and_parts, and_from, cond-true, cond-false, cond_both}
use Rattle.std.proofs.lemmas.List.FromFn.{map-range_with_len_more}
use Rattle.std.proofs.lemmas.List.Elements.{All-nil, All-cons, All-contains, Contains-append_right}
use Rattle.w4_defs.specs.declared.net_refusal.NetRefusal.TheVariants.{NoPlayer, FrameRange, Conflict}
use Rattle.w4_defs.specs.declared.netplay.Packet.{Packet}
use Rattle.w4_defs.specs.Limits.{frame_limit}
use Rattle.w4_defs.specs.Rollback.{Known, nothing_known, is_of, conflict, is_accepted, learned, received, predicted, net_input, net_inputs, accepted_from, accepted, packet_of, PredictionIsLatest, NothingPredictsZero, InputsGrow, SamePacketsSameKnown, SamePacketsSameInputs}

-- where a frame isn't known, its prediction is that of the frame before
predicted-unknown : (known : Known) (player frame : ℕ) → known player (suc frame) ≡ None →
    predicted known player (suc frame) ≡ predicted known player frame
predicted-unknown known player frame none = ap (λ byte. unwrap_or byte (predicted known player frame)) none

-- where it is known, it is that byte
predicted-known : (known : Known) (player frame byte : ℕ) → known player frame ≡ Some byte →
    predicted known player frame ≡ byte
predicted-known known player zero byte some = ap (λ found. unwrap_or found 0) some
predicted-known known player (suc frame) byte some =
    ap (λ found. unwrap_or found (predicted known player frame)) some

same_known : (known : Known) (player frame other byte : ℕ) → frame ≡ other →
    known player frame ≡ Some byte → known player other ≡ Some byte
same_known known player frame other byte same some = ap (λ k. known player k) (sym same) ∙ some

pub prediction_is_latest : PredictionIsLatest
prediction_is_latest known player zero latest byte within some none =
    predicted-known known player zero byte
    (same_known known player latest zero byte (omega (arith, within)) some)
prediction_is_latest known player (suc frame) latest byte within some none =
    elim (cases_lt latest (suc frame)) [
      | inl before ↦ predicted-unknown known player frame (none (suc frame) before (omega arith))
          ∙ prediction_is_latest known player frame latest byte (omega (arith, before)) some
          (λ later after up. none later after (omega (arith, up)))
      | inr not_before ↦ predicted-known known player (suc frame) byte
          (same_known known player latest (suc frame) byte (omega (arith, within, not_before)) some)
    ]

pub nothing_predicts_zero : NothingPredictsZero
nothing_predicts_zero known player zero none = ap (λ found. unwrap_or found 0) (none zero (omega arith))
nothing_predicts_zero known player (suc frame) none =
    predicted-unknown known player frame (none (suc frame) (omega arith))
    ∙ nothing_predicts_zero known player frame (λ earlier up. none earlier (omega (arith, up)))

pub inputs_grow : InputsGrow
unfolding net_inputs
inputs_grow known frames = map-range_with_len_more (net_input known) 0 frames frames (omega arith)

-- ---- packets in whatever order

-- a packet that is accepted beside a byte that is known has this byte
no_conflict : (kept pad : ℕ) → is_none (cond (kept == pad) None (Some kept)) ≡ true → kept ≡ pad
no_conflict kept pad none = elim (cases_Bool (kept == pad)) [
  | inl same ↦ eqb-true kept pad same
  | inr other ↦ absurd (true≢false (sym none ∙ ap (λ b. is_none (cond b None (Some kept))) other))
]

-- the first test of a refusal that isn't there fails, and the others refuse nothing
refused_by_none : {A : Type 0} (test : Bool) (why : A) (rest : Option A)
    → is_none (cond test (Some why) rest) ≡ true → (test ≡ false) × (is_none rest ≡ true)
refused_by_none true why rest none = absurd (true≢false (sym none))
refused_by_none false why rest none = (refl, none)

none_mapped : {A B : Type 0} (f : A → B) (found : Option A) → is_none (option_map f found) ≡ true
    → is_none found ≡ true
none_mapped f None none = refl
none_mapped f (Some x) none = none

-- an accepted packet is of one of the players and frames, and no other byte is known
pub accepted_parts : (known : Known) (packet : Packet) → is_accepted known packet ≡ true
    → (nat_le 4 packet.player ≡ false) × (nat_le frame_limit packet.frame ≡ false)
    × (is_none (conflict known packet) ≡ true)
accepted_parts known packet accepted =
    let of_player = refused_by_none (nat_le 4 packet.player) NoPlayer _ accepted in
    let of_frame = refused_by_none (nat_le frame_limit packet.frame) FrameRange _ of_player.1 in (
      of_player.0,
      of_frame.0,
      none_mapped (λ kept. Conflict kept packet.pad) (conflict known packet) of_frame.1,
    )

accepted-has_none : (known : Known) (packet : Packet) → is_accepted known packet ≡ true →
    is_none (conflict known packet) ≡ true
accepted-has_none known packet accepted = (accepted_parts known packet accepted).2

-- whether a packet is accepted and speaks of this frame
takes : Known → Packet → ℕ → ℕ → Bool
takes known packet player frame = is_accepted known packet && is_of packet player frame

learned-taken : (known : Known) (packet : Packet) (player frame : ℕ) →
    takes known packet player frame ≡ true →
    learned known packet player frame ≡ Some packet.pad
unfolding takes
learned-taken known packet player frame taken = cond-true (takes known packet player frame) _ _ taken

learned-other : (known : Known) (packet : Packet) (player frame : ℕ) →
    takes known packet player frame ≡ false →
    learned known packet player frame ≡ known player frame
unfolding takes
learned-other known packet player frame left = cond-false (takes known packet player frame) _ _ left

taken-player : (known : Known) (packet : Packet) (player frame : ℕ) → takes known packet player frame ≡ true →
    (is_accepted known packet ≡ true) × (packet.player ≡ player) × (packet.frame ≡ frame)
unfolding takes
taken-player known packet player frame taken =
    let parts = and_parts (is_accepted known packet) (is_of packet player frame) taken in
    let of = and_parts (packet.player == player) (packet.frame == frame) parts.1 in
    (parts.0, eqb-true packet.player player of.0, eqb-true packet.frame frame of.1)

taken-own : (known : Known) (packet : Packet) → is_accepted known packet ≡ true →
    takes known packet packet.player packet.frame ≡ true
unfolding takes
taken-own known packet taken =
    and_from (is_accepted known packet) _ taken
    (and_from (packet.player == packet.player) _
    (eq-eqb packet.player packet.player refl)
    (eq-eqb packet.frame packet.frame refl))

-- what is known stays known
learned-stays : (known : Known) (packet : Packet) (player frame byte : ℕ) → known player frame ≡ Some byte →
    learned known packet player frame ≡ Some byte
learned-stays known packet player frame byte some = elim (cases_Bool (takes known packet player frame)) [
  | inl taken ↦
      let is = taken-player known packet player frame taken in
      let here : known packet.player packet.frame ≡ Some byte =
      ap (λ p. known p packet.frame) is.1 ∙ (ap (λ f. known player f) is.2 ∙ some) in
      let free : is_none (cond (byte == packet.pad) None (Some byte)) ≡ true =
      sym
      (ap (λ found. is_none (option_and_then (λ k. cond (k == packet.pad) None (Some k)) found)) here)
      ∙ accepted-has_none known packet is.0 in
      learned-taken known packet player frame taken ∙ ap Some (sym (no_conflict byte packet.pad free))
  | inr left ↦ learned-other known packet player frame left ∙ some
]

all-stays : (known : Known) (packets : List Packet) (player frame byte : ℕ) → known player frame ≡ Some byte →
    fold learned known packets player frame ≡ Some byte
all-stays known [] player frame byte some = some
all-stays known (packet ∷ packets) player frame byte some =
    all-stays (learned known packet) packets player frame byte
    (learned-stays known packet player frame byte some)

-- each accepted packet is known afterwards
accepted-is_known : (known : Known) (packets : List Packet) →
    All (λ packet. fold learned known packets packet.player packet.frame ≡ Some packet.pad)
    (accepted_from known packets)
accepted-is_known known [] = All-nil _
accepted-is_known known (packet ∷ packets) =
    let others = accepted_from (learned known packet) packets in
    let P : Packet → Type 0 =
    λ p. fold learned (learned known packet) packets p.player p.frame ≡ Some p.pad in
    let rest : All P others = accepted-is_known (learned known packet) packets in
    cond_both (is_accepted known packet) (packet ∷ others) others (λ list. All P list)
    (λ taken. All-cons P packet others
    (all-stays (learned known packet) packets packet.player packet.frame packet.pad
    (learned-taken known packet packet.player packet.frame (taken-own known packet taken)))
    rest)
    (λ refused. rest)

-- and what is known afterwards was known before, or an accepted packet said it
some_same : (a b : ℕ) → Some a ≡ Some b → a ≡ b
some_same a b same = ap (λ found. unwrap_or found 0) same

packet_same : (packet : Packet) (player frame pad : ℕ) → packet.player ≡ player → packet.frame ≡ frame →
    packet.pad ≡ pad →
    packet ≡ packet_of player frame pad
packet_same packet player frame pad p f b = λ i. record { player = p i; frame = f i; pad = b i }

first-contained : (packet other : Packet) (packets : List Packet) → packet ≡ other →
    Contains (packet ∷ packets) other
first-contained packet other packets same = (0, omega arith, same)

known-from : (known : Known) (packets : List Packet) (player frame byte : ℕ) →
    fold learned known packets player frame ≡ Some byte →
    (known player frame ≡ Some byte) ⊎ Contains (accepted_from known packets) (packet_of player frame byte)
known-from known [] player frame byte some = inl some
known-from known (packet ∷ packets) player frame byte some =
    let others = accepted_from (learned known packet) packets in
    let wanted = packet_of player frame byte in
    elim (known-from (learned known packet) packets player frame byte some) [
      | inl now ↦ elim (cases_Bool (takes known packet player frame)) [
        | inl taken ↦
            let is = taken-player known packet player frame taken in
            let pad = some_same packet.pad byte (sym (learned-taken known packet player frame taken) ∙ now) in
            inr (cond_both (is_accepted known packet) (packet ∷ others) others (λ list. Contains list wanted)
            (λ ok. first-contained packet wanted others (packet_same packet player frame byte is.1 is.2 pad))
            (λ not_ok. absurd (true≢false (sym is.0 ∙ not_ok))))
        | inr left ↦ inl (sym (learned-other known packet player frame left) ∙ now)
      ]
      | inr later ↦ inr
          (cond_both (is_accepted known packet) (packet ∷ others) others (λ list. Contains list wanted)
          (λ ok. Contains-append_right (packet ∷ []) others wanted later)
          (λ not_ok. later))
    ]

same_option : (x y : Option ℕ) → ((b : ℕ) → x ≡ Some b → y ≡ Some b) → ((b : ℕ) → y ≡ Some b → x ≡ Some b) →
    x ≡ y
same_option None None f g = refl
same_option None (Some b) f g = g b refl
same_option (Some a) y f g = sym (f a refl)

-- what the one has received the other has
received-by_other : (first second : List Packet) →
    ((packet : Packet) → Contains (accepted first) packet → Contains (accepted second) packet) →
    (player frame byte : ℕ) → received first player frame ≡ Some byte →
    received second player frame ≡ Some byte
received-by_other first second over player frame byte some =
    elim (known-from nothing_known first player frame byte some) [
      | inl before ↦ absurd (true≢false (ap is_none before))
      | inr said ↦ All-contains (λ p. received second p.player p.frame ≡ Some p.pad) (accepted second)
          (packet_of player frame byte)
          (accepted-is_known nothing_known second) (over (packet_of player frame byte) said)
    ]

pub same_packets_same_known : SamePacketsSameKnown
same_packets_same_known first second same =
    λ i player frame. same_option (received first player frame) (received second player frame)
    (received-by_other first second (λ packet. (same packet).0) player frame)
    (received-by_other second first (λ packet. (same packet).1) player frame) i

pub same_packets_same_inputs : SamePacketsSameInputs
same_packets_same_inputs first second frames same =
    ap (λ known. net_inputs known frames) (same_packets_same_known first second same)
