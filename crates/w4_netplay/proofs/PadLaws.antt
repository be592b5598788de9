-- What is known after a packet is learned, and the pads that are predicted from it.
use Rattle.std.proofs.Common.{◌≡◌, ◌≢◌, ℕ, zero, suc, ◌<◌, Bool, true, false, cond, ◌&&◌, eqb, List, [], ◌∷◌}
use Rattle.std.proofs.Common.{length, set, get_or, replicate, Option, Some, None, pos, ◌+◌, add-one, refl}
use Rattle.std.proofs.Common.{sym, ap, ◌∙◌, subst, inl, inr, arith}
use Rattle.std.specs.Option.{option_and_then}
use Rattle.std.specs.Array.{AllZipBelow}
use Rattle.std.specs.List.{AllZip, slice_get}
use Rattle.std.proofs.lemmas.Bool.{cases_eq, eq-eqb, ne_eqb, leb-false}
use Rattle.std.proofs.lemmas.Option.{slice_get-get_or}
use Rattle.w4_defs.specs.declared.netplay.Packet.{Packet}
use Rattle.w4_defs.specs.Rollback.{Known, nothing_known, is_of, is_accepted, learned, net_input}
use Rattle.w4_defs.proofs.RollbackLaws.{accepted_parts}
use Rattle.w4_netplay.specs.Pads.{known_in, pads_before}

-- ---- nothing is known

abbrev pub no_pads : List (Option ℕ)
no_pads = None ∷ None ∷ None ∷ None ∷ []

none_of : (player : ℕ) → option_and_then (λ (pad : Option ℕ). pad) (slice_get no_pads player) ≡ None
none_of zero = refl
none_of (suc zero) = refl
none_of (suc (suc zero)) = refl
none_of (suc (suc (suc zero))) = refl
none_of (suc (suc (suc (suc player)))) = refl

none_in : (frames player frame : ℕ) → known_in (replicate frames no_pads) player frame ≡ None
none_in zero player frame = refl
none_in (suc frames) player zero = none_of player
none_in (suc frames) player (suc frame) = none_in frames player frame

pub nothing_in : (frames : ℕ) → known_in (replicate frames no_pads) ≡ nothing_known
nothing_in frames = λ i player frame. none_in frames player frame i

-- clones of four pads of which nothing is known
clones : (R : Option ℕ → Option ℕ → Type 0) → ((pad : Option ℕ) → R None pad → pad ≡ None)
    → (count : ℕ) (pads : List (Option ℕ)) → AllZip R (replicate count None) pads
    → pads ≡ replicate count None
clones R none zero [] zip = refl
clones R none zero (pad ∷ pads) zip = absurd zip
clones R none (suc count) [] zip = absurd zip
clones R none (suc count) (pad ∷ pads) zip = λ i. none pad zip.0 i ∷ clones R none count pads zip.1 i

pub clones_of_none : {R : Option ℕ → Option ℕ → Type 0} (pads : List (Option ℕ))
    → AllZipBelow R no_pads pads 4 → ((pad : Option ℕ) → R None pad → pad ≡ None) → pads ≡ no_pads
clones_of_none {R} pads same none = clones R none 4 pads same.whole

-- ---- one element is written

get_written : {A : Type 0} (xs : List A) (k : ℕ) (x : A) → k < length xs → slice_get (set xs k x) k ≡ Some x
get_written [] k x lt = absurd (omega (arith, lt))
get_written (y ∷ xs) zero x lt = refl
get_written (y ∷ xs) (suc k) x lt = get_written xs k x (omega (arith, lt))

get_other : {A : Type 0} (xs : List A) (k j : ℕ) (x : A) → j ≢ k → slice_get (set xs k x) j ≡ slice_get xs j
get_other [] k j x other = refl
get_other (y ∷ xs) zero zero x other = absurd (other refl)
get_other (y ∷ xs) zero (suc j) x other = refl
get_other (y ∷ xs) (suc k) zero x other = refl
get_other (y ∷ xs) (suc k) (suc j) x other = get_other xs k j x (λ e. other (ap suc e))

-- ---- a packet is learned

both_false : (b : Bool) → (b && false) ≡ false
both_false true = refl
both_false false = refl

module _ (frames : List (List (Option ℕ))) (packet : Packet) (pads : List (Option ℕ))
    (there : slice_get frames packet.frame ≡ Some pads)
    (frame_in : packet.frame < length frames) (player_in : packet.player < length pads)
    (accepted : is_accepted (known_in frames) packet ≡ true) where
  abbrev written : List (List (Option ℕ))
  written = set frames packet.frame (set pads packet.player (Some packet.pad))

  abbrev pad_of : ℕ → List (Option ℕ) → Option ℕ
  pad_of player row = option_and_then (λ (pad : Option ℕ). pad) (slice_get row player)

  -- what a packet teaches, once it is accepted
  taught : (player frame : ℕ) → learned (known_in frames) packet player frame
      ≡ cond (is_of packet player frame) (Some packet.pad) (known_in frames player frame)
  taught player frame = ap (λ t. cond (t && is_of packet player frame) (Some packet.pad)
      (known_in frames player frame)) accepted

  apart : (player frame : ℕ) → is_of packet player frame ≡ false
      → learned (known_in frames) packet player frame ≡ known_in frames player frame
  apart player frame other = taught player frame
      ∙ ap (λ t. cond t (Some packet.pad) (known_in frames player frame)) other

  other_frame : (player frame : ℕ) → frame ≢ packet.frame
      → known_in written player frame ≡ learned (known_in frames) packet player frame
  other_frame player frame other =
      let no : eqb packet.frame frame ≡ false = ne_eqb packet.frame frame (λ e. other (sym e)) in
      ap (option_and_then (pad_of player)) (get_other frames packet.frame frame _ other)
      ∙ sym (apart player frame (ap (λ t. eqb packet.player player && t) no
      ∙ both_false (eqb packet.player player)))

  in_frame : (player : ℕ) → known_in written player packet.frame
      ≡ pad_of player (set pads packet.player (Some packet.pad))
  in_frame player = ap (option_and_then (pad_of player)) (get_written frames packet.frame _ frame_in)

  own_frame : eqb packet.frame packet.frame ≡ true
  own_frame = eq-eqb packet.frame packet.frame refl

  other_player : (player : ℕ) → player ≢ packet.player
      → known_in written player packet.frame ≡ learned (known_in frames) packet player packet.frame
  other_player player other =
      let no : eqb packet.player player ≡ false = ne_eqb packet.player player (λ e. other (sym e)) in
      in_frame player
      ∙ ap (option_and_then (λ (pad : Option ℕ). pad)) (get_other pads packet.player player _ other)
      ∙ sym (ap (option_and_then (pad_of player)) there)
      ∙ sym (apart player packet.frame (ap (λ t. t && eqb packet.frame packet.frame) no))

  own : known_in written packet.player packet.frame
      ≡ learned (known_in frames) packet packet.player packet.frame
  own =
      let yes : eqb packet.player packet.player ≡ true = eq-eqb packet.player packet.player refl in
      in_frame packet.player
      ∙ ap (option_and_then (λ (pad : Option ℕ). pad)) (get_written pads packet.player _ player_in)
      ∙ sym (taught packet.player packet.frame
      ∙ ap (λ t. cond (t && eqb packet.frame packet.frame) (Some packet.pad)
      (known_in frames packet.player packet.frame)) yes
      ∙ ap (λ t. cond t (Some packet.pad) (known_in frames packet.player packet.frame)) own_frame)

  at_frame : (player : ℕ) → known_in written player packet.frame
      ≡ learned (known_in frames) packet player packet.frame
  at_frame player = elim (cases_eq player packet.player) [
    | inl same ↦ subst (λ p. known_in written p packet.frame
        ≡ learned (known_in frames) packet p packet.frame) (sym same) own
    | inr other ↦ other_player player other
  ]

  at_each : (player frame : ℕ) → known_in written player frame
      ≡ learned (known_in frames) packet player frame
  at_each player frame = elim (cases_eq frame packet.frame) [
    | inl same ↦ subst (λ f. known_in written player f ≡ learned (known_in frames) packet player f)
        (sym same) (at_frame player)
    | inr other ↦ other_frame player frame other
  ]

  pub learns : known_in written ≡ learned (known_in frames) packet
  learns = λ i player frame. at_each player frame i

-- ---- the prediction of a frame

-- the input of predicted pads
pub net_input_of : (known : Known) (frame : ℕ) (pads : List ℕ) → pads ≡ (net_input known frame).pads
    → record { pads = pads; mouse_x = pos 0; mouse_y = pos 0; buttons = 0; reset = false }
    ≡ net_input known frame
net_input_of known frame pads same =
    λ i. record { pads = same i; mouse_x = pos 0; mouse_y = pos 0; buttons = 0; reset = false }

pub pads_after : (known : Known) (frame : ℕ) → pads_before known (frame + 1) ≡ (net_input known frame).pads
pads_after known frame = ap (pads_before known) (add-one frame)

-- ---- a pad is read

same_pad : (pad : Option ℕ) → pad ≡ option_and_then (λ (p : Option ℕ). p) (Some pad)
same_pad pad = refl

pad_or_none : (pads : List (Option ℕ)) (player : ℕ)
    → get_or pads player None ≡ option_and_then (λ (pad : Option ℕ). pad) (slice_get pads player)
pad_or_none [] player = refl
pad_or_none (pad ∷ pads) zero = same_pad pad
pad_or_none (pad ∷ pads) (suc player) = pad_or_none pads player

pub pad_held : (frames : List (List (Option ℕ))) (frame player : ℕ) (pads : List (Option ℕ))
    → frame < length frames → pads ≡ get_or frames frame pads
    → get_or pads player None ≡ known_in frames player frame
pad_held frames frame player pads lt read =
    pad_or_none pads player
    ∙ sym (ap (option_and_then (λ (row : List (Option ℕ)). option_and_then (λ (pad : Option ℕ). pad)
    (slice_get row player))) (slice_get-get_or frames frame pads lt ∙ ap Some (sym read)))

-- ---- an accepted packet is of one of four players and of one of 36,000 frames

pub in_range : (known : Known) (packet : Packet) → is_accepted known packet ≡ true
    → (packet.player < 4) × (packet.frame < 36000)
in_range known packet accepted =
    let parts = accepted_parts known packet accepted in
    (leb-false 4 packet.player parts.0, leb-false 36000 packet.frame parts.1)
