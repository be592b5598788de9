-- The lines of a log (project rule), in which a session of rollback is written down. P is a place, a number:
--   pad PLAYER FRAME BYTE      PLAYER and BYTE 0 to 255, FRAME a number
--   next
--   keep P, show P, state P
-- Anything else makes a line bad.
use Rattle.std.specs.Prelude.{◌≡◌, ℕ, List, [], ◌∷◌, ◌++◌, codes, Option, Some, None, Result, Ok, Err, refl}
use Rattle.w4_defs.specs.declared.netplay.NetOrder.{NetOrder}
use Rattle.w4_defs.specs.declared.netplay.NetOrder.TheVariants.{Pad, Next, Keep, Show, StateAt}
use Rattle.w4_defs.specs.Reading.{◌>>=◌}
use Rattle.w4_defs.specs.Lines.{lines_from, decimal_value, number_of, decimal_byte}
use Rattle.w4_defs.specs.OrderWords.{no_word, one_number}
use Rattle.w4_defs.specs.OrderFile.{OrderRow, order_by, orders_in, file_of}
use Rattle.w4_defs.specs.declared.status.ScriptKind.{ScriptKind}
use Rattle.w4_defs.specs.declared.status.ScriptKind.TheVariants.{BadLine}

-- a packet of three words
abbrev pub packet_words : List (List ℕ) → Option NetOrder
packet_words (who ∷ when ∷ pressed ∷ []) = do
  player ← decimal_byte who
  frame ← number_of when
  pad ← decimal_byte pressed
  Some (Pad (record { player = player; frame = frame; pad = pad }))
packet_words words = None

-- what each name says of the words after it
unfoldable pub log_rows : List (OrderRow NetOrder)
log_rows =
    record { name = codes "pad"; order_from = packet_words }
    ∷ record { name = codes "next"; order_from = no_word Next }
    ∷ record { name = codes "keep"; order_from = one_number Keep }
    ∷ record { name = codes "show"; order_from = one_number Show }
    ∷ record { name = codes "state"; order_from = one_number StateAt }
    ∷ []

-- the order of a line's words
abbrev pub net_order_of : List (List ℕ) → Option NetOrder
net_order_of words = order_by log_rows words

-- the orders of a log
unfoldable pub net_log_of : List ℕ → Result (List NetOrder) ScriptKind
net_log_of bytes = file_of net_order_of bytes

-- Worked cases: each kind of line, ways to be bad, and a log whose third line is bad
abbrev pub NetOrderCases : Type 0
NetOrderCases =
    (net_order_of (codes "pad" ∷ codes "4" ∷ codes "36000" ∷ codes "255" ∷ [])
    ≡ Some (Pad (record { player = 4; frame = 36000; pad = 255 })))
    × (net_order_of (codes "next" ∷ []) ≡ Some Next)
    × (net_order_of (codes "keep" ∷ codes "7" ∷ []) ≡ Some (Keep 7))
    × (net_order_of (codes "show" ∷ codes "02" ∷ []) ≡ Some (Show 2))
    × (net_order_of (codes "state" ∷ codes "0" ∷ []) ≡ Some (StateAt 0))
    × (net_log_of (codes "next" ++ 10 ∷ codes "# next" ++ 10 ∷ codes "show 2") ≡ Ok (Next ∷ Show 2 ∷ []))

abbrev pub BadNetOrderCases : Type 0
BadNetOrderCases =
    (net_order_of (codes "pad" ∷ codes "256" ∷ codes "0" ∷ codes "0" ∷ []) ≡ None)
    × (net_order_of (codes "pad" ∷ codes "0" ∷ codes "0" ∷ codes "256" ∷ []) ≡ None)
    × (net_order_of (codes "pad" ∷ codes "0" ∷ codes "0" ∷ []) ≡ None)
    × (net_order_of (codes "pad" ∷ codes "0" ∷ codes "0" ∷ codes "0" ∷ codes "0" ∷ []) ≡ None)
    × (net_order_of (codes "pad" ∷ codes "0" ∷ codes "-1" ∷ codes "0" ∷ []) ≡ None)
    × (net_order_of (codes "next" ∷ codes "1" ∷ []) ≡ None)
    × (net_order_of (codes "keep" ∷ []) ≡ None)
    × (net_order_of (codes "drop" ∷ codes "0" ∷ []) ≡ None)
    × (net_log_of (codes "next" ++ 10 ∷ codes "# next" ++ 10 ∷ codes "pad" ++ 10 ∷ codes "x" ++ 10 ∷ [])
    ≡ Err (BadLine 3))

pub net-order-cases : NetOrderCases
unfolding net_log_of orders_in lines_from log_rows decimal_value number_of decimal_byte
net-order-cases = (refl, refl, refl, refl, refl, refl)

pub bad-net-order-cases : BadNetOrderCases
unfolding net_log_of orders_in lines_from log_rows decimal_value number_of decimal_byte
bad-net-order-cases = (refl, refl, refl, refl, refl, refl, refl, refl, refl)
